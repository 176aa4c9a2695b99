-- The slots of a table, and the words that they are read from.
use Rattle.std.proofs.Common.{◌≡◌, ℕ, zero, suc, ◌+◌, ◌*◌, ◌<◌, List, ap, ◌∙◌, arith}
use Rattle.byte_lists.specs.Bytes.{word_at}
use Rattle.cdb.specs.Tables.{Slot, slot}
use Rattle.cdb.specs.Files.{slots_at}

-- the slot that two words make
abbrev pub seen : List ℕ → ℕ → Slot
seen f p = record { hash = word_at f p; place = word_at f (p + 4) }

pub slot_at : (f : List ℕ) (p n i : ℕ) → i < n → slot (slots_at f p n) i ≡ seen f (p + 8 * i)
slot_at f p zero i l = absurd (omega arith)
slot_at f p (suc n) zero l = let z : p ≡ p + 8 * 0 = omega arith in ap (seen f) z
slot_at f p (suc n) (suc i) l =
    let z : p + 8 + 8 * i ≡ p + 8 * suc i = omega arith in
    slot_at f (p + 8) n i (omega arith) ∙ ap (seen f) z
