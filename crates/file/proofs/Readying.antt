-- A readable file, sector by sector and byte by byte.
use Rattle.std.proofs.Common.{◌≡◌, ℕ, ◌+◌, ◌-◌, ◌*◌, ◌/◌, ◌<◌, ◌≤◌, List, ◌++◌, length, take, drop, Some, None, Ok, Err, Option, Result, sym, ap, ◌∙◌, subst, ⊎_elim, arith}
use Rattle.std.proofs.lemmas.List.{length-take-le, length-drop, length-append}
use Rattle.std.proofs.lemmas.Bool.{cases_eq}
use Rattle.byte_lists.specs.Bytes.{part}
use Rattle.byte_lists.proofs.Parts.{part_in}
use Rattle.faults.specs.declared.device.DeviceFault.{DeviceFault}
use Rattle.device.specs.Meanings.{Meaning, Whole, refuses}
use Rattle.file.specs.declared.extents.Extent.{Extent}
use Rattle.file.specs.Ranges.{Reads, FirstBad, FirstSector, Fetched}
use Rattle.file.specs.Extents.{file, Readable}
use Rattle.file.proofs.Turns.{holds_all}

pub some_none : (o : Option DeviceFault) (f : DeviceFault) → o ≡ None → o ≡ Some f → ⊥
some_none o f a b = let z : ◌≡◌ {A = ℕ} 0 1 = cc in omega arith

-- the first sector that a range touches and that cannot be read: so its first byte there
pub sectors_bad : (m : Meaning) (p n : ℕ) (f : DeviceFault) → 0 < n → FirstSector m (p / 512) ((p + n - 1) / 512 + 1) f → FirstBad m p n f
sectors_bad m p n f some h =
    let s = h.0 in
    ⊎_elim
    (λ (e : s ≡ p / 512).
    let z : (p + 0) / 512 ≡ s = omega arith in
    record { k = 0; within = some; before = λ j l. absurd (omega arith); refused = ap (refuses m) z ∙ h.4 })
    (λ ne.
    let a : p / 512 ≤ s = h.1 in
    let b : s < (p + n - 1) / 512 + 1 = h.2 in
    let z : (p + (512 * s - p)) / 512 ≡ s = omega (arith, ne) in
    record { k = 512 * s - p; within = omega arith; before = λ j l. h.3 ((p + j) / 512) (omega arith) (omega arith); refused = ap (refuses m) z ∙ h.4 })
    (cases_eq s (p / 512))

-- a part of a readable file is read
pub part_read : (m : Meaning) (e : Extent) (p : ℕ) (old new : List ℕ) (r : Result (Unit {0}) DeviceFault) → Whole m → Readable m e → p + length old ≤ e.len
    → Fetched m (e.start + p) old r new → new ≡ part (file m e) p (length old)
part_read m e p old new (Ok u) w h l g =
    holds_all m (e.start + p) old new (omega (arith, w.long, h.on)) g.1 ∙ sym (part_in m.bytes e.start e.len p (length old) l)
part_read m e p old new (Err f) w h l g =
    let b = g.0 in
    let z : e.start + (p + b.k) ≡ e.start + p + b.k = omega arith in
    absurd (some_none (refuses m ((e.start + p + b.k) / 512)) f (subst (Reads m) z (h.bytes (p + b.k) (omega (arith, b.within)))) b.refused)

-- a buffer keeps its length when a front of it is filled
pub buffer_long : (n k : ℕ) (new xs : List ℕ) → length xs ≡ n → k ≤ n → length new ≡ length (take k xs) → length (new ++ drop k xs) ≡ n
buffer_long n k new xs l h e = simp (length-append, length-drop) (omega (arith, length-take-le k xs (omega arith)))
