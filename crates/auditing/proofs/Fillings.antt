-- Counting filled_in slots.
use Rattle.std.proofs.Common.{◌≡◌, ℕ, ◌+◌, ◌*◌, ◌<◌, ◌≤◌, Bool, ltb, List, length, get_or, take, count_by, sym, ap, ◌∙◌, subst, arith}
use Rattle.std.proofs.lemmas.List.Sums.{count_by_more_yes, count_by_more_no}
use Rattle.std.proofs.lemmas.List.{take_all}
use Rattle.std.proofs.lemmas.Bool.{lt-ltb, le-ltb}
use Rattle.cdb.specs.Tables.{Slot, blank}
use Rattle.cdb.specs.Files.{slots_at}
use Rattle.cdb.proofs.Placement.{length_slots_at}
use Rattle.file.specs.Extents.{WordsAt}
use Rattle.auditing.specs.Tables.{filled_in}
use Rattle.cdb.proofs.Slots.{slot_at}
use Rattle.file.specs.declared.words.Words.{Words}

abbrev full : Slot → Bool
full s = ltb 0 s.place

module _ (f : List ℕ) (pos len i n : ℕ) (r : Words) (l : i < len) (pair : WordsAt f (pos + 8 * i) r) (e : n ≡ count_by full (take i (slots_at f pos len))) where
  in_slots : i < length (slots_at f pos len)
  in_slots = subst (λ (k : ℕ). i < k) (sym (length_slots_at f pos len)) l

  here : (get_or (slots_at f pos len) i blank).place ≡ r.second
  here = ap (λ (s : Slot). s.place) (slot_at f pos len i l) ∙ sym pair.1

  pub filled_more : 0 < r.second → n + 1 ≡ count_by full (take (i + 1) (slots_at f pos len))
  filled_more h =
      ap (λ (k : ℕ). k + 1) e
      ∙ sym (count_by_more_yes full (slots_at f pos len) i blank in_slots (ap (ltb 0) here ∙ lt-ltb 0 r.second h))

  pub empty_more : r.second ≤ 0 → n ≡ count_by full (take (i + 1) (slots_at f pos len))
  empty_more h = e ∙ sym (count_by_more_no full (slots_at f pos len) i blank in_slots (ap (ltb 0) here ∙ le-ltb 0 r.second h))

pub filled_all : (f : List ℕ) (pos len i n : ℕ) → len ≤ i → n ≡ count_by full (take i (slots_at f pos len)) → n ≡ filled_in f pos len
filled_all f pos len i n l e = e ∙ ap (count_by full) (take_all i (slots_at f pos len) (omega (arith, length_slots_at f pos len)))
