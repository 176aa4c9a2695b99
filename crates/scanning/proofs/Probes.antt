-- Probing a table.
use Rattle.std.proofs.Common.{◌≡◌, ℕ, ◌+◌, ◌/◌, ◌%◌, ◌<◌, ◌≤◌, ◌⊎◌, List, sym, ap, ◌∙◌, subst, ⊎_elim, mod-lt, arith}
use Rattle.std.proofs.lemmas.Bool.{cases_lt}
use Rattle.cdb.specs.Records.{Item, hash_of}
use Rattle.cdb.specs.Tables.{Slot, slot, spot, Distance}
use Rattle.byte_lists.specs.Bytes.{word_at}
use Rattle.cdb.specs.Files.{slots_at}
use Rattle.cdb.proofs.Placement.{length_slots_at}
use Rattle.cdb.proofs.Slots.{seen, slot_at}
use Rattle.file.specs.declared.words.Words.{Words}
use Rattle.cdb.specs.Tables.{slot_away}
use Rattle.file.specs.Extents.{WordsAt}
use Rattle.scanning.specs.Searches.{HoldsBoth, Found, Missing, slot_place}

-- a slot that is passed
pub passed_here : (f : List ℕ) (p q hash place : ℕ) (r : Words) → WordsAt f p r → p ≡ q → (r.second ≡ 0 → ⊥)
    → ((r.first ≡ hash) × (r.second ≡ place → ⊥)) ⊎ (r.first ≡ hash → ⊥) → (0 < word_at f (q + 4)) × (HoldsBoth f q hash place → ⊥)
passed_here f p q hash place r pair e full other =
    let z : word_at f (p + 4) ≡ word_at f (q + 4) = ap (λ (i : ℕ). word_at f (i + 4)) e in
    let y : word_at f p ≡ word_at f q = ap (word_at f) e in
    let n : word_at f (q + 4) ≡ 0 → ⊥ = λ h. full (pair.1 ∙ z ∙ h) in
    (omega (arith, n), λ h. ⊎_elim (λ (a : (r.first ≡ hash) × (r.second ≡ place → ⊥)). a.1 (pair.1 ∙ z ∙ h.1)) (λ (b : r.first ≡ hash → ⊥). b (pair.0 ∙ y ∙ h.0)) other)

module _ (f : List ℕ) (pos len : ℕ) (x : Item) where
  pub slot_placed : 0 < len → (j : ℕ) → slot (slots_at f pos len) (spot (slots_at f pos len) x j) ≡ seen f (slot_place pos len (hash_of x.key) j)
  slot_placed h j =
      ap (λ (n : ℕ). slot (slots_at f pos len) (slot_away n (hash_of x.key) j)) (length_slots_at f pos len)
      ∙ slot_at f pos len (slot_away len (hash_of x.key) j) (mod-lt (hash_of x.key / 256 % len + j) h)

  pub found_distance : (j : ℕ) → Found f pos len (hash_of x.key) x.place j → Distance (slots_at f pos len) x j
  found_distance j h =
      let some : 0 < len = omega (arith, h.within) in
      record {
        within = subst (λ (n : ℕ). j < n) (sym (length_slots_at f pos len)) h.within;
        holds = slot_placed some j ∙ rw (h.holds.0, h.holds.1);
        passed = λ i l. subst (λ (s : Slot). 0 < s.place) (sym (slot_placed some i)) (h.passed i l).0;
        first = λ i l e. let q = sym (slot_placed some i) ∙ e in (h.passed i l).1 (ap (λ (s : Slot). s.hash) q, ap (λ (s : Slot). s.place) q);
      }

  pub missing_distance : 0 < x.place → Missing f pos len (hash_of x.key) x.place → (j : ℕ) → Distance (slots_at f pos len) x j → ⊥
  missing_distance pl h j d =
      let l : j < len = subst (λ (n : ℕ). j < n) (length_slots_at f pos len) d.within in
      let some : 0 < len = omega arith in
      let q = sym (slot_placed some j) ∙ d.holds in
      let e = h.end in
      ⊎_elim
      (λ (a : j < e). (h.passed j a).1 (ap (λ (s : Slot). s.hash) q, ap (λ (s : Slot). s.place) q))
      (λ (a : e ≤ j).
      ⊎_elim
      (λ (b : e ≡ len). absurd (omega arith))
      (λ (b : (e < len) × (word_at f (slot_place pos len (hash_of x.key) e + 4) ≡ 0)).
      ⊎_elim
      (λ (u : e < j). let v = subst (λ (s : Slot). 0 < s.place) (slot_placed some e) (d.passed e u) in absurd (omega (arith, b.1)))
      (λ (u : j ≤ e).
      let z : j ≡ e = omega arith in
      let w : word_at f (slot_place pos len (hash_of x.key) j + 4) ≡ x.place = ap (λ (s : Slot). s.place) q in
      let y : word_at f (slot_place pos len (hash_of x.key) j + 4) ≡ 0 = ap (λ (i : ℕ). word_at f (slot_place pos len (hash_of x.key) i + 4)) z ∙ b.1 in
      absurd (omega arith))
      (cases_lt e j))
      h.stops)
      (cases_lt j e)
