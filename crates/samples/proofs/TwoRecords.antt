-- The verdict on a file of two records of one key, by their distances in its one table with slots.
use Rattle.std.proofs.Common.{◌≡◌, ℕ, ◌+◌, ◌*◌, ◌^◌, ◌<◌, ◌≤◌, true, false, eqb, ltb, ◌⊎◌, List, [], ◌∷◌, length, count_by, sym, refl, ap, ◌∙◌, subst, inl, inr, ⊎_elim, arith}
use Rattle.std.specs.List.{ContainsAt as Has, flat_map, AllByRecursion}
use Rattle.std.proofs.ByRecursion.{All-get_or}
use Rattle.std.proofs.lemmas.Bool.{cases_eq, eq-eqb, ne_eqb}
use Rattle.faults.specs.Reports.{report}
use Rattle.cdb.specs.Records.{Item, items, record_bytes, table_of}
use Rattle.cdb.specs.Tables.{Slot, blank, slot, Empty, Distance}
use Rattle.cdb.specs.Files.{position, slot_count, slots_at, slots_in, slots_of}
use Rattle.cdb.specs.Rules.{Each, Rule4, Rule5, Rule6, Rule7, Rule8, Lawful}
use Rattle.cdb.specs.Verdicts.{accepted, refused, Judged, broken_6, broken_8, keeps_all}
use Rattle.cdb.proofs.Pigeon.{has_nil, has_head, has_cons_cases}
use Rattle.cdb.proofs.Placement.{Small}
use Rattle.cdb.proofs.Put.{distance_one}
use Rattle.samples.specs.Samples.{two_records}
use Rattle.samples.proofs.OneTable.{OneTable}

abbrev pub first_item : List ℕ → Item
first_item key = record { key = key; place = 2048 }

abbrev pub second_item : List ℕ → Item
second_item key = record { key = key; place = 2048 + (8 + (length key + 1)) }

-- a slot of two words whose hash is 0 if it is empty
abbrev pub Proper : Slot → Type 0
Proper v = Small v × (v.place ≡ 0 → v.hash ≡ 0)

-- table t has slots that hold both records, at distances d and e, and nothing else
pub record Holds (key : List ℕ) (t : ℕ) (s : List Slot) (d e : ℕ) : Type 0 where
  pub belongs : table_of key ≡ t
  pub below : t < 256
  pub short : length (flat_map record_bytes (two_records key)) + 8 * length s < 2 ^ 31
  pub proper : AllByRecursion Proper s
  pub counted : count_by (λ (v : Slot). ltb 0 v.place) s ≡ 2
  pub first : Distance s (first_item key) d
  pub second : Distance s (second_item key) e

module _ (key : List ℕ) (u : ℕ) (s : List Slot) (d e : ℕ) (h : Holds key u s d e) (f : List ℕ) (one : OneTable f (two_records key) u s) where
  either : (y : Item) → Has (items 2048 (two_records key)) y → (first_item key ≡ y) ⊎ (second_item key ≡ y)
  either y has =
      ⊎_elim inl
      (λ rest. ⊎_elim inr (λ none. absurd (has_nil y none)) (has_cons_cases (second_item key) [] y rest))
      (has_cons_cases (first_item key) (second_item key ∷ []) y has)

  -- the slots of both records
  of_key : slots_in f (table_of key) ≡ s
  of_key = ap (slots_in f) h.belongs ∙ one.here

  first_there : Distance (slots_in f (table_of key)) (first_item key) d
  first_there = subst (λ (z : List Slot). Distance z (first_item key) d) (sym of_key) h.first

  second_there : Distance (slots_in f (table_of key)) (second_item key) e
  second_there = subst (λ (z : List Slot). Distance z (second_item key) e) (sym of_key) h.second

  rule1 : 2048 ≤ length f
  rule1 = omega (arith, one.total)

  rule4 : AllByRecursion (Rule4 f) (items 2048 (two_records key))
  rule4 = ((d, first_there), ((e, second_there), tt))

  no_slots_else : (t : ℕ) → t < 256 → (t ≡ u → ⊥) → slots_in f t ≡ []
  no_slots_else t l ne = ap (slots_at f (position f t)) (one.else' t l ne)

  rule5 : Each (Rule5 f (two_records key))
  rule5 t l =
      ⊎_elim
      (λ (z : t ≡ u).
      let b : eqb (table_of key) t ≡ true = eq-eqb (table_of key) t (h.belongs ∙ sym z) in
      rw b (ap (λ (v : List Slot). count_by (λ (x : Slot). ltb 0 x.place) v) (ap (slots_in f) z ∙ one.here) ∙ h.counted))
      (λ ne.
      let b : eqb (table_of key) t ≡ false = ne_eqb (table_of key) t (λ z. ne (sym z ∙ h.belongs)) in
      rw b (ap (λ (v : List Slot). count_by (λ (x : Slot). ltb 0 x.place) v) (no_slots_else t l ne)))
      (cases_eq t u)

  rule6_else : (t : ℕ) → t < 256 → (t ≡ u → ⊥) → Rule6 f t
  rule6_else t l ne some = absurd (omega (arith, one.else' t l ne))

  rule7 : Each (Rule7 f)
  rule7 t l i m em =
      ⊎_elim
      (λ (z : t ≡ u).
      let n : slot_count f t ≡ length s = ap (slot_count f) z ∙ one.count in
      let at : slots_in f t ≡ s = ap (slots_in f) z ∙ one.here in
      ap (λ (v : List Slot). (slot v i).hash) at ∙ (All-get_or Proper s i blank (omega arith) h.proper).1 (subst (λ (v : List Slot). Empty v i) at em))
      (λ ne. absurd (omega (arith, one.else' t l ne)))
      (cases_eq t u)

  -- no record stands before the first
  rule8_first : Rule8 f (two_records key) (first_item key)
  rule8_first y j k has same less dx dy =
      ⊎_elim
      (λ (z : first_item key ≡ y). absurd (omega (arith, ap (λ (v : Item). v.place) z)))
      (λ (z : second_item key ≡ y). absurd (omega (arith, ap (λ (v : Item). v.place) z)))
      (either y has)

  -- where the first is no farther away than the second
  rule8_second : d ≤ e → Rule8 f (two_records key) (second_item key)
  rule8_second near y j k has same less dx dy =
      ⊎_elim
      (λ (z : first_item key ≡ y).
      let a : k ≡ d = distance_one (subst (λ (v : Item). Distance (slots_of f v) v k) (sym z) dy) first_there in
      let b : j ≡ e = distance_one dx second_there in
      omega arith)
      (λ (z : second_item key ≡ y). absurd (omega (arith, ap (λ (v : Item). v.place) z)))
      (either y has)

  module _ (room : (i : ℕ) × (i < length s) × Empty s i) where
    rule6 : Each (Rule6 f)
    rule6 t l =
        ⊎_elim
        (λ (z : t ≡ u) some.
        let n : slot_count f t ≡ length s = ap (slot_count f) z ∙ one.count in
        let at : slots_in f t ≡ s = ap (slots_in f) z ∙ one.here in
        (room.0, omega (arith, room.1), subst (λ (v : List Slot). Empty v room.0) (sym at) room.2))
        (λ ne. rule6_else t l ne)
        (cases_eq t u)

    pub in_order : d ≤ e → Judged f (accepted 2 (length s) (d + 1 + (e + 1 + 0)))
    in_order near =
        let law : Lawful f (two_records key) =
        record {
          long = rule1;
          entries = one.entries;
          reads = one.read;
          placed = rule4;
          counted = rule5;
          room = rule6;
          clear = rule7;
          ordered = (rule8_first, (rule8_second near, tt));
        } in
        subst (λ (n : ℕ). Judged f (accepted 2 n (d + 1 + (e + 1 + 0)))) one.below
        (keeps_all (two_records key) law (d, e + 1 + 0, first_there, (e, 0, second_there, refl, refl), refl))

    pub out_of_order : e < d → Judged f (refused (report 8 u (second_item key).place))
    out_of_order far =
        subst (λ (t : ℕ). Judged f (refused (report 8 t (second_item key).place))) h.belongs
        (broken_8 (two_records key) {x = second_item key} rule1 one.entries one.read rule4 rule5 rule6 rule7
        (record {
          before = first_item key ∷ [];
          after = [];
          among = refl;
          kept = (rule8_first, tt);
          broken = λ keeps. omega (arith, keeps (first_item key) e d (has_head (first_item key) (second_item key ∷ [])) refl (omega arith) second_there first_there);
        }))

  pub without_room : 0 < length s → ((i : ℕ) → i < length s → Empty s i → ⊥) → Judged f (refused (report 6 u (2048 + length (flat_map record_bytes (two_records key)))))
  without_room some full =
      subst (λ (p : ℕ). Judged f (refused (report 6 u p))) (one.starts u (omega arith))
      (broken_6 (two_records key) rule1 one.entries one.read rule4 rule5
      (record {
        within = h.below;
        before = λ t l. rule6_else t (omega (arith, h.below)) (λ z. omega arith);
        broken = λ keeps.
            let r = keeps (omega (arith, one.count)) in
            full r.0 (omega (arith, r.1, one.count)) (subst (λ (v : List Slot). Empty v r.0) one.here r.2);
      }))
