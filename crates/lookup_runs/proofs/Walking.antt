-- A walk in a lawful file that the device holds.
use Rattle.std.proofs.Common.{◌≡◌, ℕ, ◌+◌, ◌*◌, ◌%◌, ◌<◌, ◌≤◌, ◌⊎◌, List, [], ◌∷◌, length, Some, None, Ok, Err, Option, Result, sym, refl, ap, ◌∙◌, subst, inl, inr, ⊎_elim, mod-lt, arith}
use Rattle.std.specs.List.{ContainsAt as Has}
use Rattle.std.proofs.ByRecursion.{all-has}
use Rattle.std.proofs.lemmas.Bool.{cases_lt, cases_eq}
use Rattle.byte_lists.specs.Bytes.{word_at}
use Rattle.faults.specs.declared.file.FileFault.{FileFault}
use Rattle.device.specs.Meanings.{Meaning}
use Rattle.cdb.specs.Records.{Record, Item, hash_of, table_of, belonging}
use Rattle.cdb.specs.Tables.{Slot, entry, slot, Empty, Filled, slot_away}
use Rattle.cdb.specs.Files.{position, slot_count, slots_at}
use Rattle.cdb.proofs.TableLaw.{probe, Hit, Passed, Gives, none, next, InFile, LawfulFile}
use Rattle.cdb.proofs.Placement.{length_slots_at}
use Rattle.cdb.proofs.Slots.{slot_at}
use Rattle.cdb.proofs.Owner.{owner}
use Rattle.cdb.proofs.Backward.{same_item}
use Rattle.cdb.proofs.Forward.{all_positive}
use Rattle.cdb.proofs.FileProof.{belonging_in_file}
use Rattle.cdb.proofs.ByTable.{of_table}
use Rattle.file.specs.declared.extents.Extent.{Extent}
use Rattle.file.specs.Extents.{file}
use Rattle.lookup.specs.declared.cursors.Cursor.{Cursor}
use Rattle.lookup.specs.declared.cursors.Found.{Found}
use Rattle.lookup.specs.declared.cursors.Probe.{Probe}
use Rattle.lookup.specs.declared.cursors.Probe.TheVariants as probes
use Rattle.lookup.specs.Probes.{slot_past, slot_bad, slot_empty, other_hash, same_hash, slot_place, slot_hash, slot_record, RecordProbe}
use Rattle.lookup.specs.Nexts as nexts
use Rattle.lookup.specs.Nexts.{Walk, Passes, ProbeAt, probed_to}
use Rattle.lookup_runs.proofs.Held.{Holding, short, word_is, not_bad, record_is, Read, item_read, table_end}

-- a cursor of the key on the file
pub record Of (whole : List ℕ) (e : Extent) (key : List ℕ) (c : Cursor) : Type 0 where
  pub extent : c.extent ≡ e
  pub hash : c.hash ≡ hash_of key
  pub position : c.position ≡ position whole (table_of key)
  pub slots : c.slots ≡ slot_count whole (table_of key)

-- the data of an item
abbrev pub data_of_item : List ℕ → Item → Found
data_of_item whole x = record { place = x.place + 8 + length x.key; len = word_at whole (x.place + 4) }

module _ (whole : List ℕ) (rs : List Record) (law : LawfulFile whole rs) (e : Extent) (key : List ℕ) where
  abbrev pub table : List Slot
  table = slots_at whole (position whole (table_of key)) (slot_count whole (table_of key))

  abbrev pub own : List Item
  own = belonging (table_of key) rs

  below : table_of key < 256
  below = mod-lt (hash_of key) (omega arith)

  table_length : length table ≡ slot_count whole (table_of key)
  table_length = length_slots_at whole (position whole (table_of key)) (slot_count whole (table_of key))

  in_file : InFile 0 own
  in_file = belonging_in_file (table_of key) rs

  positive : (x : Item) → Has own x → 0 < x.place
  positive x i = all-has (λ z. 0 < z.place) own x (all_positive 0 own in_file) i

  one_item : (x y : Item) → Has own x → Has own y → entry x ≡ entry y → x ≡ y
  one_item x y i j q = same_item 0 own in_file x y i j (ap (λ (v : Slot). v.place) q)

  -- three things that a slot may be for the key
  abbrev Sorts : ℕ → Result Probe FileFault → Type 0
  Sorts i r =
      (Empty table (probe table key i) × (r ≡ Ok probes.Empty))
      ⊎ ((Filled table (probe table key i) × ((x : Item) → Hit own table key i x → ⊥) × (r ≡ Ok probes.Other))
      ⊎ ((x : Item) × Hit own table key i x × (r ≡ Ok (probes.Match (data_of_item whole x)))))

  module _ (m : Meaning) (h : Holding whole e m) (c : Cursor) (of : Of whole e key c) where
    -- the slot at distance i
    abbrev away : ℕ → ℕ
    away i = slot_away c.slots c.hash i

    place_is : (i : ℕ) → slot_place c (away i) ≡ position whole (table_of key) + 8 * probe table key i
    place_is i = rw (of.position, of.slots, of.hash, table_length)

    slot_in : (i : ℕ) → i < c.slots → slot_place c (away i) + 8 ≤ e.len
    slot_in i l =
        let a = table_end whole rs law (table_of key) below in
        let b : probe table key i < length table = mod-lt _ (omega (arith, of.slots, table_length)) in
        omega (arith, place_is i, short whole e m h, table_length)

    slot_is : (i : ℕ) → i < c.slots → slot table (probe table key i) ≡ record { hash = word_at whole (slot_place c (away i)); place = word_at whole (slot_place c (away i) + 4) }
    slot_is i l =
        let b : probe table key i < length table = mod-lt _ (omega (arith, of.slots, table_length)) in
        rw (place_is i) (slot_at whole (position whole (table_of key)) (slot_count whole (table_of key)) (probe table key i) (omega (arith, table_length)))

    word_here : (p : ℕ) → word_at (file m c.extent) p ≡ word_at whole p
    word_here p = rw of.extent (word_is whole e m h p)

    hash_here : (i : ℕ) → i < c.slots → slot_hash m c (away i) ≡ (slot table (probe table key i)).hash
    hash_here i l = word_here (slot_place c (away i)) ∙ sym (ap (λ (v : Slot). v.hash) (slot_is i l))

    place_here : (i : ℕ) → i < c.slots → slot_record m c (away i) ≡ (slot table (probe table key i)).place
    place_here i l = word_here (slot_place c (away i) + 4) ∙ sym (ap (λ (v : Slot). v.place) (slot_is i l))

    sorts : (i : ℕ) (r : Result Probe FileFault) → i < c.slots → ProbeAt m c key i r → Sorts i r
    sorts i r l (slot_past a) = absurd (omega (arith, slot_in i l, ap (λ (x : Extent). x.len) of.extent))
    sorts i r l (slot_bad a b) = absurd (not_bad whole e m h (slot_place c (away i)) 8 _ (slot_in i l) (rw of.extent at b))
    sorts i r l (slot_empty w z) = inl (sym (place_here i l) ∙ z, refl)
    sorts i r l (other_hash w f ne) =
        inr (inl (omega (arith, place_here i l), (λ x t. ne (hash_here i l ∙ ap (λ (v : Slot). v.hash) t.1 ∙ ap hash_of t.2 ∙ sym of.hash)), refl))
    sorts i r l (same_hash w f q rp) =
        let fill : Filled table (probe table key i) = omega (arith, place_here i l) in
        let o = owner own table in_file (law.tables (table_of key) below) (probe table key i) fill in
        let y : Item = o.0 in
        let held : slot table (probe table key i) ≡ entry y = sym (ap (slot table) o.4) ∙ o.3.holds in
        let at : slot_record m c (away i) ≡ y.place = place_here i l ∙ ap (λ (v : Slot). v.place) held in
        let rd : Read whole (position whole 0) y = item_read whole 2048 (position whole 0) rs law.read y (of_table rs (table_of key) y o.1).0 in
        let rp1 : RecordProbe m c.extent (c.hash % 256) key y.place r = subst (λ (p : ℕ). RecordProbe m c.extent (c.hash % 256) key p r) at rp in
        let rp2 : RecordProbe m e (c.hash % 256) key y.place r = subst (λ (x : Extent). RecordProbe m x (c.hash % 256) key y.place r) of.extent rp1 in
        inr (⊎_elim
        (λ s. inr (y, (o.1, held, s.0), s.1))
        (λ s. inl (fill, (λ x t. s.0 (ap (λ (v : Item). v.key) (one_item y x o.1 t.0 (sym held ∙ t.1)) ∙ t.2)), s.1))
        (record_is whole e m h key (c.hash % 256) y (word_at whole (y.place + 4)) rd.key refl rd.stands (omega (arith, rd.fits, law.within, short whole e m h)) r rp2))

    hit_filled : (i : ℕ) (x : Item) → Hit own table key i x → Filled table (probe table key i)
    hit_filled i x t = rw t.1 (positive x t.0)

    pub at_hit : (i : ℕ) (x : Item) (r : Result Probe FileFault) → i < c.slots → Hit own table key i x → ProbeAt m c key i r → r ≡ Ok (probes.Match (data_of_item whole x))
    at_hit i x r l t s =
        ⊎_elim
        (λ a. absurd (omega (arith, a.0, hit_filled i x t)))
        (λ b. ⊎_elim
        (λ a. absurd (a.1 x t))
        (λ a. a.2 ∙ ap (λ (z : Item). Ok (probes.Match (data_of_item whole z))) (one_item a.0 x a.1.0 t.0 (sym a.1.1 ∙ t.1)))
        b)
        (sorts i r l s)

    pub at_empty : (i : ℕ) (r : Result Probe FileFault) → i < c.slots → Empty table (probe table key i) → ProbeAt m c key i r → r ≡ Ok probes.Empty
    at_empty i r l z s =
        ⊎_elim
        (λ a. a.1)
        (λ b. ⊎_elim (λ a. absurd (omega (arith, a.0))) (λ a. absurd (omega (arith, hit_filled i a.0 a.1))) b)
        (sorts i r l s)

    pub at_other : (i : ℕ) (r : Result Probe FileFault) → i < c.slots → Filled table (probe table key i) → ((x : Item) → Hit own table key i x → ⊥) → ProbeAt m c key i r → r ≡ Ok probes.Other
    at_other i r l f free s =
        ⊎_elim
        (λ a. absurd (omega (arith, a.0)))
        (λ b. ⊎_elim (λ a. a.2) (λ a. absurd (free a.0 a.1)) b)
        (sorts i r l s)

    -- a walk that goes on from where no item is left
    stops_none : {j : ℕ} (n : ℕ) → j ≤ n → c.probed ≡ j → Passed own table key j n → (n ≡ length table) ⊎ ((n < length table) × Empty table (probe table key n)) →
        (k : ℕ) (r : Result Probe FileFault) → k < c.slots → Passes m c key k → ProbeAt m c key k r → (r ≡ Ok probes.Other) ⊎ (r ≡ Ok probes.Empty)
    stops_none n le q ps end k r l p s =
        ⊎_elim
        (λ (a : k < n). let z = ps k (omega (arith, p.from)) a in inl (at_other k r l z.0 z.1 s))
        (λ (a : n ≤ k).
        ⊎_elim
        (λ (b : n ≡ length table). absurd (omega (arith, of.slots, table_length)))
        (λ b. ⊎_elim
        (λ (d : k ≡ n). inr (at_empty k r l (subst (λ (i : ℕ). Empty table (probe table key i)) (sym d) b.1) s))
        (λ ne.
        let s2 = p.others n (omega arith) (omega arith) in
        let z : Ok probes.Other ≡ Ok probes.Empty = at_empty n (Ok probes.Other) (omega arith) b.1 s2 in
        let y : ◌≡◌ {A = ℕ} 0 1 = cc in absurd (omega arith))
        (cases_eq k n))
        end)
        (cases_lt k n)

    -- a walk that goes on to the slot n of an item of the key
    stops_next : {j : ℕ} (n : ℕ) (x : Item) → j ≤ n → c.probed ≡ j → n < length table → Passed own table key j n → Hit own table key n x →
        (k : ℕ) (r : Result Probe FileFault) → k < c.slots → Passes m c key k → ProbeAt m c key k r → (r ≡ Ok probes.Other) ⊎ ((k ≡ n) × (r ≡ Ok (probes.Match (data_of_item whole x))))
    stops_next n x le q lt ps t k r l p s =
        ⊎_elim
        (λ (a : k < n). let z = ps k (omega (arith, p.from)) a in inl (at_other k r l z.0 z.1 s))
        (λ (a : n ≤ k).
        ⊎_elim
        (λ (d : k ≡ n). inr (d, at_hit k x r l (subst (λ (i : ℕ). Hit own table key i x) (sym d) t) s))
        (λ ne.
        let s2 = p.others n (omega arith) (omega arith) in
        let z : Ok probes.Other ≡ Ok (probes.Match (data_of_item whole x)) = at_hit n x (Ok probes.Other) (omega (arith, of.slots, table_length)) t s2 in
        let y : ◌≡◌ {A = ℕ} 0 1 = cc in absurd (omega arith))
        (cases_eq k n))
        (cases_lt k n)

  abbrev pub head_of : List Item → Option Found
  head_of [] = None
  head_of (x ∷ xs) = Some (data_of_item whole x)

  abbrev pub tail_of : List Item → List Item
  tail_of [] = []
  tail_of (x ∷ xs) = xs

  -- these items of the key are to come
  pub record State (c : Cursor) (ys : List Item) : Type 0 where
    pub of : Of whole e key c
    pub gives : Gives own table key c.probed ys

  moved : (c : Cursor) (n : ℕ) → Of whole e key c → Of whole e key (probed_to c n)
  moved c n of = record { extent = of.extent; hash = of.hash; position = of.position; slots = of.slots }

  ended_state : (c : Cursor) → Of whole e key c → State (probed_to c c.slots) []
  ended_state c of = record {
    of = moved c c.slots of;
    gives = none c.slots (omega arith) (λ i a b. absurd (omega arith)) (inl (of.slots ∙ sym table_length));
  }

  module _ (m : Meaning) (h : Holding whole e m) (c : Cursor) (of : Of whole e key c) where
    pub walk_none : {j : ℕ} → c.probed ≡ j → Gives own table key j [] → (r : Result (Option Found) FileFault) (c' : Cursor) → Walk m c key r c' → (r ≡ Ok None) × State c' []
    walk_none q g r c' (nexts.ended a) = (refl, record { of = of; gives = subst (λ (i : ℕ). Gives own table key i []) (sym q) g })
    walk_none q g r c' (nexts.all_others a p) = (refl, ended_state c of)
    walk_none q g r c' (nexts.empty l p s) = (refl, ended_state c of)
    walk_none q (none n le ps end) r c' (nexts.found {n = k} {x = f} l p s) =
        let z = stops_none m h c of n le q ps end k (Ok (probes.Match f)) l p s in
        absurd (⊎_elim (λ (a : Ok (probes.Match f) ≡ Ok probes.Other). let y : ◌≡◌ {A = ℕ} 0 1 = cc in omega arith) (λ (a : Ok (probes.Match f) ≡ Ok probes.Empty). let y : ◌≡◌ {A = ℕ} 0 1 = cc in omega arith) z)
    walk_none q (none n le ps end) r c' (nexts.refused {n = k} {f = f} l p s) =
        let z = stops_none m h c of n le q ps end k (Err f) l p s in
        absurd (⊎_elim (λ (a : Err f ≡ Ok probes.Other). let y : ◌≡◌ {A = ℕ} 0 1 = cc in omega arith) (λ (a : Err f ≡ Ok probes.Empty). let y : ◌≡◌ {A = ℕ} 0 1 = cc in omega arith) z)

    pub walk_next : {j : ℕ} (x : Item) (xs : List Item) → c.probed ≡ j → Gives own table key j (x ∷ xs) → (r : Result (Option Found) FileFault) (c' : Cursor) → Walk m c key r c' → (r ≡ Ok (Some (data_of_item whole x))) × State c' xs
    walk_next x xs q (next n le lt ps t rest) r c' (nexts.ended a) = absurd (omega (arith, of.slots, table_length))
    walk_next x xs q (next n le lt ps t rest) r c' (nexts.all_others a p) =
        let s2 = p.others n (omega arith) (omega (arith, of.slots, table_length)) in
        let z : Ok probes.Other ≡ Ok (probes.Match (data_of_item whole x)) = at_hit m h c of n x (Ok probes.Other) (omega (arith, of.slots, table_length)) t s2 in
        let y : ◌≡◌ {A = ℕ} 0 1 = cc in absurd (omega arith)
    walk_next x xs q (next n le lt ps t rest) r c' (nexts.empty {n = k} l p s) =
        let z = stops_next m h c of n x le q lt ps t k (Ok probes.Empty) l p s in
        absurd (⊎_elim (λ (a : Ok probes.Empty ≡ Ok probes.Other). let y : ◌≡◌ {A = ℕ} 0 1 = cc in omega arith) (λ a. let w : Ok probes.Empty ≡ Ok (probes.Match (data_of_item whole x)) = a.1 in let y : ◌≡◌ {A = ℕ} 0 1 = cc in omega arith) z)
    walk_next x xs q (next n le lt ps t rest) r c' (nexts.refused {n = k} {f = f} l p s) =
        let z = stops_next m h c of n x le q lt ps t k (Err f) l p s in
        absurd (⊎_elim (λ (a : Err f ≡ Ok probes.Other). let y : ◌≡◌ {A = ℕ} 0 1 = cc in omega arith) (λ a. let w : Err f ≡ Ok (probes.Match (data_of_item whole x)) = a.1 in let y : ◌≡◌ {A = ℕ} 0 1 = cc in omega arith) z)
    walk_next x xs q (next n le lt ps t rest) r c' (nexts.found {n = k} {x = f} l p s) =
        let z = stops_next m h c of n x le q lt ps t k (Ok (probes.Match f)) l p s in
        ⊎_elim
        (λ (a : Ok (probes.Match f) ≡ Ok probes.Other). let y : ◌≡◌ {A = ℕ} 0 1 = cc in absurd (omega arith))
        (λ a.
        let w : Ok (probes.Match f) ≡ Ok (probes.Match (data_of_item whole x)) = a.1 in
        let same : f ≡ data_of_item whole x = cc in
        let k1 : n + 1 ≡ k + 1 = omega (arith, a.0) in (
          ap (λ (v : Found). Ok (Some v)) same,
          record { of = moved c (k + 1) of; gives = subst (λ (i : ℕ). Gives own table key i xs) k1 rest },
        ))
        z
