-- From what the passes find to the verdict.
use Rattle.std.proofs.Common.{◌≡◌, ℕ, zero, suc, ◌+◌, ◌-◌, ◌*◌, ◌/◌, ◌<◌, ◌≤◌, Bool, true, false, cond, ltb, List, [], ◌∷◌, length, get_or, Ok, Err, count_by, Result, sym, refl, ap, ◌∙◌, subst, ⊎_elim, arith, IsErrAnd}
use Rattle.std.specs.List.{AllByRecursion}
use Rattle.std.proofs.lemmas.List.Sums.{sum_by-cons, count_by-le-length}
use Rattle.std.proofs.lemmas.Bool.{lt-ltb, le-ltb, cases_lt}
use Rattle.std.proofs.lemmas.Result.{err_from_is_err_and}
use Rattle.faults.specs.declared.file.FileFault.{FileFault}
use Rattle.cdb.specs.Records.{Record, Records, items}
use Rattle.cdb.specs.Tables.{Slot, blank}
use Rattle.cdb.specs.Files.{position, slot_count, slots_at, ends}
use Rattle.cdb.specs.Rules.{First, Each, Rule1, Rule2, Rule3, Rule4, Rule5, Rule6, Clear, Rule7, Lawful}
use Rattle.cdb.specs.Verdicts.{slots_below, Judged, broken_2, broken_3, broken_4, broken_5, broken_6, broken_7, broken_8, keeps_all}
use Rattle.cdb.proofs.Placement.{length_slots_at}
use Rattle.cdb.proofs.FileLookup.{one_reading}
use Rattle.cdb.proofs.Slots.{slot_at}
use Rattle.scanning.specs.Headers.{Header, BreaksEntry}
use Rattle.scanning.specs.Sweeps.{CountTo, EndsPast, Past, Placed, Lost}
use Rattle.scanning.specs.declared.records.Placing.{Placing}
use Rattle.auditing.specs.declared.audits.Counts.{Counts}
use Rattle.auditing.specs.Tables.{filled_in, Counted, Room, ClearAt, TableClear, Unruled, miscounted, crowded, stained, Ruled}
use Rattle.auditing.specs.Orders.{Ordered}
use Rattle.auditing.specs.Audits.{verdict}
use Rattle.scanning.proofs.Meets.{probes_placed}
use Rattle.auditing.proofs.Breaks.{swept_passes, swept_breaks}

abbrev full : Slot → Bool
full s = ltb 0 s.place

counted_cons : (x : Slot) (xs : List Slot) → count_by full (x ∷ xs) ≡ cond (full x) 1 0 + count_by full xs
counted_cons x xs = sum_by-cons (λ (s : Slot). cond (full s) 1 0) x xs

-- fewer filled slots than slots: one is empty
some_empty : (xs : List Slot) → count_by full xs < length xs → (i : ℕ) × (i < length xs) × ((get_or xs i blank).place ≡ 0)
some_empty [] h = absurd (omega arith)
some_empty (x ∷ xs) h =
    ⊎_elim
    (λ (a : 0 < x.place).
    let c : count_by full (x ∷ xs) ≡ 1 + count_by full xs = counted_cons x xs ∙ ap (λ (b : Bool). cond b 1 0 + count_by full xs) (lt-ltb 0 x.place a) in
    let r = some_empty xs (omega arith) in
    (suc r.0, omega (arith, r.1), r.2))
    (λ (a : x.place ≤ 0). (0, omega arith, omega arith))
    (cases_lt 0 x.place)

empty_fewer : (xs : List Slot) (i : ℕ) → i < length xs → (get_or xs i blank).place ≡ 0 → count_by full xs < length xs
empty_fewer [] i l h = absurd (omega arith)
empty_fewer (x ∷ xs) zero l h =
    let c : count_by full (x ∷ xs) ≡ 0 + count_by full xs = counted_cons x xs ∙ ap (λ (b : Bool). cond b 1 0 + count_by full xs) (le-ltb 0 x.place (omega arith)) in
    omega (arith, count_by-le-length full xs)
empty_fewer (x ∷ xs) (suc i) l h =
    let r = empty_fewer xs i (omega arith) h in
    let le : cond (full x) 1 0 ≤ 1 = elim (full x) as (λ (b : Bool). cond b 1 0 ≤ 1) [ true ↦ omega arith | false ↦ omega arith ] in
    omega (arith, counted_cons x xs)

module _ (f counts : List ℕ) (t : ℕ) (c : Counted f counts t) where
  slots_long : length (slots_at f (position f t) (slot_count f t)) ≡ slot_count f t
  slots_long = length_slots_at f (position f t) (slot_count f t)

  room_rule : Room f counts t → Rule6 f t
  room_rule h some =
      let l : filled_in f (position f t) (slot_count f t) < length (slots_at f (position f t) (slot_count f t)) = omega (arith, h some, slots_long, c) in
      let r = some_empty (slots_at f (position f t) (slot_count f t)) l in
      let i : r.0 < slot_count f t = omega (arith, r.1, slots_long) in
      (r.0, i, r.2)

  rule_room : Rule6 f t → Room f counts t
  rule_room h some =
      let r = h some in
      let l = empty_fewer (slots_at f (position f t) (slot_count f t)) r.0 (subst (λ (k : ℕ). r.0 < k) (sym slots_long) r.1) r.2 in
      omega (arith, slots_long, c)

first_map : (n t : ℕ) (P Q : ℕ → Type 0) → ((i : ℕ) → i < n → P i → Q i) → ((i : ℕ) → i < n → Q i → P i) → First n P t → First n Q t
first_map n t P Q to from h =
    record {
      within = h.within;
      before = λ i l. to i (omega (arith, h.within)) (h.before i l);
      broken = λ q. h.broken (from t h.within q);
    }

module _ (f : List ℕ) (H : Each (Rule2 f)) where
  below : (t : ℕ) → t < 256 → position f t ≡ position f 0 + 8 * slots_below f t
  unfolding slots_below
  below zero l = omega arith
  below (suc t) l =
      let z : suc t - 1 ≡ t = omega arith in
      let a : position f (suc t) ≡ ends f t = (H (suc t) l).abuts (omega arith) ∙ ap (ends f) z in
      let b = below t (omega arith) in
      omega arith

  last_below : slots_below f 256 ≡ slots_below f 255 + slot_count f 255
  unfolding slots_below
  last_below = refl

  pub slots_total : (length f - position f 0) / 8 ≡ slots_below f 256
  slots_total =
      let a : position f 255 + 8 * slot_count f 255 ≡ length f = (H 255 (omega arith)).last refl in
      let b = below 255 (omega arith) in
      let c = last_below in
      let g : position f 0 + 8 * (slots_below f 255 + slot_count f 255) ≡ length f = omega arith in
      rw c (omega arith)

-- a slot is clear, by its words and as a slot
clear_to : (f : List ℕ) (t i : ℕ) → i < slot_count f t → ClearAt f (position f t) i → Clear f t i
clear_to f t i l h e =
    let s = slot_at f (position f t) (slot_count f t) i l in
    ap (λ (z : Slot). z.hash) s ∙ h (sym (ap (λ (z : Slot). z.place) s) ∙ e)

clear_from : (f : List ℕ) (t i : ℕ) → i < slot_count f t → Clear f t i → ClearAt f (position f t) i
clear_from f t i l h e =
    let s = slot_at f (position f t) (slot_count f t) i l in
    sym (ap (λ (z : Slot). z.hash) s) ∙ h (ap (λ (z : Slot). z.place) s ∙ e)

table_to : (f : List ℕ) (t : ℕ) → TableClear f t → Rule7 f t
table_to f t h i l = clear_to f t i l (h i l)

table_from : (f : List ℕ) (t : ℕ) → Rule7 f t → TableClear f t
table_from f t h i l = clear_from f t i l (h i l)

module _ (f : List ℕ) (long : Rule1 f) (end : ℕ) (header : Header f end) where
  H : Each (Rule2 f)
  H = header.entries

  here : end ≡ position f 0
  here = header.first

  pub lost_judged : (y : FileFault) → Lost f end y → Judged f (verdict (Err y))
  lost_judged y h =
      let r3 : Rule3 f h.0 = subst (λ (e : ℕ). Records f 2048 e h.0) here h.1 in
      subst (λ (z : FileFault). Judged f (verdict (Err z))) (sym h.2.2) (broken_4 h.0 long H r3 h.2.1)

  module _ (counts : List ℕ) (q low : ℕ) (placed : Placed f end q counts low) where
    rs : List Record
    rs = placed.met.0

    reads : Rule3 f rs
    unfolding rs
    reads = subst (λ (e : ℕ). Records f 2048 e placed.met.0) here placed.met.1

    found : AllByRecursion (Rule4 f) (items 2048 rs)
    unfolding rs
    found = probes_placed f (items 2048 placed.met.0) q placed.met.2

    rule5 : (t : ℕ) → t < 256 → Counted f counts t → Rule5 f rs t
    unfolding rs
    rule5 t l h = h ∙ placed.met.3 t l

    rule5_back : (t : ℕ) → t < 256 → Rule5 f rs t → Counted f counts t
    unfolding rs
    rule5_back t l h = h ∙ sym (placed.met.3 t l)

    told : (x y : FileFault) → x ≡ y → Judged f (verdict (Err y)) → Judged f (verdict (Err x))
    told x y e h = subst (λ (z : FileFault). Judged f (verdict (Err z))) (sym e) h

    pub tables_refuse : (x : FileFault) → Unruled f counts x → Judged f (verdict (Err x))
    tables_refuse x (miscounted h) =
        told x _ h.told (broken_5 rs long H reads found (first_map 256 h.table (Counted f counts) (Rule5 f rs) rule5 rule5_back h.first))
    tables_refuse x (crowded c h) =
        told x _ h.told
        (broken_6 rs long H reads found (λ i l. rule5 i l (c i l))
        (first_map 256 h.table (Room f counts) (Rule6 f) (λ i l. room_rule f counts i (c i l)) (λ i l. rule_room f counts i (c i l)) h.first))
    tables_refuse x (stained c r h) =
        told x _ h.told
        (broken_7 rs long H reads found (λ i l. rule5 i l (c i l)) (λ i l. room_rule f counts i (c i l) (r i l))
        (first_map 256 h.table (TableClear f) (Rule7 f) (λ i l. table_to f i) (λ i l. table_from f i) h.first)
        (first_map (slot_count f h.table) h.index (ClearAt f (position f h.table)) (Clear f h.table) (λ i l. clear_to f h.table i l) (λ i l. clear_from f h.table i l) h.slot))

    module _ (ruled : Ruled f counts (Ok tt)) where
      all5 : Each (Rule5 f rs)
      all5 i l = rule5 i l (ruled.0 i l)

      all6 : Each (Rule6 f)
      all6 i l = room_rule f counts i (ruled.0 i l) (ruled.1 i l)

      all7 : Each (Rule7 f)
      all7 i l = table_to f i (ruled.2 i l)

      inside : position f 0 ≤ length f
      inside = ((H 0 (omega arith)).first refl).1

      pub order_refuse : (y : FileFault) → Ordered f end low (Err y) → Judged f (verdict (Err y))
      order_refuse y h = told y _ h.1 (broken_8 rs long H reads found all5 all6 all7 (swept_breaks f rs reads found all5 inside end low here placed.swept h.0))

      pub all_pass : (n s : ℕ) → CountTo f end n → s ≡ (length f - end) / 8 → end ≤ low → Judged f (verdict (Ok (record { records = n; slots = s; probes = q })))
      unfolding rs
      all_pass n s k e l =
          let count : n ≡ length placed.met.0 = sym (ap length (one_reading f 2048 end placed.met.0 k.0 placed.met.1 k.1) ∙ k.2) in
          let slots : s ≡ slots_below f 256 = e ∙ ap (λ (z : ℕ). (length f - z) / 8) here ∙ slots_total f H in
          let law : Lawful f rs = record { long = long; entries = H; reads = reads; placed = found; counted = all5; room = all6; clear = all7; ordered = swept_passes f rs reads found all5 inside end low here placed.swept l } in
          subst (λ (c : ℕ). Judged f (verdict (Ok (record { records = c; slots = s; probes = q })))) (sym count)
          (subst (λ (c : ℕ). Judged f (verdict (Ok (record { records = length placed.met.0; slots = c; probes = q })))) (sym slots) (keeps_all placed.met.0 law placed.met.2))

-- what a step refuses is handed on
handed_on : (f : List ℕ) (r : Result Counts FileFault) (y : FileFault) → IsErrAnd r (λ z. z ≡ y) → Judged f (verdict (Err y)) → Judged f (verdict r)
handed_on f r y i h = let e = err_from_is_err_and r i in rw (e.1, e.2) h

pub entry_refuses : (f : List ℕ) → Rule1 f → (r : Result Counts FileFault) (y : FileFault) → IsErrAnd r (λ z. z ≡ y) → BreaksEntry f y → Judged f (verdict r)
entry_refuses f long r y i h = handed_on f r y i (rw h.told (broken_2 long h.first))

-- the steps in turn, each of which has found the same bytes
module _ (f : List ℕ) {f1 f2 : List ℕ} (long : Rule1 f) (end : ℕ) (header : Header f end) (s1 : f1 ≡ f) (s2 : f2 ≡ f1) where
  pub past_refuses : (r : Result Counts FileFault) (y : FileFault) → IsErrAnd r (λ z. z ≡ y) → EndsPast f1 end y → Judged f (verdict r)
  past_refuses r y i h =
      let p : EndsPast f end y = rw s1 at h in
      let past : Past f (position f 0) p.0 = rw header.first at p.2 in
      handed_on f r y i (rw p.1 (broken_3 long header.entries past))

  pub lost_refuses : (r : Result Counts FileFault) (y : FileFault) → IsErrAnd r (λ z. z ≡ y) → Lost f2 end y → Judged f (verdict r)
  lost_refuses r y i h = handed_on f r y i (lost_judged f long end header y (rw (s2, s1) at h))

  module _ {f3 : List ℕ} (x : Placing) (placed : Placed f2 end x.probes x.counts x.low) (s3 : f3 ≡ f2) where
    pub unruled_refuses : (r : Result Counts FileFault) (y : FileFault) → IsErrAnd r (λ z. z ≡ y) → Unruled f3 x.counts y → Judged f (verdict r)
    unruled_refuses r y i h = handed_on f r y i (tables_refuse f long end header x.counts x.probes x.low (rw (s2, s1) at placed) y (rw (s3, s2, s1) at h))

    module _ (ruled : Ruled f3 x.counts (Ok tt)) where
      pub unordered_refuses : {f4 : List ℕ} → f4 ≡ f3 → (r : Result Counts FileFault) (y : FileFault) → IsErrAnd r (λ z. z ≡ y) → Ordered f4 end x.low (Err y) → Judged f (verdict r)
      unordered_refuses s4 r y i h = handed_on f r y i (order_refuse f long end header x.counts x.probes x.low (rw (s2, s1) at placed) (rw (s3, s2, s1) at ruled) y (rw (s4, s3, s2, s1) at h))

      pub none_refuses : (n s : ℕ) → CountTo f1 end n → s ≡ (length f - end) / 8 → end ≤ x.low → Judged f (verdict (Ok (record { records = n; slots = s; probes = x.probes })))
      none_refuses n s k e l = all_pass f long end header x.counts x.probes x.low (rw (s2, s1) at placed) (rw (s3, s2, s1) at ruled) n s (rw s1 at k) e l
