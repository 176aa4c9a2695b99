-- Rule 8: from what the sweep finds to the first record that breaks it.
use Rattle.std.proofs.Common.{◌≡◌, ℕ, ◌+◌, ◌*◌, ◌<◌, ◌≤◌, List, [], ◌∷◌, ◌++◌, length, sym, ap, ◌∙◌, subst, ⊎_elim, mod-lt, arith}
use Rattle.std.specs.List.{ContainsAt as Has, AllByRecursion}
use Rattle.std.proofs.ByRecursion.{all-has, All-weaker, all_has_itself}
use Rattle.std.proofs.lemmas.Bool.{cases_lt}
use Rattle.byte_lists.specs.Bytes.{word_at}
use Rattle.cdb.specs.Records.{Record, Records, Item, size, items, belonging, hash_of, table_of}
use Rattle.cdb.specs.Tables.{Slot, slot, spot, home, entry, Distance}
use Rattle.cdb.specs.Files.{position, slot_count, slots_in, slots_of}
use Rattle.cdb.specs.Rules.{FirstOf, Each, Rule3, Rule4, Rule5, Rule8}
use Rattle.cdb.proofs.Placement.{length_slots_at}
use Rattle.cdb.proofs.FileProof.{belonging_in_file}
use Rattle.cdb.proofs.FileLookup.{one_reading}
use Rattle.cdb.proofs.Owner.{owned}
use Rattle.cdb.proofs.Pigeon.{has_nil, has_head, has_tail, has_cons_cases}
use Rattle.cdb.proofs.ByTable.{of_table}
use Rattle.cdb.proofs.Slots.{slot_at}
use Rattle.scanning.specs.Searches.{item_at, Overtakes}
use Rattle.scanning.specs.Sweeps.{Swept}
use Rattle.scanning.proofs.Sweeping.{item_in}

-- the items split at each of them, and those before it have smaller places
split_at : (f : List ℕ) (q end : ℕ) (rs : List Record) (x : Item) → Records f q end rs → Has (items q rs) x
    → (b : List Item) × (a : List Item) × (items q rs ≡ b ++ x ∷ a) × AllByRecursion (λ z. Has (items q rs) z × (z.place < x.place)) b
split_at f q end [] x h m = absurd (has_nil x m)
split_at f q end (r ∷ rs) x h m =
    let y : Item = record { key = r.key; place = q } in
    let n = q + size r in
    ⊎_elim
    (λ (e : y ≡ x). ([], items n rs, ap (λ (z : Item). z ∷ items n rs) e, tt))
    (λ i.
    let s = split_at f n end rs x h.5 i in
    let up = (item_in f n end rs x h.5 i).1 in (
      y ∷ s.0,
      s.1,
      ap (λ (z : List Item). y ∷ z) s.2,
      (
        (has_head y (items n rs), omega arith),
        All-weaker (λ z. Has (items n rs) z × (z.place < x.place)) (λ z. Has (y ∷ items n rs) z × (z.place < x.place)) (λ z w. (has_tail y (items n rs) z w.0, w.1)) s.0 s.3,
      ),
    ))
    (has_cons_cases y (items n rs) x m)

module _ (f : List ℕ) (rs : List Record) (reads : Rule3 f rs) (placed : AllByRecursion (Rule4 f) (items 2048 rs)) (counted : Each (Rule5 f rs)) (inside : position f 0 ≤ length f) where
  -- a filled slot leads to a record of the file
  owner_at : (t i : ℕ) → t < 256 → i < slot_count f t → 0 < word_at f (position f t + 8 * i + 4) → (x : Item) × Has (items 2048 rs) x × (x.place ≡ word_at f (position f t + 8 * i + 4))
  owner_at t i l b h =
      let s = slot_at f (position f t) (slot_count f t) i b in
      let there : AllByRecursion (λ x. (j : ℕ) × Distance (slots_in f t) x j) (belonging t rs) =
      All-weaker (Has (belonging t rs)) (λ x. (j : ℕ) × Distance (slots_in f t) x j)
      (λ x m. let r = of_table rs t x m in let d = all-has (Rule4 f) (items 2048 rs) x placed r.0 in (d.0, subst (λ (u : ℕ). Distance (slots_in f u) x d.0) r.1 d.1))
      (belonging t rs) (all_has_itself (belonging t rs)) in
      let o = owned (belonging t rs) (slots_in f t) (belonging_in_file t rs) there (counted t l) i (subst (λ (z : Slot). 0 < z.place) (sym s) h) in
      let e : slot (slots_in f t) i ≡ entry o.0 = ap (slot (slots_in f t)) (sym o.4) ∙ o.3.holds in
      (o.0, (of_table rs t o.0 o.1).0, sym (ap (λ (z : Slot). z.place) e) ∙ ap (λ (z : Slot). z.place) s)

  -- a record at a smaller distance than an earlier one of its key
  overtakes : (x y : Item) (j k : ℕ) → Has (items 2048 rs) x → y.key ≡ x.key → y.place < x.place → Distance (slots_of f x) x j → Distance (slots_of f y) y k → j < k → Overtakes f y x.place
  overtakes x y j k hx ke pl dx dy l =
      let i = item_in f 2048 (position f 0) rs x reads hx in
      (k, j, dy, subst (λ (z : Item). Distance (slots_of f z) z j) i.0 dx, l, sym (ap (λ (z : Item). z.key) i.0) ∙ sym ke, pl, omega (arith, i.2))

  module _ (end low : ℕ) (here : end ≡ position f 0) (swept : Swept f end end low) where
    same : swept.before ≡ rs
    same = one_reading f 2048 end swept.before rs swept.reads (subst (λ (e : ℕ). Records f 2048 e rs) (sym here) reads)

    least : (y : Item) → Has (items 2048 rs) y → (q : ℕ) → Overtakes f y q → low ≤ q
    least y h =
        all-has (λ y. (q : ℕ) → Overtakes f y q → low ≤ q) (items 2048 rs) y (subst (λ (z : List Record). AllByRecursion (λ y. (q : ℕ) → Overtakes f y q → low ≤ q) (items 2048 z)) same swept.least) h

    -- a record before the lowest keeps rule 8
    keeps : (x : Item) → Has (items 2048 rs) x → x.place < low → Rule8 f rs x
    keeps x hx b y j k hy ke pl dx dy =
        ⊎_elim
        (λ (l : j < k). absurd (omega (arith, least y hy x.place (overtakes x y j k hx ke pl dx dy l))))
        (λ (l : k ≤ j). l)
        (cases_lt j k)

    pub swept_passes : end ≤ low → AllByRecursion (Rule8 f rs) (items 2048 rs)
    swept_passes e =
        All-weaker (Has (items 2048 rs)) (Rule8 f rs)
        (λ x hx. keeps x hx (let k = item_in f 2048 (position f 0) rs x reads hx in omega (arith, k.2)))
        (items 2048 rs) (all_has_itself (items 2048 rs))

    -- the lowest place is a record's
    lowest_in : (y : Item) → Overtakes f y low → Has (items 2048 rs) (item_at f low)
    lowest_in y o =
        let x = item_at f low in
        let t = table_of x.key in
        let S = slots_in f t in
        let long : length S ≡ slot_count f t = length_slots_at f (position f t) (slot_count f t) in
        let i = spot S x o.1 in
        let some : 0 < length S = omega (arith, o.3.within) in
        let b : i < slot_count f t = subst (λ (n : ℕ). i < n) long (mod-lt (home (length S) (hash_of x.key) + o.1) some) in
        let s = slot_at f (position f t) (slot_count f t) i b in
        let w : word_at f (position f t + 8 * i + 4) ≡ low = sym (ap (λ (z : Slot). z.place) s) ∙ ap (λ (z : Slot). z.place) o.3.holds in
        let a = owner_at t i (mod-lt (hash_of x.key) (omega arith)) b (omega (arith, o.6)) in
        let e : a.0.place ≡ low = a.2 ∙ w in
        subst (λ (z : Item). Has (items 2048 rs) z) ((item_in f 2048 (position f 0) rs a.0 reads a.1).0 ∙ ap (item_at f) e) a.1

    pub swept_breaks : low < end → FirstOf (items 2048 rs) (Rule8 f rs) (item_at f low)
    swept_breaks l =
        ⊎_elim
        (λ (a : low ≡ end). absurd (omega arith))
        (λ a.
        let y = a.0 in
        let o = a.2 in
        let hy : Has (items 2048 rs) y = subst (λ (z : List Record). Has (items 2048 z) y) same a.1 in
        let s = split_at f 2048 (position f 0) rs (item_at f low) reads (lowest_in y o) in
        record {
          before = s.0;
          after = s.1;
          among = s.2;
          kept = All-weaker (λ z. Has (items 2048 rs) z × (z.place < low)) (Rule8 f rs) (λ z h. keeps z h.0 h.1) s.0 s.3;
          broken = λ rule. absurd (omega (arith, o.4, rule y o.1 o.0 hy (sym o.5) o.6 o.3 o.2));
        })
        swept.from
