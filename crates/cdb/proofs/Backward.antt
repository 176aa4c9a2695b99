-- A lawful table is a permitted filling: cut the circle at an empty slot, and put the items in slot order from there.
use Rattle.std.proofs.Common.{◌≡◌, ℕ, zero, suc, ◌+◌, ◌-◌, ◌%◌, ◌<◌, ◌≤◌, true, false, cond, ◌⊎◌, List, [], ◌∷◌, ◌++◌, length, get_or, set, replicate, count_by, sym, refl, ap, ◌∙◌, subst, inl, inr, ⊎_elim, add_assoc, mod-lt, mod-eq_of_lt, arith}
use native.Mathlib.Nat.{mod-eq-sub-mod, mod-add-mod, add-mod_right}
use Rattle.std.specs.List.{ContainsAt as Has, AllByRecursion}
use Rattle.std.proofs.lemmas.List.{get_or_append_left, get_or_push, length_push, get_or-replicate, length-replicate, nil_from_length, get_or_default, ext_get_or}
use Rattle.std.proofs.ByRecursion.{all-has, All-weaker, all_has_itself, has_push_cases, has_get_or}
use Rattle.std.proofs.lemmas.List.Sums.{sum_by-cons, count_by-le-length}
use Rattle.std.proofs.lemmas.Bool.{cond-true, cond-false, cases_Bool, cases_lt, cases_eq, cases_order, le-ltb}
use Rattle.cdb.proofs.Pigeon.{Differ, pigeon, has_nil}
use Rattle.cdb.proofs.Put.{spot_length, spot_key, not_both, put_new, put_other}
use Rattle.cdb.proofs.Forward.{taken, Held, held, Pairs, all_positive, two, at_most_one}
use Rattle.cdb.proofs.Owner.{owner}
use Rattle.cdb.specs.Records.{Item, hash_of}
use Rattle.cdb.specs.Tables.{Slot, blank, entry, slot, Empty, Filled, home, spot, Permitted, Distance, Roomy}
use Rattle.cdb.proofs.TableLaw.{PutsItem, FillsItems, start, put, InFile, LawfulTable}

mod_cases : (a n : ℕ) → a < n + n → (a % n ≡ a) ⊎ (a % n + n ≡ a)
mod_cases a n l =
    ⊎_elim (λ b. inl (mod-eq_of_lt b))
    (λ b. let d : a - n < n = omega arith in let e : a % n ≡ a - n = mod-eq-sub-mod b ∙ mod-eq_of_lt d in inr (omega arith))
    (cases_lt a n)

-- the slots counted from the slot e
abbrev pub pos : ℕ → ℕ → ℕ → ℕ
pos n e o = (e + o) % n

pub pos_one : (n e o p : ℕ) → e < n → o < n → p < n → pos n e o ≡ pos n e p → o ≡ p
pos_one n e o p le lo lp q =
    let a = mod_cases (e + o) n (omega arith) in
    let b = mod_cases (e + p) n (omega arith) in
    let c = mod-lt (e + o) {m = n} (omega arith) in
    omega arith

pub pos_all : (n e i : ℕ) → e < n → i < n → (o : ℕ) × (o < n) × (pos n e o ≡ i)
pos_all n e i le li =
    ⊎_elim
    (λ b. (i + n - e, omega arith, (let a = mod_cases (e + (i + n - e)) n (omega arith) in let c = mod-lt (e + (i + n - e)) {m = n} (omega arith) in omega arith)))
    (λ b. (i - e, omega arith, (let a = mod_cases (e + (i - e)) n (omega arith) in let c = mod-lt (e + (i - e)) {m = n} (omega arith) in omega arith)))
    (cases_lt i e)

pub same_item : (q : ℕ) (xs : List Item) → InFile q xs → (x y : Item) → Has xs x → Has xs y → x.place ≡ y.place → x ≡ y
same_item q xs f x y hx hy e =
    let at_x : (get_or xs hx.0 x).place ≡ y.place = ap (λ (v : Item). v.place) (hx.2 x) ∙ e in
    let at_y : (get_or xs hy.0 x).place ≡ y.place = ap (λ (v : Item). v.place) (hy.2 x) in
    let one = at_most_one y.place q xs f in
    ⊎_elim
    (λ same. sym (hx.2 x) ∙ ap (λ k. get_or xs k x) same ∙ hy.2 x)
    (λ o. ⊎_elim
    (λ l. absurd (omega (arith, two y.place xs hx.0 hy.0 x l hy.1 at_x at_y)))
    (λ l. absurd (omega (arith, two y.place xs hy.0 hx.0 x l hx.1 at_y at_x))) o)
    (cases_order hx.0 hy.0)

pub above : (q : ℕ) (xs : List Item) → InFile q xs → AllByRecursion (λ y. q < y.place) xs
above q [] f = tt
above q (x ∷ xs) f =
    (f.0, All-weaker (λ y. x.place < y.place) (λ y. q < y.place) (λ y l. omega (arith, f.0)) xs (above x.place xs f.1))

differ : (q : ℕ) (xs : List Item) → InFile q xs → Differ xs
differ q [] f = tt
differ q (x ∷ xs) f = (
  All-weaker (λ y. x.place < y.place) (λ y. x ≡ y → ⊥) (λ y l e. let z = ap (λ (v : Item). v.place) e in omega arith) xs (above x.place xs f.1),
  differ x.place xs f.1,
)

pairs_push : (R : Item → Item → Type 0) (xs : List Item) (x : Item) → Pairs R xs → ((y : Item) → Has xs y → R y x) → Pairs R (xs ++ x ∷ [])
pairs_push R xs x h g i j d l m =
    let m2 : j < length xs + 1 = rw (length_push xs x) at m in
    ⊎_elim
    (λ b. rw (get_or_append_left xs (x ∷ []) d i (omega arith), get_or_append_left xs (x ∷ []) d j b) (h i j d l b))
    (λ b. let e : length xs ≡ j = omega arith in
    rw (get_or_append_left xs (x ∷ []) d i (omega arith), get_or_push xs x d j e) (g (get_or xs i d) (has_get_or xs i d (omega arith))))
    (cases_lt j (length xs))

abbrev of : ℕ → ℕ → Slot
of h n = record { hash = h; place = n }

blank_from : (v : Slot) → v.hash ≡ 0 → v.place ≡ 0 → v ≡ blank
blank_from v a b =
    let left : v ≡ of 0 v.place = ap (λ h. of h v.place) a in
    left ∙ ap (λ n. of 0 n) b

count_less : (s : List Slot) (i : ℕ) → i < length s → Empty s i → count_by taken s < length s
count_less [] i l e = absurd (omega arith)
count_less (a ∷ s) zero l e =
    let c = sum_by-cons (λ v. cond (taken v) 1 0) a s in
    let n : ◌≡◌ {A = ℕ} (cond (taken a) 1 0) 0 = cond-false (taken a) 1 0 (le-ltb 0 a.place (omega arith)) in
    let r = count_by-le-length taken s in
    omega arith
count_less (a ∷ s) (suc i) l e =
    let c = sum_by-cons (λ v. cond (taken v) 1 0) a s in
    let n = count_by-le-length taken (a ∷ []) in
    let r = count_less s i (omega arith) e in
    ⊎_elim
    (λ (t : taken a ≡ true). let n : ◌≡◌ {A = ℕ} (cond (taken a) 1 0) 1 = cond-true (taken a) 1 0 t in omega arith)
    (λ (t : taken a ≡ false). let n : ◌≡◌ {A = ℕ} (cond (taken a) 1 0) 0 = cond-false (taken a) 1 0 t in omega arith)
    (cases_Bool (taken a))

abbrev Kept : Item → Item → Type 0
Kept a b = a.key ≡ b.key → a.place < b.place

-- the first k slots from e on are filled as in slots, and the others are empty
record Swept (items : List Item) (slots : List Slot) (e k : ℕ) : Type 0 where
  order : List Item
  table : List Slot
  fills : FillsItems (length slots) order table
  seen : (o : ℕ) → o < k → slot table (pos (length slots) e o) ≡ slot slots (pos (length slots) e o)
  unseen : (o : ℕ) → k ≤ o → o < length slots → Empty table (pos (length slots) e o)
  mine : (x : Item) → Has order x → Has items x × (o : ℕ) × (o < k) × (j : ℕ) × Distance slots x j × (spot slots x j ≡ pos (length slots) e o)
  kept : Pairs Kept order

module _ (items : List Item) (slots : List Slot) (f : InFile 0 items) (law : LawfulTable items slots) (e : ℕ) (le : e < length slots) (free : Empty slots e) where
  positive : (x : Item) → Has items x → 0 < x.place
  positive x h = all-has (λ y. 0 < y.place) items x (all_positive 0 items f) h

  -- no item's walk from its home crosses the empty slot
  run : (x : Item) (j : ℕ) → Has items x → Distance slots x j → (o : ℕ) × (o + j < length slots) × ((i : ℕ) → spot slots x i ≡ pos (length slots) e (o + i))
  run x j h d =
      let n = length slots in
      let hm : home n (hash_of x.key) < n = mod-lt _ (omega arith) in
      let r = pos_all n e (home n (hash_of x.key)) le hm in
      let o = r.0 in
      let lo : o < n = r.1 in
      let same : (i : ℕ) → spot slots x i ≡ pos n e (o + i) =
      λ i. ap (λ m. (m + i) % n) (sym r.2) ∙ mod-add-mod (e + o) n i ∙ ap (λ m. m % n) (add_assoc e o i) in
      let go : (o + j < n) ⊎ (n ≤ o + j) → o + j < n =
      ⊎_elim (λ l. l)
      (λ l.
      let i = n - o in
      let at_e : spot slots x i ≡ e = same i ∙ ap (λ m. (e + m) % n) (omega arith) ∙ add-mod_right e n ∙ mod-eq_of_lt le in
      let fill : Filled slots (spot slots x i) =
      ⊎_elim (λ b. d.passed i b)
      (λ b. let ij : i ≡ j = omega arith in rw (ij, d.holds) (positive x h)) (cases_lt i j) in
      absurd (not_both slots e (subst (Filled slots) at_e fill) free)) in
      (o, go (cases_lt (o + j) n), same)

  -- the start of the sweep
  sweep_none : Swept items slots e 0
  sweep_none =
      record {
        order = [];
        table = replicate (length slots) blank;
        fills = start;
        seen = λ o l. absurd (omega arith);
        unseen = λ o l m. ap (λ (v : Slot). v.place) (get_or-replicate (length slots) (pos (length slots) e o) blank blank (mod-lt (e + o) (omega arith)));
        mine = λ x h. absurd (has_nil x h);
        kept = λ i j d l m. absurd (omega arith);
      }

  module _ (k : ℕ) (lk : k < length slots) (w : Swept items slots e k) where
    hold : Held (length slots) w.order w.table
    hold = held (λ x h. positive x (w.mine x h).0) w.fills

    -- an empty slot is passed over
    sweep_empty : Empty slots (pos (length slots) e k) → Swept items slots e (suc k)
    sweep_empty em =
        record {
          order = w.order;
          table = w.table;
          fills = w.fills;
          seen = λ o l. ⊎_elim (λ b. w.seen o b)
              (λ b. let q : o ≡ k = omega arith in
              rw q
              (hold.clear (pos (length slots) e k) (w.unseen k (omega arith) lk)
              ∙ sym (blank_from (slot slots (pos (length slots) e k)) (law.clear (pos (length slots) e k) (mod-lt (e + k) (omega arith)) em) em)))
              (cases_lt o k);
          unseen = λ o l m. w.unseen o (omega arith) m;
          mine = λ x h. let r = w.mine x h in (r.0, r.1, omega (arith, r.2), r.3, r.4, r.5);
          kept = w.kept;
        }

    module _ (x : Item) (hx : Has items x) (j : ℕ) (d : Distance slots x j) (at_k : spot slots x j ≡ pos (length slots) e k) where
      -- x goes to the slot k from e on
      puts : PutsItem w.table x (set w.table (spot w.table x j) (entry x))
      puts =
          let n = length slots in
          let same = spot_length slots w.table hold.long x in
          let r = run x j hx d in
          let o = r.0 in
          let ok : o + j ≡ k = pos_one n e (o + j) k le r.1 lk (sym (r.2 j) ∙ at_k) in
          record {
            distance = j;
            within = rw hold.long d.within;
            free = subst (Empty w.table) (sym (same j ∙ at_k)) (w.unseen k (omega arith) lk);
            nearest = λ i l.
                let q : slot w.table (spot w.table x i) ≡ slot slots (spot slots x i) =
                ap (slot w.table) (same i ∙ r.2 i) ∙ w.seen (o + i) (omega arith) ∙ ap (slot slots) (sym (r.2 i)) in
                rw q (d.passed i l);
            after = refl;
          }

      -- an item of equal key that was put before stands before it in the file
      earlier : (y : Item) → Has w.order y → Kept y x
      earlier y hy key =
          let n = length slots in
          let m = w.mine y hy in
          let jy = m.3 in
          let dy = m.4 in
          let rx = run x j hx d in
          let ry = run y jy m.0 dy in
          let ok : rx.0 + j ≡ k = pos_one n e (rx.0 + j) k le rx.1 lk (sym (rx.2 j) ∙ at_k) in
          let oy : ry.0 + jy ≡ m.1 = pos_one n e (ry.0 + jy) m.1 le ry.1 (omega (arith, m.2)) (sym (ry.2 jy) ∙ m.5) in
          let z : pos n e (ry.0 + 0) ≡ pos n e (rx.0 + 0) = sym (ry.2 0) ∙ spot_key slots y x key 0 ∙ rx.2 0 in
          let so : ry.0 + 0 ≡ rx.0 + 0 = pos_one n e (ry.0 + 0) (rx.0 + 0) le (omega (arith, ry.1)) (omega (arith, rx.1)) z in
          let nearer : jy < j = omega (arith, m.2) in
          ⊎_elim
          (λ same. absurd (d.first jy nearer (ap (slot slots) (sym (spot_key slots y x key jy)) ∙ dy.holds ∙ (cc))))
          (λ o. ⊎_elim (λ l. l)
          (λ l. absurd (omega (arith, law.ordered y x jy j m.0 hx (sym key) l dy d))) o)
          (cases_order y.place x.place)

      sweep_filled : Swept items slots e (suc k)
      unfolding puts
      sweep_filled =
          let n = length slots in
          let t = set w.table (spot w.table x j) (entry x) in
          let p = puts in
          let at_t : spot w.table x j ≡ pos n e k = spot_length slots w.table hold.long x j ∙ at_k in
          let other : (o : ℕ) → o < n → (o ≡ k → ⊥) → slot t (pos n e o) ≡ slot w.table (pos n e o) =
          λ o l ne. put_other w.table x t p (pos n e o) (λ q. ne (pos_one n e o k le l lk (q ∙ at_t))) in
          record {
            order = w.order ++ x ∷ [];
            table = t;
            fills = put w.fills p;
            seen = λ o l. ⊎_elim (λ b. other o (omega arith) (λ q. omega arith) ∙ w.seen o b)
                (λ b. let q : o ≡ k = omega arith in
                rw q (ap (slot t) (sym at_t) ∙ put_new w.table x t p ∙ sym d.holds ∙ ap (slot slots) at_k))
                (cases_lt o k);
            unseen = λ o l m. rw (other o m (λ q. omega arith)) (w.unseen o (omega arith) m);
            mine = λ y h. ⊎_elim
                (λ b. let r = w.mine y b in (r.0, r.1, omega (arith, r.2), r.3, r.4, r.5))
                (λ q. subst (λ z. Has items z × (o : ℕ) × (o < suc k) × (i : ℕ) × Distance slots z i × (spot slots z i ≡ pos (length slots) e o)) q (hx, k, omega arith, j, d, at_k))
                (has_push_cases w.order x y h);
            kept = pairs_push Kept w.order x w.kept earlier;
          }

  sweep : (k : ℕ) → k ≤ length slots → Swept items slots e k
  sweep zero l = sweep_none
  sweep (suc k) l =
      let lk : k < length slots = omega arith in
      let w = sweep k (omega arith) in
      ⊎_elim
      (λ em. sweep_empty k lk w em)
      (λ ne.
      let r = owner items slots f law (pos (length slots) e k) (omega arith) in
      sweep_filled k lk w r.0 r.1 r.2 r.3 r.4)
      (cases_eq (slot slots (pos (length slots) e k)).place 0)

  swept : (order : List Item) × Permitted items order × FillsItems (length slots) order slots
  swept =
      let n = length slots in
      let w = sweep n (omega arith) in
      let h = held (λ x m. positive x (w.mine x m).0) w.fills in
      let same : w.table ≡ slots =
      ext_get_or blank w.table slots h.long
      (λ i l. let r = pos_all n e i le (omega (arith, h.long)) in
      ap (slot w.table) (sym r.2) ∙ w.seen r.0 r.1 ∙ ap (slot slots) r.2) in
      let count : count_by taken slots ≡ length w.order = subst (λ s. count_by taken s ≡ length w.order) same h.count in
      let each : (x : Item) → Has items x → Has w.order x =
      λ x m.
      let r = law.placed x m in
      let q : slot w.table (spot slots x r.0) ≡ entry x = ap (λ s. slot s (spot slots x r.0)) same ∙ r.1.holds in
      let o = h.whose (spot slots x r.0) (rw q (positive x m)) in
      subst (Has w.order)
      (same_item 0 items f o.0 x (w.mine o.0 o.1).0 m (ap (λ (v : Slot). v.place) (sym o.2 ∙ q))) o.1 in (
        w.order,
        record {
          same = pigeon items w.order (differ 0 items f) (sym law.counted ∙ count) (All-weaker (Has items) (Has w.order) each items (all_has_itself items));
          kept = w.kept;
        },
        subst (λ s. FillsItems n w.order s) same w.fills,
      )

pub backward : (items : List Item) (slots : List Slot) → InFile 0 items → LawfulTable items slots → Roomy (length items) (length slots) × ((order : List Item) × Permitted items order × FillsItems (length slots) order slots)
backward items [] f law =
    let none : items ≡ [] = nil_from_length items (sym law.counted) in (
      inr (sym law.counted, refl),
      ([], record { same = rw none (Rattle.std.proofs.lemmas.List.Sorted.IsPermutation-refl []); kept = λ i j d l m. absurd (omega arith) }, start),
    )
backward items (a ∷ s) f law =
    let r = law.room (omega arith) in (
      inl (omega (arith, law.counted, count_less (a ∷ s) r.0 r.1 r.2)),
      swept items (a ∷ s) f law r.0 r.1 r.2,
    )
