-- A permitted filling is lawful.
use Rattle.std.proofs.Common.{◌≡◌, ℕ, zero, suc, ◌+◌, ◌-◌, ◌<◌, ◌≤◌, Bool, true, cond, eqb, ltb, List, [], ◌∷◌, ◌++◌, length, get_or, take, drop, replicate, sum_by, count_by, sym, refl, ap, ◌∙◌, subst, ⊎_elim, arith}
use Rattle.std.specs.List.{ContainsAt as Has, AllByRecursion}
use Rattle.std.proofs.lemmas.List.{get_or_append_left, get_or_push, length_push, length-replicate, get_or-replicate, get_or_past, get_or-take, get_or-drop, length-take-le, length-drop}
use Rattle.std.proofs.ByRecursion.{has_append_left, has_push, has_push_cases, all-has, has_shuffled, all_shuffled}
use Rattle.std.proofs.lemmas.List.Sums.{sum_by-cons, sum_by-take-drop, get_or-le-sum_by}
use Rattle.std.proofs.lemmas.List.Sorted.{sum_by-IsPermutation, length_permutation}
use Rattle.std.proofs.lemmas.Bool.{cond-true, cond-false, cases_Bool, cases_lt, cases_eq, eq-eqb, ltb-false, ne_eqb}
use Rattle.cdb.proofs.Pigeon.{has_nil}
use Rattle.cdb.proofs.Put.{not_both, distance_one, put_length, put_new, put_other, put_keeps, put_stands, put_farther, put_count}
use Rattle.cdb.specs.Records.{Item}
use Rattle.cdb.specs.Tables.{Slot, blank, entry, slot, Empty, Filled, spot, Permitted, Distance, Roomy}
use Rattle.cdb.proofs.TableLaw.{PutsItem, FillsItems, start, put, InFile, LawfulTable}

abbrev pub taken : Slot → Bool
taken e = ltb 0 e.place

-- every slot of the empty table is blank
blank_slot : (len i : ℕ) → slot (replicate len blank) i ≡ blank
blank_slot len i =
    ⊎_elim (λ l. get_or-replicate len i blank blank l)
    (λ l. get_or_past (replicate len blank) i blank (rw (length-replicate len blank) l)) (cases_lt i len)

blank_count : (len : ℕ) → count_by taken (replicate len blank) ≡ 0
blank_count zero = refl
blank_count (suc n) = sum_by-cons (λ e. cond (taken e) 1 0) blank (replicate n blank) ∙ rw (blank_count n)

-- what holds of any filling
pub record Held (len : ℕ) (order : List Item) (s : List Slot) : Type 0 where
  pub long : length s ≡ len
  pub whose : (i : ℕ) → Filled s i → (y : Item) × Has order y × (slot s i ≡ entry y)
  pub count : count_by taken s ≡ length order
  pub clear : (i : ℕ) → Empty s i → slot s i ≡ blank

held_put : {len : ℕ} {order : List Item} {s t : List Slot} {x : Item} → 0 < x.place → Held len order s → PutsItem s x t → Held len (order ++ x ∷ []) t
held_put {len} {order} {s} {t} {x} pos h p =
    record {
      long = put_length s x t p ∙ h.long;
      whose = λ i f. ⊎_elim
          (λ e. (x, has_push order x, rw e (put_new s x t p)))
          (λ n. let q = put_other s x t p i n in let r = h.whose i (rw (← q) f) in (r.0, has_append_left order (x ∷ []) r.0 r.1, q ∙ r.2))
          (cases_eq i (spot s x p.distance));
      count = rw (put_count s x t p pos, h.count, length_push order x);
      clear = λ i f. ⊎_elim
          (λ e. absurd (let z : x.place ≡ 0 = ap (λ (v : Slot). v.place) (sym (put_new s x t p)) ∙ subst (Empty t) e f in omega arith))
          (λ n. let q = put_other s x t p i n in q ∙ h.clear i (rw (← q) f))
          (cases_eq i (spot s x p.distance));
    }

pub held : {len : ℕ} {order : List Item} {s : List Slot} → ((x : Item) → Has order x → 0 < x.place) → FillsItems len order s → Held len order s
held {len} pos start =
    record {
      long = length-replicate len blank;
      whose = λ i f. absurd (not_both (replicate len blank) i f (ap (λ (v : Slot). v.place) (blank_slot len i)));
      count = blank_count len;
      clear = λ i e. blank_slot len i;
    }
held {len} pos (put {order} {s} {t} {x} f p) =
    held_put (pos x (has_push order x)) (held (λ y h. pos y (has_append_left order (x ∷ []) y h)) f) p

abbrev pub Pairs : (Item → Item → Type 0) → List Item → Type 0
Pairs R xs = (i j : ℕ) (d : Item) → i < j → j < length xs → R (get_or xs i d) (get_or xs j d)

pairs_front : (R : Item → Item → Type 0) (xs : List Item) (x : Item) → Pairs R (xs ++ x ∷ []) → Pairs R xs
pairs_front R xs x h i j d l m =
    let a : j < length (xs ++ x ∷ []) = rw (length_push xs x) (omega arith) in
    let r = h i j d l a in
    rw (get_or_append_left xs (x ∷ []) d i (omega arith), get_or_append_left xs (x ∷ []) d j m) at r

pairs_last : (R : Item → Item → Type 0) (xs : List Item) (x : Item) → Pairs R (xs ++ x ∷ []) → (y : Item) → Has xs y → R y x
pairs_last R xs x h y m =
    let a : length xs < length (xs ++ x ∷ []) = rw (length_push xs x) (omega arith) in
    let r = h m.0 (length xs) x m.1 a in
    rw (get_or_append_left xs (x ∷ []) x m.0 m.1, get_or_push xs x x (length xs) refl, m.2 x) at r

-- a is put before b: another place, and an earlier one if the keys are equal
abbrev pub Before : Item → Item → Type 0
Before a b = (a.place ≡ b.place → ⊥) × (a.key ≡ b.key → a.place < b.place)

pub record Stands (order : List Item) (s : List Slot) : Type 0 where
  pub placed : (x : Item) → Has order x → (j : ℕ) × Distance s x j
  pub ordered : (x y : Item) (j k : ℕ) → Has order x → Has order y → y.key ≡ x.key → y.place < x.place → Distance s x j → Distance s y k → k ≤ j

module _ (len : ℕ) (order : List Item) (s t : List Slot) (x : Item) (pos : (y : Item) → Has order y → 0 < y.place) (pos_x : 0 < x.place)
    (h : Held len order s) (g : Stands order s) (p : PutsItem s x t) (b : (y : Item) → Has order y → Before y x) where
  new : Distance t x p.distance
  new =
      put_stands s x t p
      (λ i f e. let r = h.whose i f in (b r.0 r.1).0 (ap (λ (v : Slot). v.place) (sym r.2) ∙ e))

  old : (y : Item) → Has order y → (j : ℕ) × Distance s y j × Distance t y j
  old y m = let r = g.placed y m in (r.0, r.1, put_keeps s x t p y r.0 (pos y m) r.1)

  stands_put : Stands (order ++ x ∷ []) t
  stands_put =
      record {
        placed = λ y m. ⊎_elim (λ o. let r = old y o in (r.0, r.2)) (λ e. (p.distance, subst (λ z. Distance t z p.distance) e new)) (has_push_cases order x y m);
        ordered = λ u v j k mu mv e l du dv. ⊎_elim
            (λ ou. ⊎_elim
            (λ ov.
            let ru = old u ou in
            let rv = old v ov in
            let a = distance_one du ru.2 in
            let c = distance_one dv rv.2 in
            let z = g.ordered u v ru.0 rv.0 ou ov e l ru.1 rv.1 in omega arith)
            (λ ev. absurd (let w = (b u ou).1 (rw ev (sym e)) in let w2 : u.place < v.place = rw ev at w in omega arith))
            (has_push_cases order x v mv))
            (λ eu. ⊎_elim
            (λ ov.
            let rv = old v ov in
            let a = distance_one (subst (λ z. Distance t z j) (sym eu) du) new in
            let c = distance_one dv rv.2 in
            let z = put_farther s x t p v rv.0 (rw eu e) rv.1 in omega arith)
            (λ ev. absurd (let w : u.place ≡ v.place = rw (← eu, ← ev) in omega arith))
            (has_push_cases order x v mv))
            (has_push_cases order x u mu);
      }

pub stands : {len : ℕ} {order : List Item} {s : List Slot} → ((x : Item) → Has order x → 0 < x.place) → Pairs Before order → FillsItems len order s → Stands order s
stands {len} pos ps start =
    record { placed = λ x m. absurd (has_nil x m); ordered = λ x y j k m. absurd (has_nil x m) }
stands {len} pos ps (put {order} {s} {t} {x} f p) =
    let pos' : (y : Item) → Has order y → 0 < y.place = λ y h. pos y (has_append_left order (x ∷ []) y h) in
    stands_put len order s t x pos' (pos x (has_push order x)) (held pos' f) (stands pos' (pairs_front Before order x ps) f) p
    (pairs_last Before order x ps)

-- how many items of a list have the place p
abbrev pub at_place : ℕ → Item → ℕ
at_place p x = cond (eqb x.place p) 1 0

at_place_yes : (p : ℕ) (x : Item) → x.place ≡ p → at_place p x ≡ 1
at_place_yes p x e = cond-true (eqb x.place p) 1 0 (eq-eqb x.place p e)

at_place_no : (p : ℕ) (x : Item) → (x.place ≡ p → ⊥) → at_place p x ≡ 0
at_place_no p x n = cond-false (eqb x.place p) 1 0 (ne_eqb x.place p n)

none_below : (p q : ℕ) (xs : List Item) → InFile q xs → p ≤ q → sum_by (at_place p) xs ≡ 0
none_below p q [] h l = refl
none_below p q (x ∷ xs) h l =
    let a = at_place_no p x (λ e. omega (arith, h.0)) in
    let r = none_below p x.place xs h.1 (omega (arith, h.0)) in
    sum_by-cons (at_place p) x xs ∙ omega arith

pub at_most_one : (p q : ℕ) (xs : List Item) → InFile q xs → sum_by (at_place p) xs ≤ 1
at_most_one p q [] h = omega arith
at_most_one p q (x ∷ xs) h =
    rw (sum_by-cons (at_place p) x xs)
    (⊎_elim
    (λ e. let a = at_place_yes p x e in let r = none_below p x.place xs h.1 (omega arith) in omega arith)
    (λ n. let a = at_place_no p x n in let r = at_most_one p x.place xs h.1 in omega arith)
    (cases_eq x.place p))

pub two : (p : ℕ) (xs : List Item) (i j : ℕ) (d : Item) → i < j → j < length xs → (get_or xs i d).place ≡ p → (get_or xs j d).place ≡ p → 2 ≤ sum_by (at_place p) xs
two p xs i j d l m ei ej =
    let c = sum_by-take-drop (at_place p) xs (suc i) in
    let n : i < length (take (suc i) xs) = rw (length-take-le (suc i) xs (omega arith)) (omega arith) in
    let k : j - suc i < length (drop (suc i) xs) = rw (length-drop (suc i) xs) (omega arith) in
    let a = get_or-le-sum_by (at_place p) (take (suc i) xs) i d n in
    let b = get_or-le-sum_by (at_place p) (drop (suc i) xs) (j - suc i) d k in
    let fi : at_place p (get_or (take (suc i) xs) i d) ≡ 1 = at_place_yes p (get_or (take (suc i) xs) i d) (rw (get_or-take (suc i) xs i d (omega arith)) ei) in
    let s : suc i + (j - suc i) ≡ j = omega arith in
    let fj : at_place p (get_or (drop (suc i) xs) (j - suc i) d) ≡ 1 =
    at_place_yes p (get_or (drop (suc i) xs) (j - suc i) d) (rw (get_or-drop (suc i) xs (j - suc i) d, s) ej) in
    omega arith

before : (items order : List Item) → InFile 0 items → Permitted items order → Pairs Before order
before items order f m i j d l k = (
  (λ e.
      let p = (get_or order j d).place in
      let a = two p order i j d l k e refl in
      let b = at_most_one p 0 items f in
      let c = sum_by-IsPermutation (at_place p) items order m.same in omega arith),
  m.kept i j d l k,
)

pub all_positive : (q : ℕ) (xs : List Item) → InFile q xs → AllByRecursion (λ x. 0 < x.place) xs
all_positive q [] h = tt
all_positive q (x ∷ xs) h = (omega (arith, h.0), all_positive x.place xs h.1)

pub empty_slot : (s : List Slot) → count_by taken s < length s → (i : ℕ) × (i < length s) × Empty s i
empty_slot [] h = absurd (omega arith)
empty_slot (a ∷ s) h =
    let c = sum_by-cons (λ e. cond (taken e) 1 0) a s in
    ⊎_elim
    (λ (e : taken a ≡ true).
    let o : ◌≡◌ {A = ℕ} (cond (taken a) 1 0) 1 = cond-true (taken a) 1 0 e in
    let r = empty_slot s (omega arith) in (suc r.0, omega (arith, r.1), r.2))
    (λ e. (0, omega arith, omega (arith, ltb-false 0 a.place e)))
    (cases_Bool (taken a))

pub forward : (items : List Item) (slots : List Slot) → InFile 0 items → Roomy (length items) (length slots) → (order : List Item) → Permitted items order → FillsItems (length slots) order slots → LawfulTable items slots
forward items slots f room order m fill =
    let pos : (x : Item) → Has order x → 0 < x.place =
    λ x h. all-has (λ y. 0 < y.place) order x (all_shuffled (λ y. 0 < y.place) items order m.same (all_positive 0 items f)) h in
    let h = held pos fill in
    let g = stands pos (before items order f m) fill in
    let in_order : (x : Item) → Has items x → Has order x = λ x k. has_shuffled items order x m.same k in
    let len = length_permutation items order m.same in
    record {
      placed = λ x k. g.placed x (in_order x k);
      counted = h.count ∙ len;
      room = λ l. empty_slot slots (rw (h.count, len) (omega arith));
      clear = λ i l e. ap (λ (v : Slot). v.hash) (h.clear i e);
      ordered = λ x y j k hx hy. g.ordered x y j k (in_order x hx) (in_order y hy);
    }
