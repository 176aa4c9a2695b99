-- Every filled slot of a lawful table holds an item, at that item's distance.
use Rattle.std.proofs.Common.{◌≡◌, ℕ, zero, suc, ◌+◌, ◌<◌, true, false, cond, ltb, List, [], ◌∷◌, length, count_by, sym, refl, ap, ◌∙◌, subst, ⊎_elim, add-zero, arith}
use Rattle.std.specs.List.{ContainsAt as Has, AllByRecursion}
use Rattle.std.proofs.ByRecursion.{All-weaker, all_has_itself, has_shuffled}
use Rattle.std.proofs.lemmas.List.Sums.{sum_by-cons}
use Rattle.std.proofs.lemmas.List.Sorted.{IsPermutation-sym}
use Rattle.std.proofs.lemmas.Bool.{lt-ltb, cond-true, cond-false, cases_Bool}
use Rattle.cdb.proofs.Pigeon.{Differ, pigeon, has_nil, has_head, has_tail, has_cons_cases}
use Rattle.cdb.proofs.Forward.{taken}
use Rattle.cdb.specs.Records.{Item}
use Rattle.cdb.specs.Tables.{Slot, slot, Filled, spot, Distance}
use Rattle.cdb.proofs.TableLaw.{InFile, LawfulTable}

-- the numbers of the filled slots, of which the first is the slot b
filled_from : ℕ → List Slot → List ℕ
filled_from b [] = []
filled_from b (a ∷ s) = cond (taken a) (b ∷ filled_from (suc b) s) (filled_from (suc b) s)

length_filled : (b : ℕ) (s : List Slot) → length (filled_from b s) ≡ count_by taken s
unfolding filled_from
length_filled b [] = refl
length_filled b (a ∷ s) =
    let c = sum_by-cons (λ e. cond (taken e) 1 0) a s in
    let r = length_filled (suc b) s in
    ⊎_elim
    (λ (e : taken a ≡ true). let n : ◌≡◌ {A = ℕ} (cond (taken a) 1 0) 1 = cond-true (taken a) 1 0 e in
    rw (cond-true (taken a) (b ∷ filled_from (suc b) s) (filled_from (suc b) s) e) (omega arith))
    (λ (e : taken a ≡ false). let n : ◌≡◌ {A = ℕ} (cond (taken a) 1 0) 0 = cond-false (taken a) 1 0 e in
    rw (cond-false (taken a) (b ∷ filled_from (suc b) s) (filled_from (suc b) s) e) (omega arith))
    (cases_Bool (taken a))

has_filled : (b : ℕ) (s : List Slot) (i : ℕ) → Filled s i → Has (filled_from b s) (b + i)
unfolding filled_from
has_filled b [] i f = absurd (omega arith)
has_filled b (a ∷ s) zero f =
    rw (cond-true (taken a) (b ∷ filled_from (suc b) s) (filled_from (suc b) s) (lt-ltb 0 a.place f), add-zero b)
    (has_head b (filled_from (suc b) s))
has_filled b (a ∷ s) (suc i) f =
    let r : Has (filled_from (suc b) s) (b + suc i) = subst (Has (filled_from (suc b) s)) (omega arith) (has_filled (suc b) s i f) in
    ⊎_elim
    (λ e. rw (cond-true (taken a) (b ∷ filled_from (suc b) s) (filled_from (suc b) s) e) (has_tail b (filled_from (suc b) s) (b + suc i) r))
    (λ e. rw (cond-false (taken a) (b ∷ filled_from (suc b) s) (filled_from (suc b) s) e) r)
    (cases_Bool (taken a))

module _ (slots : List Slot) where
  -- the slots of the items
  spots_of : (xs : List Item) → AllByRecursion (λ x. (j : ℕ) × Distance slots x j) xs → List ℕ
  spots_of [] h = []
  spots_of (x ∷ xs) h = spot slots x h.0.0 ∷ spots_of xs h.1

  length_spots_of : (xs : List Item) (h : AllByRecursion (λ x. (j : ℕ) × Distance slots x j) xs) → length (spots_of xs h) ≡ length xs
  unfolding spots_of
  length_spots_of [] h = refl
  length_spots_of (x ∷ xs) h = ap suc (length_spots_of xs h.1)

  slots_above : (q : ℕ) (xs : List Item) (h : AllByRecursion (λ x. (j : ℕ) × Distance slots x j) xs) → InFile q xs → AllByRecursion (λ i. q < (slot slots i).place) (spots_of xs h)
  unfolding spots_of
  slots_above q [] h f = tt
  slots_above q (x ∷ xs) h f = (
    rw h.0.1.holds f.0,
    All-weaker (λ i. x.place < (slot slots i).place) (λ i. q < (slot slots i).place) (λ i l. omega (arith, f.0)) (spots_of xs h.1)
        (slots_above x.place xs h.1 f.1),
  )

  slots_differ : (q : ℕ) (xs : List Item) (h : AllByRecursion (λ x. (j : ℕ) × Distance slots x j) xs) → InFile q xs → Differ (spots_of xs h)
  unfolding spots_of
  slots_differ q [] h f = tt
  slots_differ q (x ∷ xs) h f =
      let here = ap (λ (v : Slot). v.place) h.0.1.holds in (
        All-weaker (λ i. x.place < (slot slots i).place) (λ i. spot slots x h.0.0 ≡ i → ⊥)
            (λ i l e. let z = ap (λ n. (slot slots n).place) e in omega arith) (spots_of xs h.1)
            (slots_above x.place xs h.1 f.1),
        slots_differ x.place xs h.1 f.1,
      )

  slots_owned : (xs : List Item) (h : AllByRecursion (λ x. (j : ℕ) × Distance slots x j) xs) (i : ℕ) → Has (spots_of xs h) i → (x : Item) × Has xs x × (j : ℕ) × Distance slots x j × (spot slots x j ≡ i)
  unfolding spots_of
  slots_owned [] h i m = absurd (has_nil i m)
  slots_owned (x ∷ xs) h i m =
      ⊎_elim
      (λ e. (x, has_head x xs, h.0.0, h.0.1, e))
      (λ o. let r = slots_owned xs h.1 i o in (r.0, has_tail x xs r.0 r.1, r.2, r.3, r.4))
      (has_cons_cases (spot slots x h.0.0) (spots_of xs h.1) i m)

-- two of the rules are enough: every item has a distance, and the filled slots are as many as the items
pub owned : (items : List Item) (slots : List Slot) → InFile 0 items → AllByRecursion (λ x. (j : ℕ) × Distance slots x j) items → count_by (λ s. ltb 0 s.place) slots ≡ length items
    → (i : ℕ) → Filled slots i → (x : Item) × Has items x × (j : ℕ) × Distance slots x j × (spot slots x j ≡ i)
owned items slots f h counted i m =
    let F = filled_from 0 slots in
    let is = spots_of slots items h in
    let in_f : (k : ℕ) → 0 < (slot slots k).place → Has F k = λ k l. subst (Has F) (omega arith) (has_filled 0 slots k l) in
    let s = pigeon is F (slots_differ slots 0 items h f) (length_spots_of slots items h ∙ sym counted ∙ sym (length_filled 0 slots))
    (All-weaker (λ k. 0 < (slot slots k).place) (Has F) in_f is (slots_above slots 0 items h f)) in
    slots_owned slots items h i (has_shuffled F is i (IsPermutation-sym is F s) (in_f i m))

pub owner : (items : List Item) (slots : List Slot) → InFile 0 items → LawfulTable items slots → (i : ℕ) → Filled slots i → (x : Item) × Has items x × (j : ℕ) × Distance slots x j × (spot slots x j ≡ i)
owner items slots f law i m =
    owned items slots f (All-weaker (Has items) (λ x. (j : ℕ) × Distance slots x j) law.placed items (all_has_itself items)) law.counted i m
