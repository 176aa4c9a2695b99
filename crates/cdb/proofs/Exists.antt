-- Where there is room, every order fills a table.
use Rattle.std.proofs.Common.{◌≡◌, ℕ, zero, suc, ◌+◌, ◌<◌, List, [], ◌∷◌, ◌++◌, length, set, replicate, count_by, sym, refl, subst, ⊎_elim, mod-lt, arith}
use Rattle.std.specs.List.{ContainsAt as Has}
use Rattle.std.proofs.lemmas.List.{length_push, append_assoc, append-nil}
use Rattle.std.proofs.ByRecursion.{has_append_left}
use Rattle.std.proofs.lemmas.Bool.{cases_eq}
use Rattle.cdb.proofs.Forward.{taken, empty_slot, held}
use Rattle.cdb.proofs.Backward.{pos_all}
use Rattle.cdb.specs.Records.{Item, hash_of}
use Rattle.cdb.specs.Tables.{Slot, blank, entry, slot, Empty, Filled, home, spot}
use Rattle.cdb.proofs.TableLaw.{PutsItem, FillsItems, start, put}

-- the first empty slot from distance j on, if there is one at a distance j + n
nearest : (s : List Slot) (x : Item) (n j : ℕ) → ((i : ℕ) → i < j → Filled s (spot s x i)) → j + n < length s → Empty s (spot s x (j + n)) → (t : List Slot) × PutsItem s x t
nearest s x zero j below l e =
    let z : j + 0 ≡ j = omega arith in
    (set s (spot s x j) (entry x), record { distance = j; within = omega arith; free = subst (λ k. Empty s (spot s x k)) z e; nearest = below; after = refl })
nearest s x (suc n) j below l e =
    ⊎_elim
    (λ here. (set s (spot s x j) (entry x), record { distance = j; within = omega arith; free = here; nearest = below; after = refl }))
    (λ ne.
    let z : j + suc n ≡ suc j + n = omega arith in
    nearest s x n (suc j)
    (λ i m. ⊎_elim (λ (q : i ≡ j). subst (λ k. Filled s (spot s x k)) (sym q) (omega arith)) (λ nq. below i (omega arith)) (cases_eq i j))
    (omega arith) (subst (λ k. Empty s (spot s x k)) z e))
    (cases_eq (slot s (spot s x j)).place 0)

pub put_exists : (s : List Slot) (x : Item) → count_by taken s < length s → (t : List Slot) × PutsItem s x t
put_exists s x l =
    let n = length s in
    let e = empty_slot s l in
    let o = pos_all n (home n (hash_of x.key)) e.0 (mod-lt _ (omega arith)) e.1 in
    let z : o.0 ≡ 0 + o.0 = omega arith in
    nearest s x o.0 0 (λ i m. absurd (omega arith)) (omega (arith, o.1))
    (subst (λ k. Empty s (spot s x k)) z (subst (Empty s) (sym o.2) e.2))

-- goes on with a filling
fills_more : (len : ℕ) (done todo : List Item) (s : List Slot) → ((x : Item) → Has (done ++ todo) x → 0 < x.place) → length done + length todo < len → FillsItems len done s → (t : List Slot) × FillsItems len (done ++ todo) t
fills_more len done [] s pos l f = (s, subst (λ o. FillsItems len o s) (sym (append-nil done)) f)
fills_more len done (x ∷ todo) s pos l f =
    let h = held (λ y m. pos y (has_append_left done (x ∷ todo) y m)) f in
    let p = put_exists s x (rw (h.count, h.long) (omega arith)) in
    let same : (done ++ x ∷ []) ++ todo ≡ done ++ x ∷ todo = append_assoc done (x ∷ []) todo in
    let r = fills_more len (done ++ x ∷ []) todo p.0 (λ y m. pos y (subst (λ o. Has o y) same m)) (rw (length_push done x) (omega arith)) (put f p.1) in
    (r.0, subst (λ o. FillsItems len o r.0) same r.1)

pub fills_exists : (len : ℕ) (order : List Item) → ((x : Item) → Has order x → 0 < x.place) → length order < len → (t : List Slot) × FillsItems len order t
fills_exists len order pos l = fills_more len [] order (replicate len blank) pos (omega arith) start
