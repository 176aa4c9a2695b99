-- Members of lists, and of what a test keeps.
use Rattle.std.proofs.Common.{◌≡◌, Bool, true, false, List, [], ◌∷◌, ◌++◌, filter, sym, ap, ◌∙◌, subst, ⊎_elim}
use Rattle.std.specs.List.{ContainsAt as Has}
use Rattle.std.proofs.lemmas.Bool.{cases_Bool, cond-true, cond-false}
use Rattle.cdb.proofs.Pigeon.{has_nil, has_head, has_tail, has_cons_cases}

module _ {X : Type 0} where
  pub has_kept : (p : X → Bool) (xs : List X) (x : X) → Has (filter p xs) x → Has xs x × (p x ≡ true)
  has_kept p [] x h = absurd (has_nil x h)
  has_kept p (y ∷ xs) x h =
      ⊎_elim
      (λ (e : p y ≡ true).
      let k : Has (y ∷ filter p xs) x = subst (λ z. Has z x) (cond-true (p y) (y ∷ filter p xs) (filter p xs) e) h in
      ⊎_elim
      (λ (i : y ≡ x). (subst (λ z. Has (y ∷ xs) z) i (has_head y xs), subst (λ z. p z ≡ true) i e))
      (λ i. let r = has_kept p xs x i in (has_tail y xs x r.0, r.1))
      (has_cons_cases y (filter p xs) x k))
      (λ (e : p y ≡ false).
      let k : Has (filter p xs) x = subst (λ z. Has z x) (cond-false (p y) (y ∷ filter p xs) (filter p xs) e) h in
      let r = has_kept p xs x k in (has_tail y xs x r.0, r.1))
      (cases_Bool (p y))

  pub kept_has : (p : X → Bool) (xs : List X) (x : X) → Has xs x → p x ≡ true → Has (filter p xs) x
  kept_has p [] x h e = absurd (has_nil x h)
  kept_has p (y ∷ xs) x h e =
      ⊎_elim
      (λ (i : y ≡ x).
      let q : p y ≡ true = ap p i ∙ e in
      subst (λ z. Has z x) (sym (cond-true (p y) (y ∷ filter p xs) (filter p xs) q)) (subst (λ z. Has (y ∷ filter p xs) z) i (has_head y (filter p xs))))
      (λ i.
      let r = kept_has p xs x i e in
      ⊎_elim
      (λ (q : p y ≡ true). subst (λ z. Has z x) (sym (cond-true (p y) (y ∷ filter p xs) (filter p xs) q)) (has_tail y (filter p xs) x r))
      (λ (q : p y ≡ false). subst (λ z. Has z x) (sym (cond-false (p y) (y ∷ filter p xs) (filter p xs) q)) r)
      (cases_Bool (p y)))
      (has_cons_cases y xs x h)

  pub has_left : (xs ys : List X) (x : X) → Has xs x → Has (xs ++ ys) x
  has_left [] ys x h = absurd (has_nil x h)
  has_left (y ∷ xs) ys x h =
      ⊎_elim
      (λ (e : y ≡ x). subst (λ z. Has (y ∷ (xs ++ ys)) z) e (has_head y (xs ++ ys)))
      (λ i. has_tail y (xs ++ ys) x (has_left xs ys x i))
      (has_cons_cases y xs x h)

  pub has_last : (xs : List X) (x : X) → Has (xs ++ x ∷ []) x
  has_last [] x = has_head x []
  has_last (y ∷ xs) x = has_tail y (xs ++ x ∷ []) x (has_last xs x)
