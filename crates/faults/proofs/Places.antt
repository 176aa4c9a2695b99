-- Faults to which a place was added.
use Rattle.std.proofs.Common.{◌≡◌, ℕ, Ok, Err, Result, refl, subst, IsErrAnd}
use Rattle.std.proofs.lemmas.Result.{err_from_is_err_and}
use Rattle.std.specs.Result.{result_map_both}
use Rattle.faults.specs.declared.file.Located.{Located}
use Rattle.faults.specs.Reports.{located}

module _ {T F : Type 0} where
  -- what was refused, where it is refused with a place
  pub add_place_err : (r : Result T F) (q : Result T (Located F)) (l : Located F) (t p : ℕ) → q ≡ result_map_both (λ x. x) (λ f. located f t p) r → q ≡ Err l
      → (f : F) × (r ≡ Err f) × (l ≡ located f t p)
  add_place_err (Ok x) q l t p e g = absurd cc
  add_place_err (Err f) q l t p e g = (f, refl, cc)

  -- what was done is done
  pub add_place_ok : (r : Result T F) (q : Result T (Located F)) (x : T) (t p : ℕ) → q ≡ result_map_both (λ x. x) (λ f. located f t p) r → q ≡ Ok x → r ≡ Ok x
  add_place_ok (Ok y) q x t p e g = cc
  add_place_ok (Err f) q x t p e g = cc

  -- what is known of a result to whose fault a place was added: where it is done
  pub placed_ok : (P : Result T F → Type 0) (t p : ℕ) {r : Result T F} {q : Result T (Located F)} {x : T} → q ≡ result_map_both (λ x. x) (λ f. located f t p) r → q ≡ Ok x → P r → P (Ok x)
  placed_ok P t p {r} {q} {x} e g h = subst P (add_place_ok r q x t p e g) h

  -- and where a `?` hands its refusal on
  pub placed_err : {U E : Type 0} (P : Result T F → Type 0) (Q : Result U E → Type 0) (K : Located F → E) (t p : ℕ) {r : Result T F} {q : Result T (Located F)} {l : Located F} {s : Result U E}
      → q ≡ result_map_both (λ x. x) (λ f. located f t p) r → q ≡ Err l → IsErrAnd s (λ y. y ≡ K l) → P r → ((f : F) → P (Err f) → Q (Err (K (located f t p)))) → Q s
  placed_err P Q K t p {r} {q} {l} {s} e g i h k =
      let b = add_place_err r q l t p e g in
      let y = err_from_is_err_and s i in
      rw (y.1, y.2, b.2) (k b.0 (subst P b.1 h))
