-- Where a text is refused.
use Rattle.std.proofs.Common.{◌≡◌, ℕ, ◌+◌, ◌<◌, ◌≤◌, List, [], ◌∷◌, ◌++◌, length, take, drop, sym, refl, ap, ◌∙◌, subst, ⊎_elim, append_assoc, arith, length-append}
use Rattle.std.proofs.lemmas.Bool.{cases_lt}
use Rattle.std.proofs.lemmas.List.{take_at, take_all, take-take, take-append-drop}
use Rattle.text.specs.Texts.{Text, Begins, Refused}

-- a longer beginning starts with the byte that is not taken
longer : (u F : List ℕ) (b : ℕ) (s : List ℕ) (m : ℕ) → u ≡ F ++ (b ∷ s) → length F < m → take m u ≡ F ++ (b ∷ drop (length F + 1) (take m u))
longer u F b s m e l =
    let n = length F + 1 in
    let f : u ≡ (F ++ (b ∷ [])) ++ s = e ∙ sym (append_assoc F (b ∷ []) s) in
    let t : take n (take m u) ≡ F ++ (b ∷ []) =
    take-take n m u (omega arith) ∙ ap (take n) f ∙ take_at (F ++ (b ∷ [])) s n (length-append F (b ∷ [])) in
    sym (take-append-drop n (take m u)) ∙ ap (λ (z : List ℕ). z ++ drop n (take m u)) t ∙ append_assoc F (b ∷ []) (drop n (take m u))

pub stuck_at : (u F : List ℕ) (b : ℕ) (s : List ℕ) → u ≡ F ++ (b ∷ s) → Begins F → ((v : List ℕ) → Text (F ++ (b ∷ v)) → ⊥) → Refused u (length F)
stuck_at u F b s e alive dead =
    record {
      within = omega (arith, ap length e, length-append F (b ∷ s));
      begins = subst Begins (sym (ap (take (length F)) e ∙ take_at F (b ∷ s) (length F) refl)) alive;
      longest = λ m l g.
          ⊎_elim
          (λ (k : length F < m).
          let v = drop (length F + 1) (take m u) in
          absurd (dead (v ++ g.0)
          (subst Text (ap (λ (z : List ℕ). z ++ g.0) (longer u F b s m e k) ∙ append_assoc F (b ∷ v) g.0) g.1)))
          (λ (k : m ≤ length F). k) (cases_lt (length F) m);
      refused = λ x. dead s (subst Text e x);
    }

pub stuck_end : (u : List ℕ) → Begins u → (Text u → ⊥) → Refused u (length u)
stuck_end u alive dead =
    record {
      within = omega arith;
      begins = subst Begins (sym (take_all (length u) u (omega arith))) alive;
      longest = λ m l g. l;
      refused = dead;
    }
