-- Records that stand one behind the other: joined, split, counted.
use Rattle.std.proofs.Common.{◌≡◌, ℕ, ◌+◌, ◌≤◌, List, [], ◌∷◌, ◌++◌, length, sym, refl, subst, arith}
use Rattle.std.proofs.lemmas.List.{length_push}
use Rattle.cdb.specs.Records.{Record, Records, size}

-- records end behind their start
pub forward : (f : List ℕ) (p q : ℕ) (rs : List Record) → Records f p q rs → p ≤ q
forward f p q [] h = omega arith
forward f p q (r ∷ rs) h = omega (arith, h.4)

pub joined : (f : List ℕ) (p q t : ℕ) (rs ss : List Record) → Records f p q rs → Records f q t ss → Records f p t (rs ++ ss)
joined f p q t [] ss a b = subst (λ (n : ℕ). Records f n t ss) (sym a) b
joined f p q t (r ∷ rs) ss a b =
    (a.0, a.1, a.2, a.3, omega (arith, a.4, forward f q t ss b), joined f (p + size r) q t rs ss a.5 b)

-- what follows the first of some records
pub rest : (f : List ℕ) (p q t : ℕ) (rs ss : List Record) → Records f p t (rs ++ ss) → Records f p q rs → Records f q t ss
rest f p q t [] ss a b = subst (λ (n : ℕ). Records f n t ss) b a
rest f p q t (r ∷ rs) ss a b = rest f (p + size r) q t rs ss a.5 b.5

-- the records met on the way from one place to another
pub record Walked (f : List ℕ) (p q n : ℕ) : Type 0 where
  pub met : List Record
  pub stand : Records f p q met
  pub counted : n ≡ length met

pub none : (f : List ℕ) (p : ℕ) → Walked f p p 0
none f p = record { met = []; stand = refl; counted = refl }

pub one_more : (f : List ℕ) (p q t n : ℕ) (r : Record) → Walked f p q n → Records f q t (r ∷ []) → Walked f p t (n + 1)
one_more f p q t n r w h =
    let c = w.counted in
    record {
      met = w.met ++ r ∷ [];
      stand = joined f p q t w.met (r ∷ []) w.stand h;
      counted = omega (arith, length_push w.met r);
    }
