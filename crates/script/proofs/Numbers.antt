-- What parse says of the word of a number.
use Rattle.std.proofs.Common.{◌≡◌, ℕ, ◌<◌, ◌≤◌, true, false, List, Ok, Err, Result, decimal, sym, ap, ◌∙◌, subst, arith}
use Rattle.std.proofs.lemmas.Fmt.{IsAscii-decimal, decimal_injective, parse-decimal}
use Rattle.std.proofs.lemmas.Slice.Eq.{bytes_eq-Decides}
use Rattle.std.proofs.lemmas.Str.{IsUtf8-from_ascii}
use Rattle.std.specs.Str.{IsAscii, IsUtf8, bytes_eq}
use Rattle.std.specs.Str.Parse.{ParsesUnsigned}
use Rattle.script.specs.Sayings.{Numeral}

pub no_text : (w : List ℕ) → (IsUtf8 w → ⊥) → (n : ℕ) → Numeral w n → ⊥
no_text w h n m = h (IsUtf8-from_ascii w (subst IsAscii (sym m.1) (IsAscii-decimal n (omega (arith, m.0)))))

parsed : {E : Type 0} (w t : List ℕ) (r : Result ℕ E) → t ≡ w → ParsesUnsigned 32 10 t r → (n : ℕ) → Numeral w n → r ≡ Ok n
parsed w t r e p n m = parse-decimal 32 n t r m.0 (omega (arith, m.0)) (e ∙ m.1) p

pub no_parse : {E : Type 0} (w t : List ℕ) (r : Result ℕ E) (x : E) → t ≡ w → ParsesUnsigned 32 10 t r → r ≡ Err x → (n : ℕ) → Numeral w n → ⊥
no_parse w t r x e p bad n m = let q : r ≡ Ok n = parsed w t r e p n m in cc

pub other_word : {E : Type 0} (w t d : List ℕ) (r : Result ℕ E) (k : ℕ) → t ≡ w → ParsesUnsigned 32 10 t r → r ≡ Ok k → d ≡ decimal k → bytes_eq d w ≡ false → (n : ℕ) → Numeral w n → ⊥
other_word w t d r k e p good is differ n m =
    let q : r ≡ Ok n = parsed w t r e p n m in
    let same : k ≡ n = cc in
    let yes : bytes_eq d w ≡ true = (bytes_eq-Decides d w).1 (is ∙ ap decimal same ∙ sym m.1) in
    cc

pub too_many : (w : List ℕ) (k : ℕ) → Numeral w k → 8388607 < k → (n : ℕ) → Numeral w n → n ≤ 8388607 → ⊥
too_many w k h l n m s =
    let same : k ≡ n = decimal_injective k n (omega (arith, h.0)) (omega (arith, m.0)) (sym h.1 ∙ m.1) in
    omega arith
