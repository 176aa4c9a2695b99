-- The digits of a number, written from the last on.
use Rattle.std.proofs.Common.{◌≡◌, ℕ, ◌+◌, ◌-◌, ◌/◌, ◌%◌, ◌^◌, ◌<◌, ◌≤◌, List, [], ◌∷◌, ◌++◌, length, get_or, take, drop, set, decimal, sym, refl, ap, ◌∙◌, append_assoc, append-nil, arith, length-append}
use Rattle.std.proofs.lemmas.Fmt.{decimal_digit, decimal_step}
use Rattle.std.proofs.lemmas.List.{take-append-drop, drop-drop, take_more, set_at, length-take-le, length_push}
use Rattle.byte_lists.specs.Bytes.{laid}

-- the digits from place on are written, and those of rest are still to come
pub record Written (b now : List ℕ) (at number rest place : ℕ) : Type 0 where
  pub tail : List ℕ
  pub spelt : decimal number ≡ decimal rest ++ tail
  pub counted : place ≡ at + length (decimal rest)
  pub is : now ≡ take place b ++ (tail ++ drop (at + length (decimal number)) b)

pub begun : (b : List ℕ) (at number : ℕ) → at + length (decimal number) ≤ length b → Written b b at number number (at + length (decimal number))
begun b at number l =
    record { tail = []; spelt = sym (append-nil (decimal number)); counted = refl; is = sym (take-append-drop (at + length (decimal number)) b) }

-- one byte before what is written
before : (b X : List ℕ) (place v : ℕ) → 0 < place → place ≤ length b → set (take place b ++ X) (place - 1) v ≡ take (place - 1) b ++ (v ∷ X)
before b X place v pos l =
    let e : place - 1 + 1 ≡ place = omega arith in
    let t : take place b ≡ take (place - 1) b ++ (get_or b (place - 1) 0 ∷ []) = ap (λ (n : ℕ). take n b) (sym e) ∙ take_more b (place - 1) 0 (omega arith) in
    ap (λ (u : List ℕ). set u (place - 1) v) (ap (λ (u : List ℕ). u ++ X) t ∙ append_assoc (take (place - 1) b) (get_or b (place - 1) 0 ∷ []) X)
    ∙ set_at (take (place - 1) b) (get_or b (place - 1) 0) X v (place - 1) (length-take-le (place - 1) b (omega arith))

pub one_digit : (b now : List ℕ) (at number rest place : ℕ) → at + length (decimal number) ≤ length b → rest < 2 ^ 64 → 10 ≤ rest → Written b now at number rest place
    → Written b (set now (place - 1) (48 + rest % 10)) at number (rest / 10) (place - 1)
one_digit b now at number rest place l small big w =
    let s = decimal_step rest big small in
    let ls : length (decimal rest) ≡ length (decimal (rest / 10)) + 1 = ap length s ∙ length_push (decimal (rest / 10)) (48 + rest % 10) in
    let c = w.counted in
    let ln : length (decimal number) ≡ length (decimal rest) + length w.tail = ap length w.spelt ∙ length-append (decimal rest) w.tail in
    record {
      tail = (48 + rest % 10) ∷ w.tail;
      spelt = w.spelt ∙ ap (λ (u : List ℕ). u ++ w.tail) s ∙ append_assoc (decimal (rest / 10)) ((48 + rest % 10) ∷ []) w.tail;
      counted = omega arith;
      is = ap (λ (u : List ℕ). set u (place - 1) (48 + rest % 10)) w.is
          ∙ before b (w.tail ++ drop (at + length (decimal number)) b) place (48 + rest % 10) (omega arith) (omega arith);
    }

pub ended : (b now : List ℕ) (at number rest place : ℕ) → at + length (decimal number) ≤ length b → rest < 10 → Written b now at number rest place
    → set now at (48 + rest) ≡ laid b at (decimal number)
ended b now at number rest place l small w =
    let s : decimal rest ≡ (48 + rest) ∷ [] = decimal_digit rest small in
    let ls : length (decimal rest) ≡ 1 = ap length s in
    let c = w.counted in
    let ln : length (decimal number) ≡ length (decimal rest) + length w.tail = ap length w.spelt ∙ length-append (decimal rest) w.tail in
    let e : place - 1 ≡ at = omega arith in
    let r : set now (place - 1) (48 + rest) ≡ take (place - 1) b ++ ((48 + rest) ∷ (w.tail ++ drop (at + length (decimal number)) b)) =
    ap (λ (u : List ℕ). set u (place - 1) (48 + rest)) w.is ∙ before b (w.tail ++ drop (at + length (decimal number)) b) place (48 + rest) (omega arith) (omega arith) in
    let d : decimal number ≡ (48 + rest) ∷ w.tail = w.spelt ∙ ap (λ (u : List ℕ). u ++ w.tail) s in
    ap (λ (n : ℕ). set now n (48 + rest)) (sym e) ∙ r ∙ ap (λ (n : ℕ). take n b ++ ((48 + rest) ∷ (w.tail ++ drop (at + length (decimal number)) b))) e
    ∙ ap (λ (u : List ℕ). take at b ++ (u ++ drop (at + length (decimal number)) b)) (sym d)
    ∙ ap (λ (u : List ℕ). take at b ++ (decimal number ++ u)) (sym (drop-drop (length (decimal number)) at b))

pub narrower : (n : ℕ) → 10 ≤ n → n < 2 ^ 64 → length (decimal n) ≡ length (decimal (n / 10)) + 1
narrower n big small = ap length (decimal_step n big small) ∙ length_push (decimal (n / 10)) (48 + n % 10)

pub single_width : (n : ℕ) → n < 10 → length (decimal n) ≡ 1
single_width n h = ap length (decimal_digit n h)

pub rest_fits : (b now : List ℕ) (at number rest place : ℕ) → Written b now at number rest place → length (decimal rest) ≤ length (decimal number)
rest_fits b now at number rest place w = omega (arith, ap length w.spelt, length-append (decimal rest) w.tail)
