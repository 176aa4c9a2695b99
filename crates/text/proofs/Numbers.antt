-- Decimal numbers in a text: where one ends, and how it goes on.
use Rattle.std.proofs.Common.{◌≡◌, ℕ, ◌+◌, ◌-◌, ◌*◌, ◌/◌, ◌%◌, ◌^◌, ◌<◌, ◌≤◌, ◌⊎◌, List, [], ◌∷◌, ◌++◌, length, get_or, decimal, sym, refl, ap, ◌∙◌, subst, inl, inr, ⊎_elim, append-nil, arith, rules}
use Rattle.std.proofs.lemmas.Bool.{cases_lt, cases_eq}
use Rattle.std.proofs.lemmas.Str.Parse.{IsNumeralModel, numerals_by_fold}
use Rattle.std.proofs.lemmas.Fmt.{digits_decimal, digits_value-decimal, decimal_digit, decimal_step, decimal_nonempty, first_decimal, decimal_injective}

abbrev pub Digits : List ℕ → Type 0
Digits [] = Unit {0}
Digits (c ∷ cs) = ((48 ≤ c) × (c ≤ 57)) × Digits cs

abbrev pub read_on : ℕ → List ℕ → ℕ
read_on n [] = n
read_on n (c ∷ cs) = read_on (10 * n + (c - 48)) cs

own : IsNumeralModel Digits (read_on 0)
own = numerals_by_fold _ (search rules) read_on (search rules)

pub digits : (n : ℕ) → n < 2 ^ 32 → Digits (decimal n)
digits n h = digits_decimal own n (omega arith)

pub valued : (n : ℕ) → n < 2 ^ 32 → read_on 0 (decimal n) ≡ n
valued n h = digits_value-decimal own n (omega arith)

read_on_append : (n : ℕ) (xs ys : List ℕ) → read_on n (xs ++ ys) ≡ read_on (read_on n xs) ys
read_on_append n [] ys = refl
read_on_append n (x ∷ xs) ys = read_on_append (10 * n + (x - 48)) xs ys

read_on_ge : (n : ℕ) (xs : List ℕ) → n ≤ read_on n xs
read_on_ge n [] = omega arith
read_on_ge n (x ∷ xs) = omega (arith, read_on_ge (10 * n + (x - 48)) xs)

digits_right : (xs ys : List ℕ) → Digits (xs ++ ys) → Digits ys
digits_right [] ys d = d
digits_right (x ∷ xs) ys d = digits_right xs ys d.1

-- the first of two equal lists
pub heads : (x y : ℕ) (xs ys : List ℕ) → x ∷ xs ≡ y ∷ ys → x ≡ y
heads x y xs ys e = cc

pub tails : (x y : ℕ) (xs ys : List ℕ) → x ∷ xs ≡ y ∷ ys → xs ≡ ys
tails x y xs ys e = cc

pub never : (x : ℕ) (xs : List ℕ) → [] ≡ x ∷ xs → ⊥
never x xs e = let z : ◌≡◌ {A = ℕ} 0 1 = cc in omega arith

-- digits that stand before a text are the front of those that a byte ends
pub ends : (xs ys s t : List ℕ) (c : ℕ) → Digits xs → (48 ≤ c → c ≤ 57 → ⊥) → xs ++ s ≡ ys ++ (c ∷ t) →
    (zs : List ℕ) × (ys ≡ xs ++ zs) × (s ≡ zs ++ (c ∷ t))
ends [] ys s t c dx not e = (ys, refl, e)
ends (x ∷ xs) [] s t c dx not e =
    let h : x ≡ c = heads x c (xs ++ s) t e in
    absurd (not (omega arith) (omega arith))
ends (x ∷ xs) (y ∷ ys) s t c dx not e =
    let h : x ≡ y = heads x y (xs ++ s) (ys ++ (c ∷ t)) e in
    let r = ends xs ys s t c dx.1 not (tails x y (xs ++ s) (ys ++ (c ∷ t)) e) in
    let q : ys ≡ xs ++ r.0 = r.1 in
    (r.0, cc, r.2)

-- a number ended by a byte is read one way
one_way_by : (m n : ℕ) (s t : List ℕ) (b c : ℕ) → m < 2 ^ 32 → n < 2 ^ 32 → (48 ≤ b → b ≤ 57 → ⊥) →
    (zs : List ℕ) → decimal n ≡ decimal m ++ zs → b ∷ s ≡ zs ++ (c ∷ t) → (m ≡ n) × (b ≡ c) × (s ≡ t)
one_way_by m n s t b c hm hn nb [] p q =
    let e : decimal m ≡ decimal n = sym (p ∙ append-nil (decimal m)) in
    (decimal_injective m n (omega arith) (omega arith) e, heads b c s t q, tails b c s t q)
one_way_by m n s t b c hm hn nb (z ∷ zs) p q =
    let d : Digits (decimal m ++ (z ∷ zs)) = subst Digits p (digits n hn) in
    let f = digits_right (decimal m) (z ∷ zs) d in
    let h : b ≡ z = heads b z s (zs ++ (c ∷ t)) q in
    absurd (nb (omega arith) (omega arith))

pub one_way : (m n : ℕ) (s t : List ℕ) (b c : ℕ) → m < 2 ^ 32 → n < 2 ^ 32 → (48 ≤ b → b ≤ 57 → ⊥) → (48 ≤ c → c ≤ 57 → ⊥) →
    decimal m ++ (b ∷ s) ≡ decimal n ++ (c ∷ t) → (m ≡ n) × (b ≡ c) × (s ≡ t)
one_way m n s t b c hm hn nb nc e =
    let r = ends (decimal m) (decimal n) (b ∷ s) t c (digits m hm) nc e in
    one_way_by m n s t b c hm hn nb r.0 r.1 r.2

-- a leading zero stands alone
leads : (n z : ℕ) (zs : List ℕ) → n < 2 ^ 32 → decimal n ≡ decimal 0 ++ (z ∷ zs) → ⊥
leads n z zs hn p =
    let o : decimal n ≡ 48 ∷ (z ∷ zs) = p ∙ ap (λ ds. ds ++ (z ∷ zs)) (decimal_digit 0 (omega arith)) in
    ⊎_elim
    (λ (e : n ≡ 0). let u : 48 ∷ [] ≡ 48 ∷ (z ∷ zs) = sym (decimal_digit 0 (omega arith)) ∙ ap decimal (sym e) ∙ o in never z zs (tails 48 48 [] (z ∷ zs) u))
    (λ (ne : n ≡ 0 → ⊥). let w : get_or (decimal n) 0 0 ≡ 48 = ap (λ ds. get_or ds 0 0) o in
    let pos : 0 < n = ⊎_elim (λ (k : 0 < n). k) (λ (k : n ≤ 0). absurd (ne (omega arith))) (cases_lt 0 n) in
    omega (arith, first_decimal n pos (omega arith)))
    (cases_eq n 0)

-- a number that goes on: its next byte ends it, or is a digit that it can take
goes_on_by : (m n : ℕ) (s t : List ℕ) (b c : ℕ) → m < 2 ^ 32 → n < 2 ^ 32 →
    (zs : List ℕ) → decimal n ≡ decimal m ++ zs → b ∷ s ≡ zs ++ (c ∷ t) → (b ≡ c) ⊎ ((48 ≤ b) × (b ≤ 57) × (0 < m) × (10 * m + (b - 48) < 2 ^ 32))
goes_on_by m n s t b c hm hn [] p q = inl (heads b c s t q)
goes_on_by m n s t b c hm hn (z ∷ zs) p q =
    let d : Digits (decimal m ++ (z ∷ zs)) = subst Digits p (digits n hn) in
    let f = digits_right (decimal m) (z ∷ zs) d in
    let h : b ≡ z = heads b z s (zs ++ (c ∷ t)) q in
    let v : n ≡ read_on (10 * m + (z - 48)) zs = sym (valued n hn) ∙ ap (read_on 0) p ∙ read_on_append 0 (decimal m) (z ∷ zs) ∙ ap (λ k. read_on k (z ∷ zs)) (valued m hm) in
    let g = read_on_ge (10 * m + (z - 48)) zs in
    let pos : 0 < m = ⊎_elim (λ (k : 0 < m). k)
    (λ (k : m ≤ 0). let zero : m ≡ 0 = omega arith in absurd (leads n z zs hn (p ∙ ap (λ k. decimal k ++ (z ∷ zs)) zero))) (cases_lt 0 m) in
    inr (omega arith, omega arith, pos, omega arith)

pub goes_on : (m n : ℕ) (s t : List ℕ) (b c : ℕ) → m < 2 ^ 32 → n < 2 ^ 32 → (48 ≤ c → c ≤ 57 → ⊥) →
    decimal m ++ (b ∷ s) ≡ decimal n ++ (c ∷ t) → (b ≡ c) ⊎ ((48 ≤ b) × (b ≤ 57) × (0 < m) × (10 * m + (b - 48) < 2 ^ 32))
goes_on m n s t b c hm hn nc e =
    let r = ends (decimal m) (decimal n) (b ∷ s) t c (digits m hm) nc e in
    goes_on_by m n s t b c hm hn r.0 r.1 r.2

-- one more digit
pub grown : (n b : ℕ) → 0 < n → 48 ≤ b → b ≤ 57 → 10 * n + (b - 48) < 2 ^ 32 → decimal (10 * n + (b - 48)) ≡ decimal n ++ (b ∷ [])
grown n b pos lo hi fits =
    let m : ℕ = 10 * n + (b - 48) in
    let s = decimal_step (10 * n + (b - 48)) (omega arith) (omega arith) in
    let q : (10 * n + (b - 48)) / 10 ≡ n = omega arith in
    let r : 48 + (10 * n + (b - 48)) % 10 ≡ b = omega arith in
    s ∙ ap (λ k. decimal k ++ ((48 + (10 * n + (b - 48)) % 10) ∷ [])) q ∙ ap (λ k. decimal n ++ (k ∷ [])) r

pub single : (b : ℕ) → 48 ≤ b → b ≤ 57 → decimal (b - 48) ≡ b ∷ []
single b lo hi =
    let r : 48 + (b - 48) ≡ b = omega arith in
    decimal_digit (b - 48) (omega arith) ∙ ap (λ k. k ∷ []) r

-- a number begins with a digit
first_by : (b : ℕ) (s t : List ℕ) (ds : List ℕ) → Digits ds → 0 < length ds → b ∷ s ≡ ds ++ t → (48 ≤ b) × (b ≤ 57)
first_by b s t [] d l q = absurd (omega arith)
first_by b s t (x ∷ xs) d l q = let h : b ≡ x = heads b x s (xs ++ t) q in (omega arith, omega arith)

pub first : (n : ℕ) (b : ℕ) (s t : List ℕ) → n < 2 ^ 32 → b ∷ s ≡ decimal n ++ t → (48 ≤ b) × (b ≤ 57)
first n b s t hn e = first_by b s t (decimal n) (digits n hn) (decimal_nonempty n (omega arith)) e
