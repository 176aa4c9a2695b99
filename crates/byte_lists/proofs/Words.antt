-- Words that stand at a place.
use Rattle.std.proofs.Common.{◌≡◌, ℕ, ◌+◌, ◌*◌, ◌/◌, ◌%◌, ◌^◌, ◌<◌, ◌≤◌, List, [], ◌∷◌, length, get_or, take, drop, sym, refl, ap, ◌∙◌, add-zero, arith}
use Rattle.std.proofs.lemmas.List.{length-drop, get_or-drop, get_or-take}
use Rattle.std.proofs.ByRecursion.{All-get_or}
use Rattle.byte_lists.specs.Bytes.{Bytes, part, word, word_at}
use Rattle.byte_lists.proofs.Parts.{At, at_get_d}

pub word_read : (f : List ℕ) (p n : ℕ) → n < 2 ^ 32 → At f p (word n) → word_at f p ≡ n
word_read f p n l a =
    let e0 : get_or f p 0 ≡ n % 256 = ap (λ k. get_or f k 0) (sym (add-zero p)) ∙ at_get_d f p (word n) a 0 (omega arith) in
    let e1 : get_or f (p + 1) 0 ≡ n / 256 % 256 = at_get_d f p (word n) a 1 (omega arith) in
    let e2 : get_or f (p + 2) 0 ≡ n / 256 / 256 % 256 = at_get_d f p (word n) a 2 (omega arith) in
    let e3 : get_or f (p + 3) 0 ≡ n / 256 / 256 / 256 % 256 = at_get_d f p (word n) a 3 (omega arith) in
    omega arith

first_four : (D : List ℕ) → 4 ≤ length D → take 4 D ≡ get_or D 0 0 ∷ get_or D 1 0 ∷ get_or D 2 0 ∷ get_or D 3 0 ∷ []
first_four [] l = absurd (omega arith)
first_four (a ∷ []) l = absurd (omega arith)
first_four (a ∷ b ∷ []) l = absurd (omega arith)
first_four (a ∷ b ∷ c ∷ []) l = absurd (omega arith)
first_four (a ∷ b ∷ c ∷ d ∷ r) l = refl

word_of : (a b c d : ℕ) → a < 256 → b < 256 → c < 256 → d < 256 → word (a + 256 * (b + 256 * (c + 256 * d))) ≡ a ∷ b ∷ c ∷ d ∷ []
word_of a b c d la lb lc ld =
    let n = a + 256 * (b + 256 * (c + 256 * d)) in
    let q1 : n / 256 ≡ b + 256 * (c + 256 * d) = omega arith in
    let q2 : n / 256 / 256 ≡ c + 256 * d = rw q1 (omega arith) in
    let q3 : n / 256 / 256 / 256 ≡ d = rw q2 (omega arith) in
    let e0 : n % 256 ≡ a = omega arith in
    let e1 : n / 256 % 256 ≡ b = rw q1 (omega arith) in
    let e2 : n / 256 / 256 % 256 ≡ c = rw q2 (omega arith) in
    let e3 : n / 256 / 256 / 256 % 256 ≡ d = rw q3 (omega arith) in
    rw (e0, e1, e2, e3)

-- where bytes stand, so does the word that is read there
pub word_made : (f : List ℕ) → Bytes f → (p : ℕ) → p + 4 ≤ length f → At f p (word (word_at f p))
word_made f bytes p l =
    let b : (i : ℕ) → i < 4 → get_or f (p + i) 0 < 256 = λ i m. All-get_or (λ b. b < 256) f (p + i) 0 (omega arith) bytes in
    let b0 : get_or f p 0 < 256 = All-get_or (λ b. b < 256) f p 0 (omega arith) bytes in
    let g0 : get_or (drop p f) 0 0 ≡ get_or f p 0 = get_or-drop p f 0 0 ∙ ap (λ k. get_or f k 0) (add-zero p) in
    first_four (drop p f) (rw (length-drop p f) (omega arith))
    ∙ rw (g0, get_or-drop p f 1 0, get_or-drop p f 2 0, get_or-drop p f 3 0)
    (sym (word_of (get_or f p 0) (get_or f (p + 1) 0) (get_or f (p + 2) 0) (get_or f (p + 3) 0) b0 (b 1 (omega arith)) (b 2 (omega arith)) (b 3 (omega arith))))

byte_in : (f bytes : List ℕ) (p n i : ℕ) → bytes ≡ part f p n → i < n → get_or bytes i 0 ≡ get_or f (p + i) 0
byte_in f bytes p n i e h = ap (λ (z : List ℕ). get_or z i 0) e ∙ get_or-take n (drop p f) i 0 h ∙ get_or-drop p f i 0

-- a word of a part is a word of the whole
pub word_in : (f bytes : List ℕ) (p n i q : ℕ) → bytes ≡ part f p n → i + 4 ≤ n → q ≡ p + i → word_at bytes i ≡ word_at f q
word_in f bytes p n i q e h z =
    let at : (j : ℕ) → j < 4 → get_or bytes (i + j) 0 ≡ get_or f (q + j) 0 =
    λ j l. let s : p + (i + j) ≡ q + j = omega arith in byte_in f bytes p n (i + j) e (omega arith) ∙ ap (λ (k : ℕ). get_or f k 0) s in
    let b0 : get_or bytes i 0 ≡ get_or f q 0 = byte_in f bytes p n i e (omega arith) ∙ ap (λ (k : ℕ). get_or f k 0) (sym z) in
    let b1 = at 1 (omega arith) in
    let b2 = at 2 (omega arith) in
    let b3 = at 3 (omega arith) in
    omega arith
