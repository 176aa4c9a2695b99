-- Parts of lists, and bytes that stand at a place.
use Rattle.std.proofs.Common.{◌≡◌, ℕ, ◌+◌, ◌-◌, ◌<◌, ◌≤◌, min, List, ◌++◌, length, get_or, take, drop, sym, refl, ap, ◌∙◌, subst, arith, take-add}
use Rattle.std.proofs.lemmas.List.{length-append, length-take, length-drop, length-take-le, take_at, drop_at, drop-drop, drop-take, take-take, get_or-drop, get_or-take, take_all}
use Rattle.std.proofs.ByRecursion.{All-take, All-drop}
use Rattle.byte_lists.specs.Bytes.{Bytes, part}

-- these bytes stand at a place
abbrev pub At : List ℕ → ℕ → List ℕ → Type 0
At f p xs = part f p (length xs) ≡ xs

pub at_fits : (f : List ℕ) (p : ℕ) (xs : List ℕ) → At f p xs → length xs ≤ length f - p
at_fits f p xs h =
    let a = length-take (length xs) (drop p f) in
    let b = length-drop p f in
    let c = ap length h in
    omega arith

pub at_both : (f : List ℕ) (p : ℕ) (xs ys : List ℕ) → At f p (xs ++ ys) → At f p xs × At f (p + length xs) ys
at_both f p xs ys h =
    let n = length xs in
    let m = length ys in
    let D = drop p f in
    let A = take n D in
    let B = take m (drop n D) in
    let l : length (xs ++ ys) ≡ n + m = length-append xs ys in
    let e : A ++ B ≡ xs ++ ys = sym (take-add n m D) ∙ ap (λ k. take k D) (sym l) ∙ h in
    let fit = at_fits f p (xs ++ ys) h in
    let a : length A ≡ n = length-take-le n D (rw (length-drop p f) (omega arith)) in (
      sym (take_at A B n a) ∙ ap (take n) e ∙ take_at xs ys n refl,
      ap (take m) (sym (drop-drop n p f)) ∙ sym (drop_at A B n a) ∙ ap (drop n) e ∙ drop_at xs ys n refl,
    )

pub at_join : (f : List ℕ) (p : ℕ) (xs ys : List ℕ) → At f p xs → At f (p + length xs) ys → At f p (xs ++ ys)
at_join f p xs ys a b =
    let n = length xs in
    let m = length ys in
    ap (λ k. take k (drop p f)) (length-append xs ys) ∙ take-add n m (drop p f)
    ∙ ap (λ z. z ++ take m (drop n (drop p f))) a
    ∙ ap (λ z. xs ++ z) (ap (take m) (drop-drop n p f) ∙ b)

pub at_whole : (f xs : List ℕ) → At f 0 xs → length xs ≡ length f → f ≡ xs
at_whole f xs a e = sym (take_all (length xs) f (omega arith)) ∙ a

pub at_self : (f xs : List ℕ) → f ≡ xs → At f 0 xs
at_self f xs e = take_all (length xs) f (rw e (omega arith)) ∙ e

pub at_get_d : (f : List ℕ) (p : ℕ) (xs : List ℕ) → At f p xs → (i : ℕ) → i < length xs → get_or f (p + i) 0 ≡ get_or xs i 0
at_get_d f p xs a i l = sym (get_or-drop p f i 0) ∙ sym (get_or-take (length xs) (drop p f) i 0 l) ∙ ap (λ z. get_or z i 0) a

pub at_bytes : (f : List ℕ) → Bytes f → (p : ℕ) (xs : List ℕ) → At f p xs → Bytes xs
at_bytes f bytes p xs a = subst Bytes a (All-take (λ b. b < 256) (length xs) (drop p f) (All-drop (λ b. b < 256) p f bytes))

-- the bytes of a part are bytes
pub part_bytes : (f : List ℕ) → Bytes f → (p n : ℕ) → Bytes (part f p n)
part_bytes f bytes p n = All-take (λ b. b < 256) n (drop p f) (All-drop (λ b. b < 256) p f bytes)

-- a part that lies inside is as long as asked
pub part_long : (f : List ℕ) (p n : ℕ) → p + n ≤ length f → length (part f p n) ≡ n
part_long f p n h = length-take-le n (drop p f) (omega (arith, length-drop p f))

pub length_part : (xs : List ℕ) (p n : ℕ) → length (part xs p n) ≡ min n (length xs - p)
length_part xs p n = length-take n (drop p xs) ∙ ap (min n) (length-drop p xs)

-- the byte at a place of a part
pub get_d_part : (xs : List ℕ) (p n i : ℕ) → i < n → get_or (part xs p n) i 0 ≡ get_or xs (p + i) 0
get_d_part xs p n i h = get_or-take n (drop p xs) i 0 h ∙ get_or-drop p xs i 0

-- a part of a part
pub part_in : (xs : List ℕ) (s l p n : ℕ) → p + n ≤ l → part (part xs s l) p n ≡ part xs (s + p) n
part_in xs s l p n h =
    sym (drop-take p n (take l (drop s xs))) ∙ ap (drop p) (take-take (p + n) l (drop s xs) h) ∙ drop-take p n (drop s xs)
    ∙ ap (take n) (drop-drop p s xs)

-- a part of the first m, which hold it
pub part_of_front : (xs : List ℕ) (p n m : ℕ) → p + n ≤ m → take n (drop p (take m xs)) ≡ take n (drop p xs)
part_of_front xs p n m h =
    sym (drop-take p n (take m xs)) ∙ ap (drop p) (take-take (p + n) m xs h) ∙ drop-take p n xs

-- two parts that abut
pub part_both : (f : List ℕ) (p a b : ℕ) → part f p a ++ part f (p + a) b ≡ part f p (a + b)
part_both f p a b = ap (λ z. take a (drop p f) ++ take b z) (sym (drop-drop a p f)) ∙ sym (take-add a b (drop p f))

-- parts of equal bytes, and one more
pub same_more : (f : List ℕ) (p q n k : ℕ) → part f p n ≡ part f q n → part f (p + n) k ≡ part f (q + n) k → part f p (n + k) ≡ part f q (n + k)
same_more f p q n k a b =
    sym (part_both f p n k) ∙ ap (λ (z : List ℕ). z ++ part f (p + n) k) a ∙ ap (λ (z : List ℕ). part f q n ++ z) b ∙ part_both f q n k

pub same_less : (f : List ℕ) (p q N n k : ℕ) → n + k ≤ N → part f p N ≡ part f q N → part f (p + n) k ≡ part f (q + n) k
same_less f p q N n k l e =
    sym (part_in f p N n k l) ∙ ap (λ (z : List ℕ). part z n k) e ∙ part_in f q N n k l
