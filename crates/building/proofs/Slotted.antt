-- Bytes that agree, and the slots that are read from them.
use Rattle.std.proofs.Common.{◌≡◌, ℕ, zero, suc, ◌+◌, ◌*◌, ◌^◌, ◌<◌, ◌≤◌, ◌⊎◌, List, [], ◌∷◌, ◌++◌, length, get_or, take, drop, set, replicate, sym, refl, ap, ◌∙◌, inl, inr, arith}
use Rattle.std.proofs.lemmas.List.{length-drop, get_or-drop, length-take-le, take_at, drop_at}
use Rattle.byte_lists.specs.Bytes.{word, word_at, part, laid}
use Rattle.byte_lists.proofs.Parts.{At, at_both}
use Rattle.byte_lists.proofs.Words.{word_read, word_in}
use Rattle.cdb.specs.Tables.{Slot, blank}
use Rattle.cdb.specs.Files.{slot_bytes, slots_at}
use Rattle.cdb.proofs.Slots.{seen}

-- two lists agree on the n bytes from p on
abbrev pub Agree : List ℕ → List ℕ → ℕ → ℕ → Type 0
Agree f g p n = (k : ℕ) → p ≤ k → k < p + n → get_or f k 0 ≡ get_or g k 0

pub word_same : (f g : List ℕ) (p : ℕ) → Agree f g p 4 → word_at f p ≡ word_at g p
word_same f g p h =
    let a = h p (omega arith) (omega arith) in
    let b = h (p + 1) (omega arith) (omega arith) in
    let c = h (p + 2) (omega arith) (omega arith) in
    let d = h (p + 3) (omega arith) (omega arith) in
    omega arith

pub seen_same : (f g : List ℕ) (p : ℕ) → Agree f g p 8 → seen f p ≡ seen g p
seen_same f g p h =
    let a : word_at f p ≡ word_at g p = word_same f g p (λ k l m. h k l (omega arith)) in
    let b : word_at f (p + 4) ≡ word_at g (p + 4) = word_same f g (p + 4) (λ k l m. h k (omega arith) (omega arith)) in
    rw (a, b)

pub slots_same : (f g : List ℕ) (p n : ℕ) → Agree f g p (8 * n) → slots_at f p n ≡ slots_at g p n
slots_same f g p zero h = refl
slots_same f g p (suc n) h =
    let a : seen f p ≡ seen g p = seen_same f g p (λ k l m. h k l (omega arith)) in
    let b : slots_at f (p + 8) n ≡ slots_at g (p + 8) n = slots_same f g (p + 8) n (λ k l m. h k (omega arith) (omega arith)) in
    ap (λ (s : Slot). s ∷ slots_at f (p + 8) n) a ∙ ap (λ (s : List Slot). seen g p ∷ s) b

-- the slot at q = p + 8 k is written
pub slots_set : (f g : List ℕ) (p n k q : ℕ) (x : Slot) → k < n → q ≡ p + 8 * k → ((i : ℕ) → (i < q) ⊎ (q + 8 ≤ i) → get_or g i 0 ≡ get_or f i 0)
    → seen g q ≡ x → slots_at g p n ≡ set (slots_at f p n) k x
slots_set f g p zero k q x l e h s = absurd (omega arith)
slots_set f g p (suc n) zero q x l e h s =
    let z : q ≡ p = omega arith in
    let a : seen g p ≡ x = ap (seen g) (sym z) ∙ s in
    let b : slots_at g (p + 8) n ≡ slots_at f (p + 8) n = slots_same g f (p + 8) n (λ i u v. h i (inr (omega arith))) in
    ap (λ (s : Slot). s ∷ slots_at g (p + 8) n) a ∙ ap (λ (s : List Slot). x ∷ s) b
slots_set f g p (suc n) (suc k) q x l e h s =
    let a : seen g p ≡ seen f p = seen_same g f p (λ i u v. h i (inl (omega arith))) in
    let b : slots_at g (p + 8) n ≡ set (slots_at f (p + 8) n) k x = slots_set f g (p + 8) n k q x (omega arith) (omega arith) h s in
    ap (λ (s : Slot). s ∷ slots_at g (p + 8) n) a ∙ ap (λ (s : List Slot). seen f p ∷ s) b

-- bytes that are zero are empty slots
pub slots_zero : (f : List ℕ) (p n : ℕ) → ((k : ℕ) → p ≤ k → k < p + 8 * n → get_or f k 0 ≡ 0) → slots_at f p n ≡ replicate n blank
slots_zero f p zero h = refl
slots_zero f p (suc n) h =
    let w : (q : ℕ) → p ≤ q → q + 4 ≤ p + 8 → word_at f q ≡ 0 = λ q a b.
    let i = h q (omega arith) (omega arith) in
    let j = h (q + 1) (omega arith) (omega arith) in
    let k = h (q + 2) (omega arith) (omega arith) in
    let l = h (q + 3) (omega arith) (omega arith) in
    omega arith in
    let a : word_at f p ≡ 0 = w p (omega arith) (omega arith) in
    let b : word_at f (p + 4) ≡ 0 = w (p + 4) (omega arith) (omega arith) in
    let c : slots_at f (p + 8) n ≡ replicate n blank = slots_zero f (p + 8) n (λ k l m. h k (omega arith) (omega arith)) in
    rw (a, b, c)

-- a slot's bytes read back
pub seen_back : (f : List ℕ) (q : ℕ) (x : Slot) → x.hash < 2 ^ 32 → x.place < 2 ^ 32 → At f q (slot_bytes x) → seen f q ≡ x
seen_back f q x h p a =
    let u = at_both f q (word x.hash) (word x.place) a in
    let e : word_at f q ≡ x.hash = word_read f q x.hash h u.0 in
    let g : word_at f (q + 4) ≡ x.place = word_read f (q + 4) x.place p u.1 in
    rw (e, g)

-- slots of a part are slots of the whole
pub slots_within : (g : List ℕ) (b l i j n : ℕ) → i + 8 * n ≤ l → j ≡ b + i → slots_at (part g b l) i n ≡ slots_at g j n
slots_within g b l i j zero h e = refl
slots_within g b l i j (suc n) h e =
    let w : word_at (part g b l) i ≡ word_at g j = word_in g (part g b l) b l i j refl (omega arith) e in
    let v : word_at (part g b l) (i + 4) ≡ word_at g (j + 4) = word_in g (part g b l) b l (i + 4) (j + 4) refl (omega arith) (omega arith) in
    let r : slots_at (part g b l) (i + 8) n ≡ slots_at g (j + 8) n = slots_within g b l (i + 8) (j + 8) n (omega arith) (omega arith) in
    rw (w, v, r)

-- lists of equal bytes in a part
first_same : (xs ys : List ℕ) (n : ℕ) → n ≤ length xs → n ≤ length ys → ((k : ℕ) → k < n → get_or xs k 0 ≡ get_or ys k 0) → take n xs ≡ take n ys
first_same xs ys zero a b h = refl
first_same [] ys (suc n) a b h = absurd (omega arith)
first_same (x ∷ xs) [] (suc n) a b h = absurd (omega arith)
first_same (x ∷ xs) (y ∷ ys) (suc n) a b h =
    let e : x ≡ y = h 0 (omega arith) in
    let t : take n xs ≡ take n ys = first_same xs ys n (omega arith) (omega arith) (λ k l. h (suc k) (omega arith)) in
    ap (λ (q : ℕ). q ∷ take n xs) e ∙ ap (λ (q : List ℕ). y ∷ q) t

pub part_same : (f g : List ℕ) (p n : ℕ) → p + n ≤ length f → p + n ≤ length g → Agree f g p n → part f p n ≡ part g p n
part_same f g p n a b h =
    first_same (drop p f) (drop p g) n (omega (arith, length-drop p f)) (omega (arith, length-drop p g))
    (λ k l. get_or-drop p f k 0 ∙ h (p + k) (omega arith) (omega arith) ∙ sym (get_or-drop p g k 0))

-- what is laid over bytes stands there
pub at_laid : (xs : List ℕ) (p : ℕ) (ys : List ℕ) → p ≤ length xs → At (laid xs p ys) p ys
at_laid xs p ys h =
    let r : List ℕ = drop (length ys) (drop p xs) in
    ap (take (length ys)) (drop_at (take p xs) (ys ++ r) p (length-take-le p xs h)) ∙ take_at ys r (length ys) refl
