-- The bytes of a root.
use Rattle.std.proofs.Common.{◌≡◌, ℕ, ◌^◌, ◌<◌, List, ◌++◌, length, drop, replicate, Some, None, Ok, Option, Result, sym, refl, ap, ◌∙◌, subst, arith}
use Rattle.std.proofs.lemmas.List.{length-append, drop-replicate, length-replicate}
use Rattle.byte_lists.specs.Bytes.{part, word, word_at}
use Rattle.byte_lists.proofs.Parts.{At, at_both, at_self}
use Rattle.byte_lists.proofs.Words.{word_read}
use Rattle.faults.specs.declared.device.DeviceFault.{DeviceFault}
use Rattle.device.specs.Meanings.{Meaning, refusal, answer, filled}
use Rattle.areas.specs.declared.area.Area.{Area}
use Rattle.areas.specs.declared.area.Area.TheVariants.{Zero, One}
use Rattle.areas.specs.Geometry.{number, root_bytes}

pub root_laid : (bytes words : List ℕ) (a : Area) (n len : ℕ) → n ≡ number a → words ≡ word n ++ word len
    → bytes ≡ words ++ drop (length words) (replicate 512 0) → bytes ≡ root_bytes a len
unfolding root_bytes
root_laid bytes words a n len e w b =
    let l : length words ≡ 8 = ap length w in
    let z : drop 8 (replicate {A = ℕ} 512 0) ≡ replicate 504 0 = drop-replicate 8 512 0 in
    b ∙ ap (λ (k : ℕ). words ++ drop k (replicate 512 0)) l ∙ ap (λ (q : List ℕ). words ++ q) z
    ∙ ap (λ (q : List ℕ). q ++ replicate 504 0) (w ∙ ap (λ (k : ℕ). word k ++ word len) e)

pub root_long : (a : Area) (len : ℕ) → length (root_bytes a len) ≡ 512
unfolding root_bytes
root_long a len = length-append (word (number a) ++ word len) (replicate 504 0) ∙ omega (arith, length-replicate {A = ℕ} 504 0)

number_small : (a : Area) → number a < 2 ^ 32
number_small Zero = omega arith
number_small One = omega arith

-- the words of a root are read back
pub root_words : (bytes : List ℕ) (a : Area) (len : ℕ) → len < 2 ^ 32 → bytes ≡ root_bytes a len → (word_at bytes 0 ≡ number a) × (word_at bytes 4 ≡ len)
unfolding root_bytes
root_words bytes a len s e =
    let all : At bytes 0 ((word (number a) ++ word len) ++ replicate 504 0) = at_self bytes ((word (number a) ++ word len) ++ replicate 504 0) e in
    let two = (at_both bytes 0 (word (number a) ++ word len) (replicate 504 0) all).0 in
    let both = at_both bytes 0 (word (number a)) (word len) two in
    (word_read bytes 0 (number a) (number_small a) both.0, word_read bytes 4 len s both.1)

by_answer : (o : Option DeviceFault) (new old got : List ℕ) (r : Result (Unit {0}) DeviceFault) → r ≡ answer o → got ≡ filled o new old
    → (u : Unit {0}) → r ≡ Ok u → (o ≡ None) × (got ≡ new)
by_answer None new old got r e g u h = (refl, g)
by_answer (Some x) new old got r e g u h = absurd cc

-- sector 0 is read
pub root_is_read : (m : Meaning) (old got : List ℕ) (r : Result (Unit {0}) DeviceFault) → length old ≡ 512 → r ≡ answer (refusal m 0 (length old))
    → got ≡ filled (refusal m 0 (length old)) (part m.bytes 0 (length old)) old → (u : Unit {0}) → r ≡ Ok u → (refusal m 0 512 ≡ None) × (got ≡ part m.bytes 0 512)
root_is_read m old got r l a g =
    let P : ℕ → Type 0 = λ k. r ≡ answer (refusal m 0 k) in
    let Q : ℕ → Type 0 = λ k. got ≡ filled (refusal m 0 k) (part m.bytes 0 k) old in
    by_answer (refusal m 0 512) (part m.bytes 0 512) old got r (subst P l a) (subst Q l g)

pub same_area : (a b : Area) → number a ≡ number b → a ≡ b
same_area Zero Zero e = refl
same_area Zero One e = absurd (omega arith)
same_area One Zero e = absurd (omega arith)
same_area One One e = refl

-- bytes are the root of one area and one length
pub one_root : (a b : Area) (k l : ℕ) → k < 2 ^ 32 → l < 2 ^ 32 → root_bytes a k ≡ root_bytes b l → (a ≡ b) × (k ≡ l)
one_root a b k l s t e =
    let x = root_words (root_bytes a k) a k s refl in
    let y = root_words (root_bytes a k) b l t e in
    (same_area a b (sym x.0 ∙ y.0), sym x.1 ∙ y.1)
