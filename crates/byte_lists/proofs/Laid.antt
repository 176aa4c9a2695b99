-- A piece laid over a list.
use Rattle.std.proofs.Common.{◌≡◌, ℕ, ◌+◌, ◌<◌, ◌≤◌, List, ◌++◌, length, get_or, take, drop, arith, rules}
use Rattle.std.proofs.lemmas.Slice.{overwrites}
use Rattle.std.proofs.lemmas.List.{places, same_lists}
use Rattle.std.proofs.ByRecursion.{All-append, All-take, All-drop}
use Rattle.byte_lists.specs.Bytes.{Bytes, laid}

pub length_laid : (xs : List ℕ) (p : ℕ) (ys : List ℕ) → p + length ys ≤ length xs → length (laid xs p ys) ≡ length xs
length_laid xs p ys h = search (rules, overwrites)

pub before_laid : (xs : List ℕ) (p : ℕ) (ys : List ℕ) (k : ℕ) → p + length ys ≤ length xs → k < p → get_or (laid xs p ys) k 0 ≡ get_or xs k 0
before_laid xs p ys k h b = search (rules, places)

pub past_laid : (xs : List ℕ) (p : ℕ) (ys : List ℕ) (k : ℕ) → p + length ys ≤ length xs → p + length ys ≤ k → get_or (laid xs p ys) k 0 ≡ get_or xs k 0
past_laid xs p ys k h b = search (rules, places)

pub take_laid : (xs : List ℕ) (p : ℕ) (ys : List ℕ) (m : ℕ) → m ≤ length xs → p + length ys ≤ m → take m (laid xs p ys) ≡ laid (take m xs) p ys
take_laid xs p ys m h b = same_lists _ _ (search (rules, places)) (λ k d l. grind (arith, places))

-- bytes laid over bytes are bytes
pub laid_bytes : (xs : List ℕ) (p : ℕ) (ys : List ℕ) → Bytes xs → Bytes ys → Bytes (laid xs p ys)
laid_bytes xs p ys a b =
    All-append (λ n. n < 256) (take p xs) (ys ++ drop (length ys) (drop p xs)) (All-take (λ n. n < 256) p xs a)
    (All-append (λ n. n < 256) ys (drop (length ys) (drop p xs)) b
    (All-drop (λ n. n < 256) (length ys) (drop p xs) (All-drop (λ n. n < 256) p xs a)))
