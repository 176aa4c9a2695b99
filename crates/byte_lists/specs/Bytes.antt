-- Lists of bytes: parts, pieces laid over, words.
use Rattle.std.specs.Prelude.{ℕ, ◌+◌, ◌*◌, ◌/◌, ◌%◌, ◌<◌, List, [], ◌∷◌, ◌++◌, length, take, drop, slice_index}
use Rattle.std.specs.List.{AllByRecursion}

-- every number of the list is a byte
abbrev pub Bytes : List ℕ → Type 0
Bytes xs = AllByRecursion (λ b. b < 256) xs

-- n bytes from a place on, or as many as there are
abbrev pub part : List ℕ → ℕ → ℕ → List ℕ
part xs place n = take n (drop place xs)

-- the list with a piece laid over it from a place on
abbrev pub laid : List ℕ → ℕ → List ℕ → List ℕ
laid xs place piece = take place xs ++ (piece ++ drop (length piece) (drop place xs))

-- a word is a number below 2^32 in four bytes, the lowest first
abbrev pub word : ℕ → List ℕ
word n = n % 256 ∷ n / 256 % 256 ∷ n / 256 / 256 % 256 ∷ n / 256 / 256 / 256 % 256 ∷ []

-- the word that stands at a place
abbrev pub word_at : List ℕ → ℕ → ℕ
word_at xs p = slice_index xs p + 256 * (slice_index xs (p + 1) + 256 * (slice_index xs (p + 2) + 256 * slice_index xs (p + 3)))
