-- The words of a line.
use Rattle.std.specs.Prelude.{ℕ, ◌<◌, Bool, false, ◌==◌, List, [], ◌∷◌, length, if◌then◌else◌}
use Rattle.std.specs.List.{slice_split, AllByRecursion}
use Rattle.script.specs.declared.reason.Reason.{Reason}
use Rattle.script.specs.declared.reason.Reason.TheVariants as reason

-- the pieces of a line between its spaces, which are empty where two spaces stand side by side
abbrev pub pieces : List ℕ → List (List ℕ)
pieces line = slice_split (λ b. b == 32) line

-- a hash in front makes a piece the start of a comment
abbrev pub starts_comment : List ℕ → Bool
starts_comment [] = false
starts_comment (b ∷ bs) = b == 35

-- a piece in front of words; an empty piece with no word behind it is a space at the end, and counts for nothing
abbrev pub in_front : List ℕ → List (List ℕ) → List (List ℕ)
in_front [] [] = []
in_front [] (w ∷ ws) = [] ∷ (w ∷ ws)
in_front (b ∷ bs) ws = (b ∷ bs) ∷ ws

-- the pieces up to a comment, without the empty ones at the end
abbrev pub up_to_comment : List (List ℕ) → List (List ℕ)
up_to_comment [] = []
up_to_comment (p ∷ ps) = if starts_comment p then [] else in_front p (up_to_comment ps)

-- the words of a line; one of them is empty only where a space too many stands
abbrev pub words : List ℕ → List (List ℕ)
words line = up_to_comment (pieces line)

-- a word has a byte
abbrev pub HasByte : List ℕ → Type 0
HasByte w = 0 < length w

-- the words are malformed for a reason that is seen in words alone: one is empty, or there are more than any command has
abbrev pub Unreadable : List (List ℕ) → Reason → Type 0
Unreadable ws reason.SpaceTooMany = AllByRecursion HasByte ws → ⊥
Unreadable ws reason.TooManyWords = 4 < length ws
Unreadable ws _ = ⊥
