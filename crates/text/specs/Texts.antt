-- The text of a record list, and where what is no text is refused.
use Rattle.std.specs.Prelude.{◌≡◌, ℕ, ◌^◌, ◌<◌, ◌≤◌, List, [], ◌∷◌, ◌++◌, length, take, decimal}
use Rattle.std.specs.List.{AllByRecursion}
use Rattle.byte_lists.specs.Bytes.{Bytes}
use Rattle.cdb.specs.Records.{Record}

-- the line of a record: a plus sign, the length of the key, a comma, the length of the data, a colon, the key, an arrow, the data, a line feed
abbrev pub line : Record → List ℕ
line r = 43 ∷ (decimal (length r.key) ++ (44 ∷ (decimal (length r.data') ++ (58 ∷ (r.key ++ (45 ∷ 62 ∷ (r.data' ++ (10 ∷ []))))))))

-- the lines of the records, then a line feed
abbrev pub text : List Record → List ℕ
text [] = 10 ∷ []
text (r ∷ rs) = line r ++ text rs

-- key and data are bytes, and their lengths are words
abbrev pub Proper : Record → Type 0
Proper r = Bytes r.key × Bytes r.data' × (length r.key < 2 ^ 32) × (length r.data' < 2 ^ 32)

-- t is the text of these records
abbrev pub TextOf : List ℕ → List Record → Type 0
TextOf t rs = AllByRecursion Proper rs × (t ≡ text rs)

-- t is a text
abbrev pub Text : List ℕ → Type 0
Text t = (rs : List Record) × TextOf t rs

-- some text begins with t
abbrev pub Begins : List ℕ → Type 0
Begins t = (s : List ℕ) × Text (t ++ s)

-- t is no text, and the first n bytes of it are the longest beginning of it with which some text begins
pub record Refused (t : List ℕ) (n : ℕ) : Type 0 where
  pub within : n ≤ length t
  pub begins : Begins (take n t)
  pub longest : (m : ℕ) → m ≤ length t → Begins (take m t) → m ≤ n
  pub refused : Text t → ⊥
