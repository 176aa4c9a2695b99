-- The eight rules of the audit, on the bytes of a file.
use Rattle.std.specs.Prelude.{◌≡◌, ℕ, ◌+◌, ◌-◌, ◌<◌, ◌≤◌, List, ◌∷◌, ◌++◌, length, count_by, nat_lt}
use Rattle.std.specs.List.{ContainsAt as Has, AllByRecursion}
use Rattle.byte_lists.specs.Bytes.{word_at}
use Rattle.cdb.specs.Records.{Record, Records, Item, items, belonging}
use Rattle.cdb.specs.Tables.{Slot, slot, Empty, Distance}
use Rattle.cdb.specs.Files.{position, slot_count, ends, slots_in, slots_of}

-- t is the first below n that breaks a rule
pub record First (n : ℕ) (Keeps : ℕ → Type 0) (t : ℕ) : Type 0 where
  pub within : t < n
  pub before : (i : ℕ) → i < t → Keeps i
  pub broken : Keeps t → ⊥

-- x is the first of a list that breaks a rule
pub record FirstOf (xs : List Item) (Keeps : Item → Type 0) (x : Item) : Type 0 where
  pub before : List Item
  pub after : List Item
  pub among : xs ≡ before ++ x ∷ after
  pub kept : AllByRecursion Keeps before
  pub broken : Keeps x → ⊥

-- every table keeps a rule
abbrev pub Each : (ℕ → Type 0) → Type 0
Each Keeps = (t : ℕ) → t < 256 → Keeps t

-- rule 1: the file is as long as a header
abbrev pub Rule1 : List ℕ → Type 0
Rule1 f = 2048 ≤ length f

-- rule 2, for the header entry of table t: the first table starts behind the header and inside the file, each other where the one before ends,
-- none ends past the file, and the last ends with it
pub record Rule2 (f : List ℕ) (t : ℕ) : Type 0 where
  pub first : t ≡ 0 → (2048 ≤ position f t) × (position f t ≤ length f)
  pub abuts : 0 < t → position f t ≡ ends f (t - 1)
  pub within : ends f t ≤ length f
  pub last : t ≡ 255 → ends f t ≡ length f

-- rule 3: these records stand from the header's end up to table 0
abbrev pub Rule3 : List ℕ → List Record → Type 0
Rule3 f rs = Records f 2048 (position f 0) rs

-- rule 3 is broken by the record at p: records stand up to p, which is before table 0, and the one there ends past the start of table 0
abbrev pub Passes : List ℕ → ℕ → Type 0
Passes f p = (rs : List Record) × Records f 2048 p rs × (p < position f 0) × (position f 0 < p + (8 + (word_at f p + word_at f (p + 4))))

-- rule 4, for a record: it has a distance
abbrev pub Rule4 : List ℕ → Item → Type 0
Rule4 f x = (j : ℕ) × Distance (slots_of f x) x j

-- rule 5, for table t: it has as many filled slots as records
abbrev pub Rule5 : List ℕ → List Record → ℕ → Type 0
Rule5 f rs t = count_by (λ (s : Slot). nat_lt 0 s.place) (slots_in f t) ≡ length (belonging t rs)

-- rule 6, for table t: if it has slots, one is empty
abbrev pub Rule6 : List ℕ → ℕ → Type 0
Rule6 f t = 0 < slot_count f t → (i : ℕ) × (i < slot_count f t) × Empty (slots_in f t) i

-- rule 7, for slot i of table t: if it is empty, its hash is 0
abbrev pub Clear : List ℕ → ℕ → ℕ → Type 0
Clear f t i = Empty (slots_in f t) i → (slot (slots_in f t) i).hash ≡ 0

-- rule 7, for table t
abbrev pub Rule7 : List ℕ → ℕ → Type 0
Rule7 f t = (i : ℕ) → i < slot_count f t → Clear f t i

-- rule 8, for a record: no earlier record of equal key has a greater distance
abbrev pub Rule8 : List ℕ → List Record → Item → Type 0
Rule8 f rs x = (y : Item) (j k : ℕ) → Has (items 2048 rs) y → y.key ≡ x.key → y.place < x.place
    → Distance (slots_of f x) x j → Distance (slots_of f y) y k → k ≤ j

-- a file that breaks none of the rules, with its records
pub record Lawful (f : List ℕ) (rs : List Record) : Type 0 where
  pub long : Rule1 f
  pub entries : Each (Rule2 f)
  pub reads : Rule3 f rs
  pub placed : AllByRecursion (Rule4 f) (items 2048 rs)
  pub counted : Each (Rule5 f rs)
  pub room : Each (Rule6 f)
  pub clear : Each (Rule7 f)
  pub ordered : AllByRecursion (Rule8 f rs) (items 2048 rs)
