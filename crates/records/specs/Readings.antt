-- What the record reader answers.
use Rattle.std.specs.Prelude.{◌≡◌, ℕ, ◌+◌, ◌<◌, ◌≤◌, ◌⊎◌, List, [], ◌∷◌, map, length, take, drop, Some, None, Ok, Err, Option, Result}
use Rattle.byte_lists.specs.Bytes.{word_at}
use Rattle.faults.specs.declared.file.FileFault.{FileFault}
use Rattle.faults.specs.declared.file.FileFault.TheVariants as fault
use Rattle.cdb.specs.Records.{Record, Records, size}
use Rattle.cdb.specs.Files.{position}
use Rattle.cdb.specs.Rules.{Rule1}
use Rattle.records.specs.declared.placed.PlacedRecord.{PlacedRecord}

-- table 0 starts behind the header and inside the file
abbrev pub TableInside : List ℕ → Type 0
TableInside f = (2048 ≤ position f 0) × (position f 0 ≤ length f)

-- rule 1 or rule 2 is broken, the latter by the position of table 0
abbrev pub HeaderBroken : List ℕ → FileFault → Type 0
HeaderBroken f x = ((length f < 2048) × (x ≡ fault.Short (length f))) ⊎ (Rule1 f × (TableInside f → ⊥) × (x ≡ fault.Entry 0))

-- rule 3 is broken by what stands at p: it would end past the start of table 0
abbrev pub Passing : List ℕ → ℕ → FileFault → Type 0
Passing f p x = (p < position f 0) × (position f 0 < p + (8 + (word_at f p + word_at f (p + 4)))) × (x ≡ fault.Record p)

-- the record that is handed out
abbrev pub record_of : PlacedRecord → Record
record_of e = record { key = e.key.now; data' = e.«data».now }

-- these stand one behind the other from place p on, and tell their places and those of their data
abbrev pub Placed : ℕ → List PlacedRecord → Type 0
Placed p [] = Unit {0}
Placed p (e ∷ es) = (e.place ≡ p) × (e.data_place ≡ p + 8 + length e.key.now) × Placed (p + size (record_of e)) es

-- the answer of a reader that stands at place p, and the place q where it stands then
abbrev pub Hands : List ℕ → ℕ → Result (Option PlacedRecord) FileFault → ℕ → Type 0
Hands f p (Ok (Some e)) q = Rule1 f × TableInside f × Records f p q (record_of e ∷ []) × Placed p (e ∷ []) × (q ≤ position f 0)
Hands f p (Ok None) q = Rule1 f × TableInside f × (p ≡ position f 0) × (q ≡ p)
Hands f p (Err x) q = (HeaderBroken f x ⊎ (Rule1 f × TableInside f × Passing f p x)) × (q ≡ p)

-- records stand from place p on up to one that breaks rule 3, or the file has no records to read; fewer than the limit stand before it
abbrev pub Breaks : List ℕ → ℕ → ℕ → FileFault → Type 0
Breaks f p limit x = HeaderBroken f x ⊎ (Rule1 f × TableInside f × ((rs : List Record) × (at : ℕ) × Records f p at rs × (length rs < limit) × Passing f at x))

-- a lent list is filled from its start with as many of the next records as it has room for, with fewer only where the records end; the rest of it stays;
-- a refused call changes nothing
abbrev pub Fills : List ℕ → ℕ → ℕ → List PlacedRecord → Result ℕ FileFault → List PlacedRecord → ℕ → Type 0
Fills f p room es (Ok n) fs q =
    Rule1 f × TableInside f × Records f p q (map record_of (take n fs)) × Placed p (take n fs) × (q ≤ position f 0)
    × (length fs ≡ length es) × (drop n fs ≡ drop n es) × (n ≤ room) × (n < room → q ≡ position f 0)
Fills f p room es (Err x) fs q = Breaks f p room x × (fs ≡ es) × (q ≡ p)
