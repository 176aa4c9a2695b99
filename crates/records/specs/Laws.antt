-- What calls of the record reader give together.
use Rattle.std.specs.Prelude.{◌≡◌, ℕ, min, List, [], ◌∷◌, ◌++◌, map, length, take, Some, None, Ok, Err, Option, Result}
use Rattle.faults.specs.declared.file.FileFault.{FileFault}
use Rattle.faults.specs.Reports.{file_report}
use Rattle.cdb.specs.Records.{Record, Records}
use Rattle.cdb.specs.Rules.{Each, Rule2, Lawful}
use Rattle.cdb.specs.Verdicts as verdicts
use Rattle.records.specs.declared.placed.PlacedRecord.{PlacedRecord}
use Rattle.records.specs.Readings.{TableInside, Placed, record_of, Hands}

-- calls of next, one after the other, that take a reader from place p to place q, and what they handed out
pub data Calls (f : List ℕ) : ℕ → List PlacedRecord → ℕ → Type 0 where
  none : {p : ℕ} → Calls f p [] p
  handed : {p q t : ℕ} {e : PlacedRecord} {es : List PlacedRecord} → Hands f p (Ok (Some e)) q → Calls f q es t → Calls f p (e ∷ es) t
  ended : {p q t : ℕ} {es : List PlacedRecord} → Hands f p (Ok None) q → Calls f q es t → Calls f p es t
  refused : {p q t : ℕ} {x : FileFault} {es : List PlacedRecord} → Hands f p (Err x) q → Calls f q es t → Calls f p es t

-- on any bytes, what calls from the first record on hand out are the records that stand from there up to the reader's place
abbrev pub HandsOutRecords : List ℕ → Type 0
HandsOutRecords f = (es : List PlacedRecord) (q : ℕ) → Calls f 2048 es q → Records f 2048 q (map record_of es) × Placed 2048 es

-- what an answer tells, apart from places
abbrev pub told : Result (Option PlacedRecord) FileFault → Result (Option Record) FileFault
told (Ok (Some e)) = Ok (Some (record_of e))
told (Ok None) = Ok None
told (Err x) = Err x

-- the first of these records, or the end if there are none
abbrev pub first : List Record → Result (Option Record) FileFault
first [] = Ok None
first (r ∷ rs) = Ok (Some r)

-- on a lawful file, calls from the first record on hand out its records in order, and the next call hands out the next of them, or is the end after the last
abbrev pub HandsOutInOrder : List ℕ → Type 0
HandsOutInOrder f = (rs : List Record) → Lawful f rs → (es : List PlacedRecord) (q : ℕ) → Calls f 2048 es q
    → (after : List Record) × (rs ≡ map record_of es ++ after) × ((r : Result (Option PlacedRecord) FileFault) (t : ℕ) → Hands f q r t → told r ≡ first after)

-- a refusal is the audit's verdict, but where the audit finds fault with a header entry that the reader does not look at
abbrev pub RefusesAsJudged : List ℕ → Type 0
RefusesAsJudged f = (TableInside f → Each (Rule2 f)) → (es : List PlacedRecord) (q t : ℕ) (x : FileFault) → Calls f 2048 es q → Hands f q (Err x) t
    → verdicts.Judged f (verdicts.refused (file_report x))

-- the list is filled with the first of these records, as many as it has room for
abbrev pub FilledFrom : ℕ → Result ℕ FileFault → List PlacedRecord → List Record → Type 0
FilledFrom room r es rs = (r ≡ Ok (min room (length rs))) × (map record_of (take (min room (length rs)) es) ≡ take (min room (length rs)) rs)

-- on a lawful file, of whose records those up to place p were handed out, the list is filled with those that follow
abbrev pub FillsInOrder : List ℕ → ℕ → ℕ → Result ℕ FileFault → List PlacedRecord → Type 0
FillsInOrder f p room r es = (before after : List Record) → Lawful f (before ++ after) → Records f 2048 p before → FilledFrom room r es after
