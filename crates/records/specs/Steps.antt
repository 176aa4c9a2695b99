-- Inner: what the private functions of the record reader answer.
use Rattle.std.specs.Prelude.{◌≡◌, ℕ, ◌+◌, ◌<◌, ◌≤◌, List, [], ◌∷◌, length, Some, None, Ok, Err, Option, Result}
use Rattle.faults.specs.declared.file.FileFault.{FileFault}
use Rattle.cdb.specs.Records.{Record, Records, size}
use Rattle.cdb.specs.Files.{position}
use Rattle.cdb.specs.Rules.{Rule1}
use Rattle.records.specs.declared.placed.PlacedRecord.{PlacedRecord}
use Rattle.records.specs.Readings.{TableInside, HeaderBroken, Passing, Placed, record_of, Breaks}

-- where the records of a file end
abbrev pub Ends : List ℕ → Result ℕ FileFault → Type 0
Ends f (Ok e) = Rule1 f × TableInside f × (e ≡ position f 0)
Ends f (Err x) = HeaderBroken f x

-- what stands at place p: a record, the end of the records, or what breaks rule 3
abbrev pub Found : List ℕ → ℕ → Result (Option PlacedRecord) FileFault → Type 0
Found f p (Ok (Some e)) = Records f p (p + size (record_of e)) (record_of e ∷ []) × Placed p (e ∷ []) × (p + size (record_of e) ≤ position f 0)
Found f p (Ok None) = p ≡ position f 0
Found f p (Err x) = Passing f p x

-- so many of the next records there are: as many as the limit, or all
abbrev pub Meets : List ℕ → ℕ → ℕ → Result ℕ FileFault → Type 0
Meets f p limit (Ok n) =
    Rule1 f × TableInside f
    × ((rs : List Record) × (q : ℕ) × Records f p q rs × (q ≤ position f 0) × (n ≡ length rs) × (n ≤ limit) × (n < limit → q ≡ position f 0))
Meets f p limit (Err x) = Breaks f p limit x
