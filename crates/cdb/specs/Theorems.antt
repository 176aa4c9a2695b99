-- What is proved of the definitions.
use Rattle.std.specs.Prelude.{◌≡◌, ℕ, ◌^◌, ◌<◌, ◌↔◌, List, length}
use Rattle.byte_lists.specs.Bytes.{Bytes}
use Rattle.cdb.specs.Records.{Record}
use Rattle.cdb.specs.Files.{Made}
use Rattle.cdb.specs.Rules.{Lawful}
use Rattle.cdb.specs.Verdicts.{Verdict, Judged}

-- a file of bytes is lawful with these records exactly when some table lengths and permitted filling orders of them give its bytes
abbrev pub LawfulExactlyWhenMade : Type 0
LawfulExactlyWhenMade = (f : List ℕ) (rs : List Record) → Bytes f → length f < 2 ^ 32 → Lawful f rs ↔ Made f rs

-- a lawful file has one record list
abbrev pub OneReading : Type 0
OneReading = (f : List ℕ) (rs ss : List Record) → Lawful f rs → Lawful f ss → rs ≡ ss

-- a file has one verdict
abbrev pub OneVerdict : Type 0
OneVerdict = (f : List ℕ) (v w : Verdict) → Judged f v → Judged f w → v ≡ w
