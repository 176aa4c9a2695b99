-- Inner: the records that a reader has ahead.
use Rattle.std.specs.Prelude.{ℕ, ◌^◌, ◌<◌, List, length}
use Rattle.byte_lists.specs.Bytes.{Bytes}
use Rattle.cdb.specs.Records.{Record, Records}
use Rattle.cdb.specs.Files.{position}
use Rattle.cdb.specs.Rules.{Rule1}
use Rattle.records.specs.Readings.{TableInside}

-- f is a file that keeps the rules that the reader looks at, and these records stand from place p up to table 0
pub record Ahead (f : List ℕ) (p : ℕ) (rs : List Record) : Type 0 where
  pub bytes : Bytes f
  pub small : length f < 2 ^ 32
  pub long : Rule1 f
  pub inside : TableInside f
  pub reads : Records f p (position f 0) rs

-- these are all records of f
abbrev pub Standing : List ℕ → List Record → Type 0
Standing f rs = Ahead f 2048 rs
