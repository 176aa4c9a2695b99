-- What the calls on whole texts answer.
use Rattle.std.specs.Prelude.{◌≡◌, ℕ, ◌+◌, ◌<◌, ◌≤◌, List, [], ◌∷◌, map, length, take, drop, Ok, Err, Result}
use Rattle.cdb.specs.Records.{Record}
use Rattle.text.specs.declared.fault.TextFault.{TextFault}
use Rattle.text.specs.declared.fault.TextFault.TheVariants.{Malformed, Short, Long}
use Rattle.text.specs.declared.lent.LentRecord.{LentRecord}
use Rattle.text.specs.declared.tally.Tally.{Tally}
use Rattle.text.specs.Texts.{TextOf, Refused}
use Rattle.text.specs.Readings.{lent}

-- the bytes of the keys and data in all
abbrev pub bytes_in : List Record → ℕ
bytes_in [] = 0
bytes_in (r ∷ rs) = length r.key + length r.data' + bytes_in rs

-- t is the text of some records, which are counted; or it is refused
abbrev pub Tallies : List ℕ → Result Tally TextFault → Type 0
Tallies t (Ok c) = (rs : List Record) × TextOf t rs × (c.records ≡ length rs) × (c.bytes ≡ bytes_in rs)
Tallies t (Err (Malformed e)) = Refused t e
Tallies t (Err (Short n)) = ⊥
Tallies t (Err Long) = ⊥

-- the records of t are written to the start of a lent list that has room for so many, and the rest of it stays; a refused call changes nothing
abbrev pub Reads : List ℕ → ℕ → List LentRecord → Result ℕ TextFault → List LentRecord → Type 0
Reads t room xs (Ok n) ys = TextOf t (map lent (take n ys)) × (n ≤ room) × (length ys ≡ length xs) × (drop n ys ≡ drop n xs)
Reads t room xs (Err (Malformed e)) ys = Refused t e × (ys ≡ xs)
Reads t room xs (Err (Short n)) ys = ((rs : List Record) × TextOf t rs × (room < length rs)) × (n ≡ room) × (ys ≡ xs)
Reads t room xs (Err Long) ys = ⊥

-- the text of records that there is room for gives these records
abbrev pub GivesTheRecords : List ℕ → ℕ → Result ℕ TextFault → List LentRecord → Type 0
GivesTheRecords t room r ys = (rs : List Record) → TextOf t rs → length rs ≤ room → (r ≡ Ok (length rs)) × (map lent (take (length rs) ys) ≡ rs)
