-- How long the file of some records is.
use Rattle.std.specs.Prelude.{◌≡◌, ℕ, ◌+◌, ◌*◌, ◌<◌, ◌≤◌, List, length, Ok, Err, Result}
use Rattle.std.specs.List.{flat_map}
use Rattle.cdb.specs.Records.{Record, record_bytes}
use Rattle.text.specs.declared.tally.Tally.{Tally}
use Rattle.text.specs.Texts.{TextOf}
use Rattle.text.specs.Wholes.{Tallies}
use Rattle.making.specs.declared.fault.MakeFault.{MakeFault}
use Rattle.making.specs.declared.fault.MakeFault.TheVariants.{Text, Entries, Long, File}
use Rattle.making.specs.declared.sizes.FileSize.{FileSize}

-- where records end that stand behind the header
abbrev pub end_of : List Record → ℕ
end_of rs = 2048 + length (flat_map record_bytes rs)

-- how long the file of these records is: behind them stand two slots of 8 bytes for each
abbrev pub made_length : List Record → ℕ
made_length rs = end_of rs + 16 * length rs

-- the file of the text has this size; or the text is refused, or the file would be longer than the largest device
abbrev pub Measures : List ℕ → Result FileSize MakeFault → Type 0
Measures t (Ok z) = (rs : List Record) × TextOf t rs × (z.records ≡ length rs) × (z.len ≡ made_length rs) × (made_length rs ≤ 4294966784)
Measures t (Err (Text f)) = Tallies t (Err f)
Measures t (Err Entries) = ⊥
Measures t (Err (Long limit)) = (rs : List Record) × TextOf t rs × (limit ≡ 4294966784) × (limit < made_length rs)
Measures t (Err (File f)) = ⊥

-- the length of a file of so many records is within a limit, or not
abbrev pub FitsIn : Tally → ℕ → Result ℕ MakeFault → Type 0
FitsIn c limit (Ok len) = (len ≡ 2048 + c.bytes + 24 * c.records) × (len ≤ limit)
FitsIn c limit (Err x) = (x ≡ Long limit) × (limit < 2048 + c.bytes + 24 * c.records)
