-- What the text writer answers.
use Rattle.std.specs.Prelude.{◌≡◌, ℕ, ◌<◌, ◌≤◌, List, map, length, take, Ok, Err, Result}
use Rattle.std.specs.List.{AllByRecursion}
use Rattle.byte_lists.specs.Bytes.{laid}
use Rattle.cdb.specs.Records.{Record}
use Rattle.text.specs.declared.fault.TextFault.{TextFault}
use Rattle.text.specs.declared.fault.TextFault.TheVariants.{Malformed, Short, Long}
use Rattle.text.specs.declared.lent.LentRecord.{LentRecord}
use Rattle.text.specs.Texts.{text, Proper, TextOf}
use Rattle.text.specs.Readings.{lent}
use Rattle.text.specs.Wholes.{Reads}

-- the text of the records is laid over the start of a buffer b that has room for so many bytes, which turns it into c;
-- or a key or data is too long, or the buffer is too short, and nothing changes
abbrev pub Writes : List Record → ℕ → List ℕ → Result ℕ TextFault → List ℕ → Type 0
Writes rs room b (Ok n) c = AllByRecursion Proper rs × (n ≡ length (text rs)) × (n ≤ room) × (c ≡ laid b 0 (text rs))
Writes rs room b (Err (Malformed e)) c = ⊥
Writes rs room b (Err (Short n)) c = AllByRecursion Proper rs × (room < length (text rs)) × (n ≡ room) × (c ≡ b)
Writes rs room b (Err Long) c = (AllByRecursion Proper rs → ⊥) × (c ≡ b)

-- what was read from a text gives that text back, byte for byte
abbrev pub GivesTheTextBack : List Record → ℕ → Result ℕ TextFault → List ℕ → Type 0
GivesTheTextBack rs room r c = (t : List ℕ) → TextOf t rs → length t ≤ room → (r ≡ Ok (length t)) × (take (length t) c ≡ t)

-- what was written gives the records back, if they are read into a list that has room for them
abbrev pub ReadsBack : List Record → Result ℕ TextFault → List ℕ → Type 0
ReadsBack rs (Ok n) c = (xs ys : List LentRecord) (r : Result ℕ TextFault) → Reads (take n c) (length xs) xs r ys → length rs ≤ length xs
    → (r ≡ Ok (length rs)) × (map lent (take (length rs) ys) ≡ rs)
ReadsBack rs (Err f) c = Unit {0}
