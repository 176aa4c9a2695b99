-- The data of a key by their number: a start, and nexts up to that number.
use Rattle.std.specs.Prelude.{◌≡◌, ℕ, zero, suc, List, [], ◌∷◌, Some, None, Ok, Err, Option, Result}
use Rattle.faults.specs.declared.file.FileFault.{FileFault}
use Rattle.device.specs.Meanings.{Meaning}
use Rattle.cdb.specs.Records.{Record}
use Rattle.cdb.specs.Rules.{Lawful}
use Rattle.file.specs.declared.extents.Extent.{Extent}
use Rattle.file.specs.Extents.{file, Readable}
use Rattle.lookup.specs.declared.cursors.Cursor.{Cursor}
use Rattle.lookup.specs.declared.cursors.Found.{Found}
use Rattle.lookup.specs.Nexts.{Next}
use Rattle.lookup.specs.Starts.{Start}
use Rattle.lookup_runs.specs.Datas.{datas}

-- number n of some data, counted from 0, or none past the last
abbrev pub numbered : ℕ → List Found → Option Found
numbered n [] = None
numbered zero (x ∷ xs) = Some x
numbered (suc n) (x ∷ xs) = numbered n xs

-- what next n, counted from 0, answers from a cursor on; the first next that is refused or answers none is the last
pub data NthFrom (m : Meaning) (key : List ℕ) : Cursor → ℕ → Result (Option Found) FileFault → Type 0 where
  refused : {c c' : Cursor} {n : ℕ} {f : FileFault} → Next m c key (Err f) c' → NthFrom m key c n (Err f)
  ended : {c c' : Cursor} {n : ℕ} → Next m c key (Ok None) c' → NthFrom m key c n (Ok None)
  here : {c c' : Cursor} {x : Found} → Next m c key (Ok (Some x)) c' → NthFrom m key c zero (Ok (Some x))
  later : {c c' : Cursor} {n : ℕ} {x : Found} {r : Result (Option Found) FileFault} → Next m c key (Ok (Some x)) c' → NthFrom m key c' n r → NthFrom m key c (suc n) r

-- the same after a start
pub data Nth (m : Meaning) (e : Extent) (key : List ℕ) (n : ℕ) : Result (Option Found) FileFault → Type 0 where
  no_start : {f : FileFault} → Start m e key (Err f) → Nth m e key n (Err f)
  started : {c : Cursor} {r : Result (Option Found) FileFault} → Start m e key (Ok c) → NthFrom m key c n r → Nth m e key n r

-- there is no other answer
abbrev pub OnlyNth : Meaning → Extent → List ℕ → ℕ → Result (Option Found) FileFault → Type 0
OnlyNth m e key n r = (s : Result (Option Found) FileFault) → Nth m e key n s → s ≡ r

-- in a lawful file that can be read, with these records, it is number n of the data of the records with the key, in file order
abbrev pub NthGivesRecord : Meaning → Extent → List ℕ → ℕ → Result (Option Found) FileFault → Type 0
NthGivesRecord m e key n r = (rs : List Record) → Readable m e → Lawful (file m e) rs → r ≡ Ok (numbered n (datas 2048 rs key))

-- a sample: of the records a → 1 and a → 2, with the data in one byte each, the data of the key `a`
abbrev pub data_of_a : List Found
data_of_a = datas 2048 (record { key = 97 ∷ []; data' = 49 ∷ [] } ∷ record { key = 97 ∷ []; data' = 50 ∷ [] } ∷ []) (97 ∷ [])

-- they are found at 2057 and 2067, then none is, and none again
abbrev pub TwoDataOfOneKey : Type 0
TwoDataOfOneKey =
    (numbered 0 data_of_a ≡ Some (record { place = 2057; len = 1 })) × (numbered 1 data_of_a ≡ Some (record { place = 2067; len = 1 }))
    × (numbered 2 data_of_a ≡ None) × (numbered 3 data_of_a ≡ None)
