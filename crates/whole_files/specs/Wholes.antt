-- What is answered of a file that is read whole.
use Rattle.std.specs.Prelude.{◌≡◌, ℕ, zero, suc, ◌<◌, List, [], ◌∷◌, length, take, Some, None, Ok, Err, codes, Option, Result}
use Rattle.std.specs.Borrow.{Bor}
use Rattle.std.specs.Global.{Vec}
use Rattle.byte_lists.specs.Bytes.{part}
use Rattle.faults.specs.declared.file.FileFault.{FileFault}
use Rattle.faults.specs.declared.file.FileFault.TheVariants.{Range}
use Rattle.faults.specs.Reports.{file_report}
use Rattle.telling.specs.Words.{refusal_text}
use Rattle.cdb.specs.Records.{Record}
use Rattle.cdb.specs.Rules.{Lawful}
use Rattle.cdb.specs.Verdicts.{refused, Judged}
use Rattle.lookup.specs.declared.cursors.Found.{Found}
use Rattle.gathering.specs.Gathers.{data_with}
use Rattle.text.specs.Texts.{TextOf}
use Rattle.c_calls.specs.InMemory.{FindsInMemory}
use Rattle.whole_files.specs.declared.fault.WholeFault.{WholeFault}
use Rattle.whole_files.specs.declared.fault.WholeFault.TheVariants.{Refused, Memory}
use Rattle.whole_files.specs.declared.whole.WholeFile.{WholeFile}

-- how people are told
abbrev pub fault_text : WholeFault → List ℕ
fault_text (Refused f) = refusal_text (file_report f)
fault_text Memory = codes "not enough memory"

-- the bytes of the file
abbrev pub bytes_of : WholeFile → List ℕ
bytes_of w = take w.len w.memory.items

-- a file of these bytes is held, or is longer than any device
abbrev pub Holds : List ℕ → Result WholeFile WholeFault → Type 0
Holds f (Ok w) = bytes_of w ≡ f
Holds f (Err (Refused x)) = (4294966784 < length f) × (x ≡ Range)
Holds f (Err Memory) = Unit {0}

-- the text of the records of a lawful file, or the first rule that the file breaks
abbrev pub Dumped : WholeFile → Result (Vec ℕ) WholeFault → Type 0
Dumped w (Ok t) = (rs : List Record) × Lawful (bytes_of w) rs × TextOf t.items rs
Dumped w (Err (Refused x)) = Judged (bytes_of w) (refused (file_report x))
Dumped w (Err Memory) = Unit {0}

-- the data that the lookup by number finds in the file of len bytes that memory begins with, as a part of the file, or what that lookup answers else
abbrev pub Looked : List ℕ → ℕ → List ℕ → ℕ → Result (Option (Bor (List ℕ))) FileFault → Type 0
Looked xs len key n (Ok (Some d)) = (x : Found) × FindsInMemory xs len key n (Ok (Some x)) × (d.now ≡ part (take len xs) x.place x.len)
Looked xs len key n (Ok None) = FindsInMemory xs len key n (Ok None)
Looked xs len key n (Err x) = FindsInMemory xs len key n (Err x)

-- number n of these, counted from 0, or none past the last
abbrev pub numbered : ℕ → List (List ℕ) → Option (List ℕ)
numbered n [] = None
numbered zero (x ∷ xs) = Some x
numbered (suc n) (x ∷ xs) = numbered n xs

-- this is what is answered, apart from where the bytes lie in memory
abbrev pub Answered : Option (List ℕ) → Result (Option (Bor (List ℕ))) FileFault → Type 0
Answered o (Ok (Some d)) = o ≡ Some d.now
Answered o (Ok None) = o ≡ None
Answered o (Err x) = ⊥

-- in a lawful file f with these records it is number n of the data of the records with the key
abbrev pub GivesData : List ℕ → List ℕ → ℕ → Result (Option (Bor (List ℕ))) FileFault → Type 0
GivesData f key n r = (rs : List Record) → Lawful f rs → Answered (numbered n (data_with key rs)) r
