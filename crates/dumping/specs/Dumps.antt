-- What the dump of a file answers.
use Rattle.std.specs.Prelude.{◌≡◌, ℕ, ◌<◌, ◌≤◌, List, length, take, Ok, Err, Result}
use Rattle.byte_lists.specs.Bytes.{laid}
use Rattle.faults.specs.declared.report.Report.{Report}
use Rattle.faults.specs.declared.file.FileFault.{FileFault}
use Rattle.faults.specs.Reports.{report, file_report}
use Rattle.cdb.specs.Records.{Record}
use Rattle.cdb.specs.Rules.{Lawful}
use Rattle.text.specs.Texts.{TextOf}
use Rattle.c_calls.specs.InMemory.{Fits, AuditsMemory}
use Rattle.dumping.specs.declared.fault.DumpFault.{DumpFault}
use Rattle.dumping.specs.declared.fault.DumpFault.TheVariants.{File, Short}

-- the number, the table and the place of each refusal: those of the file's, or 27 and how much was lent
abbrev pub dump_report : DumpFault → Report
dump_report (File f) = file_report f
dump_report (Short n) = report 27 256 n

-- the file of len bytes that memory begins with is lawful, and t is the text of its records
abbrev pub TextInMemory : List ℕ → ℕ → List ℕ → Type 0
TextInMemory xs len t = Fits xs len × ((rs : List Record) × Lawful (take len xs) rs × TextOf t rs)

-- the length of that text; or the audit's refusal
abbrev pub Measures : List ℕ → ℕ → Result ℕ FileFault → Type 0
Measures xs len (Ok n) = (t : List ℕ) × TextInMemory xs len t × (n ≡ length t)
Measures xs len (Err f) = AuditsMemory xs len (Err f)

-- there is no other answer
abbrev pub OnlyMeasure : List ℕ → ℕ → Result ℕ FileFault → Type 0
OnlyMeasure xs len r = (s : Result ℕ FileFault) → Measures xs len s → s ≡ r

-- that text is laid over the start of a buffer b that has room for so many bytes, which turns it into c;
-- or the audit refuses the file, or the buffer is too short, and nothing changes
abbrev pub Dumps : List ℕ → ℕ → ℕ → List ℕ → Result ℕ DumpFault → List ℕ → Type 0
Dumps xs len room b (Ok n) c = (t : List ℕ) × TextInMemory xs len t × (n ≡ length t) × (n ≤ room) × (c ≡ laid b 0 t)
Dumps xs len room b (Err (File f)) c = AuditsMemory xs len (Err f) × (c ≡ b)
Dumps xs len room b (Err (Short n)) c = ((t : List ℕ) × TextInMemory xs len t × (room < length t)) × (n ≡ room) × (c ≡ b)

-- there is no other answer, and the buffer holds nothing else
abbrev pub OnlyDump : List ℕ → ℕ → ℕ → List ℕ → Result ℕ DumpFault → List ℕ → Type 0
OnlyDump xs len room b r c = (s : Result ℕ DumpFault) (d : List ℕ) → Dumps xs len room b s d → (s ≡ r) × (d ≡ c)

-- a lawful file with the records of a text gives that text back, byte for byte, where there is room for it
abbrev pub GivesTheText : List ℕ → ℕ → ℕ → Result ℕ DumpFault → List ℕ → Type 0
GivesTheText xs len room r c =
    (t : List ℕ) (rs : List Record) → TextOf t rs → Fits xs len → Lawful (take len xs) rs → length t ≤ room → (r ≡ Ok (length t)) × (take (length t) c ≡ t)
