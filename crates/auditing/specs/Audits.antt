-- What the audit of an extent answers.
use Rattle.std.specs.Prelude.{◌≡◌, ℕ, ◌⊎◌, List, length, Ok, Err, Result, MatchResult}
use Rattle.faults.specs.declared.file.FileFault.{FileFault}
use Rattle.faults.specs.Reports.{file_report}
use Rattle.device.specs.Meanings.{Meaning}
use Rattle.cdb.specs.Records.{Record, items}
use Rattle.cdb.specs.Files.{Made}
use Rattle.cdb.specs.Rules.{Lawful}
use Rattle.cdb.specs.Verdicts.{Verdict, accepted, refused, slots_below, Probes, Judged}
use Rattle.file.specs.declared.extents.Extent.{Extent}
use Rattle.file.specs.Extents.{file, Readable, Unreadable}
use Rattle.auditing.specs.declared.audits.Counts.{Counts}

-- an answer as a verdict on the file
abbrev pub verdict : Result Counts FileFault → Verdict
verdict (Ok c) = accepted c.records c.slots c.probes
verdict (Err f) = refused (file_report f)

-- what the audit answers: what refuses to read the extent, else the verdict on its file
abbrev pub Audited : Meaning → Extent → Result Counts FileFault → Type 0
Audited m e (Ok c) = Readable m e × Judged (file m e) (verdict (Ok c))
Audited m e (Err f) = Unreadable m e f ⊎ (Readable m e × Judged (file m e) (verdict (Err f)))

-- no other answer fits
abbrev pub OnlyAnswer : Meaning → Extent → Result Counts FileFault → Type 0
OnlyAnswer m e r = (s : Result Counts FileFault) → Audited m e s → s ≡ r

-- the counts of a file with these records: the records, the slots of all tables, and the probes, which are the sum of distance plus one
abbrev pub CountsOf : List ℕ → List Record → Counts → Type 0
CountsOf f rs c = (c.records ≡ length rs) × (c.slots ≡ slots_below f 256) × Probes f (items 2048 rs) c.probes

-- a file that can be read is accepted exactly when some records, table lengths and permitted filling orders give its bytes, and the counts are theirs
abbrev pub AcceptedExactlyWhenMade : Meaning → Extent → Result Counts FileFault → Type 0
AcceptedExactlyWhenMade m e r =
    Readable m e → MatchResult r (λ c. (rs : List Record) × Made (file m e) rs × CountsOf (file m e) rs c) (λ _. (rs : List Record) → Made (file m e) rs → ⊥)

-- a lawful file has one record list
abbrev pub OneRecordList : Meaning → Extent → Type 0
OneRecordList m e = (rs ss : List Record) → Lawful (file m e) rs → Lawful (file m e) ss → rs ≡ ss
