-- What the program answers for an input, and the line that tells it.
use Rattle.std.specs.Prelude.{◌≡◌, ℕ, ◌<◌, ◌≤◌, ◌⊎◌, List, ◌++◌, length, codes, Ok, Err, Result}
use Rattle.faults.specs.declared.report.Report.{Report}
use Rattle.faults.specs.Reports.{report, file_report, report_text}
use Rattle.cdb.specs.Verdicts.{Verdict, accepted, refused, Judged}
use Rattle.auditing.specs.declared.audits.Counts.{Counts}
use Rattle.auditing.specs.Texts.{counts_text}
use Rattle.answering.specs.declared.fault.InputFault.{InputFault}
use Rattle.answering.specs.declared.fault.InputFault.TheVariants.{Long, File}

-- the number, the table and the place of each refusal: 27 and the limit, or those of the file's
abbrev pub input_report : InputFault → Report
input_report Long = report 27 256 61440
input_report (File f) = file_report f

-- an answer as a verdict
abbrev pub answer_verdict : Result Counts InputFault → Verdict
answer_verdict (Ok c) = accepted c.records c.slots c.probes
answer_verdict (Err f) = refused (input_report f)

-- an input of more than 61,440 bytes is refused as too long; any other gets the verdict on its bytes
abbrev pub Answers : List ℕ → Result Counts InputFault → Type 0
Answers input r = ((61440 < length input) × (r ≡ Err Long)) ⊎ ((length input ≤ 61440) × Judged input (answer_verdict r))

-- an answer with its refusal as the line tells it
abbrev pub told : Result Counts InputFault → Result Counts Report
told (Ok c) = Ok c
told (Err f) = Err (input_report f)

-- ok and three counts, or no and a refusal's number, table and place; then a line feed
abbrev pub line_of : Result Counts Report → List ℕ
line_of (Ok c) = codes "ok," ++ (counts_text c ++ codes "\n")
line_of (Err r) = codes "no," ++ (report_text r ++ codes "\n")
