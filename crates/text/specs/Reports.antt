-- The number, the table and the place of every refusal of a text. No table is meant, so it is 256.
use Rattle.faults.specs.declared.report.Report.{Report}
use Rattle.faults.specs.Reports.{report}
use Rattle.text.specs.declared.fault.TextFault.{TextFault}
use Rattle.text.specs.declared.fault.TextFault.TheVariants.{Malformed, Short, Long}

abbrev pub text_report : TextFault → Report
text_report (Malformed place) = report 10 256 place
text_report (Short limit) = report 27 256 limit
text_report Long = report 27 256 4294967295
