-- The number of every refusal of a mark. No table is meant (256), and no place (0).
use Rattle.faults.specs.declared.report.Report.{Report}
use Rattle.faults.specs.Reports.{report}
use Rattle.marks.specs.declared.fault.MarkFault.{MarkFault}
use Rattle.marks.specs.declared.fault.MarkFault.TheVariants.{Range, Full}

abbrev pub mark_report : MarkFault → Report
mark_report Range = report 11 256 0
mark_report Full = report 29 256 0
