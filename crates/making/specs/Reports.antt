-- The number, the table and the place of every refusal of a file that was to be made.
use Rattle.faults.specs.declared.report.Report.{Report}
use Rattle.faults.specs.Reports.{report, file_report}
use Rattle.text.specs.Reports.{text_report}
use Rattle.making.specs.declared.fault.MakeFault.{MakeFault}
use Rattle.making.specs.declared.fault.MakeFault.TheVariants as make

-- a fault from below is told as it is told there
abbrev pub make_report : MakeFault → Report
make_report (make.Text f) = text_report f
make_report make.Entries = report 24 256 0
make_report (make.Long limit) = report 27 256 limit
make_report (make.File f) = file_report f
