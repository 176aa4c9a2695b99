-- The number, the table and the place of every refusal of a file that was to be made on a shelf.
use Rattle.faults.specs.declared.report.Report.{Report}
use Rattle.text.specs.Reports.{text_report}
use Rattle.shelf.specs.Reports.{shelf_report}
use Rattle.shelf_making.specs.declared.fault.ShelfMakeFault.{ShelfMakeFault}
use Rattle.shelf_making.specs.declared.fault.ShelfMakeFault.TheVariants.{Text, Shelf}

-- a fault from below is told as it is told there
abbrev pub make_report : ShelfMakeFault → Report
make_report (Text f) = text_report f
make_report (Shelf f) = shelf_report f
