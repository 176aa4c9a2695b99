-- The number, the table and the place of every refusal of a shelf.
use Rattle.faults.specs.declared.report.Report.{Report}
use Rattle.faults.specs.declared.device.DeviceFault.{DeviceFault}
use Rattle.faults.specs.declared.file.FileFault.{FileFault}
use Rattle.faults.specs.declared.file.Located.{Located}
use Rattle.faults.specs.Reports.{report, located, file_report}
use Rattle.writing.specs.Runs.{at_place}
use Rattle.shelf.specs.declared.fault.ShelfFault.{ShelfFault}
use Rattle.shelf.specs.declared.fault.ShelfFault.TheVariants as shelf

-- a fault from below is told as it is told there
abbrev pub shelf_report : ShelfFault → Report
shelf_report (shelf.File f) = file_report f.fault
shelf_report shelf.Size = report 11 256 0
shelf_report shelf.NoRoot = report 23 256 0
shelf_report shelf.Entries = report 24 256 0
shelf_report shelf.Full = report 25 256 0
shelf_report shelf.Small = report 28 256 0

-- a device's fault at the root, which is in no file
abbrev pub at_root : DeviceFault → Located FileFault
at_root f = located (at_place f 0) 256 0
