-- The number, the table and the place of every refusal. Where no table is meant it is 256, where no place is meant it is 0.
use Rattle.std.specs.Prelude.{ℕ, ◌*◌, List, ◌++◌, codes, decimal}
use Rattle.faults.specs.declared.report.Report.{Report}
use Rattle.faults.specs.declared.device.DeviceFault.{DeviceFault}
use Rattle.faults.specs.declared.device.DeviceFault.TheVariants as device
use Rattle.faults.specs.declared.file.Located.{Located}
use Rattle.faults.specs.declared.file.FileFault.{FileFault}
use Rattle.faults.specs.declared.file.FileFault.TheVariants as file

abbrev pub report : ℕ → ℕ → ℕ → Report
report n t p = record { number = n; table = t; place = p }

-- a refusal as it is printed: its number, its table and its place, with commas between them
abbrev pub report_text : Report → List ℕ
report_text r = decimal r.number ++ (codes "," ++ (decimal r.table ++ (codes "," ++ decimal r.place)))

-- a fault from below, with the table and the place of the file at which it came
abbrev pub located : {F : Type 0} → F → ℕ → ℕ → Located F
located f t p = record { fault = f; table = t; place = p }

abbrev pub device_report : DeviceFault → Report
device_report device.Range = report 11 256 0
device_report device.Power = report 21 256 0
device_report (device.Bad p) = report 22 256 p

-- a fault from below is told as it is told there
abbrev pub file_report : FileFault → Report
file_report (file.Device f) = device_report f.fault
file_report (file.Short n) = report 1 256 n
file_report (file.Entry t) = report 2 t (8 * t)
file_report (file.Record p) = report 3 256 p
file_report (file.Lost t p) = report 4 t p
file_report (file.Count t p) = report 5 t p
file_report (file.Full t p) = report 6 t p
file_report (file.Stained t p) = report 7 t p
file_report (file.Order t p) = report 8 t p
file_report (file.Past t p) = report 9 t p
file_report file.Range = report 11 256 0
file_report file.OtherKey = report 26 256 0
