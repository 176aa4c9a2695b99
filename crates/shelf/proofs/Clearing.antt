-- The audit of a draft's file, refused with the place of the file.
use Rattle.std.proofs.Common.{◌≡◌, ℕ, Ok, Err, Result, ap}
use Rattle.std.specs.Result.{result_map_both}
use Rattle.faults.specs.declared.file.FileFault.{FileFault}
use Rattle.faults.specs.Reports.{located}
use Rattle.device.specs.Meanings.{Meaning}
use Rattle.file.specs.declared.extents.Extent.{Extent}
use Rattle.auditing.specs.declared.audits.Counts.{Counts}
use Rattle.auditing.specs.Audits.{Audited}
use Rattle.shelf.specs.declared.states.Finished.{Finished}
use Rattle.shelf.specs.States.{live_at_finished, file_start}
use Rattle.shelf.specs.Steps.{AuditsDraft}

pub audits_draft : (m : Meaning) (f : Finished) (e : Extent) (r : Result Counts FileFault) → m.sectors ≡ f.live.sectors
    → e.start ≡ file_start (live_at_finished f) → e.len ≡ f.made → Audited m e r → AuditsDraft m f (result_map_both (λ x. x) (λ g. located g 256 e.start) r)
audits_draft m f e (Ok c) s b l a = record { same = s; extent = e; start = b; len = l; audited = a }
audits_draft m f e (Err g) s b l a = (g, ap (λ (p : ℕ). located g 256 p) b, record { same = s; extent = e; start = b; len = l; audited = a })
