use Rattle.std.proofs.Common.{◌≡◌, ℕ, ◌+◌, ◌-◌, ◌/◌, true, false, Result, arith, rules, MatchResult}
use Rattle.faults.specs.declared.device.DeviceFault.{DeviceFault}
use Rattle.faults.specs.declared.device.DeviceFault.TheVariants.{Power}
use Rattle.faults.specs.declared.file.FileFault.{FileFault}
use Rattle.faults.specs.declared.file.FileFault.TheVariants.{Device}
use Rattle.faults.proofs.Places.{placed_ok, placed_err}
use Rattle.device.specs.Meanings.{Meaning}
use Rattle.file.specs.declared.extents.Extent.{Extent}
use Rattle.file.specs.Ranges.{SectorsRead, FirstSector}
use Rattle.file.specs.Extents.{Ready, Unreadable, outside, no_power, bad_sector}
use Rattle.file.proofs.Readying.{sectors_bad}
use Rattle.file.proofs.readable.check_readable.Goals as goal

abbrev Powered : Meaning → Result (Unit {0}) DeviceFault → Type 0
Powered m r = MatchResult r (λ _. m.power ≡ true) (λ f. (f ≡ Power) × (m.power ≡ false))

abbrev Checked : Meaning → ℕ → ℕ → Result (Unit {0}) DeviceFault → Type 0
Checked m a b r = MatchResult r (λ _. SectorsRead m a b) (λ f. FirstSector m a b f)

abbrev Answered : Meaning → Extent → Result (Unit {0}) FileFault → Type 0
Answered m e r = MatchResult r (λ _. Ready m e) (λ f. Unreadable m e f)

pub returns-then-not-is_on-clause-answer : goal.returns-then-not-is_on-clause-answer
returns-then-not-is_on-clause-answer g c = outside (λ h. grind arith)

pub returns-in_err-add_place-clause-answer : goal.returns-in_err-add_place-clause-answer
returns-in_err-add_place-clause-answer g c =
    let m : Meaning = g.D.Device.meaning c.args.d.now in
    placed_err (Powered m) (Answered m c.args.extent) Device 256 0 c.add_place.ensures c.in_err-add_place.was c.from_residual.ensures.1 c.check_power.ensures.answer
    (λ f p. rw p.0 (no_power (search rules) p.1))

pub returns-in_err-add_place-2-clause-answer : goal.returns-in_err-add_place-2-clause-answer
returns-in_err-add_place-2-clause-answer g c =
    let m : Meaning = g.D.Device.meaning c.args.d.now in
    let e : Extent = c.args.extent in
    let power = placed_ok (Powered m) 256 0 c.add_place.ensures c.in_ok-add_place.was c.check_power.ensures.answer in
    placed_err (Checked m (e.start / 512) ((e.start + e.len - 1) / 512 + 1)) (Answered m e) Device 256 0 c.add_place-2.ensures c.in_err-add_place-2.was
    c.from_residual-in_err-add_place-2.ensures.1 (rw c.check_power.ensures.same at c.check_sectors.ensures.answer)
    (λ f s. bad_sector (search rules) power (sectors_bad m e.start e.len f (omega arith) s))
