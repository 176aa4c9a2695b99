use Rattle.std.proofs.Common.{ℕ, List, length, replicate, Result, refl, ap, ◌∙◌, subst, arith}
use Rattle.std.proofs.lemmas.List.{get_or-replicate}
use Rattle.faults.specs.declared.device.DeviceFault.{DeviceFault}
use Rattle.faults.specs.declared.file.FileFault.TheVariants.{Device}
use Rattle.faults.proofs.Places.{placed_ok, placed_err}
use Rattle.device.specs.Meanings.{Meaning}
use Rattle.writing.specs.Runs.{Completed, Interrupted, Runs}
use Rattle.building.specs.declared.layout.Table.{Table}
use Rattle.building.specs.Builds.{headed}
use Rattle.building.specs.Empty.{WritesEmpty}
use Rattle.building.proofs.Emptied.{empty_header, empty_long}
use Rattle.building.proofs.heading.write_empty.Goals as goal

abbrev Headed : Meaning → ℕ → Meaning → Result (Unit {0}) DeviceFault → Type 0
Headed m base n a = Runs m base (headed 2048 (replicate 256 (record { offset = 0; slots = 0 })) 256) a n

pub write_header-requires-clause-fits : goal.write_header-requires-clause-fits
write_header-requires-clause-fits g c = λ t l. simp (get_or-replicate {A = Table} 256 t (record { offset = 0; slots = 0 }) (record { offset = 0; slots = 0 }) l) (omega arith)

pub returns-in_err-add_place : goal.returns-in_err-add_place
returns-in_err-add_place g c =
    let m : Meaning = g.D.Device.meaning c.args.d.now in
    let n : Meaning = g.D.Device.meaning c.write_header.new.d in
    record {
      writes = placed_err (Headed m c.args.base n) (λ r. WritesEmpty m c.args.base r n) Device 256 0 c.add_place.ensures c.in_err-add_place.was c.from_residual.ensures.1 c.write_header.ensures.runs
          (λ f h. (f, refl, subst (λ (k : ℕ). Interrupted m c.args.base k f n) (ap length empty_header ∙ empty_long) h));
    }

pub returns : goal.returns
returns g c =
    let m : Meaning = g.D.Device.meaning c.args.d.now in
    let n : Meaning = g.D.Device.meaning c.write_header.new.d in
    record {
      writes = subst (λ (q : List ℕ). Completed m c.args.base q n) empty_header (placed_ok (Headed m c.args.base n) 256 0 c.add_place.ensures c.in_ok-add_place.was c.write_header.ensures.runs);
    }
