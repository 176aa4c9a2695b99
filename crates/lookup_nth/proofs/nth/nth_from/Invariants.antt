use Rattle.std.proofs.Common.{◌≡◌, ◌-◌, Option, Result}
use Rattle.faults.specs.declared.file.FileFault.{FileFault}
use Rattle.lookup.specs.declared.cursors.Found.{Found}
use Rattle.lookup_nth.specs.Nths.{NthFrom}
use Rattle.lookup_nth.proofs.nth.nth_from.Given as goal

abbrev pub invariant-loop : goal.invariant-loop
invariant-loop g l = record {
  same : g.D.Device.meaning l.d ≡ g.D.Device.meaning l.initial.d;
  going : (r : Result (Option Found) FileFault) → NthFrom (g.D.Device.meaning l.initial.d) l.key.bytes.now l.at (l.n - l.counter) r → NthFrom (g.D.Device.meaning l.initial.d) l.key.bytes.now l.initial.at l.n r;
}
