use Rattle.std.proofs.Common.{◌≡◌, false, rules}
use Rattle.history.specs.declared.calls.State.TheVariants.{Idle}
use Rattle.history.specs.Events.{request, builds}
use Rattle.history.specs.Histories.{begun, unfit}
use Rattle.playing.proofs.playing.on_idle.Goals as goal

pub returns-in-Begin : goal.returns-in-Begin
returns-in-Begin g c = record { moves = λ es. simp (c.done.ensures, c.in-Begin.is) (begun c.begin.ensures) }

pub returns-in-Add : goal.returns-in-Add
returns-in-Add g c =
    let fits : builds (Idle c.args.shelf) (request c.args.call) ≡ false = search rules in
    record { moves = λ es. rw c.unfit.ensures (unfit fits) }
