use Rattle.std.proofs.Common.{◌≡◌, false, rules}
use Rattle.history.specs.declared.calls.State.TheVariants.{Ready}
use Rattle.history.specs.Events.{request, builds}
use Rattle.history.specs.Histories.{finished_abandoned, unfit}
use Rattle.playing.proofs.playing.on_ready.Goals as goal

pub returns-in-Abandon : goal.returns-in-Abandon
returns-in-Abandon g c = record { moves = λ es. simp (c.done.ensures, c.in-Abandon.is) (finished_abandoned c.abandon.ensures) }

pub returns-in-Begin : goal.returns-in-Begin
returns-in-Begin g c =
    let fits : builds (Ready c.args.finished) (request c.args.call) ≡ false = search rules in
    record { moves = λ es. rw c.unfit.ensures (unfit fits) }
