use Rattle.std.proofs.Common.{◌≡◌, false, rules}
use Rattle.history.specs.declared.calls.State.TheVariants.{Adding}
use Rattle.history.specs.Events.{request, builds}
use Rattle.history.specs.Histories.{draft_abandoned, unfit}
use Rattle.playing.proofs.playing.on_adding.Goals as goal

pub returns-in-Abandon : goal.returns-in-Abandon
returns-in-Abandon g c = record { moves = simp (c.done.ensures, c.in-Abandon.is) (draft_abandoned c.abandon.ensures) }

pub returns-in-Begin : goal.returns-in-Begin
returns-in-Begin g c =
    let fits : builds (Adding c.args.draft) (request c.args.call) ≡ false = search rules in
    record { moves = rw c.unfit.ensures (unfit fits) }
