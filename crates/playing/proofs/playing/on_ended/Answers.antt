use Rattle.std.proofs.Common.{◌≡◌, false, rules}
use Rattle.history.specs.declared.calls.State.TheVariants.{Ended}
use Rattle.history.specs.Events.{request, builds}
use Rattle.history.specs.Histories.{unfit}
use Rattle.playing.proofs.playing.on_ended.Goals as goal

pub returns-in-Begin : goal.returns-in-Begin
returns-in-Begin g c =
    let fits : builds Ended (request c.args.call) ≡ false = search rules in
    record { moves = λ es. rw c.unfit.ensures (unfit fits) }
