use Rattle.std.proofs.Common.{sym, ◌∙◌}
use mathlib.Core.Bool.{false≢true}
use Rattle.playing.specs.Steps.{called_elsewhere, not_elsewhere}
use Rattle.playing.proofs.making.make_elsewhere.Goals as goal

pub returns-then-not-goes_elsewhere : goal.returns-then-not-goes_elsewhere
returns-then-not-goes_elsewhere g c = record { made = not_elsewhere (λ e. false≢true (sym c.if-not-goes_elsewhere.true ∙ c.goes_elsewhere.ensures.1 e)) }

pub returns : goal.returns
returns g c = record { made = rw c.new.ensures (called_elsewhere (c.goes_elsewhere.ensures.0 c.if-not-goes_elsewhere.false) c.play-played.ensures.moves) }
