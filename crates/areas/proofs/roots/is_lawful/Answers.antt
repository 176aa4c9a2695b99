use Rattle.std.proofs.Common.{sym, ◌∙◌, ⊎_elim, arith}
use mathlib.Core.Bool.{false≢true}
use Rattle.areas.proofs.roots.is_lawful.Goals as goal

pub returns-then-root-lt2048 : goal.returns-then-root-lt2048
returns-then-root-lt2048 c = (
  λ e. absurd (false≢true e),
  λ l. absurd (⊎_elim (λ a. omega (arith, l.long)) (λ a. omega (arith, l.fits, a.1, c.area_size-room.ensures c.args.root.area)) c.then-root-lt2048.either),
)

pub returns : goal.returns
returns c = (
  λ e. record { is = c.equal.ensures.0 e ∙ c.root_bytes.ensures; long = omega arith; fits = omega (arith, c.area_size-room.ensures c.args.root.area) },
  λ l. c.equal.ensures.1 (l.is ∙ sym c.root_bytes.ensures),
)
