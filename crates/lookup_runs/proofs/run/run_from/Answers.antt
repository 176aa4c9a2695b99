use Rattle.std.proofs.Common.{sym, refl, ◌∙◌, subst}
use Rattle.std.proofs.lemmas.List.{length-set}
use Rattle.device.specs.Meanings.{Meaning}
use Rattle.lookup_runs.specs.Runs.{Keeps}
use Rattle.lookup_runs.proofs.Stepping.{keeps_twice, ran_none, ran_more, ran_all}
use Rattle.lookup_runs.proofs.run.run_from.Goals as goal

pub loop-i-init : goal.loop-i-init
loop-i-init g c = (c.requires.long, (λ r. (r, refl)), ran_none _ _ _ _ _)

pub loop-i-preserved : goal.loop-i-preserved
loop-i-preserved g c =
    let inv = c.loop-i.invariant in
    let e = c.args.extent in
    let m0 : Meaning = g.D.Device.meaning c.args.d.now in
    let kept = keeps_twice e m0 _ _ inv.1 c.change.ensures.keeps in (
      length-set _ _ _ ∙ inv.0,
      subst (λ (n : Meaning). Keeps e m0 n) (sym c.step.ensures.same) kept,
      ran_more m0 e c.args.key.now _ _ _ _ _ _ c.args.calls.now c.loop-i.answers c.loop-i.i _ c.step.result _ inv.0 c.loop-i-test.true kept inv.2 c.step.ensures.stepped,
    )

pub returns-clause-ran : goal.returns-clause-ran
returns-clause-ran g c = let inv = c.loop-i.invariant in (_, ran_all _ _ _ _ _ _ _ c.args.calls.now c.loop-i.answers c.loop-i.i inv.0 c.loop-i-test.false inv.2)
