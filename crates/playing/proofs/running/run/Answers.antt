use Rattle.std.proofs.Common.{◌+◌, ◌∷◌, [], ◌++◌, sym}
use Rattle.std.proofs.lemmas.Result.{err_from_is_err_and}
use Rattle.playing.proofs.Going.{ran_none, ran_more, runs_are_histories}
use Rattle.playing.proofs.running.run.Goals as goal

pub loop-step-init : goal.loop-step-init
loop-step-init g c = rw c.new-log.ensures.items (ran_none _ _ _)

pub returns-in_err-made-clause-runs : goal.returns-in_err-made-clause-runs
returns-in_err-made-clause-runs g c =
    let x = err_from_is_err_and c.from_residual.result c.from_residual.ensures.1 in
    rw (x.1, c.in_err-made.ensures.made.0, c.in_err-made.ensures.made.1) (c.loop-step.step-index, c.loop-step.log.items, _, _, c.loop-step.invariant)

pub returns-in_err-push-clause-runs : goal.returns-in_err-push-clause-runs
returns-in_err-push-clause-runs g c =
    let x = err_from_is_err_and c.from_residual-in_err-push.result c.from_residual-in_err-push.ensures.1 in
    rw x.1 (c.loop-step.step-index + 1, c.loop-step.log.items ++ c.in_ok-made.made.outcome ∷ [], _, _, ran_more c.args.steps.now c.loop-step.step-index c.step-item.result c.loop-step-test.true (sym c.step-item.is) c.loop-step.invariant c.in_ok-made.ensures.made)

pub loop-step-preserved : goal.loop-step-preserved
loop-step-preserved g c = rw c.in_ok-push.ensures.items (ran_more c.args.steps.now c.loop-step.step-index c.step-item.result c.loop-step-test.true (sym c.step-item.is) c.loop-step.invariant c.in_ok-made.ensures.made)

pub returns-in_err-made-clause-histories : goal.returns-in_err-made-clause-histories
returns-in_err-made-clause-histories g c = runs_are_histories _ _ g.D.Bench.inside g.D.Bench.across

pub returns-in_err-push-clause-histories : goal.returns-in_err-push-clause-histories
returns-in_err-push-clause-histories g c = runs_are_histories _ _ g.D.Bench.inside g.D.Bench.across

pub returns-clause-histories : goal.returns-clause-histories
returns-clause-histories g c = runs_are_histories _ _ g.D.Bench.inside g.D.Bench.across
