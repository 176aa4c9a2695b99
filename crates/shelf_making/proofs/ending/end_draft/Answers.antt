use Rattle.std.proofs.lemmas.Result.{err_from_is_err_and}
use Rattle.shelf_making.specs.Ending.{published, finish_refused, publish_refused}
use Rattle.shelf_making.proofs.ending.end_draft.Goals as goal

pub returns-in_err-finished : goal.returns-in_err-finished
returns-in_err-finished g c =
    let q = err_from_is_err_and c.from_residual.result c.from_residual.ensures.1 in
    record { ends = rw q.1 (finish_refused c.in_err-finished.field-0.0 c.in_err-finished.ensures.finishes q.2) }

pub returns-in_err-publish : goal.returns-in_err-publish
returns-in_err-publish g c =
    let q = err_from_is_err_and c.from_residual-in_err-publish.result c.from_residual-in_err-publish.ensures.1 in
    record { ends = rw q.1 (publish_refused c.in_err-publish.field-0.0 c.in_ok-finished.ensures.finishes c.in_err-publish.ensures.publishes q.2) }

pub returns : goal.returns
returns g c = record { ends = published c.in_ok-finished.ensures.finishes c.in_ok-publish.ensures.publishes }
