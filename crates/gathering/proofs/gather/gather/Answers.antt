use Rattle.std.proofs.Common.{rules}
use Rattle.std.proofs.lemmas.Result.{err_from_is_err_and}
use Rattle.gathering.specs.Gathers.{start_refused}
use Rattle.gathering.proofs.Gathering.{gathers_records}
use Rattle.gathering.proofs.gather.gather.Goals as goal

pub returns-in_err-cursor-clause-answer : goal.returns-in_err-cursor-clause-answer
returns-in_err-cursor-clause-answer g c =
    let r = err_from_is_err_and c.from_residual.result c.from_residual.ensures.1 in
    rw (r.1, r.2) (start_refused c.in_err-cursor.ensures.answer)

pub returns-in_err-cursor-clause-law : goal.returns-in_err-cursor-clause-law
returns-in_err-cursor-clause-law g c = gathers_records _ _ _ _ (returns-in_err-cursor-clause-answer g c)

pub returns-clause-law : goal.returns-clause-law
returns-clause-law g c = gathers_records _ _ _ _ (search rules)
