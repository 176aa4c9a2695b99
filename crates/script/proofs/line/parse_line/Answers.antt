use Rattle.std.proofs.lemmas.Result.{err_from_is_err_and}
use Rattle.script.proofs.Sayings.{one_saying, unreadable_blank, unreadable_says}
use Rattle.script.proofs.line.parse_line.Goals as goal

pub returns-in_err-words-clause-says : goal.returns-in_err-words-clause-says
returns-in_err-words-clause-says c =
    let r = err_from_is_err_and c.from_residual.result c.from_residual.ensures.1 in
    rw r.1 (unreadable_blank c.args.line.now c.in_err-words.field-0.0 c.in_err-words.ensures, unreadable_says c.args.line.now c.in_err-words.field-0.0 c.in_err-words.ensures)

pub returns-in_err-words-clause-one : goal.returns-in_err-words-clause-one
returns-in_err-words-clause-one c = one_saying c.args.line.now

pub returns-clause-one : goal.returns-clause-one
returns-clause-one c = one_saying c.args.line.now
