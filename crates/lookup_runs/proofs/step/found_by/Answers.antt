use Rattle.std.proofs.Common.{◌≡◌, ◌<◌, ◌≤◌, length, get_or, sym, ap, ◌∙◌, rules}
use Rattle.lookup_runs.specs.Runs.{found_in}
use Rattle.lookup_runs.proofs.Stepping.{found_past, found_at}
use Rattle.lookup_runs.proofs.step.found_by.Goals as goal

pub returns-in_err-get : goal.returns-in_err-get
returns-in_err-get c =
    let past : length c.args.answers.now ≤ c.args.call = search rules in
    c.from_residual.ensures ∙ sym (found_past c.args.answers.now c.args.call past)

pub returns : goal.returns
returns c =
    let answer = c.in_ok-get.field-0.now in
    let within : c.args.call < length c.args.answers.now = search rules in
    let here : get_or c.args.answers.now c.args.call answer ≡ answer = search rules in
    c.found.ensures ∙ sym (found_at c.args.answers.now c.args.call answer within ∙ ap found_in here)
