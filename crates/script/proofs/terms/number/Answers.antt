use Rattle.std.proofs.Common.{rules, tests, ◌∙◌}
use Rattle.script.proofs.Numbers.{no_text, no_parse, other_word}
use Rattle.script.proofs.terms.number.Goals as goal

pub returns-in_default : goal.returns-in_default
returns-in_default c = no_text _ (c.in_default.ensures.cases.0)

pub returns-in-Err : goal.returns-in-Err
returns-in-Err c = no_parse c.args.word.now c.in-Ok.text.now c.parse.result c.in-Err.fault (c.in-Ok.ensures.cases.0) c.parse.ensures.value.0 c.in-Err.is

pub returns-then-ne : goal.returns-then-ne
returns-then-ne c = other_word c.args.word.now c.in-Ok.text.now c.as_bytes.result.now c.parse.result c.in-Ok-parse.number (c.in-Ok.ensures.cases.0) c.parse.ensures.value.0 c.in-Ok-parse.is (c.as_bytes.ensures.value ∙ c.format.ensures.text) (search (rules, tests))
