use Rattle.std.proofs.Common.{◌==◌, ◌+◌, refl, sym, ap, ◌∙◌, map, rules, tests}
use Rattle.std.proofs.lemmas.Iterator.Consumers.{YieldsList-turn, YieldsList-end}
use Rattle.std.proofs.lemmas.Iterator.Splits.{YieldsList-from_slice_split}
use Rattle.std.proofs.lemmas.List.{length_push}
use Rattle.script.specs.Scripts.{lines_of, numbered}
use Rattle.script.specs.Sayings.{act}
use Rattle.script.specs.declared.command.Statement.TheVariants as statement
use Rattle.script.specs.declared.reason.Reason.TheVariants as reason
use Rattle.script.proofs.Counted.{answer_blank, answer_says, at_number, is_script, next_blank, next_command, next_device, pushed, refuse_early, refuse_line, refuse_missing, refuse_second}
use Rattle.script.proofs.whole.parse.Goals as goal

pub returns-in-Err-clause-parses : goal.returns-in-Err-clause-parses
returns-in-Err-clause-parses c =
    let t = YieldsList-turn (YieldsList-from_slice_split _ (λ b. b == 10) c.args.text.now (cc) (cc) (cc) (λ x b q k. search (rules, tests))) c.loop-line.yielded _ c.loop-line.yielded_by _ _ c.in-Some.line c.in-Some.is c.next.ensures.steps in
    refuse_line (lines_of c.args.text.now) c.loop-line.sizes (map numbered c.loop-line.lines.items) c.loop-line.number (c.loop-line.number + 1) c.in-Some.line.now c.in-Err.reason c.loop-line.invariant.1 (at_number _ _ _ _ c.loop-line.invariant.0 t) refl c.in-Err.ensures.says

pub loop-line-preserved-in-Ok-None : goal.loop-line-preserved-in-Ok-None
loop-line-preserved-in-Ok-None c =
    let t = YieldsList-turn (YieldsList-from_slice_split _ (λ b. b == 10) c.args.text.now (cc) (cc) (cc) (λ x b q k. search (rules, tests))) c.loop-line.yielded _ c.loop-line.yielded_by _ _ c.in-Some.line c.in-Some.is c.next.ensures.steps in (
      ap (λ n. n + 1) c.loop-line.invariant.0 ∙ sym (length_push c.loop-line.yielded c.in-Some.line),
      next_blank (lines_of c.args.text.now) c.loop-line.sizes (map numbered c.loop-line.lines.items) c.loop-line.number (c.loop-line.number + 1) c.in-Some.line.now c.loop-line.invariant.1 (at_number _ _ _ _ c.loop-line.invariant.0 t) refl (answer_blank c.in-Some.line.now c.parse_line.result c.in-Ok-None.field-0 c.parse_line.ensures.says c.in-Ok-None.is c.in-Ok-None.field-0-is),
    )

pub returns-then-is_some-clause-parses : goal.returns-then-is_some-clause-parses
returns-then-is_some-clause-parses c =
    let t = YieldsList-turn (YieldsList-from_slice_split _ (λ b. b == 10) c.args.text.now (cc) (cc) (cc) (λ x b q k. search (rules, tests))) c.loop-line.yielded _ c.loop-line.yielded_by _ _ c.in-Some.line c.in-Some.is c.next.ensures.steps in
    refuse_second (lines_of c.args.text.now) c.loop-line.sizes (map numbered c.loop-line.lines.items) c.loop-line.number (c.loop-line.number + 1) c.in-Some.line.now c.in-Ok-Some-Device.found.sectors c.in-Ok-Some-Device.found.entries reason.DeviceRepeated (search (rules, tests)) c.loop-line.invariant.1 (at_number _ _ _ _ c.loop-line.invariant.0 t) refl (answer_says c.in-Some.line.now c.parse_line.result c.in-Ok-Some-Device.field-0 c.in-Ok-Some-Device.field-0-0 (statement.Device c.in-Ok-Some-Device.found) c.parse_line.ensures.says c.in-Ok-Some-Device.is c.in-Ok-Some-Device.field-0-is c.in-Ok-Some-Device.field-0-0-is)

pub loop-line-preserved-in-Ok-Some-Device : goal.loop-line-preserved-in-Ok-Some-Device
loop-line-preserved-in-Ok-Some-Device c =
    let t = YieldsList-turn (YieldsList-from_slice_split _ (λ b. b == 10) c.args.text.now (cc) (cc) (cc) (λ x b q k. search (rules, tests))) c.loop-line.yielded _ c.loop-line.yielded_by _ _ c.in-Some.line c.in-Some.is c.next.ensures.steps in (
      ap (λ n. n + 1) c.loop-line.invariant.0 ∙ sym (length_push c.loop-line.yielded c.in-Some.line),
      next_device (lines_of c.args.text.now) c.loop-line.sizes (map numbered c.loop-line.lines.items) c.loop-line.number (c.loop-line.number + 1) c.in-Some.line.now c.in-Ok-Some-Device.found (search (rules, tests)) c.loop-line.invariant.1 (at_number _ _ _ _ c.loop-line.invariant.0 t) refl (answer_says c.in-Some.line.now c.parse_line.result c.in-Ok-Some-Device.field-0 c.in-Ok-Some-Device.field-0-0 (statement.Device c.in-Ok-Some-Device.found) c.parse_line.ensures.says c.in-Ok-Some-Device.is c.in-Ok-Some-Device.field-0-is c.in-Ok-Some-Device.field-0-0-is),
    )

pub returns-then-is_none-clause-parses : goal.returns-then-is_none-clause-parses
returns-then-is_none-clause-parses c =
    let t = YieldsList-turn (YieldsList-from_slice_split _ (λ b. b == 10) c.args.text.now (cc) (cc) (cc) (λ x b q k. search (rules, tests))) c.loop-line.yielded _ c.loop-line.yielded_by _ _ c.in-Some.line c.in-Some.is c.next.ensures.steps in
    refuse_early (lines_of c.args.text.now) c.loop-line.sizes (map numbered c.loop-line.lines.items) c.loop-line.number (c.loop-line.number + 1) c.in-Some.line.now (act c.in-Ok-Some-Command.command) reason.DeviceNotFirst (search (rules, tests)) c.loop-line.invariant.1 (at_number _ _ _ _ c.loop-line.invariant.0 t) refl (answer_says c.in-Some.line.now c.parse_line.result c.in-Ok-Some-Command.field-0 c.in-Ok-Some-Command.field-0-0 (statement.Command c.in-Ok-Some-Command.command) c.parse_line.ensures.says c.in-Ok-Some-Command.is c.in-Ok-Some-Command.field-0-is c.in-Ok-Some-Command.field-0-0-is)

pub loop-line-preserved : goal.loop-line-preserved
loop-line-preserved c =
    let t = YieldsList-turn (YieldsList-from_slice_split _ (λ b. b == 10) c.args.text.now (cc) (cc) (cc) (λ x b q k. search (rules, tests))) c.loop-line.yielded _ c.loop-line.yielded_by _ _ c.in-Some.line c.in-Some.is c.next.ensures.steps in (
      ap (λ n. n + 1) c.loop-line.invariant.0 ∙ sym (length_push c.loop-line.yielded c.in-Some.line),
      next_command (lines_of c.args.text.now) c.loop-line.sizes (map numbered c.loop-line.lines.items) _ c.loop-line.number (c.loop-line.number + 1) c.in-Some.line.now (act c.in-Ok-Some-Command.command) (search (rules, tests)) c.loop-line.invariant.1 (at_number _ _ _ _ c.loop-line.invariant.0 t) refl (answer_says c.in-Some.line.now c.parse_line.result c.in-Ok-Some-Command.field-0 c.in-Ok-Some-Command.field-0-0 (statement.Command c.in-Ok-Some-Command.command) c.parse_line.ensures.says c.in-Ok-Some-Command.is c.in-Ok-Some-Command.field-0-is c.in-Ok-Some-Command.field-0-0-is) (pushed _ _ _ c.in-Ok-Some-Command.command c.in_ok-push-in-Ok-Some-Command.ensures.items),
    )

pub returns-in-None-sizes-clause-parses : goal.returns-in-None-sizes-clause-parses
returns-in-None-sizes-clause-parses c =
    let t = YieldsList-end (YieldsList-from_slice_split _ (λ b. b == 10) c.args.text.now (cc) (cc) (cc) (λ x b q k. search (rules, tests))) c.loop-line.yielded _ c.loop-line.yielded_by _ _ c.in-None.is c.next.ensures.steps in
    refuse_missing (lines_of c.args.text.now) c.loop-line.sizes (map numbered c.loop-line.lines.items) c.loop-line.number c.in-None-sizes.is c.loop-line.invariant.1 (c.loop-line.invariant.0 ∙ t.1)

pub returns-clause-parses : goal.returns-clause-parses
returns-clause-parses c =
    let t = YieldsList-end (YieldsList-from_slice_split _ (λ b. b == 10) c.args.text.now (cc) (cc) (cc) (λ x b q k. search (rules, tests))) c.loop-line.yielded _ c.loop-line.yielded_by _ _ c.in-None.is c.next.ensures.steps in
    is_script (lines_of c.args.text.now) c.loop-line.sizes c.in-Some-sizes.sizes (map numbered c.loop-line.lines.items) c.loop-line.number c.in-Some-sizes.is c.loop-line.invariant.1 (c.loop-line.invariant.0 ∙ t.1)
