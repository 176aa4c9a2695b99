-- What a script does and is answered.
use Rattle.std.specs.Prelude.{List, map, Ok, Err}
use Rattle.faults.specs.Reports.{file_report}
use Rattle.memory.specs.declared.writing.RootTear.{RootTear}
use Rattle.memory.specs.declared.writing.RootTear.TheVariants as root
use Rattle.shelf.specs.Reports.{shelf_report}
use Rattle.history.specs.declared.calls.Answer.TheVariants as reply
use Rattle.history.specs.declared.calls.Call.TheVariants as call
use Rattle.playing.specs.declared.steps.Step.{Step}
use Rattle.playing.specs.declared.steps.Step.TheVariants as step
use Rattle.playing.specs.declared.steps.Outcome.{Outcome}
use Rattle.playing.specs.declared.steps.Outcome.TheVariants as outcome
use Rattle.script.specs.declared.answer.Answer.{Answer}
use Rattle.script.specs.declared.answer.Answer.TheVariants as answer
use Rattle.script.specs.declared.command.Tear.{Tear}
use Rattle.script.specs.declared.command.Tear.TheVariants as tear
use Rattle.script.specs.declared.command.Command.{Command}
use Rattle.script.specs.declared.command.Command.TheVariants as command
use Rattle.script.specs.declared.whole.Line.{Line}
use Rattle.replaying.specs.declared.bed.Turn.{Turn}
use Rattle.replaying.specs.declared.bed.Turn.TheVariants as turn

abbrev pub root_tear : Tear → RootTear
root_tear tear.All = root.All
root_tear tear.Nothing = root.Nothing

-- the step that a command makes: a call, something that becomes of the device or of an entry, or a new mount
abbrev pub step_for : Command → Step Turn
step_for command.Format = step.Format
step_for command.Open = step.Call call.Open
step_for command.Begin = step.Call call.Begin
step_for (command.Add k d) = step.Call (call.Add k d)
step_for command.Finish = step.Call call.Finish
step_for command.Publish = step.Call call.Publish
step_for command.Abandon = step.Call call.Abandon
step_for (command.Get k) = step.Get k
step_for (command.Mark n) = step.Turn (turn.Mark n)
step_for (command.Cut n t) = step.Turn (turn.Cut n (root_tear t))
step_for command.Power = step.Remount turn.Power
step_for (command.Scribble i h p) = step.Scribble i (record { hash = h; place = p })

-- what is told of a step's outcome; a step that was not made does not build
abbrev pub answer_for : Outcome → Answer
answer_for (outcome.Answered reply.Done) = answer.Done
answer_for (outcome.Answered (reply.Refused f)) = answer.Refused (shelf_report f)
answer_for (outcome.Answered reply.Unfit) = answer.Unfit
answer_for (outcome.Got (Ok ds)) = answer.Data ds
answer_for (outcome.Got (Err f)) = answer.Refused (file_report f)
answer_for (outcome.Turned (Ok u)) = answer.Done
answer_for (outcome.Turned (Err r)) = answer.Refused r
answer_for outcome.Scribbled = answer.Done
answer_for outcome.Skipped = answer.Unfit

-- the steps of lines
abbrev pub steps_for : List Line → List (Step Turn)
steps_for ls = map (λ l. step_for l.command) ls
