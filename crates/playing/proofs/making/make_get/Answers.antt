use Rattle.std.proofs.Common.{subst}
use Rattle.gathering.specs.declared.gather.GatherFault.{GatherFault}
use Rattle.gathering.specs.Gathers.{GatherRefused}
use Rattle.playing.specs.Steps.{looked, nothing_live}
use Rattle.playing.proofs.making.make_get.Goals as goal

pub returns-in_default : goal.returns-in_default
returns-in_default g c = record { made = λ o es. nothing_live c.in_default.ensures }

pub returns-in-Ok : goal.returns-in-Ok
returns-in-Ok g c = record { made = λ o es. rw (c.new.ensures, c.gather.ensures.same) (looked c.in-Some.extent c.in-Some.ensures c.in-Ok.ensures.answer) }

pub returns-in-Err-File : goal.returns-in-Err-File
returns-in-Err-File g c =
    let refused = subst (λ (f : GatherFault). GatherRefused (g.D.Device.meaning c.args.stage.device) c.in-Some.extent c.args.key.now f) c.in-Err-File.field-0-is c.in-Err-File.ensures.answer in
    record { made = λ o es. rw (c.new-in-Err-File.ensures, c.gather.ensures.same) (looked c.in-Some.extent c.in-Some.ensures refused) }
