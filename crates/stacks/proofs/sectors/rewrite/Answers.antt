use Rattle.std.proofs.Common.{◌*◌, Ok, sym, subst, rules}
use Rattle.device.specs.Meanings.{Written}
use Rattle.stacks.proofs.Again.{reads_again}
use Rattle.stacks.proofs.sectors.rewrite.Goals as goal

pub returns-clause-written : goal.returns-clause-written
returns-clause-written g c =
    subst (Written (g.D.Device.meaning c.args.device.now) (512 * c.args.sector) c.args.new.now (Ok tt)) (sym c.read.ensures.same) c.in_ok-write.ensures

pub returns-clause-again : goal.returns-clause-again
returns-clause-again g c =
    reads_again (g.D.Device.meaning c.args.device.now) (g.D.Device.meaning c.write.new.self) (512 * c.args.sector) 512 c.args.new.now _
    c.read.new.piece c.read.result (search rules) (g.met.D.Device.whole c.args.device.now) c.in_ok-write.ensures c.read.ensures.answer
    c.in_ok-read.was c.read.ensures.piece
