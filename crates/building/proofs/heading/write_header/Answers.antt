use Rattle.std.proofs.Common.{Ok, arith}
use Rattle.std.proofs.lemmas.Result.{err_from_is_err_and}
use Rattle.building.proofs.Headed.{head_more, head_interrupted, head_none}
use Rattle.building.proofs.heading.write_header.Goals as goal

pub loop-t-init : goal.loop-t-init
loop-t-init g c = head_none (g.D.Device.meaning c.args.d.now) c.args.base c.args.end c.args.tables.now (omega (arith, (g.met.D.Device.whole c.args.d.now).long, c.requires.within))

pub returns-in_err-write_all : goal.returns-in_err-write_all
returns-in_err-write_all g c =
    let q = err_from_is_err_and c.from_residual.result c.from_residual.ensures.1 in
    record {
      runs = rw (q.1, q.2) (head_interrupted _ (g.D.Device.meaning c.loop-t.d) _ c.args.base c.args.end c.loop-t.t c.args.tables.now c.two_words-words.result _ (g.met.D.Device.whole c.args.d.now) c.requires.within c.loop-t-test.true c.loop-t.invariant c.two_words-words.ensures c.in_err-write_all.ensures.runs);
    }

pub loop-t-preserved : goal.loop-t-preserved
loop-t-preserved g c =
    head_more _ (g.D.Device.meaning c.loop-t.d) (g.D.Device.meaning c.write_all.new.d) c.args.base c.args.end c.loop-t.t c.args.tables.now c.two_words-words.result (Ok tt) (g.met.D.Device.whole c.args.d.now) c.requires.within c.loop-t-test.true c.loop-t.invariant c.two_words-words.ensures c.in_ok-write_all.ensures.runs
