use Rattle.std.proofs.Common.{rules}
use Rattle.building.specs.Entries.{slot_of}
use Rattle.building.proofs.Settled.{puts_entry}
use Rattle.building.proofs.placing.put_entry.Goals as goal

pub returns : goal.returns
returns g c = record {
  puts = puts_entry (g.D.Device.meaning c.args.d.now) _ _ c.args.pos c.args.len c.find_empty-p.result (slot_of c.args.entry) c.two_words.result c.write_all.result (search rules) (search rules) (g.met.D.Device.whole c.args.d.now) c.requires.within c.requires.reads c.find_empty-p.ensures.nearest c.find_empty-p.ensures.same c.two_words.ensures c.write_all.ensures.runs;
}
