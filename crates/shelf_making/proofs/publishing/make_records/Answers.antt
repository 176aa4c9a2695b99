use Rattle.std.proofs.Common.{List, map, Err, Result}
use Rattle.std.proofs.lemmas.Result.{err_from_is_err_and}
use Rattle.device.specs.Meanings.{Meaning}
use Rattle.cdb.specs.Records.{Record}
use Rattle.text.specs.Readings.{lent}
use Rattle.shelf.specs.declared.states.Shelf.{Shelf}
use Rattle.shelf_making.specs.declared.fault.MakeRefused.{MakeRefused}
use Rattle.shelf_making.specs.Makes.{Makes, add_refused, ended}
use Rattle.shelf_making.proofs.Keeping.{keeps_live}
use Rattle.shelf_making.proofs.Causes.{refused_for_cause}
use Rattle.shelf_making.proofs.publishing.make_records.Goals as goal

pub returns-in_err-draft : goal.returns-in_err-draft
returns-in_err-draft g c =
    let q = err_from_is_err_and c.from_residual.result c.from_residual.ensures.1 in
    let m : Meaning = g.D.Device.meaning c.args.d.now in
    let n : Meaning = g.D.Device.meaning c.add_records.new.d in
    let rs : List Record = map lent c.args.records.now in
    let r : Result Shelf MakeRefused = Err q.0 in
    let k : Makes m c.args.shelf c.args.entries.now rs r n c.add_records.new.entries = add_refused c.in_err-draft.field-0.0 c.begin.ensures c.in_err-draft.ensures.adds q.2 in
    rw q.1 (record { makes = k; live = keeps_live m n c.args.shelf c.args.entries.now c.add_records.new.entries rs r (g.met.D.Device.whole c.args.d.now) k; cause = refused_for_cause m n c.args.shelf c.args.entries.now c.add_records.new.entries rs r (g.met.D.Device.whole c.args.d.now) k })

pub returns : goal.returns
returns g c =
    let m : Meaning = g.D.Device.meaning c.args.d.now in
    let n : Meaning = g.D.Device.meaning c.end_draft.new.d in
    let rs : List Record = map lent c.args.records.now in
    let k : Makes m c.args.shelf c.args.entries.now rs c.end_draft.result n c.add_records.new.entries = ended c.begin.ensures c.in_ok-draft.ensures.adds c.end_draft.ensures.ends in
    record { makes = k; live = keeps_live m n c.args.shelf c.args.entries.now c.add_records.new.entries rs c.end_draft.result (g.met.D.Device.whole c.args.d.now) k; cause = refused_for_cause m n c.args.shelf c.args.entries.now c.add_records.new.entries rs c.end_draft.result (g.met.D.Device.whole c.args.d.now) k }
