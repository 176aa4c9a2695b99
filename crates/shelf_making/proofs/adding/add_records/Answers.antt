use Rattle.std.proofs.Common.{map, Err}
use Rattle.std.proofs.lemmas.Result.{err_from_is_err_and}
use Rattle.device.specs.Meanings.{Meaning}
use Rattle.text.specs.Readings.{lent}
use Rattle.shelf_making.specs.Adding.{AddsAll, none}
use Rattle.shelf_making.proofs.Gathered.{listed_more, listed_stopped, listed_all}
use Rattle.shelf_making.proofs.adding.add_records.Goals as goal

pub loop-record-init : goal.loop-record-init
loop-record-init g c = none

pub returns-in_err-draft : goal.returns-in_err-draft
returns-in_err-draft g c =
    let m : Meaning = g.D.Device.meaning c.args.d.now in
    let n : Meaning = g.D.Device.meaning c.loop-record.d in
    let o : Meaning = g.D.Device.meaning c.add.new.d in
    let z = err_from_is_err_and c.from_residual.result c.from_residual.ensures.1 in
    let k : AddsAll m c.args.draft c.args.entries.now (map lent c.args.records.now) (Err c.in_err-draft.field-0.0) o c.add.new.entries =
    listed_stopped m c.args.draft c.args.entries.now c.args.records.now c.loop-record.record-index c.loop-record.draft n c.loop-record.entries c.loop-record.invariant _ c.loop-record-test.true
    c.in_err-draft.field-0.0 o c.add.new.entries c.in_err-draft.ensures.adds in
    record { adds = rw (z.1, z.2) k }

pub loop-record-preserved : goal.loop-record-preserved
loop-record-preserved g c =
    let m : Meaning = g.D.Device.meaning c.args.d.now in
    let n : Meaning = g.D.Device.meaning c.loop-record.d in
    let o : Meaning = g.D.Device.meaning c.add.new.d in
    listed_more m c.args.draft c.args.entries.now c.args.records.now c.loop-record.record-index c.loop-record.draft n c.loop-record.entries c.loop-record.invariant _ c.loop-record-test.true
    c.in_ok-draft.draft o c.add.new.entries c.in_ok-draft.ensures.adds

pub returns : goal.returns
returns g c =
    let m : Meaning = g.D.Device.meaning c.args.d.now in
    let n : Meaning = g.D.Device.meaning c.loop-record.d in
    record { adds = listed_all m c.args.draft c.args.entries.now c.args.records.now c.loop-record.record-index c.loop-record.draft n c.loop-record.entries c.loop-record.invariant c.loop-record-test.false }
