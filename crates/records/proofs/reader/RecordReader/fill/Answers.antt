use Rattle.std.proofs.Common.{rules, ◌≡◌, length, Some, Ok, refl, ◌∙◌, arith}
use Rattle.records.specs.Readings.{Fills}
use Rattle.records.proofs.Filling.{handed, filled, filled_in_order}
use Rattle.records.proofs.reader.RecordReader.fill.Goals as goal

pub returns-in_err-n-clause-lawful : goal.returns-in_err-n-clause-lawful
returns-in_err-n-clause-lawful c =
    let es = c.args.into.now in
    let k : Fills c.args.self.now.file.now c.args.self.now.place (length es) es c.from_residual.result es c.args.self.now.place = search rules in
    filled_in_order _ _ (length es) es es _ _ (omega arith) k

pub unwrap-requires : goal.unwrap-requires
unwrap-requires c =
    let i = c.loop-slot.invariant in
    rw (handed c.next.result _ c.in_ok-n.ensures.0 c.in_ok-n.ensures.1 i.filling (omega arith) i.same c.next.ensures.hands).is refl

pub unwrap-requires-in-loop-slot : goal.unwrap-requires-in-loop-slot
unwrap-requires-in-loop-slot c =
    let i = c.loop-slot.invariant in
    let h = handed c.next.result _ c.in_ok-n.ensures.0 c.in_ok-n.ensures.1 i.filling (omega arith) i.same c.next.ensures.hands in
    let e : c.unwrap.result ≡ Some h.handed = cc in
    rw e refl

pub loop-slot-preserved : goal.loop-slot-preserved
loop-slot-preserved c =
    let i = c.loop-slot.invariant in
    let h = handed c.next.result _ c.in_ok-n.ensures.0 c.in_ok-n.ensures.1 i.filling (omega arith) i.same c.next.ensures.hands in
    let e : c.unwrap-in-loop-slot.result ≡ h.handed = cc in
    record { same = c.next.ensures.same ∙ i.same; filling = rw e h.next; room = i.room }

pub returns : goal.returns
returns c =
    let i = c.loop-slot.invariant in
    let es = c.args.into.now in
    let a = c.in_ok-n.ensures in
    let k = filled _ _ _ _ c.in_ok-n.n (length es) es _ a.0 a.1 i.room refl i.filling (omega arith) in
    record { fills = k; lawful = filled_in_order _ _ _ es _ (Ok c.in_ok-n.n) _ (omega arith) k; same = i.same }
