use Rattle.std.proofs.Common.{◌≡◌, ◌<◌, length, Some, Ok, Err, refl, ◌∙◌, arith}
use Rattle.text.specs.declared.fault.TextFault.TheVariants.{Short}
use Rattle.text.specs.Wholes.{Reads}
use Rattle.text.proofs.Filling.{handed, filled, gives}
use Rattle.text.proofs.whole.read_records.Goals as goal

pub returns-then-room-n : goal.returns-then-room-n
returns-then-room-n c =
    let xs = c.args.into.now in
    let a = c.in_ok-n.ensures in
    let l : length xs < length a.0 = omega (arith, a.2) in
    let k : Reads c.args.text.now (length xs) xs (Err (Short (length xs))) xs = ((a.0, a.1, l), refl, refl) in
    record { reads = k; gives = gives _ _ xs xs _ (omega arith) k }

pub unwrap-requires-in-loop-slot : goal.unwrap-requires-in-loop-slot
unwrap-requires-in-loop-slot c =
    let i = c.loop-slot.invariant in
    let h = handed c.next.result _ i.filling (omega arith) i.same c.next.ensures.hands in
    let e : c.unwrap.result ≡ Some h.handed = cc in
    rw e refl

pub loop-slot-preserved : goal.loop-slot-preserved
loop-slot-preserved c =
    let i = c.loop-slot.invariant in
    let h = handed c.next.result _ i.filling (omega arith) i.same c.next.ensures.hands in
    let e : c.unwrap-in-loop-slot.result ≡ h.handed = cc in
    record { same = c.next.ensures.same ∙ i.same; filling = rw e h.next; room = i.room }

pub returns : goal.returns
returns c =
    let i = c.loop-slot.invariant in
    let xs = c.args.into.now in
    let n = c.in_ok-n.field-0.records in
    let k = filled _ _ _ n xs _ i.room i.filling (omega arith) in
    record { reads = k; gives = gives _ _ xs _ (Ok n) (omega arith) k }
