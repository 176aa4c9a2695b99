use Rattle.std.proofs.Common.{is_ok, sym, ap, ◌∙◌, arith}
use Rattle.std.proofs.lemmas.Result.{err_from_is_err_and}
use Rattle.device.specs.declared.pieces.Piece.{Piece}
use Rattle.device.specs.Pieces.{IsNext}
use Rattle.device.specs.Meanings.{Meaning}
use Rattle.file.proofs.Turns.{turn_ok, turn_err}
use Rattle.file.proofs.reading.read_part.Goals as goal

pub returns-in_err-read-clause-filled : goal.returns-in_err-read-clause-filled
returns-in_err-read-clause-filled g c =
    let m : Meaning = g.D.Device.meaning c.args.d.now in
    let w : Piece = c.in-Some.piece in
    let inv = c.loop-piece.invariant in
    let next : IsNext c.loop-piece.piece-iterator w c.next.new.self = c.in-Some.ensures.steps in
    let r = err_from_is_err_and c.from_residual.result c.from_residual.ensures.1 in
    rw (r.1, r.2)
    (turn_err m c.args.place w c.args.buffer.now c.loop-piece.buffer c.read.new.piece c.in_err-read.field-0.0 (omega arith) (omega arith) (omega arith)
    (rw next.from inv.readable) (rw next.from inv.holds) (sym c.in_err-read.was ∙ rw inv.same at c.read.ensures.answer) (rw inv.same at c.read.ensures.piece))

pub loop-piece-preserved : goal.loop-piece-preserved
loop-piece-preserved g c =
    let m : Meaning = g.D.Device.meaning c.args.d.now in
    let w : Piece = c.in-Some.piece in
    let inv = c.loop-piece.invariant in
    let next : IsNext c.loop-piece.piece-iterator w c.next.new.self = c.in-Some.ensures.steps in
    let t =
    turn_ok m c.args.place w c.args.buffer.now c.loop-piece.buffer c.read.new.piece c.read.result (omega arith) (omega arith) (omega arith) c.read.auto.piece
    (rw next.from inv.readable) (rw next.from inv.holds) (rw inv.same at c.read.ensures.answer) (ap is_ok c.in_ok-read.was) (rw inv.same at c.read.ensures.piece) in
    record { start = omega arith; len = omega arith; readable = rw (← next.to) t.0; holds = rw (← next.to) t.1; same = c.read.ensures.same ∙ inv.same }
