use Rattle.std.proofs.Common.{◌≡◌, ℕ, ◌+◌, Bool, List, Ok, Err, Result, arith}
use Rattle.std.specs.List.{slice_range}
use Rattle.std.proofs.lemmas.Result.{err_from_is_err_and}
use Rattle.faults.specs.declared.device.DeviceFault.{DeviceFault}
use Rattle.device.specs.declared.pieces.Piece.{Piece}
use Rattle.device.specs.Pieces.{IsNext}
use Rattle.device.specs.Meanings.{Meaning}
use Rattle.file.specs.declared.extents.Extent.{Extent}
use Rattle.lookup.specs.declared.searching.Search.{Search}
use Rattle.lookup.specs.Keys.{Compared}
use Rattle.lookup.specs.Searches.{Kept}
use Rattle.lookup.proofs.Kept.{moved, kept_twice}
use Rattle.lookup.proofs.Pieces.{agrees_more, differs_later, unread_later}
use Rattle.lookup.proofs.searching.Search.same_across.Goals as goal

-- what comparing a piece answered in a turn, of the lookup as it was
compared : {D B : _} {s t : Search D B} → Kept s t → (w : Piece) (r : Result Bool DeviceFault)
    → ((p : ℕ) → w.place ≡ t.cursor.extent.start + p → Compared (B.meaning t.device.now) t.cursor.extent p (slice_range t.key.now w.from w.to) r)
    → (p : ℕ) → w.place ≡ s.cursor.extent.start + p → Compared (B.meaning s.device.now) s.cursor.extent p (slice_range s.key.now w.from w.to) r
compared kept w r h = moved kept (λ m u k. (p : ℕ) → w.place ≡ u.extent.start + p → Compared m u.extent p (slice_range k w.from w.to) r) h

pub returns-in_err-same-clause-compared : goal.returns-in_err-same-clause-compared
returns-in_err-same-clause-compared g c =
    let m : Meaning = g.D.Device.meaning c.args.self.now.device.now in
    let e : Extent = c.args.self.now.cursor.extent in
    let key : List ℕ = c.args.self.now.key.now in
    let w : Piece = c.in-Some.piece in
    let next : IsNext c.loop-piece.piece-iterator w c.next.new.self = c.in-Some.ensures.steps in
    let inv = c.loop-piece.invariant in
    let r = err_from_is_err_and c.from_residual.result c.from_residual.ensures.1 in
    let here = compared inv.kept w (Err c.in_err-same.field-0.0) c.in_err-same.ensures.compared (c.args.place + w.from) (omega arith) in
    rw (r.1, r.2) (unread_later m e c.args.place key w.from w.to w.some (omega arith) (rw next.from inv.agrees) _ here)

pub returns-then-not-same-clause-compared : goal.returns-then-not-same-clause-compared
returns-then-not-same-clause-compared g c =
    let m : Meaning = g.D.Device.meaning c.args.self.now.device.now in
    let e : Extent = c.args.self.now.cursor.extent in
    let key : List ℕ = c.args.self.now.key.now in
    let w : Piece = c.in-Some.piece in
    let next : IsNext c.loop-piece.piece-iterator w c.next.new.self = c.in-Some.ensures.steps in
    let inv = c.loop-piece.invariant in
    let here = compared inv.kept w (Ok c.in_ok-same.same) c.in_ok-same.ensures.compared (c.args.place + w.from) (omega arith) in
    differs_later m e c.args.place key w.from w.to w.some (omega arith) (rw next.from inv.agrees) (rw c.if-not-same.true at here)

pub loop-piece-preserved : goal.loop-piece-preserved
loop-piece-preserved g c =
    let m : Meaning = g.D.Device.meaning c.args.self.now.device.now in
    let e : Extent = c.args.self.now.cursor.extent in
    let key : List ℕ = c.args.self.now.key.now in
    let w : Piece = c.in-Some.piece in
    let next : IsNext c.loop-piece.piece-iterator w c.next.new.self = c.in-Some.ensures.steps in
    let inv = c.loop-piece.invariant in
    let here = compared inv.kept w (Ok c.in_ok-same.same) c.in_ok-same.ensures.compared (c.args.place + w.from) (omega arith) in
    record {
      start = omega arith;
      len = omega arith;
      agrees = rw (← next.to) (agrees_more m e c.args.place key w.from w.to w.some (omega arith) (rw next.from inv.agrees) (rw c.if-not-same.false at here));
      kept = kept_twice inv.kept c.same_piece.ensures.kept;
    }
