use Rattle.std.proofs.Common.{◌≡◌, ℕ, ◌-◌, ◌<◌, true, List, length, take, drop, is_ok, ap, ◌∙◌, arith, rules, length-drop}
use Rattle.std.proofs.lemmas.List.{length-take-le}
use Rattle.byte_lists.specs.Bytes.{part}
use Rattle.device.specs.declared.pieces.Piece.{Piece}
use Rattle.device.specs.Meanings.{Meaning, within}
use Rattle.file.specs.declared.extents.Extent.{Extent}
use Rattle.file.proofs.Turns.{read_ok}
use Rattle.lookup.proofs.Pieces.{compared_piece}
use Rattle.lookup.proofs.searching.Search.same_piece.Goals as goal

pub returns-clause-compared : goal.returns-clause-compared
returns-clause-compared g c =
    let m : Meaning = g.D.Device.meaning c.args.self.now.device.now in
    let e : Extent = c.args.self.now.cursor.extent in
    let on = c.args.self.now.on in
    let w : Piece = c.args.piece in
    let key : List ℕ = c.args.self.now.key.now in
    let want : List ℕ = take (w.to - w.from) (drop w.from key) in
    let count : length want ≡ w.to - w.from = length-take-le (w.to - w.from) (drop w.from key) (omega (arith, length-drop w.from key)) in
    let n : ℕ = length (take (length want) c.args.buffer.now) in
    let z : n ≡ length want = length-take-le (length want) c.args.buffer.now (omega arith) in
    let some : 0 < n = omega arith in
    let i : within m.sectors w.place n ≡ true = search rules in
    let r = read_ok m w.place n c.read.result _ c.read.new.piece i c.read.ensures.answer (ap is_ok c.in_ok-read.was) c.read.ensures.piece in
    λ p at. compared_piece m e p want c.read.new.piece w.place at (omega arith) (omega arith) r.0
    (r.1 ∙ ap (part m.bytes w.place) z) (c.read.auto.piece ∙ z) c.same_bytes.result c.same_bytes.ensures
