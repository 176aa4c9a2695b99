use Rattle.std.proofs.Common.{◌≡◌, ℕ, ◌+◌, ◌%◌, ◌≤◌, true, List, length, take, drop, is_ok, sym, ap, ◌∙◌, arith, rules}
use Rattle.std.proofs.lemmas.List.{take-take, length-take-le}
use Rattle.byte_lists.specs.Bytes.{part}
use Rattle.byte_lists.proofs.Parts.{part_in}
use Rattle.device.specs.Meanings.{Meaning, within}
use Rattle.file.specs.declared.extents.Extent.{Extent}
use Rattle.file.specs.Extents.{file}
use Rattle.file.proofs.Turns.{read_ok}
use Rattle.lookup.proofs.Pieces.{compared_here}
use Rattle.lookup.proofs.searching.Search.same_short.Goals as goal

pub returns-clause-compared : goal.returns-clause-compared
returns-clause-compared g c =
    let m : Meaning = g.D.Device.meaning c.args.self.now.device.now in
    let e : Extent = c.args.self.now.cursor.extent in
    let p : ℕ = c.args.place in
    let n : ℕ = length c.args.self.now.key.now in
    let b : List ℕ = c.read.new.piece in
    let i : within m.sectors (e.start + p) 32 ≡ true = let on = c.args.self.now.on in search rules in
    let r = read_ok m (e.start + p) 32 c.read.result _ b i c.read.ensures.answer (ap is_ok c.in_ok-read.was) c.read.ensures.piece in
    let l : n ≤ 32 = omega arith in
    let front : take n b ≡ part (file m e) p n =
    ap (take n) r.1 ∙ take-take n 32 (drop (e.start + p) m.bytes) l ∙ sym (part_in m.bytes e.start e.len p n (omega arith)) in
    let sector : (e.start + p) % 512 + n ≤ 512 = omega arith in
    let long : length (take n b) ≡ n = length-take-le n b (omega (arith, c.read.auto.piece)) in
    compared_here m e p c.args.self.now.key.now (take n b) r.0 sector front long c.same_bytes.result c.same_bytes.ensures
