use Rattle.std.proofs.Common.{◌≡◌, ℕ, ◌+◌, Ok, Option, subst, arith}
use Rattle.cdb.specs.Records.{size}
use Rattle.records.specs.declared.placed.PlacedRecord.{PlacedRecord}
use Rattle.records.specs.Readings.{record_of}
use Rattle.records.specs.Steps.{Found}
use Rattle.records.proofs.Walks.{Walked, one_more}
use Rattle.records.proofs.reader.RecordReader.ahead.Goals as goal

pub loop-n-preserved : goal.loop-n-preserved
loop-n-preserved c =
    let f = c.args.self.now.file.now in
    let p = c.loop-n.place in
    let e = c.in-Some.record in
    let h = subst (λ (o : Option PlacedRecord). Found f p (Ok o)) c.in-Some.is c.in_ok-record_at.ensures in
    let q : p + size (record_of e) ≡ c.end-place.result = omega (arith, h.1.1) in
    let w = one_more f c.args.self.now.place p (p + size (record_of e)) c.loop-n.n (record_of e) c.loop-n.invariant.0 h.0 in
    (subst (λ (t : ℕ). Walked f c.args.self.now.place t (c.loop-n.n + 1)) q w, omega (arith, h.2, c.in_ok-end.ensures))
