use Rattle.std.proofs.Common.{◌≡◌, ℕ, List, Some, None, Ok, Err, refl, ◌∙◌}
use Rattle.std.proofs.lemmas.Result.{err_from_is_err_and}
use Rattle.device.specs.Meanings.{Meaning}
use Rattle.text.specs.Readings.{Hands}
use Rattle.text.proofs.Counting.{over}
use Rattle.shelf_making.specs.Adding.{AddsText}
use Rattle.shelf_making.proofs.Gathered.{begun, taken, one_more, stopped, all}
use Rattle.shelf_making.proofs.adding.add_text.Goals as goal

pub loop-record-init : goal.loop-record-init
loop-record-init g c =
    let z : c.new-records.result.place ≡ 0 = c.new-records.ensures.stands.1 in
    (c.new-records.ensures.stands.0, rw z (begun (g.D.Device.meaning c.args.d.now) c.args.draft c.args.entries.now c.args.text.now c.requires.whole))

pub unwrap-requires : goal.unwrap-requires
unwrap-requires g c =
    let i = c.loop-record.invariant in
    let h = taken _ _ _ _ _ _ _ _ i.1 _ _ _ i.0 c.next.ensures.hands in
    rw h.1 refl

pub returns-in_err-draft : goal.returns-in_err-draft
returns-in_err-draft g c =
    let i = c.loop-record.invariant in
    let m : Meaning = g.D.Device.meaning c.args.d.now in
    let n : Meaning = g.D.Device.meaning c.loop-record.d in
    let t : List ℕ = c.args.text.now in
    let u : ℕ = c.next.new.self.place in
    let q : ℕ = c.loop-record.records.place in
    let e : c.next.result ≡ Ok (Some c.in-Some.record) = c.in-Some.ensures in
    let h : Hands t q (Ok (Some c.in-Some.record)) u = over t c.loop-record.records.text.now q u c.next.result (Ok (Some c.in-Some.record)) i.0 e c.next.ensures.hands in
    let o : Meaning = g.D.Device.meaning c.add.new.d in
    let z = err_from_is_err_and c.from_residual.result c.from_residual.ensures.1 in
    let k : AddsText m c.args.draft c.args.entries.now t (Err c.in_err-draft.field-0.0) o c.add.new.entries = stopped m c.args.draft c.args.entries.now t q c.loop-record.draft n c.loop-record.entries i.1 u c.in-Some.record h c.in_err-draft.field-0.0 o c.add.new.entries c.in_err-draft.ensures.adds in
    record { adds = rw (z.1, z.2) k }

pub loop-record-preserved : goal.loop-record-preserved
loop-record-preserved g c =
    let i = c.loop-record.invariant in
    let m : Meaning = g.D.Device.meaning c.args.d.now in
    let n : Meaning = g.D.Device.meaning c.loop-record.d in
    let t : List ℕ = c.args.text.now in
    let u : ℕ = c.next.new.self.place in
    let q : ℕ = c.loop-record.records.place in
    let e : c.next.result ≡ Ok (Some c.in-Some.record) = c.in-Some.ensures in
    let h : Hands t q (Ok (Some c.in-Some.record)) u = over t c.loop-record.records.text.now q u c.next.result (Ok (Some c.in-Some.record)) i.0 e c.next.ensures.hands in
    let o : Meaning = g.D.Device.meaning c.add.new.d in
    (c.next.ensures.same ∙ i.0, one_more m c.args.draft c.args.entries.now t q c.loop-record.draft n c.loop-record.entries i.1 u c.in-Some.record h c.in_ok-draft.draft o c.add.new.entries c.in_ok-draft.ensures.adds)

pub returns : goal.returns
returns g c =
    let i = c.loop-record.invariant in
    let m : Meaning = g.D.Device.meaning c.args.d.now in
    let n : Meaning = g.D.Device.meaning c.loop-record.d in
    let t : List ℕ = c.args.text.now in
    let u : ℕ = c.next.new.self.place in
    let q : ℕ = c.loop-record.records.place in
    let h : Hands t q (Ok None) u = over t c.loop-record.records.text.now q u c.next.result (Ok None) i.0 c.in_default.ensures c.next.ensures.hands in
    record { adds = all m c.args.draft c.args.entries.now t q c.loop-record.draft n c.loop-record.entries i.1 u h }
