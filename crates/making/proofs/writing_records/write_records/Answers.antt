use Rattle.std.proofs.Common.{◌≡◌, ℕ, List, Some, Ok, Err, refl, sym, ap, ◌∙◌, subst, arith}
use Rattle.std.proofs.lemmas.Result.{err_from_is_err_and}
use Rattle.std.proofs.lemmas.List.{set-get_or}
use Rattle.cdb.specs.Records.{hash_of}
use Rattle.device.specs.Meanings.{Meaning, Whole}
use Rattle.building.specs.declared.entries.Entry.{Entry}
use Rattle.making.specs.Steps.{PutsRecords}
use Rattle.making.proofs.Written.{begun, next, met, inside, one_more, stopped, all}
use Rattle.making.proofs.writing_records.write_records.Goals as goal

pub loop-entry-init : goal.loop-entry-init
loop-entry-init g c =
    let m : Meaning = g.D.Device.meaning c.args.d.now in
    let z : c.new-records.result.place ≡ 0 = c.new-records.ensures.stands.1 in
    (c.new-records.ensures.stands.0, rw z (begun m c.args.text.now c.args.entries.now (g.met.D.Device.whole c.args.d.now) c.requires.fit))

pub unwrap-requires : goal.unwrap-requires
unwrap-requires g c =
    let i = c.loop-entry.invariant in
    let h = next _ _ _ _ _ _ _ _ (g.met.D.Device.whole c.args.d.now) i.1 _ _ _ i.0 c.loop-entry-test.true c.next.ensures.hands in
    rw h.is refl

pub unwrap-record-requires : goal.unwrap-record-requires
unwrap-record-requires g c =
    let i = c.loop-entry.invariant in
    let h = next _ _ _ _ _ _ _ _ (g.met.D.Device.whole c.args.d.now) i.1 _ _ _ i.0 c.loop-entry-test.true c.next.ensures.hands in
    let e : c.unwrap.result ≡ Some h.handed = cc in
    rw e refl

pub write_record-requires : goal.write_record-requires
write_record-requires g c =
    let i = c.loop-entry.invariant in
    let e : c.next.result ≡ Ok (Some c.unwrap-record.result) = c.unwrap.ensures ∙ ap Ok c.unwrap-record.ensures in
    let h = met _ _ _ _ _ _ _ _ (g.met.D.Device.whole c.args.d.now) i.1 _ _ _ _ i.0 c.loop-entry-test.true c.next.ensures.hands e in
    record { within = omega (arith, inside _ _ _ _ _ _ _ _ (g.met.D.Device.whole c.args.d.now) i.1 c.next.new.self.place c.unwrap-record.result h.0 h.1, i.1.written.sectors) }

pub returns-in_err-write_record : goal.returns-in_err-write_record
returns-in_err-write_record g c =
    let i = c.loop-entry.invariant in
    let q = err_from_is_err_and c.from_residual.result c.from_residual.ensures.1 in
    let m : Meaning = g.D.Device.meaning c.args.d.now in
    let o : Meaning = g.D.Device.meaning c.write_record.new.d in
    let t : List ℕ = c.args.text.now in
    let es : List Entry = c.args.entries.now in
    let e : c.next.result ≡ Ok (Some c.unwrap-record.result) = c.unwrap.ensures ∙ ap Ok c.unwrap-record.ensures in
    let h = met _ _ _ _ _ _ _ _ (g.met.D.Device.whole c.args.d.now) i.1 _ _ _ _ i.0 c.loop-entry-test.true c.next.ensures.hands e in
    let k : PutsRecords m t (Err c.in_err-write_record.field-0.0) o es c.loop-entry.entries = stopped _ _ _ _ _ _ _ _ (g.met.D.Device.whole c.args.d.now) i.1 c.next.new.self.place c.unwrap-record.result h.0 h.1 o _ c.in_err-write_record.ensures.writes in
    let same = set-get_or c.loop-entry.entries c.loop-entry.entry-index (record { hash = 0; place = 0 }) in
    record { puts = rw (q.1, q.2) (subst (λ (z : List Entry). PutsRecords m t (Err c.in_err-write_record.field-0.0) o es z) (sym same) k) }

pub overflow_add-place-in-loop-entry-2 : goal.overflow_add-place-in-loop-entry-2
overflow_add-place-in-loop-entry-2 g c =
    let i = c.loop-entry.invariant in
    let w : Whole (g.D.Device.meaning c.args.d.now) = g.met.D.Device.whole c.args.d.now in
    let e : c.next.result ≡ Ok (Some c.unwrap-record.result) = c.unwrap.ensures ∙ ap Ok c.unwrap-record.ensures in
    let h = met _ _ _ _ _ _ _ _ w i.1 _ _ _ _ i.0 c.loop-entry-test.true c.next.ensures.hands e in
    omega (arith, inside _ _ _ _ _ _ _ _ w i.1 c.next.new.self.place c.unwrap-record.result h.0 h.1, w.few)

pub loop-entry-preserved : goal.loop-entry-preserved
loop-entry-preserved g c =
    let i = c.loop-entry.invariant in
    let w : Whole (g.D.Device.meaning c.args.d.now) = g.met.D.Device.whole c.args.d.now in
    let e : c.next.result ≡ Ok (Some c.unwrap-record.result) = c.unwrap.ensures ∙ ap Ok c.unwrap-record.ensures in
    let h = met _ _ _ _ _ _ _ _ w i.1 _ _ _ _ i.0 c.loop-entry-test.true c.next.ensures.hands e in
    let o : Meaning = g.D.Device.meaning c.write_record.new.d in
    let hashed : c.hash.result ≡ hash_of c.unwrap-record.result.key.now = c.hash.ensures in
    (c.next.ensures.same ∙ i.0, rw hashed (one_more _ _ _ _ _ _ _ _ w i.1 c.next.new.self.place c.unwrap-record.result h.0 h.1 o c.loop-entry-test.true h.2 c.in_ok-write_record.ensures.writes))

pub returns : goal.returns
returns g c = record { puts = all _ _ _ _ _ _ _ _ (g.met.D.Device.whole c.args.d.now) c.loop-entry.invariant.1 c.loop-entry-test.false }
