use Rattle.std.proofs.Common.{ℕ, List, Err, sym, ◌∙◌, subst, arith}
use Rattle.std.proofs.lemmas.Result.{err_from_is_err_and}
use Rattle.faults.specs.declared.file.FileFault.{FileFault}
use Rattle.device.specs.Meanings.{Meaning}
use Rattle.lookup.specs.declared.cursors.Cursor.{Cursor}
use Rattle.lookup.specs.Probes as probes
use Rattle.lookup.specs.Probes.{Illegible, RecordProbe, SlotProbe, slot_place, table_in}
use Rattle.lookup.proofs.Kept.{moved}
use Rattle.lookup.proofs.searching.Search.probe_slot.Goals as goal

illegible : (m : Meaning) (u : Cursor) (key : List ℕ) (i : ℕ) (f : FileFault) → Illegible m u.extent (table_in u) (slot_place u i) f → SlotProbe m u key i (Err f)
illegible m u key i f (probes.past l) = probes.slot_past l
illegible m u key i f (probes.bad l b) = probes.slot_bad l b

pub returns-in_err-words-clause-probe : goal.returns-in_err-words-clause-probe
returns-in_err-words-clause-probe g c =
    let r = err_from_is_err_and c.from_residual.result c.from_residual.ensures.1 in
    rw (r.1, r.2) (illegible _ c.args.self.now.cursor _ c.args.index _ c.in_err-words.ensures.probe)

pub returns-then-words-eq0-clause-probe : goal.returns-then-words-eq0-clause-probe
returns-then-words-eq0-clause-probe g c = let w = c.in_ok-words.ensures.probe in probes.slot_empty w.0 (sym w.2 ∙ c.if-words-eq0.true)

pub returns-then-words-cursor-clause-probe : goal.returns-then-words-cursor-clause-probe
returns-then-words-cursor-clause-probe g c =
    let w = c.in_ok-words.ensures.probe in probes.other_hash w.0 (omega (arith, w.2)) (λ h. c.if-words-cursor.true (w.1 ∙ h))

pub returns-clause-probe : goal.returns-clause-probe
returns-clause-probe g c =
    let m : Meaning = g.D.Device.meaning c.args.self.now.device.now in
    let u : Cursor = c.args.self.now.cursor in
    let w = c.in_ok-words.ensures.probe in
    let r = c.probe_record.result in
    let h = moved c.words.ensures.kept (λ n v k. RecordProbe n v.extent (table_in v) k c.in_ok-words.words.second r) c.probe_record.ensures.probe in
    probes.same_hash w.0 (omega (arith, w.2)) (sym w.1 ∙ c.if-words-cursor.false) (subst (λ (p : ℕ). RecordProbe m u.extent (table_in u) c.args.self.now.key.now p r) w.2 h)
