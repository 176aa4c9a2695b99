use Rattle.std.proofs.Common.{ℕ, ◌+◌, Bool, List, Ok, Err, Result, sym, ◌∙◌, subst, arith}
use Rattle.std.proofs.lemmas.Result.{err_from_is_err_and}
use Rattle.faults.specs.declared.device.DeviceFault.{DeviceFault}
use Rattle.faults.specs.declared.file.FileFault.{FileFault}
use Rattle.faults.proofs.Places.{placed_ok}
use Rattle.device.specs.Meanings.{Meaning}
use Rattle.file.specs.declared.extents.Extent.{Extent}
use Rattle.file.specs.Extents.{file}
use Rattle.lookup.specs.declared.cursors.Found.{Found}
use Rattle.lookup.specs.declared.cursors.Probe.TheVariants.{Match}
use Rattle.lookup.specs.declared.searching.Search.{Search}
use Rattle.lookup.specs.Keys.{Compared}
use Rattle.lookup.specs.Searches.{Kept}
use Rattle.lookup.specs.Probes as probes
use Rattle.lookup.specs.Probes.{Illegible, RecordProbe, table_in}
use Rattle.lookup.proofs.Kept.{moved, key_long}
use Rattle.lookup.proofs.Placed.{found_is, placed_fault}
use Rattle.lookup.proofs.searching.Search.probe_record.Goals as goal

illegible : (m : Meaning) (e : Extent) (t : ℕ) (key : List ℕ) (p : ℕ) (f : FileFault) → Illegible m e t p f → RecordProbe m e t key p (Err f)
illegible m e t key p f (probes.past l) = probes.words_past l
illegible m e t key p f (probes.bad l b) = probes.words_bad l b

-- what comparing the key answered, of the lookup as it was
compared : {D B : _} {s t : Search D B} → Kept s t → (p : ℕ) (r : Result Bool DeviceFault)
    → Compared (B.meaning t.device.now) t.cursor.extent p t.key.now r → Compared (B.meaning s.device.now) s.cursor.extent p s.key.now r
compared kept p r h = moved kept (λ m u k. Compared m u.extent p k r) h

pub returns-in_err-words-clause-probe : goal.returns-in_err-words-clause-probe
returns-in_err-words-clause-probe g c =
    let r = err_from_is_err_and c.from_residual.result c.from_residual.ensures.1 in
    rw (r.1, r.2) (illegible _ _ _ c.args.self.now.key.now _ _ c.in_err-words.ensures.probe)

pub returns-then-end-cursor-clause-probe : goal.returns-then-end-cursor-clause-probe
returns-then-end-cursor-clause-probe g c = let w = c.in_ok-words.ensures.probe in probes.end_past w.0 (omega (arith, w.1, w.2))

pub returns-then-words-self-clause-probe : goal.returns-then-words-self-clause-probe
returns-then-words-self-clause-probe g c =
    let w = c.in_ok-words.ensures.probe in
    let long = key_long c.words.ensures.kept in
    probes.other_length w.0 (omega (arith, w.1, w.2)) (λ h. c.if-words-self.true (w.1 ∙ h ∙ sym long))

pub returns-in_err-same-clause-probe : goal.returns-in_err-same-clause-probe
returns-in_err-same-clause-probe g c =
    let w = c.in_ok-words.ensures.probe in
    let long = key_long c.words.ensures.kept in
    let r = err_from_is_err_and c.from_residual-in_err-same.result c.from_residual-in_err-same.ensures.1 in
    let b = placed_fault (Compared _ c.args.self.now.cursor.extent (c.args.place + 8) c.args.self.now.key.now)
    (table_in c.args.self.now.cursor) c.args.place c.add_place.ensures c.in_err-same.was (compared c.words.ensures.kept _ _ c.compare.ensures.compared) in
    rw (r.1, r.2, b.2) (probes.key_bad w.0 (omega (arith, w.1, w.2)) (sym w.1 ∙ c.if-words-self.false ∙ long) b.1)

pub returns-then-not-same-clause-probe : goal.returns-then-not-same-clause-probe
returns-then-not-same-clause-probe g c =
    let w = c.in_ok-words.ensures.probe in
    let long = key_long c.words.ensures.kept in
    let h = placed_ok (Compared _ c.args.self.now.cursor.extent (c.args.place + 8) c.args.self.now.key.now)
    (table_in c.args.self.now.cursor) c.args.place c.add_place.ensures c.in_ok-same.was (compared c.words.ensures.kept _ _ c.compare.ensures.compared) in
    probes.other_key w.0 (omega (arith, w.1, w.2)) (sym w.1 ∙ c.if-words-self.false ∙ long) (rw c.if-not-same.true at h)

pub returns-clause-probe : goal.returns-clause-probe
returns-clause-probe g c =
    let m : Meaning = g.D.Device.meaning c.args.self.now.device.now in
    let e : Extent = c.args.self.now.cursor.extent in
    let w = c.in_ok-words.ensures.probe in
    let long = key_long c.words.ensures.kept in
    let h = placed_ok (Compared _ c.args.self.now.cursor.extent (c.args.place + 8) c.args.self.now.key.now)
    (table_in c.args.self.now.cursor) c.args.place c.add_place.ensures c.in_ok-same.was (compared c.words.ensures.kept _ _ c.compare.ensures.compared) in
    subst (λ (f : Found). RecordProbe m e (table_in c.args.self.now.cursor) c.args.self.now.key.now c.args.place (Ok (Match f))) (sym (found_is (file m e) c.args.place _ _ w.1 w.2))
    (probes.same_key w.0 (omega (arith, w.1, w.2)) (sym w.1 ∙ c.if-words-self.false ∙ long) (rw c.if-not-same.false at h))
