use Rattle.std.proofs.Common.{◌≡◌, ℕ, ◌<◌, ◌≤◌, None, Ok, Err, Result, sym, subst, ⊎_elim, arith}
use Rattle.std.proofs.lemmas.Result.{err_from_is_err_and}
use Rattle.std.proofs.lemmas.Bool.{cases_lt}
use Rattle.faults.specs.declared.file.FileFault.{FileFault}
use Rattle.device.specs.Meanings.{Meaning}
use Rattle.cdb.specs.Tables.{slot_away}
use Rattle.lookup.specs.declared.cursors.Cursor.{Cursor}
use Rattle.lookup.specs.declared.cursors.Probe.{Probe}
use Rattle.lookup.specs.declared.searching.Search.{Search}
use Rattle.lookup.specs.Probes.{SlotProbe}
use Rattle.lookup.specs.Searches.{Kept}
use Rattle.lookup.proofs.Kept.{moved}
use Rattle.lookup.specs.Nexts.{ProbeAt, Walk, probed_to, ended, all_others, empty, found, refused}
use Rattle.lookup.proofs.searching.Search.walk.Goals as goal

-- what a probe answered, by the distance of its slot and of the lookup as it was
probed : {D B : _} {s t : Search D B} → Kept s t → (i j : ℕ) (r : Result Probe FileFault) → i ≡ slot_away s.cursor.slots s.cursor.hash j
    → SlotProbe (B.meaning t.device.now) t.cursor t.key.now i r → ProbeAt (B.meaning s.device.now) s.cursor s.key.now j r
probed {B = B} {s = s} kept i j r away h =
    subst (λ (k : ℕ). SlotProbe (B.meaning s.device.now) s.cursor s.key.now k r) away (moved kept (λ m u k. SlotProbe m u k i r) h)

pub returns-in_err-probe_slot-clause-walk : goal.returns-in_err-probe_slot-clause-walk
returns-in_err-probe_slot-clause-walk g c =
    let away : c.slot_away-slot.result ≡ slot_away c.args.self.now.cursor.slots c.args.self.now.cursor.hash c.loop-at.at = cc in
    let r = err_from_is_err_and c.from_residual.result c.from_residual.ensures.1 in
    let k = probed c.loop-at.invariant.1 _ c.loop-at.at (Err _) away c.in_err-probe_slot.ensures.probe in
    rw (r.1, r.2) (refused c.loop-at-test.true (record { from = c.loop-at.auto.at; others = c.loop-at.invariant.0 }) k)

pub returns-in-Empty-clause-walk : goal.returns-in-Empty-clause-walk
returns-in-Empty-clause-walk g c =
    let m : Meaning = g.D.Device.meaning c.args.self.now.device.now in
    let away : c.slot_away-slot.result ≡ slot_away c.args.self.now.cursor.slots c.args.self.now.cursor.hash c.loop-at.at = cc in
    let k = probed c.loop-at.invariant.1 _ c.loop-at.at (Ok _) away c.in_ok-probe_slot.ensures.probe in
    empty c.loop-at-test.true (record { from = c.loop-at.auto.at; others = c.loop-at.invariant.0 }) (rw c.in-Empty.is at k)

pub returns-in-Match-clause-walk : goal.returns-in-Match-clause-walk
returns-in-Match-clause-walk g c =
    let m : Meaning = g.D.Device.meaning c.args.self.now.device.now in
    let away : c.slot_away-slot.result ≡ slot_away c.args.self.now.cursor.slots c.args.self.now.cursor.hash c.loop-at.at = cc in
    let k = probed c.loop-at.invariant.1 _ c.loop-at.at (Ok _) away c.in_ok-probe_slot.ensures.probe in
    found c.loop-at-test.true (record { from = c.loop-at.auto.at; others = c.loop-at.invariant.0 }) (rw c.in-Match.is at k)

pub returns-clause-walk : goal.returns-clause-walk
returns-clause-walk g c =
    let m : Meaning = g.D.Device.meaning c.args.self.now.device.now in
    let u : Cursor = c.args.self.now.cursor in
    let P : ℕ → Type 0 = λ n. Walk m u c.args.self.now.key.now (Ok None) (probed_to u n) in
    ⊎_elim
    (λ (l : u.probed < u.slots).
    let e : c.max.result ≡ u.slots = omega arith in
    subst P (sym e) (all_others l (record { from = omega arith; others = λ j a b. c.loop-at.invariant.0 j a (omega arith) })))
    (λ (l : u.slots ≤ u.probed). let e : c.max.result ≡ u.probed = omega arith in subst P (sym e) (ended l))
    (cases_lt u.probed u.slots)
