use Rattle.std.proofs.Common.{◌≡◌, ℕ, ◌+◌, ◌-◌, List, None, Ok, Err, Result, ◌∙◌, subst, arith}
use Rattle.std.proofs.lemmas.Result.{err_from_is_err_and}
use Rattle.faults.specs.declared.file.FileFault.{FileFault}
use Rattle.device.specs.Meanings.{Meaning}
use Rattle.lookup.specs.declared.cursors.Cursor.{Cursor}
use Rattle.lookup.specs.declared.cursors.Step.{Step}
use Rattle.lookup.specs.Nexts.{Advances, probed_to}
use Rattle.lookup_nth.specs.Nths as nths
use Rattle.lookup_nth.specs.Nths.{NthFrom}
use Rattle.lookup_nth.proofs.Numbered.{from_later, from_here}
use Rattle.lookup_nth.proofs.nth.nth_from.Goals as goal

-- what a step answered, on the device as it was
answered : (m n : Meaning) (u : Cursor) (key : List ℕ) (r s : Result Step FileFault) → n ≡ m → r ≡ s → Advances n u key r → Advances m u key s
answered m n u key r s same was a = subst (λ (k : Meaning). Advances k u key s) same (subst (Advances n u key) was a)

pub returns-in_err-step-clause-nth : goal.returns-in_err-step-clause-nth
returns-in_err-step-clause-nth g c =
    let inv = c.loop.invariant in
    let r = err_from_is_err_and c.from_residual.result c.from_residual.ensures.1 in
    rw (r.1, r.2) (inv.going _ (nths.refused (answered _ _ c.loop.at _ c.advance.result (Err _) inv.same c.in_err-step.was c.advance.ensures.answer)))

pub returns-in_default-clause-nth : goal.returns-in_default-clause-nth
returns-in_default-clause-nth g c =
    let inv = c.loop.invariant in
    let a = answered _ _ c.loop.at c.args.key.bytes.now c.advance.result (Ok c.in_ok-step.step) inv.same c.in_ok-step.was c.advance.ensures.answer in
    inv.going (Ok None) (nths.ended (rw c.in_default.is at a))

pub loop-preserved : goal.loop-preserved
loop-preserved g c =
    let m : Meaning = g.D.Device.meaning c.args.d.now in
    let key : List ℕ = c.args.key.bytes.now in
    let inv = c.loop.invariant in
    let u : Cursor = c.loop.at in
    let s : Step = c.in_ok-step.step in
    let left : ℕ = c.args.n - c.loop.counter in
    let a = answered m _ u key c.advance.result (Ok s) inv.same c.in_ok-step.was c.advance.ensures.answer in
    record {
      same = c.advance.ensures.same ∙ inv.same;
      going = λ r n.
          let z : c.args.n - (c.loop.counter + 1) ≡ left - 1 = omega arith in
          inv.going r (from_later m key u (probed_to u s.probed) left c.in-Some.data (omega arith) (rw c.in-Some.is at a) r (subst (λ (k : ℕ). NthFrom m key (probed_to u s.probed) k r) z n));
    }

pub returns-in-Some-clause-nth : goal.returns-in-Some-clause-nth
returns-in-Some-clause-nth g c =
    let m : Meaning = g.D.Device.meaning c.args.d.now in
    let key : List ℕ = c.args.key.bytes.now in
    let inv = c.loop.invariant in
    let u : Cursor = c.loop.at in
    let s : Step = c.in_ok-step.step in
    let a = answered m _ u key c.advance.result (Ok s) inv.same c.in_ok-step.was c.advance.ensures.answer in
    inv.going _ (from_here m key u (probed_to u s.probed) (c.args.n - c.loop.counter) c.in-Some.data (omega arith) (rw c.in-Some.is at a))
