use Rattle.std.proofs.Common.{◌≡◌, ℕ, ◌<◌, Some, None, Ok, Err, Option, MatchOption, subst, arith, rules}
use Rattle.std.proofs.ByRecursion.{All-from_get_or}
use Rattle.std.proofs.lemmas.Result.{err_from_is_err_and}
use Rattle.std.specs.Option.{ok_or}
use Rattle.byte_lists.specs.Bytes.{Bytes}
use Rattle.text.specs.declared.fault.TextFault.{TextFault}
use Rattle.text.specs.declared.state.State.{State}
use Rattle.text.specs.Lexing.{Grows, Dead}
use Rattle.text.proofs.Turns.{ended, stopped, turned, cut_off, spans}
use Rattle.text.proofs.scan.scan.Goals as goal

-- where no state is behind the byte, the byte is not taken
died : (σ : State) (b : ℕ) (o : Option State) (e f : TextFault) → MatchOption o (Dead σ b) (λ s. Grows σ b s) → Err f ≡ ok_or o e → Dead σ b × (f ≡ e)
died σ b None e f m i = (m, cc)
died σ b (Some s) e f m i = absurd cc

-- the state that is behind the byte grows from the one before
grows : (σ : State) (b : ℕ) (o : Option State) (e : TextFault) (s : State) → MatchOption o (Dead σ b) (λ s. Grows σ b s) → Ok s ≡ ok_or o e → Grows σ b s
grows σ b None e s m i = absurd cc
grows σ b (Some r) e s m i = let k : r ≡ s = cc in subst (Grows σ b) k m

pub returns-in_err-state : goal.returns-in_err-state
returns-in_err-state c =
    let d = died _ _ c.after.result _ _ c.after.ensures c.in_err-state.ensures.value in
    let r = err_from_is_err_and c.from_residual.result c.from_residual.ensures.1 in
    rw (r.1, r.2, d.1) (stopped _ _ _ _ c.loop-at.invariant c.loop-at-test.true d.0)

pub returns-in-Record : goal.returns-in-Record
returns-in-Record c =
    let g = grows _ _ c.after.result _ _ c.after.ensures c.in_ok-state.ensures.value in
    spans _ _ _ _ _ _ _ c.loop-at.invariant c.loop-at-test.true g c.in-Record.is

pub returns-then-text-at : goal.returns-then-text-at
returns-then-text-at c =
    let bytes : Bytes c.args.text.now = All-from_get_or (λ b. b < 256) c.args.text.now 0 (search rules) in
    let g = grows _ _ c.after.result _ _ c.after.ensures c.in_ok-state.ensures.value in
    cut_off _ _ _ _ _ c.loop-at.invariant c.loop-at-test.true g bytes (omega arith)

pub loop-at-preserved : goal.loop-at-preserved
loop-at-preserved c =
    let bytes : Bytes c.args.text.now = All-from_get_or (λ b. b < 256) c.args.text.now 0 (search rules) in
    let g = grows _ _ c.after.result _ _ c.after.ensures c.in_ok-state.ensures.value in
    rw c.skips-skip.ensures (turned _ _ _ _ _ c.loop-at.invariant c.loop-at-test.true g bytes c.in_default.not-Record (omega arith))

pub returns-in_default-state : goal.returns-in_default-state
returns-in_default-state c = ended _ _ _ _ c.loop-at.invariant c.loop-at-test.false c.in_default-state.not-End
