use Rattle.std.proofs.Common.{◌≡◌, List, ℕ, Ok, Err, subst, rules}
use Rattle.std.proofs.lemmas.Result.{err_from_is_err_and}
use Rattle.device.specs.Meanings.{Meaning}
use Rattle.lookup.specs.Starts.{Start}
use Rattle.lookup_nth.specs.Nths as nths
use Rattle.lookup_nth.specs.Nths.{NthFrom, Nth}
use Rattle.lookup_nth.proofs.Numbered.{nth_alone}
use Rattle.lookup_nth.proofs.nth.nth.Goals as goal

pub returns-in_err-cursor : goal.returns-in_err-cursor
returns-in_err-cursor g c =
    let m : Meaning = g.D.Device.meaning c.args.d.now in
    let key : List ℕ = c.args.key.now in
    let kept : c.new-key.result.bytes.now ≡ key = search rules in
    let r = err_from_is_err_and c.from_residual.result c.from_residual.ensures.1 in
    let a : Nth m c.args.extent key c.args.n c.from_residual.result = rw (r.1, r.2) (nths.no_start (subst (λ (k : List ℕ). Start m c.args.extent k (Err c.in_err-cursor.field-0.0)) kept c.in_err-cursor.ensures.answer)) in
    nth_alone m c.args.extent key c.args.n _ a (search rules)

pub returns : goal.returns
returns g c =
    let m : Meaning = g.D.Device.meaning c.args.d.now in
    let key : List ℕ = c.args.key.now in
    let kept : c.new-key.result.bytes.now ≡ key = search rules in
    let start : Start m c.args.extent key (Ok c.in_ok-cursor.cursor) = subst (λ (k : List ℕ). Start m c.args.extent k (Ok c.in_ok-cursor.cursor)) kept c.in_ok-cursor.ensures.answer in
    let N : Meaning → List ℕ → Type 0 = λ x k. NthFrom x k c.in_ok-cursor.cursor c.args.n c.nth_from.result in
    let after : N (g.D.Device.meaning c.start_hashed.new.d) c.new-key.result.bytes.now = search rules in
    let a : Nth m c.args.extent key c.args.n c.nth_from.result = nths.started start (subst (λ (x : Meaning). N x key) c.start_hashed.ensures.same (subst (N _) kept after)) in
    nth_alone m c.args.extent key c.args.n _ a (search rules)
