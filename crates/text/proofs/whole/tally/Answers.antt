use Rattle.std.proofs.Common.{Some, None, Ok, Err, refl, ap, ◌∙◌}
use Rattle.std.proofs.lemmas.Result.{err_from_is_err_and}
use Rattle.text.proofs.Counting.{over, one_more, all, refused}
use Rattle.text.proofs.whole.tally.Goals as goal

pub returns-in_err-record : goal.returns-in_err-record
returns-in_err-record c =
    let i = c.loop-record.invariant in
    let r = err_from_is_err_and c.from_residual.result c.from_residual.ensures.1 in
    rw (r.1, r.2) (refused _ _ _ _ _ _ i.1 (over _ _ _ _ (Err c.in_err-record.field-0.0) _ i.0 refl c.in_err-record.ensures.hands))

pub loop-record-preserved : goal.loop-record-preserved
loop-record-preserved c =
    let i = c.loop-record.invariant in
    let h = over _ _ _ _ (Ok c.in_ok-record.field-0) (Ok (Some c.in-Some.record)) i.0 (ap Ok c.in-Some.is) c.in_ok-record.ensures.hands in
    (c.in_ok-record.ensures.same ∙ i.0, one_more _ _ _ _ _ c.in-Some.record i.1 h)

pub returns : goal.returns
returns c =
    let i = c.loop-record.invariant in
    all _ _ _ _ _ i.1 (over _ _ _ _ (Ok c.in_ok-record.field-0) (Ok None) i.0 (ap Ok c.in_default.is) c.in_ok-record.ensures.hands)
