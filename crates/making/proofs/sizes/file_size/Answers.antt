use Rattle.std.proofs.lemmas.Result.{err_from_is_err_and}
use Rattle.making.proofs.Sized.{measured, too_long}
use Rattle.making.proofs.sizes.file_size.Goals as goal

pub returns-in_err-len : goal.returns-in_err-len
returns-in_err-len c =
    let q = err_from_is_err_and c.from_residual-in_err-len.result c.from_residual-in_err-len.ensures.1 in
    rw (q.1, q.2) (too_long _ _ _ c.in_ok-counts.ensures c.in_err-len.ensures)

pub returns : goal.returns
returns c = measured _ _ _ c.in_ok-counts.ensures c.in_ok-len.ensures
