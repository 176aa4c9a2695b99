use Rattle.std.proofs.Common.{◌≡◌, Some, refl}
use Rattle.shelf_making.proofs.fault.abandoned.Goals as goal

pub returns : goal.returns
returns c =
    let e : c.args.draft ≡ Some c.in_ok-draft.field-0 = c.in_ok-draft.was in
    rw e (c.abandon.result, refl, c.abandon.ensures)
