use Rattle.std.proofs.Common.{ℕ, List, Some, Err, Result, inr, inl, refl}
use Rattle.std.proofs.lemmas.Result.{err_from_is_err_and}
use Rattle.device.specs.Meanings.{Meaning}
use Rattle.building.specs.declared.entries.Entry.{Entry}
use Rattle.shelf.specs.declared.states.Shelf.{Shelf}
use Rattle.shelf_making.specs.declared.fault.ShelfMakeFault.TheVariants.{Text}
use Rattle.shelf_making.specs.declared.fault.MakeRefused.{MakeRefused}
use Rattle.shelf_making.specs.Makes.{MakesText, add_refused, ended}
use Rattle.shelf_making.proofs.ByText.{keeps_live_by_text, gives_the_text_back, refused_for_cause_by_text}
use Rattle.shelf_making.proofs.publishing.make_text.Goals as goal

pub returns-in-Err : goal.returns-in-Err
returns-in-Err g c =
    let m : Meaning = g.D.Device.meaning c.args.d.now in
    let t : List ℕ = c.args.text.now in
    let es : List Entry = c.args.entries.now in
    let r : Result Shelf MakeRefused = Err (record { fault = Text c.in-Err.fault; shelf = Some c.args.shelf }) in
    let k : MakesText m c.args.shelf es t r m es = inl (record { fault = c.in-Err.fault; refused = c.in-Err.ensures; is = refl; device = refl; entries = refl }) in
    record {
      makes = k;
      live = keeps_live_by_text m m c.args.shelf es es t r (g.met.D.Device.whole c.args.d.now) k;
      back = tt;
      cause = refused_for_cause_by_text m m c.args.shelf es es t r (g.met.D.Device.whole c.args.d.now) k;
    }

pub returns-in_err-draft : goal.returns-in_err-draft
returns-in_err-draft g c =
    let q = err_from_is_err_and c.from_residual.result c.from_residual.ensures.1 in
    let m : Meaning = g.D.Device.meaning c.args.d.now in
    let n : Meaning = g.D.Device.meaning c.add_text.new.d in
    let t : List ℕ = c.args.text.now in
    let r : Result Shelf MakeRefused = Err q.0 in
    let a = c.in_err-draft.ensures.adds in
    let k : MakesText m c.args.shelf c.args.entries.now t r n c.add_text.new.entries = inr (a.0, a.1, add_refused c.in_err-draft.field-0.0 c.begin.ensures a.2 q.2) in
    rw q.1 (record {
      makes = k;
      live = keeps_live_by_text m n c.args.shelf c.args.entries.now c.add_text.new.entries t r (g.met.D.Device.whole c.args.d.now) k;
      back = gives_the_text_back m n c.args.shelf c.args.entries.now c.add_text.new.entries t r (g.met.D.Device.whole c.args.d.now) k;
      cause = refused_for_cause_by_text m n c.args.shelf c.args.entries.now c.add_text.new.entries t r (g.met.D.Device.whole c.args.d.now) k;
    })

pub returns : goal.returns
returns g c =
    let m : Meaning = g.D.Device.meaning c.args.d.now in
    let n : Meaning = g.D.Device.meaning c.end_draft.new.d in
    let t : List ℕ = c.args.text.now in
    let r : Result Shelf MakeRefused = c.end_draft.result in
    let a = c.in_ok-draft.ensures.adds in
    let k : MakesText m c.args.shelf c.args.entries.now t r n c.add_text.new.entries = inr (a.0, a.1, ended c.begin.ensures a.2 c.end_draft.ensures.ends) in
    record {
      makes = k;
      live = keeps_live_by_text m n c.args.shelf c.args.entries.now c.add_text.new.entries t r (g.met.D.Device.whole c.args.d.now) k;
      back = gives_the_text_back m n c.args.shelf c.args.entries.now c.add_text.new.entries t r (g.met.D.Device.whole c.args.d.now) k;
      cause = refused_for_cause_by_text m n c.args.shelf c.args.entries.now c.add_text.new.entries t r (g.met.D.Device.whole c.args.d.now) k;
    }
