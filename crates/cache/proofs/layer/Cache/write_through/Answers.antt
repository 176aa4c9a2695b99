use Rattle.std.proofs.Common.{◌≡◌, ◌/◌, length, None, sym, ap, ◌∙◌, subst}
use Rattle.device.specs.Meanings.{refusal, spent}
use Rattle.cache.specs.Pages.{after_write}
use Rattle.cache.proofs.Changing.{done_mends, cut_mends}
use Rattle.cache.proofs.layer.Cache.write_through.Goals as goal

pub invariant_of-self : goal.invariant_of-self
invariant_of-self g c =
    (done_mends (g.D.Device.meaning c.self.inside.below) (g.D.Device.meaning c.write-done.new.self) c.args.place c.args.piece.now
    c.self.inside.pages.table c.update.new.self.table (g.met.D.Device.whole c.self.inside.below)
    (subst (λ v. refusal (g.D.Device.meaning v.0) c.args.place (length c.args.piece.now) ≡ None) (sym c.self.view_is) c.requires.free)
    c.in-Ok.ensures c.self.invariant c.self.inside.pages.eight c.update.ensures).all

pub returns-in-Ok-clause-pages : goal.returns-in-Ok-clause-pages
returns-in-Ok-clause-pages g c =
    (done_mends (g.D.Device.meaning c.self.inside.below) (g.D.Device.meaning c.write-done.new.self) c.args.place c.args.piece.now
    c.self.inside.pages.table c.update.new.self.table (g.met.D.Device.whole c.self.inside.below)
    (subst (λ v. refusal (g.D.Device.meaning v.0) c.args.place (length c.args.piece.now) ≡ None) (sym c.self.view_is) c.requires.free)
    c.in-Ok.ensures c.self.invariant c.self.inside.pages.eight c.update.ensures).after
    ∙ ap (λ v. after_write None (spent (g.D.Device.meaning v.0).left) (g.D.Device.meaning c.write-done.new.self) (c.args.place / 512) v.1) c.self.view_is

pub invariant_of-self-in-Err : goal.invariant_of-self-in-Err
invariant_of-self-in-Err g c =
    (cut_mends (g.D.Device.meaning c.self.inside.below) (g.D.Device.meaning c.write-done.new.self) c.args.place c.args.piece.now
    c.in-Err.field-0 c.self.inside.pages.table c.forget.new.self.table
    (subst (λ v. refusal (g.D.Device.meaning v.0) c.args.place (length c.args.piece.now) ≡ None) (sym c.self.view_is) c.requires.free)
    c.in-Err.ensures c.self.invariant c.self.inside.pages.eight c.forget.ensures).all
