use Rattle.std.proofs.Common.{◌≡◌, ◌*◌, ◌/◌, length, sym, ap, ◌∙◌, subst}
use Rattle.byte_lists.specs.Bytes.{part}
use Rattle.cache.specs.Pages.{page_of}
use Rattle.cache.proofs.Paging.{page_part}
use Rattle.cache.proofs.layer.Cache.copy_out.Goals as goal

pub returns : goal.returns
returns g c =
    let page = subst (λ v. (page_of v.1 (c.args.place / 512)).bytes ≡ part (g.D.Device.meaning v.0).bytes (512 * (c.args.place / 512)) 512) (sym c.self.view_is) c.requires.page in
    c.copy_out.ensures
    ∙ page_part (g.D.Device.meaning c.self.inside.below).bytes _ c.args.place (length c.args.piece.now) page c.requires.inner
    ∙ ap (λ v. part (g.D.Device.meaning v.0).bytes c.args.place (length c.args.piece.now)) c.self.view_is
