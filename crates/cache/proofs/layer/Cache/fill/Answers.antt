use Rattle.std.proofs.Common.{◌≡◌, ℕ, ◌*◌, ◌%◌, ◌<◌, List, Some, is_ok, set, sym, ap, ◌∙◌, subst, arith}
use Rattle.std.proofs.lemmas.Grind.{common_steps}
use Rattle.byte_lists.specs.Bytes.{part}
use Rattle.device.specs.Meanings.{Meaning}
use Rattle.cache.specs.Pages.{page_for, AllEqual}
use Rattle.cache.proofs.Paging.{all_filled, read_done}
use Rattle.cache.specs.Caches.{below_of}
use Rattle.cache.proofs.layer.Cache.fill.Goals as goal

pub invariant_of-self-2 : goal.invariant_of-self-2
invariant_of-self-2 g c =
    let m : Meaning = g.D.Device.meaning c.self.inside.below in
    let s = c.args.sector in
    let pages = c.self.inside.pages.table in
    let full : c.read.new.piece ≡ part m.bytes (512 * s) 512 =
    read_done _ c.read.result _ _ c.read.new.piece c.read.ensures.answer (ap is_ok c.in_ok-read.was) c.read.ensures.piece in
    let within = subst (λ v. (0 < s) × ((s < (g.D.Device.meaning v.0).sectors) × (s < 8388607))) (sym c.self.view_is) c.requires.within in
    let after : c.fill.new.self.table ≡ set pages (s % 8) (page_for m s) =
    c.fill.ensures ∙ ap (λ (bs : List ℕ). set pages (s % 8) (record { sector = Some s; bytes = bs })) full in
    subst (λ (n : Meaning). AllEqual n c.fill.new.self.table) (sym c.read.ensures.same)
    (subst (AllEqual m) (sym after) (all_filled m pages s c.self.invariant c.self.inside.pages.eight within.0 within.1.0))

pub returns-clause-answer : goal.returns-clause-answer
returns-clause-answer g c =
    let e : g.D.Device.meaning c.self.inside.below ≡ g.D.Device.meaning (below_of c.args.self.now) = ap (λ v. g.D.Device.meaning v.0) c.self.view_is in
    grind (arith, common_steps, e)
