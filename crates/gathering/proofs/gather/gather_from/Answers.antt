use Rattle.std.proofs.Common.{None, Ok, Err, Option, refl, ◌∙◌, subst}
use Rattle.std.proofs.lemmas.Result.{err_from_is_err_and}
use Rattle.device.specs.Meanings.{Meaning}
use Rattle.lookup.specs.declared.cursors.Found.{Found}
use Rattle.lookup.specs.Nexts.{Next}
use Rattle.gathering.specs.Gathers.{FetchedWhole, FetchStopped, started, another, ended, next_refused}
use Rattle.gathering.proofs.Gathering.{found_then, next_smaller, fetch_stops, bytes_more}
use Rattle.gathering.proofs.gather.gather_from.Goals as goal

pub loop-all-init : goal.loop-all-init
loop-all-init g c = (refl, λ st. rw c.new-all.ensures.items (started st))

pub returns-in_err-found-clause-answer : goal.returns-in_err-found-clause-answer
returns-in_err-found-clause-answer g c =
    let inv = c.loop-all.invariant in
    let r = err_from_is_err_and c.from_residual.result c.from_residual.ensures.1 in
    let n = subst (λ (k : Meaning). Next k c.loop-all.at c.args.key.now (Err c.in_err-found.field-0.0) c.next.new.cursor) inv.0 c.in_err-found.ensures.answer in
    λ st. rw (r.1, r.2) (next_refused (inv.1 st) n)

pub returns-in_err-fetch_all-clause-answer : goal.returns-in_err-fetch_all-clause-answer
returns-in_err-fetch_all-clause-answer g c =
    let inv = c.loop-all.invariant in
    let r = err_from_is_err_and c.from_residual-in_err-fetch_all.result c.from_residual-in_err-fetch_all.ensures.1 in
    let n = found_then _ _ inv.0 c.loop-all.at c.args.key.now c.next.new.cursor _ c.in-Some.found c.in-Some.is c.in_ok-found.ensures.answer in
    let same = c.next.ensures.same ∙ inv.0 in
    let f = subst (λ (k : Meaning). FetchStopped k c.args.extent c.in-Some.found c.in_err-fetch_all.field-0.0) same c.in_err-fetch_all.ensures.fetched in
    λ st. rw (r.1, r.2) (fetch_stops _ c.args.extent c.args.key.now c.loop-all.at c.next.new.cursor c.in-Some.found _ c.in_err-fetch_all.field-0.0 (inv.1 st) n f)

pub loop-all-smaller : goal.loop-all-smaller
loop-all-smaller g c =
    next_smaller _ c.loop-all.at c.next.new.cursor c.args.key.now c.in-Some.found
    (found_then _ _ refl c.loop-all.at c.args.key.now c.next.new.cursor _ c.in-Some.found c.in-Some.is c.in_ok-found.ensures.answer)

pub loop-all-preserved : goal.loop-all-preserved
loop-all-preserved g c =
    let inv = c.loop-all.invariant in
    let n = found_then _ _ inv.0 c.loop-all.at c.args.key.now c.next.new.cursor _ c.in-Some.found c.in-Some.is c.in_ok-found.ensures.answer in
    let same = c.next.ensures.same ∙ inv.0 in
    let f = subst (λ (k : Meaning). FetchedWhole k c.args.extent c.in-Some.found c.in_ok-fetch_all.field-0.items) same c.in_ok-fetch_all.ensures.fetched in (
      c.fetch_all.ensures.same ∙ same,
      λ st. rw (c.in_ok-push.ensures.items, bytes_more c.loop-all.all.items c.in_ok-fetch_all.field-0) (another (inv.1 st) n f),
    )

pub returns-clause-answer : goal.returns-clause-answer
returns-clause-answer g c =
    let inv = c.loop-all.invariant in
    let n = subst (λ (o : Option Found). Next (g.D.Device.meaning c.loop-all.d) c.loop-all.at c.args.key.now (Ok o) c.next.new.cursor) c.in_default.is c.in_ok-found.ensures.answer in
    λ st. ended (inv.1 st) (subst (λ (k : Meaning). Next k c.loop-all.at c.args.key.now (Ok None) c.next.new.cursor) inv.0 n)
