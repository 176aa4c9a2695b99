-- Calls of a make change nothing outside the area that is not live.
use Rattle.std.proofs.Common.{◌≡◌, List, Ok, Err, ap, ◌∙◌, subst}
use Rattle.device.specs.Meanings.{Meaning}
use Rattle.cdb.specs.Records.{Record}
use Rattle.writing.specs.Runs.{Keeps}
use Rattle.writing.proofs.Keeping.{keeps_all, keeps_both}
use Rattle.building.specs.declared.entries.Entry.{Entry}
use Rattle.shelf.specs.declared.refusals.Refused.{Refused}
use Rattle.shelf.specs.declared.states.Shelf.{Shelf}
use Rattle.shelf.specs.declared.states.Draft.{Draft}
use Rattle.shelf.specs.States.{Live, live_of, live_at_draft, Begun}
use Rattle.shelf.specs.Finishes.{Finishes}
use Rattle.shelf.proofs.Inside.{Long, long_after, add_inside, finish_inside}
use Rattle.shelf_making.specs.declared.fault.MakeRefused.{MakeRefused}
use Rattle.shelf_making.specs.Refusals.{ComesBack, GivesDraftBack}
use Rattle.shelf_making.specs.Adding.{AddedAll, none, more, ListStopped}
use Rattle.shelf_making.specs.Laws.{OutsideIdle, Unchanged}
use Rattle.shelf_making.proofs.Chains.{chained}

-- two changes that stay inside
pub both : (m n o : Meaning) (l : Live) → Keeps m (OutsideIdle l) n → Keeps n (OutsideIdle l) o → Keeps m (OutsideIdle l) o
both m n o l a b = keeps_both m n o _ _ _ a b (λ k out. out) (λ k out. out)

pub added_inside : {m : Meaning} {d : Draft} {es : List Entry} {rs : List Record} {e : Draft} {n : Meaning} {fs : List Entry} → Long m → AddedAll m d es rs e n fs → Keeps m (OutsideIdle (live_at_draft d)) n
added_inside {m} long none = keeps_all m _
added_inside {m} {d} long (more {rs} {e} {g} {n} {o} {fs} {gs} r w a) =
    let k = added_inside long w in
    let i : Keeps n (OutsideIdle (live_at_draft e)) o = add_inside n o e (long_after m n _ k long) fs gs r (Ok g) a in
    both m n o (live_at_draft d) k (subst (λ (q : Live). Keeps n (OutsideIdle q) o) (chained w).live i)

module _ (m : Meaning) (s : Shelf) (d : Draft) (es : List Entry) (rs : List Record) (long : Long m) (b : Begun s d) where
  pub inside : {e : Draft} {n : Meaning} {fs : List Entry} → AddedAll m d es rs e n fs → Keeps m (OutsideIdle (live_of s)) n
  inside {n = n} w = subst (λ (q : Live). Keeps m (OutsideIdle q) n) b.live (added_inside long w)

  pub live_then : {e : Draft} {n : Meaning} {fs : List Entry} → AddedAll m d es rs e n fs → live_at_draft e ≡ live_of s
  live_then w = (chained w).live ∙ b.live

  pub finish_unchanged : {k n : Meaning} {fs : List Entry} {e : Draft} (x : Refused Draft) (y : MakeRefused) → AddedAll m d es rs e k fs → Finishes k e fs (Err x) n → GivesDraftBack x y
      → Unchanged m (live_of s) n y
  finish_unchanged {k} {n} {fs} {e} x y w h back =
      let i = inside w in
      let l : live_at_draft e ≡ live_of s = live_then w in
      let o : Keeps k (OutsideIdle (live_at_draft e)) n = finish_inside k n e (long_after m k _ i long) fs (Err x) h in
      record {
        shelf = subst (λ (q : Live). ComesBack q y.shelf) (ap live_at_draft h.1 ∙ l) back.1;
        keeps = both m k n (live_of s) i (subst (λ (q : Live). Keeps k (OutsideIdle q) n) l o);
      }

pub add_unchanged : (m : Meaning) (s : Shelf) (d : Draft) (es : List Entry) (rs : List Record) → Long m → Begun s d → {n : Meaning} {fs : List Entry} (x : Refused Draft) (y : MakeRefused)
    → ListStopped m d es rs x n fs → GivesDraftBack x y → Unchanged m (live_of s) n y
add_unchanged m s d es rs long b {n} {fs} x y h back =
    let i = inside m s d es h.before long b h.added in
    let l : live_at_draft h.draft ≡ live_of s = live_then m s d es h.before long b h.added in
    let o : Keeps h.between (OutsideIdle (live_at_draft h.draft)) n = add_inside h.between n h.draft (long_after m h.between _ i long) h.entries fs h.next (Err x) h.refused in
    record {
      shelf = subst (λ (q : Live). ComesBack q y.shelf) (ap live_at_draft h.refused.1 ∙ l) back.1;
      keeps = both m h.between n (live_of s) i (subst (λ (q : Live). Keeps h.between (OutsideIdle q) n) l o);
    }
