-- What goes on in a run is a history.
use Rattle.std.proofs.Common.{◌≡◌, ℕ, ◌+◌, ◌<◌, List, [], ◌∷◌, ◌++◌, length, get_or, take, Some, None, Option, Result, sym, ap, ◌∙◌, subst}
use Rattle.std.proofs.lemmas.List.{take_more}
use Rattle.faults.specs.declared.report.Report.{Report}
use Rattle.device.specs.Meanings.{Meaning}
use Rattle.building.specs.declared.entries.Entry.{Entry}
use Rattle.shelf.specs.Drafts.{Between}
use Rattle.history.specs.declared.calls.State.{State}
use Rattle.history.specs.declared.calls.State.TheVariants.{Ended}
use Rattle.history.specs.Events.{Event}
use Rattle.history.specs.Histories as histories
use Rattle.history.specs.Histories.{here, elsewhere, made, Remounts}
use Rattle.playing.specs.declared.steps.Step.{Step}
use Rattle.playing.specs.declared.steps.Outcome.{Outcome}
use Rattle.playing.specs.Steps.{Turning, Happens, formatted, format_refused, called, called_elsewhere, not_elsewhere, looked, nothing_live, turned, remounted, scribbled}
use Rattle.playing.specs.Runs.{going, Ran, none, more}
use Rattle.playing.specs.Laws.{GoingIsHistory, RunsAreHistories, RanTo}

module _ {T : Type 0} {inside across : Turning T} where
  -- before the first step
  pub ran_none : (m o : Meaning) (es : List Entry) → RanTo inside across m o es [] [] m o Ended es
  ran_none m o es = (None, none)

  -- and after one more
  pub ran_more : {m o : Meaning} {es : List Entry} {rs : List Outcome} {n p n' p' : Meaning} {s s' : State} {fs fs' : List Entry} {r : Outcome} (ks : List (Step T)) (i : ℕ) (k : Step T)
      → i < length ks → get_or ks i k ≡ k → RanTo inside across m o es (take i ks) rs n p s fs → Happens inside across n p s fs k r n' p' s' fs'
      → RanTo inside across m o es (take (i + 1) ks) (rs ++ r ∷ []) n' p' s' fs'
  ran_more {m = m} {o = o} {es = es} {rs = rs} {n' = n'} {p' = p'} {s' = s'} {fs' = fs'} {r = r} ks i k l is a h = (
    going a.0 k r,
    subst (λ ys. Ran inside across m o es ys (rs ++ r ∷ []) (going a.0 k r) n' p' s' fs') (ap (λ x. take i ks ++ x ∷ []) (sym is) ∙ sym (take_more ks i k l)) (more k r a.1 h),
  )

module _ {T : Type 0} (inside across : Turning T)
    (between : (t : T) (m n : Meaning) (r : Result (Unit {0}) Report) → inside t m r n → Between m n)
    (remounts : (t : T) (m n : Meaning) (r : Result (Unit {0}) Report) → across t m r n → Remounts m n) where
  goes_on : {m o : Meaning} {s : State} {es : List Entry} {k : Step T} {r : Outcome} {n p : Meaning} {t : State} {fs : List Entry} (h : Option (List Event))
      → GoingIsHistory h s m → Happens inside across m o s es k r n p t fs → GoingIsHistory (going h k r) t n
  goes_on {m = m} h g (formatted w f) = (m, histories.formatted w f)
  goes_on h g (format_refused f) = tt
  goes_on None g (called v) = tt
  goes_on (Some h) g (called v) = (g.0, histories.called g.1 (made here v))
  goes_on None g (called_elsewhere e v) = tt
  goes_on (Some h) g (called_elsewhere e v) = (g.0, histories.called g.1 (made (elsewhere e.0 e.1) v))
  goes_on None g (not_elsewhere e) = tt
  goes_on (Some h) g (not_elsewhere e) = g
  goes_on None g (looked e a l) = tt
  goes_on (Some h) g (looked e a l) = g
  goes_on None g (nothing_live a) = tt
  goes_on (Some h) g (nothing_live a) = g
  goes_on None g (turned b) = tt
  goes_on {m = m} {n = n} (Some h) g (turned {t = t} {a = a} b) = (g.0, histories.meanwhile g.1 (between t m n a b))
  goes_on None g (remounted b) = tt
  goes_on {m = m} {n = n} (Some h) g (remounted {t = t} {a = a} b) = (g.0, histories.remounted g.1 (remounts t m n a b))
  goes_on None g scribbled = tt
  goes_on (Some h) g scribbled = g

  pub runs_are_histories : RunsAreHistories inside across
  runs_are_histories m o es ks rs h n p s fs none = tt
  runs_are_histories m o es ks rs h n p s fs (more {ks = js} {rs = qs} {h = b} {n = n0} {p = p0} {s = s0} {fs = fs0} k r a v) = goes_on b (runs_are_histories m o es js qs b n0 p0 s0 fs0 a) v
