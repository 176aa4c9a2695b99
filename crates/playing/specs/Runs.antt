-- Runs of steps, and the history that is going on in them.
use Rattle.std.specs.Prelude.{List, [], ◌∷◌, ◌++◌, Some, None, Option}
use Rattle.device.specs.Meanings.{Meaning}
use Rattle.building.specs.declared.entries.Entry.{Entry}
use Rattle.history.specs.declared.calls.State.{State}
use Rattle.history.specs.declared.calls.State.TheVariants.{Ended}
use Rattle.history.specs.declared.calls.Answer.TheVariants.{Done}
use Rattle.history.specs.Events.{Event, event, request}
use Rattle.playing.specs.declared.steps.Step.{Step}
use Rattle.playing.specs.declared.steps.Step.TheVariants as step
use Rattle.playing.specs.declared.steps.Outcome.{Outcome}
use Rattle.playing.specs.declared.steps.Outcome.TheVariants.{Answered}
use Rattle.playing.specs.Steps.{Turning, Happens}

-- the events of the history that is going on after a step, if one was before: a done format begins a history, a refused one ends it
abbrev pub going : {T : Type 0} → Option (List Event) → Step T → Outcome → Option (List Event)
going h step.Format (Answered Done) = Some []
going h step.Format r = None
going None k r = None
going (Some h) (step.Call x) (Answered a) = Some (h ++ event (request x) a ∷ [])
going (Some h) (step.Elsewhere x) (Answered a) = Some (h ++ event (request x) a ∷ [])
going (Some h) k r = Some h

-- steps made one after the other, on a device to which turns do so inside a mount, and so between two mounts, from its meaning m, another device o and entries es on, where no shelf is known: what each answered, the events of the history
-- that is going on, and the devices, the state and the entries then
pub data Ran {T : Type 0} (inside across : Turning T) (m o : Meaning) (es : List Entry) : List (Step T) → List Outcome → Option (List Event) → (n p : Meaning) → State → List Entry → Type 0 where
  none : Ran inside across m o es [] [] None m o Ended es
  more : {ks : List (Step T)} {rs : List Outcome} {h : Option (List Event)} {n p n' p' : Meaning} {s s' : State} {fs fs' : List Entry} (k : Step T) (r : Outcome)
      → Ran inside across m o es ks rs h n p s fs → Happens inside across n p s fs k r n' p' s' fs' → Ran inside across m o es (ks ++ k ∷ []) (rs ++ r ∷ []) (going h k r) n' p' s' fs'
