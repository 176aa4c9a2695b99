-- Inner: what one step leaves and answers, by the values that the code hands on.
use Rattle.std.specs.Prelude.{◌≡◌, List, Ok, Err, Result}
use Rattle.std.specs.declared.alloc.AllocError.{AllocError}
use Rattle.device.specs.Meanings.{Meaning}
use Rattle.building.specs.declared.entries.Entry.{Entry}
use Rattle.playing.specs.declared.steps.Step.{Step}
use Rattle.playing.specs.declared.making.Stage.{Stage}
use Rattle.playing.specs.declared.making.Made.{Made}
use Rattle.playing.specs.Steps.{Turning, Happens}

-- a step is made, with these devices and entries before and after
abbrev pub Makes : {D T : Type 0} → Turning T → Turning T → (D → Meaning) → Stage D → Meaning → List Entry → Step T → Made D → Meaning → List Entry → Type 0
Makes inside across meaning s o es k r p fs = Happens inside across (meaning s.device) o s.state es k r.outcome (meaning r.stage.device) p r.stage.state fs

-- so for a step that takes no other device and no entries
abbrev pub MadeBy : {D T : Type 0} → Turning T → Turning T → (D → Meaning) → Stage D → Step T → Made D → Type 0
MadeBy inside across meaning s k r = (o : Meaning) (es : List Entry) → Makes inside across meaning s o es k r o es

-- and for one that takes no other device
abbrev pub MadeHere : {D T : Type 0} → Turning T → Turning T → (D → Meaning) → Stage D → List Entry → Step T → Made D → List Entry → Type 0
MadeHere inside across meaning s es k r fs = (o : Meaning) → Makes inside across meaning s o es k r o fs

-- so, unless memory ran out; then the other device and the entries are as before
abbrev pub MadeOr : {D T : Type 0} → Turning T → Turning T → (D → Meaning) → Stage D → Step T → Result (Made D) AllocError → Type 0
MadeOr inside across meaning s k (Ok r) = MadeBy inside across meaning s k r
MadeOr inside across meaning s k (Err x) = Unit {0}

abbrev pub MakesOr : {D T : Type 0} → Turning T → Turning T → (D → Meaning) → Stage D → Meaning → List Entry → Step T → Result (Made D) AllocError → Meaning → List Entry → Type 0
MakesOr inside across meaning s o es k (Ok r) p fs = Makes inside across meaning s o es k r p fs
MakesOr inside across meaning s o es k (Err x) p fs = (p ≡ o) × (fs ≡ es)
