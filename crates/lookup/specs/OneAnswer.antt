-- One answer only: of a call on a given device, with given arguments, no other answer, cursor or buffer fits its definition.
use Rattle.std.specs.Prelude.{◌≡◌, ℕ, ◌+◌, List, Ok, Err, Option, Result}
use Rattle.faults.specs.declared.file.FileFault.{FileFault}
use Rattle.device.specs.Meanings.{Meaning}
use Rattle.file.specs.declared.extents.Extent.{Extent}
use Rattle.lookup.specs.declared.cursors.Cursor.{Cursor}
use Rattle.lookup.specs.declared.cursors.Found.{Found}
use Rattle.lookup.specs.declared.cursors.Step.{Step}
use Rattle.lookup.specs.Starts.{Start}
use Rattle.lookup.specs.Nexts.{Next, probed_to}
use Rattle.lookup.specs.Fetches.{Takes}

-- start answers r and nothing else
abbrev pub OnlyStart : Meaning → Extent → List ℕ → Result Cursor FileFault → Type 0
OnlyStart m e key r = (s : Result Cursor FileFault) → Start m e key s → s ≡ r

-- next answers r and leaves the cursor d, and nothing else
abbrev pub OnlyNext : Meaning → Cursor → List ℕ → Result (Option Found) FileFault → Cursor → Type 0
OnlyNext m c key r d = (s : Result (Option Found) FileFault) (b : Cursor) → Next m c key s b → (s ≡ r) × (b ≡ d)

-- the same, by the step that is answered
abbrev pub OnlyAdvances : Meaning → Cursor → List ℕ → Result Step FileFault → Type 0
OnlyAdvances m c key (Ok s) = OnlyNext m c key (Ok s.found) (probed_to c s.probed)
OnlyAdvances m c key (Err f) = OnlyNext m c key (Err f) c

-- a part of the data is taken with the answer r and leaves these bytes in its buffer, and nothing else
abbrev pub OnlyTakes : Meaning → Extent → ℕ → ℕ → List ℕ → Result (Unit {0}) FileFault → List ℕ → Type 0
OnlyTakes m e from end old r new = (s : Result (Unit {0}) FileFault) (b : List ℕ) → Takes m e from end old s b → (s ≡ r) × (b ≡ new)

-- so for fetch
abbrev pub OnlyFetch : Meaning → Extent → Found → ℕ → List ℕ → Result (Unit {0}) FileFault → List ℕ → Type 0
OnlyFetch m e x offset old r new = OnlyTakes m e (x.place + offset) (x.place + x.len) old r new
