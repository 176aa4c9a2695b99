-- What next answers, and the cursor that it leaves.
use Rattle.std.specs.Prelude.{◌≡◌, ℕ, ◌+◌, ◌<◌, ◌≤◌, List, Some, None, Ok, Err, Option, Result, ◌≢◌}
use Rattle.faults.specs.declared.file.FileFault.{FileFault}
use Rattle.faults.specs.declared.file.FileFault.TheVariants.{Range, OtherKey}
use Rattle.device.specs.Meanings.{Meaning}
use Rattle.cdb.specs.Records.{hash_of}
use Rattle.cdb.specs.Tables.{slot_away}
use Rattle.file.specs.Extents.{On}
use Rattle.lookup.specs.declared.cursors.Cursor.{Cursor}
use Rattle.lookup.specs.declared.cursors.Found.{Found}
use Rattle.lookup.specs.declared.cursors.Step.{Step}
use Rattle.lookup.specs.declared.cursors.Probe.{Probe}
use Rattle.lookup.specs.declared.cursors.Probe.TheVariants.{Empty, Other, Match}
use Rattle.lookup.specs.Probes.{SlotProbe}

-- the cursor with n slots probed
abbrev pub probed_to : Cursor → ℕ → Cursor
probed_to c n = record { extent = c.extent; hash = c.hash; position = c.position; slots = c.slots; probed = n }

-- what the slot at distance j from the home of the cursor's hash holds for a key
abbrev pub ProbeAt : Meaning → Cursor → List ℕ → ℕ → Result Probe FileFault → Type 0
ProbeAt m c key j r = SlotProbe m c key (slot_away c.slots c.hash j) r

-- the slots not yet probed, up to distance n without it, hold records of other keys
pub record Passes (m : Meaning) (c : Cursor) (key : List ℕ) (n : ℕ) : Type 0 where
  pub from : c.probed ≤ n
  pub others : (j : ℕ) → c.probed ≤ j → j < n → ProbeAt m c key j (Ok Other)

-- what a walk over the slots not yet probed answers, and the cursor that it leaves: it ends at the first slot that does not hold a record of another key
pub data Walk (m : Meaning) (c : Cursor) (key : List ℕ) : Result (Option Found) FileFault → Cursor → Type 0 where
  ended : c.slots ≤ c.probed → Walk m c key (Ok None) c
  all_others : c.probed < c.slots → Passes m c key c.slots → Walk m c key (Ok None) (probed_to c c.slots)
  empty : {n : ℕ} → n < c.slots → Passes m c key n → ProbeAt m c key n (Ok Empty) → Walk m c key (Ok None) (probed_to c c.slots)
  found : {n : ℕ} {x : Found} → n < c.slots → Passes m c key n → ProbeAt m c key n (Ok (Match x)) → Walk m c key (Ok (Some x)) (probed_to c (n + 1))
  refused : {n : ℕ} {f : FileFault} → n < c.slots → Passes m c key n → ProbeAt m c key n (Err f) → Walk m c key (Err f) c

-- what next answers: first whether the extent lies on the device, then whether the key has the cursor's hash, then the walk
pub data Next (m : Meaning) (c : Cursor) (key : List ℕ) : Result (Option Found) FileFault → Cursor → Type 0 where
  outside : (On m c.extent → ⊥) → Next m c key (Err Range) c
  other_key : On m c.extent → (hash_of key ≢ c.hash) → Next m c key (Err OtherKey) c
  walked : {r : Result (Option Found) FileFault} {c' : Cursor} → On m c.extent → hash_of key ≡ c.hash → Walk m c key r c' → Next m c key r c'

-- a walk, and a next, by the step that it answers: what is found, and how many slots are probed then
abbrev pub Walked : Meaning → Cursor → List ℕ → Result Step FileFault → Type 0
Walked m c key (Ok s) = Walk m c key (Ok s.found) (probed_to c s.probed)
Walked m c key (Err f) = Walk m c key (Err f) c

abbrev pub Advances : Meaning → Cursor → List ℕ → Result Step FileFault → Type 0
Advances m c key (Ok s) = Next m c key (Ok s.found) (probed_to c s.probed)
Advances m c key (Err f) = Next m c key (Err f) c
