-- What becomes of the device of a script.
use Rattle.std.specs.Prelude.{◌≡◌, ℕ, List, Result, Ok, Err}
use Rattle.faults.specs.declared.report.Report.{Report}
use Rattle.device.specs.Meanings.{Meaning, is_bad}
use Rattle.memory.specs.Memories.{memory}
use Rattle.memory.specs.Writing.{writes, with_left}
use Rattle.memory.specs.declared.writing.WriteMemory.{WriteMemory}
use Rattle.memory.specs.declared.writing.RootTear.{RootTear}
use Rattle.memory.specs.declared.writing.Budget.TheVariants as budget
use Rattle.marks.specs.declared.fault.MarkFault.{MarkFault}
use Rattle.marks.specs.Marks.{member, mark_refusal, mark_answer, device_after}
use Rattle.marks.specs.MarkReports.{mark_report}
use Rattle.marks.specs.Layers as marks
use Rattle.marks.specs.declared.layer.Marked.{Marked}
use Rattle.cache.specs.Caches as cache
use Rattle.cache.specs.declared.layer.Cache.{Cache}
use Rattle.stacks.specs.Stacks.{restarted, tear_of}
use Rattle.replaying.specs.declared.bed.Bed.{Bed}
use Rattle.replaying.specs.declared.bed.Turn.{Turn}
use Rattle.replaying.specs.declared.bed.Turn.TheVariants as turn

-- what a cache over marks over memory means as a device
abbrev pub cache_meaning : Cache (Marked WriteMemory) → Meaning
cache_meaning c = cache.meaning_over (marks.meaning_over (λ m. memory m.bytes.now m.power (writes m.left))) c

-- what the bed of such a cache means
abbrev pub bed_meaning : Bed (Cache (Marked WriteMemory)) → Meaning
bed_meaning b = cache_meaning b.0

-- what a torn write of sector 0 stores there
abbrev pub bed_tear : Bed (Cache (Marked WriteMemory)) → RootTear
bed_tear b = tear_of (marks.below_of (cache.below_of b.0))

-- the bad sectors of a device are these, and no others
abbrev pub BadAre : List ℕ → Meaning → Type 0
BadAre xs m = (k : ℕ) → is_bad m k ≡ member k xs

-- the answer to a mark, as it is told
abbrev pub told : Result (Unit {0}) MarkFault → Result (Unit {0}) Report
told (Ok u) = Ok tt
told (Err f) = Err (mark_report f)

-- a sector is marked, where the bad sectors are those that were marked; or that is refused, 11, then 29, and nothing changes
abbrev pub Marks : Meaning → ℕ → Result (Unit {0}) Report → Meaning → Type 0
Marks m s r n = (xs : List ℕ) × BadAre xs m × (r ≡ told (mark_answer (mark_refusal m.sectors xs s))) × (n ≡ device_after (mark_refusal m.sectors xs s) m s)

-- inside a mount: a sector is marked; or so many writes are left; power does not come back
abbrev pub Turns : Turn → Meaning → Result (Unit {0}) Report → Meaning → Type 0
Turns (turn.Mark s) m r n = Marks m s r n
Turns (turn.Cut k t) m r n = (r ≡ Ok tt) × (n ≡ with_left m (writes (budget.Count k)))
Turns turn.Power m r n = (r ≡ Ok tt) × (n ≡ m)

-- between two mounts power comes back, with endless writes
abbrev pub Starts : Turn → Meaning → Result (Unit {0}) Report → Meaning → Type 0
Starts (turn.Mark s) m r n = Turns (turn.Mark s) m r n
Starts (turn.Cut k t) m r n = Turns (turn.Cut k t) m r n
Starts turn.Power m r n = (r ≡ Ok tt) × (n ≡ restarted m (writes budget.Endless))

-- after a cut is set, a torn write of sector 0 stores what was said
abbrev pub SetsTear : Turn → Bed (Cache (Marked WriteMemory)) → Type 0
SetsTear (turn.Mark s) b = Unit {0}
SetsTear (turn.Cut k t) b = bed_tear b ≡ t
SetsTear turn.Power b = Unit {0}
