-- What becomes of the device of a script is what a history allows.
use Rattle.std.specs.Prelude.{ℕ, Some, None, Option, Result}
use mathlib.Core.Path.{refl, sym, subst}
use Rattle.faults.specs.declared.report.Report.{Report}
use Rattle.device.specs.Meanings.{Meaning}
use Rattle.marks.specs.declared.fault.MarkFault.{MarkFault}
use Rattle.marks.specs.Marks.{mark_refusal, device_after}
use Rattle.shelf.specs.Drafts.{Between}
use Rattle.history.specs.Histories.{Remounts}
use Rattle.replaying.specs.declared.bed.Turn.{Turn}
use Rattle.replaying.specs.declared.bed.Turn.TheVariants as turn
use Rattle.replaying.specs.Beds.{Turns, Starts}

-- marking a sector, or refusing it, changes no byte
pub marked_inside : (o : Option MarkFault) (m : Meaning) (s : ℕ) → Between m (device_after o m s)
marked_inside None m s = record { sectors = refl; bytes = refl; power = λ on. on }
marked_inside (Some f) m s = record { sectors = refl; bytes = refl; power = λ on. on }

-- inside a mount
pub turns_inside : (t : Turn) (m n : Meaning) (r : Result (Unit {0}) Report) → Turns t m r n → Between m n
turns_inside (turn.Mark s) m n r h = subst (Between m) (sym h.3) (marked_inside (mark_refusal m.sectors h.0 s) m s)
turns_inside (turn.Cut k t) m n r h = subst (Between m) (sym h.1) (record { sectors = refl; bytes = refl; power = λ on. on })
turns_inside turn.Power m n r h = subst (Between m) (sym h.1) (record { sectors = refl; bytes = refl; power = λ on. on })

-- what does so inside a mount does so between two
pub inside_across : (m n : Meaning) → Between m n → Remounts m n
inside_across m n b = record { sectors = b.sectors; bytes = b.bytes }

-- between two mounts
pub starts_across : (t : Turn) (m n : Meaning) (r : Result (Unit {0}) Report) → Starts t m r n → Remounts m n
starts_across (turn.Mark s) m n r h = inside_across m n (turns_inside (turn.Mark s) m n r h)
starts_across (turn.Cut k t) m n r h = inside_across m n (turns_inside (turn.Cut k t) m n r h)
starts_across turn.Power m n r h = subst (Remounts m) (sym h.1) (record { sectors = refl; bytes = refl })
