-- What a run of a script answers.
use Rattle.std.specs.Prelude.{◌≡◌, ℕ, ◌*◌, true, List, [], map, replicate, Ok, Err, Result}
use Rattle.std.specs.Global.{Vec}
use Rattle.device.specs.Meanings.{Meaning, endless}
use Rattle.memory.specs.Memories.{memory}
use Rattle.building.specs.declared.entries.Entry.{Entry}
use Rattle.history.specs.declared.calls.State.{State}
use Rattle.std.specs.declared.alloc.AllocError.{AllocError}
use Rattle.playing.specs.declared.steps.Outcome.{Outcome}
use Rattle.playing.specs.Laws.{RanTo}
use Rattle.script.specs.declared.answer.Answer.{Answer}
use Rattle.script.specs.declared.whole.Script.{Script}
use Rattle.replaying.specs.Beds.{Turns, Starts}
use Rattle.replaying.specs.Replays.{answer_for, steps_for}

-- so many sectors of zero bytes, with power on and endless writes
abbrev pub zeros : ℕ → Meaning
zeros n = memory (replicate (n * 512) 0) true endless

-- so many entries that were never written
abbrev pub unwritten : ℕ → List Entry
unwritten n = replicate n (record { hash = 0; place = 0 })

-- the steps of the script were made one after the other on zero bytes, and each is told what it answered
pub record Replayed (s : Script) (answers : List Answer) : Type 0 where
  pub log : List Outcome
  pub told : answers ≡ map answer_for log
  pub device : Meaning
  pub other : Meaning
  pub state : State
  pub entries : List Entry
  pub ran : RanTo Turns Starts (zeros s.sizes.sectors) (memory [] true endless) (unwritten s.sizes.entries) (steps_for s.lines.items) log device other state entries

-- the answers of the script, unless memory runs out
abbrev pub Replays : Script → Result (Vec Answer) AllocError → Type 0
Replays s (Ok v) = Replayed s v.items
Replays s (Err x) = Unit {0}
