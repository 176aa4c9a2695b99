-- What memory for writing does with a write: one result for every call.
use Rattle.std.specs.Prelude.{ℕ, ◌/◌, false, cond, List, length, take, Some, None, Ok, Err, Option, Result, nat_lt}
use Rattle.byte_lists.specs.Bytes.{laid}
use Rattle.faults.specs.declared.device.DeviceFault.{DeviceFault}
use Rattle.faults.specs.declared.device.DeviceFault.TheVariants.{Power}
use Rattle.device.specs.Meanings.{Meaning, Writes, endless, some, refusal, spent, stored}
use Rattle.memory.specs.declared.writing.Budget.{Budget}
use Rattle.memory.specs.declared.writing.Budget.TheVariants.{Endless, Count}
use Rattle.memory.specs.declared.writing.RootTear.{RootTear}
use Rattle.memory.specs.declared.writing.RootTear.TheVariants.{All, Nothing}

-- the writes that a budget leaves
abbrev pub writes : Budget → Writes
writes Endless = endless
writes (Count n) = some n

-- the device with other writes left
abbrev pub with_left : Meaning → Writes → Meaning
with_left m w = record { sectors = m.sectors; bytes = m.bytes; condition = m.condition; power = m.power; left = w }

-- how many bytes of a piece of n a torn write of sector 0 stores, as it was set
abbrev pub root_stored : RootTear → ℕ → ℕ
root_stored All n = n
root_stored Nothing n = 0

-- how many bytes of a piece of n at a place a torn write stores: half of them, rounded down; in sector 0 all or none
abbrev pub torn_stored : RootTear → ℕ → ℕ → ℕ
torn_stored tear place n = cond (nat_lt place 512) (root_stored tear n) (n / 2)

-- the device after a torn write: the front of the piece is stored, and power is off
abbrev pub torn : RootTear → Meaning → ℕ → List ℕ → Meaning
torn tear m place piece =
    record {
      sectors = m.sectors;
      bytes = laid m.bytes place (take (torn_stored tear place (length piece)) piece);
      condition = m.condition;
      power = false;
      left = m.left;
    }

-- what a write answers, and the device after it
pub record Outcome : Type 0 where
  pub answer : Result (Unit {0}) DeviceFault
  pub device : Meaning

-- where nothing else refuses: done where writes are left, else torn
abbrev pub spending : Option Writes → RootTear → Meaning → ℕ → List ℕ → Outcome
spending (Some w) tear m place piece = record { answer = Ok tt; device = stored m place piece w }
spending None tear m place piece = record { answer = Err Power; device = torn tear m place piece }

abbrev pub outcome_by : Option DeviceFault → RootTear → Meaning → ℕ → List ℕ → Outcome
outcome_by (Some f) tear m place piece = record { answer = Err f; device = m }
outcome_by None tear m place piece = spending (spent m.left) tear m place piece

-- the one result of a write
abbrev pub outcome : RootTear → Meaning → ℕ → List ℕ → Outcome
outcome tear m place piece = outcome_by (refusal m place (length piece)) tear m place piece
