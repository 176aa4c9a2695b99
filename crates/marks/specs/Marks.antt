-- What marks make of a device, and what refuses a mark.
use Rattle.std.specs.Prelude.{◌≡◌, ℕ, ◌<◌, min, Bool, cond, List, [], ◌∷◌, ◌++◌, length, take, Some, None, Ok, Err, Option, Result, ◌==◌, nat_lt}
use Rattle.std.specs.List.{list_any}
use Rattle.device.specs.Meanings.{Meaning, Condition, bad}
use Rattle.marks.specs.declared.fault.MarkFault.{MarkFault}
use Rattle.marks.specs.declared.fault.MarkFault.TheVariants.{Range, Full}
use Rattle.marks.specs.declared.list.Marks.{Marks}

-- the sectors that are marked, in the order of their marking: at most sixteen
abbrev pub sectors_of : Marks → List ℕ
sectors_of marks = take (min marks.count 16) marks.sectors

-- sector s is among these
abbrev pub member : ℕ → List ℕ → Bool
member s xs = list_any (λ x. x == s) xs

-- one sector more, where fewer than sixteen are marked
pub record Adds (xs : List ℕ) (s : ℕ) (xs' : List ℕ) : Type 0 where
  pub room : length xs < 16
  pub more : xs' ≡ xs ++ s ∷ []

-- none more, where sixteen are marked
pub record AddsNone (xs xs' : List ℕ) (f : MarkFault) : Type 0 where
  pub full : length xs ≡ 16
  pub fault : f ≡ Full
  pub same : xs' ≡ xs

-- the condition of a marked sector, whatever it was
abbrev pub marked_condition : Condition → Condition
marked_condition c = bad

-- a device on which these sectors are marked
abbrev pub marked : List ℕ → Meaning → Meaning
marked xs m =
    record {
      sectors = m.sectors;
      bytes = m.bytes;
      condition = λ s. cond (member s xs) (marked_condition (m.condition s)) (m.condition s);
      power = m.power;
      left = m.left;
    }

-- what refuses to mark sector s of n, where the sectors xs are marked: there is no such sector; it is none of them, and they are sixteen
abbrev pub mark_refusal : ℕ → List ℕ → ℕ → Option MarkFault
mark_refusal n xs s = cond (nat_lt s n) (cond (member s xs) None (cond (nat_lt (length xs) 16) None (Some Full))) (Some Range)

-- done, or refused
abbrev pub mark_answer : Option MarkFault → Result (Unit {0}) MarkFault
mark_answer None = Ok tt
mark_answer (Some f) = Err f

-- the marked sectors after that: one that was marked before is not marked again
abbrev pub marks_after : Option MarkFault → List ℕ → ℕ → List ℕ
marks_after None xs s = cond (member s xs) xs (xs ++ s ∷ [])
marks_after (Some f) xs s = xs

-- the device after that: the sector is marked, and nothing else changes
abbrev pub device_after : Option MarkFault → Meaning → ℕ → Meaning
device_after None m s = marked (s ∷ []) m
device_after (Some f) m s = m

-- what marking sector s answers and leaves, where the sectors xs were marked and the device meant m
pub record Marking (xs : List ℕ) (m : Meaning) (s : ℕ) (r : Result (Unit {0}) MarkFault) (xs' : List ℕ) (m' : Meaning) : Type 0 where
  pub answer : r ≡ mark_answer (mark_refusal m.sectors xs s)
  pub marks : xs' ≡ marks_after (mark_refusal m.sectors xs s) xs s
  pub device : m' ≡ device_after (mark_refusal m.sectors xs s) m s
