-- What calls of the text reader give together.
use Rattle.std.specs.Prelude.{◌≡◌, ℕ, List, [], ◌∷◌, ◌++◌, map, Some, None, Ok, Err, Option, Result}
use Rattle.cdb.specs.Records as cdb
use Rattle.text.specs.declared.fault.TextFault.{TextFault}
use Rattle.text.specs.declared.fault.TextFault.TheVariants.{Malformed}
use Rattle.text.specs.declared.lent.LentRecord.{LentRecord}
use Rattle.text.specs.Texts.{TextOf, Refused}
use Rattle.text.specs.Readings.{lent, Hands}

-- calls of next, one after the other, that take a reader from place p to place q, and the records that they handed out
pub data Calls (t : List ℕ) : ℕ → List LentRecord → ℕ → Type 0 where
  none : {p : ℕ} → Calls t p [] p
  handed : {p q u : ℕ} {x : LentRecord} {xs : List LentRecord} → Hands t p (Ok (Some x)) q → Calls t q xs u → Calls t p (x ∷ xs) u
  ended : {p q u : ℕ} {xs : List LentRecord} → Hands t p (Ok None) q → Calls t q xs u → Calls t p xs u
  refused : {p q u : ℕ} {xs : List LentRecord} (f : TextFault) → Hands t p (Err f) q → Calls t q xs u → Calls t p xs u

-- what an answer tells, apart from where the bytes of key and data lie in memory
abbrev pub told : Result (Option LentRecord) TextFault → Result (Option cdb.Record) TextFault
told (Ok (Some x)) = Ok (Some (lent x))
told (Ok None) = Ok None
told (Err f) = Err f

-- the first of these records, or the end if there are none
abbrev pub first : List cdb.Record → Result (Option cdb.Record) TextFault
first [] = Ok None
first (r ∷ rs) = Ok (Some r)

-- calls from the start of a text hand out its records in order, and the next call hands out the next of them, or is the end after the last
abbrev pub ReadsInOrder : List ℕ → Type 0
ReadsInOrder t = (rs : List cdb.Record) → TextOf t rs → (xs : List LentRecord) (q : ℕ) → Calls t 0 xs q
    → (after : List cdb.Record) × (rs ≡ map lent xs ++ after) × ((r : Result (Option LentRecord) TextFault) (u : ℕ) → Hands t q r u → told r ≡ first after)

-- where calls come to the end, t is the text of the records that they handed out
abbrev pub EndsWithItsRecords : List ℕ → Type 0
EndsWithItsRecords t = (xs : List LentRecord) (q u : ℕ) → Calls t 0 xs q → Hands t q (Ok None) u → TextOf t (map lent xs)

-- a call is refused where the whole of t is
abbrev pub RefusesTheWhole : List ℕ → Type 0
RefusesTheWhole t = (xs : List LentRecord) (q u e : ℕ) → Calls t 0 xs q → Hands t q (Err (Malformed e)) u → Refused t e

-- a reader has one answer at a place, so that one that stayed put answers the same again
abbrev pub OneAnswer : List ℕ → Type 0
OneAnswer t = (p q u : ℕ) (r s : Result (Option LentRecord) TextFault) → Hands t p r q → Hands t p s u → (told r ≡ told s) × (q ≡ u)
