-- What the text reader answers.
use Rattle.std.specs.Prelude.{◌≡◌, ℕ, ◌+◌, ◌-◌, ◌≤◌, List, [], ◌∷◌, ◌++◌, length, drop, Some, None, Ok, Err, Option, Result, ◌≢◌}
use Rattle.cdb.specs.Records as cdb
use Rattle.text.specs.declared.fault.TextFault.{TextFault}
use Rattle.text.specs.declared.fault.TextFault.TheVariants.{Malformed, Short, Long}
use Rattle.text.specs.declared.lent.LentRecord.{LentRecord}
use Rattle.text.specs.Texts.{line, Proper, Refused}

-- the record whose key and data are lent
abbrev pub lent : LentRecord → cdb.Record
lent x = record { key = x.key.now; data' = x.«data».now }

-- no line of a record stands at the start of t
abbrev pub NoLine : List ℕ → Type 0
NoLine t = (r : cdb.Record) (s : List ℕ) → Proper r → t ≢ line r ++ s

-- a reader that stands at place p of the text t is refused at place e
abbrev pub Stops : List ℕ → ℕ → ℕ → Type 0
Stops t p e = (p ≤ e) × Refused (drop p t) (e - p) × NoLine (drop p t)

-- the answer of a reader that stands at place p of the text t, and the place q where it stands then:
-- a record whose line stands there; the end, if nothing but a line feed is left; or else a refusal
abbrev pub Hands : List ℕ → ℕ → Result (Option LentRecord) TextFault → ℕ → Type 0
Hands t p (Ok (Some x)) q = (drop p t ≡ line (lent x) ++ drop q t) × Proper (lent x) × (q ≡ p + length (line (lent x))) × (q ≤ length t)
Hands t p (Ok None) q = (drop p t ≡ 10 ∷ []) × (q ≡ p)
Hands t p (Err (Malformed e)) q = Stops t p e × (q ≡ p)
Hands t p (Err (Short n)) q = ⊥
Hands t p (Err Long) q = ⊥
