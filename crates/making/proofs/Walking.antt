-- A text that is read record by record.
use Rattle.std.proofs.Common.{◌≡◌, ℕ, ◌<◌, List, [], ◌∷◌, length, drop, Some, None, Ok, Err, Option, Result, sym, refl, ap, ◌∙◌, arith}
use Rattle.cdb.specs.Records as cdb
use Rattle.text.specs.declared.fault.TextFault.{TextFault}
use Rattle.text.specs.declared.fault.TextFault.TheVariants.{Malformed, Short, Long}
use Rattle.text.specs.declared.lent.LentRecord.{LentRecord}
use Rattle.text.specs.Texts.{text, TextOf}
use Rattle.text.specs.Readings.{lent, Hands}
use Rattle.text.proofs.Rests.{different, same_line}

-- the first of the records that are left of a text is handed out
pub record Handed (t : List ℕ) (u : ℕ) (todo : List cdb.Record) (r : Result (Option LentRecord) TextFault) : Type 0 where
  pub handed : LentRecord
  pub is : r ≡ Ok (Some handed)
  pub rest : List cdb.Record
  pub begins : todo ≡ lent handed ∷ rest
  pub ahead : TextOf (drop u t) rest

pub handed : (t : List ℕ) (q u : ℕ) (todo : List cdb.Record) (r : Result (Option LentRecord) TextFault) → TextOf (drop q t) todo → 0 < length todo → Hands t q r u → Handed t u todo r
handed t q u [] r a l h = absurd (omega arith)
handed t q u (x ∷ rest) (Ok (Some y)) a l h =
    let o = same_line (lent y) x (drop u t) (text rest) h.1 a.0.0 (sym h.0 ∙ a.1) in
    record { handed = y; is = refl; rest = rest; begins = ap (λ (z : cdb.Record). z ∷ rest) (sym o.0); ahead = (a.0.1, o.1) }
handed t q u (x ∷ rest) (Ok None) a l h = absurd (different [] x (text rest) (sym h.0 ∙ a.1))
handed t q u (x ∷ rest) (Err (Malformed e)) a l h = absurd (h.0.1.refused ((x ∷ rest), a))
handed t q u (x ∷ rest) (Err (Short n)) a l h = absurd h
handed t q u (x ∷ rest) (Err Long) a l h = absurd h

-- the text ends where no records are left
pub ended : (t : List ℕ) (q u : ℕ) (todo : List cdb.Record) → TextOf (drop q t) todo → Hands t q (Ok None) u → todo ≡ []
ended t q u [] a h = refl
ended t q u (x ∷ rest) a h = absurd (different [] x (text rest) (sym h.0 ∙ a.1))
