-- Inner: what the scan of one record, or of the end, answers.
use Rattle.std.specs.Prelude.{◌≡◌, ℕ, ◌+◌, ◌-◌, ◌≤◌, List, [], ◌∷◌, ◌++◌, length, drop, Some, None, Ok, Err, Option, Result}
use Rattle.byte_lists.specs.Bytes.{part}
use Rattle.cdb.specs.Records.{Record}
use Rattle.text.specs.declared.fault.TextFault.{TextFault}
use Rattle.text.specs.declared.fault.TextFault.TheVariants.{Malformed, Short, Long}
use Rattle.text.specs.declared.span.Span.{Span}
use Rattle.text.specs.Texts.{line, Proper}
use Rattle.text.specs.Readings.{Stops}

-- the record of k and d bytes whose line ends before next
abbrev pub spanned : List ℕ → ℕ → ℕ → ℕ → Record
spanned t k d next = record { key = part t (next - (k + d + 3)) k; data' = part t (next - (d + 1)) d }

-- its line stands from p on
pub record Spans (t : List ℕ) (p k d next : ℕ) : Type 0 where
  pub room : p + k + d + 3 ≤ next
  pub within : next ≤ length t
  pub proper : Proper (spanned t k d next)
  pub behind : next ≡ p + length (line (spanned t k d next))
  pub is : drop p t ≡ line (spanned t k d next) ++ drop next t

abbrev pub Scans : List ℕ → ℕ → Result (Option Span) TextFault → Type 0
Scans t p (Ok (Some s)) = Spans t p s.key s.«data» s.next
Scans t p (Ok None) = drop p t ≡ 10 ∷ []
Scans t p (Err (Malformed e)) = Stops t p e
Scans t p (Err (Short n)) = ⊥
Scans t p (Err Long) = ⊥
