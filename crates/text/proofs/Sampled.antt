-- The samples, from the definitions.
use Rattle.std.proofs.Common.{◌≡◌, ℕ, List, [], ◌∷◌, ◌++◌, Some, Ok, Err, codes, Result, refl, ap, subst, arith, rules}
use Rattle.std.specs.Fmt.{digits}
use Rattle.text.specs.declared.state.State.TheVariants.{Start, KeyLength, End}
use Rattle.text.specs.declared.fault.TextFault.{TextFault}
use Rattle.text.specs.declared.fault.TextFault.TheVariants.{Malformed, Short, Long}
use Rattle.text.specs.declared.tally.Tally.{Tally}
use Rattle.text.specs.Texts.{TextOf, Begins, Refused}
use Rattle.text.specs.Wholes.{Tallies}
use Rattle.text.specs.Samples.{two_feeds, Samples}
use Rattle.text.proofs.Lines.{alive}
use Rattle.text.proofs.Turns.{stopped, ended}
use Rattle.text.proofs.Rests.{whole_refused}
use Rattle.text.proofs.Proved.{one_place}

two_digits : TextOf (codes "+12,0:hello, world->" ++ two_feeds) (record { key = codes "hello, world"; data' = [] } ∷ [])
unfolding digits
two_digits = (((search rules, tt, omega arith, omega arith), tt), refl)

feeds_and_arrows : TextOf (codes "+2,3:" ++ (10 ∷ 10 ∷ (codes "->->" ++ (10 ∷ two_feeds)))) (record { key = 10 ∷ 10 ∷ []; data' = codes "->" ++ (10 ∷ []) } ∷ [])
unfolding digits
feeds_and_arrows = (((search rules, search rules, omega arith, omega arith), tt), refl)

one_record : TextOf (codes "+1,1:a->1" ++ two_feeds) (record { key = codes "a"; data' = codes "1" } ∷ [])
unfolding digits
one_record = (((search rules, search rules, omega arith, omega arith), tt), refl)

all_empty : TextOf (codes "+0,0:->" ++ two_feeds) (record { key = []; data' = [] } ∷ [])
unfolding digits
all_empty = (((tt, tt, omega arith, omega arith), tt), refl)

leading_zero : Refused (codes "+01,1:a->1") 2
unfolding digits
leading_zero =
    (stopped (KeyLength (Some 0)) (codes "+01,1:a->1") 0 2
    (record { from = omega arith; within = omega arith; key = []; data' = []; fit = omega arith; is = refl })
    (omega arith) ((λ e. omega arith), λ a f. omega (arith, f.0))).1

nothing : Refused [] 0
nothing = (ended Start [] 0 0 (record { from = omega arith; within = omega arith; key = []; data' = []; fit = tt; is = refl }) (omega arith) (λ e. let z : ◌≡◌ {A = ℕ} 0 1 = cc in omega arith)).1

ends_early : Refused (codes "+1,1:a->1" ++ (10 ∷ [])) 10
unfolding digits
ends_early =
    whole_refused (record { key = codes "a"; data' = codes "1" } ∷ []) (codes "+1,1:a->1" ++ (10 ∷ [])) 10 10
    ((search rules, search rules, omega arith, omega arith), tt) refl (omega arith) (omega arith) nothing

behind_the_end : Refused (10 ∷ 10 ∷ []) 1
behind_the_end =
    (stopped End (10 ∷ 10 ∷ []) 0 1 (record { from = omega arith; within = omega arith; key = []; data' = []; fit = tt; is = refl }) (omega arith) tt).1

longest_length : Begins (codes "+4294967295")
unfolding digits
longest_length = alive (KeyLength (Some 4294967295)) [] [] (omega arith)

too_long_length : Refused (codes "+4294967296") 10
unfolding digits
too_long_length =
    (stopped (KeyLength (Some 429496729)) (codes "+4294967296") 0 10
    (record { from = omega arith; within = omega arith; key = []; data' = []; fit = omega arith; is = refl })
    (omega arith) ((λ e. omega arith), λ a f. omega (arith, f.1))).1

pub samples : Samples
samples =
    record {
      no_records = (tt, refl);
      one_record = one_record;
      all_empty = all_empty;
      two_digits = two_digits;
      feeds_and_arrows = feeds_and_arrows;
      leading_zero = leading_zero;
      nothing = nothing;
      ends_early = ends_early;
      behind_the_end = behind_the_end;
      longest_length = longest_length;
      too_long_length = too_long_length;
    }

-- what is refused is refused by the count
refused_by : (t : List ℕ) (r : Result Tally TextFault) (e : ℕ) → Tallies t r → Refused t e → r ≡ Err (Malformed e)
refused_by t (Ok c) e h k = absurd (k.refused (h.0, h.1))
refused_by t (Err (Malformed d)) e h k = ap (λ (n : ℕ). Err (Malformed n)) (one_place t d e h k)
refused_by t (Err (Short n)) e h k = absurd h
refused_by t (Err Long) e h k = absurd h

pub zero_refused : (t : List ℕ) (r : Result Tally TextFault) → t ≡ codes "+01,1:a->1" → Tallies t r → r ≡ Err (Malformed 2)
zero_refused t r e h = refused_by (codes "+01,1:a->1") r 2 (subst (λ (u : List ℕ). Tallies u r) e h) leading_zero
