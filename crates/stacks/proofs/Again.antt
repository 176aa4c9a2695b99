-- What was written is read again.
use Rattle.std.proofs.Common.{◌≡◌, ℕ, ◌+◌, ◌/◌, ◌≤◌, Bool, true, false, cond, List, ◌++◌, length, take, drop, Some, None, Ok, Option, Result, refl, ap, ◌∙◌, arith}
use Rattle.std.proofs.lemmas.List.{drop_at, take_at, length-take-le}
use Rattle.byte_lists.specs.Bytes.{part, laid}
use Rattle.faults.specs.declared.device.DeviceFault.{DeviceFault}
use Rattle.cache.proofs.Changing.{fits_in}
use Rattle.device.specs.Meanings.{Meaning, Writes, Whole, within, refuses, refusal, answer, filled, spent, Spends, WritesBy, Written}

part_laid : (xs : List ℕ) (p : ℕ) (ys : List ℕ) → p + length ys ≤ length xs → part (laid xs p ys) p (length ys) ≡ ys
part_laid xs p ys h =
    ap (take (length ys)) (drop_at (take p xs) (ys ++ drop (length ys) (drop p xs)) p (length-take-le p xs (omega arith)))
    ∙ take_at ys (drop (length ys) (drop p xs)) (length ys) refl

within_by : (b : Bool) (o : Option DeviceFault) (f : DeviceFault) (m m' : Meaning) (p : ℕ) (ys : List ℕ) → WritesBy (cond b o (Some f)) m p ys (Ok tt) m' → b ≡ true
within_by true o f m m' p ys e = refl
within_by false o f m m' p ys e = absurd (let r = e.0 in let z : ◌≡◌ {A = ℕ} 0 1 = cc in omega arith)

spent_bytes : (o : Option Writes) (m m' : Meaning) (p : ℕ) (ys : List ℕ) → Spends o m p ys (Ok tt) m' → m'.bytes ≡ laid m.bytes p ys
spent_bytes None m m' p ys e = absurd (let r = e.0 in let z : ◌≡◌ {A = ℕ} 0 1 = cc in omega arith)
spent_bytes (Some w) m m' p ys e = ap (λ (n : Meaning). n.bytes) e.1

done_bytes : (o : Option DeviceFault) (m m' : Meaning) (p : ℕ) (ys : List ℕ) → WritesBy o m p ys (Ok tt) m' → m'.bytes ≡ laid m.bytes p ys
done_bytes None m m' p ys e = spent_bytes (spent m.left) m m' p ys e
done_bytes (Some f) m m' p ys e = absurd (let r = e.0 in let z : ◌≡◌ {A = ℕ} 0 1 = cc in omega arith)

-- a read that is done has filled its piece
read_done : (o : Option DeviceFault) (r : Result (Unit {0}) DeviceFault) (new old piece : List ℕ) → r ≡ answer o → r ≡ Ok tt → piece ≡ filled o new old → piece ≡ new
read_done None r new old piece a k e = e
read_done (Some f) r new old piece a k e = absurd (let z : ◌≡◌ {A = ℕ} 0 1 = cc in omega arith)

-- a write that is done, then a read of the same place that is done
pub reads_again :
    (m m' : Meaning) (p n : ℕ) (ys old piece : List ℕ) (r : Result (Unit {0}) DeviceFault) → n ≡ length ys → Whole m → Written m p ys (Ok tt) m'
    → r ≡ answer (refusal m' p n) → r ≡ Ok tt → piece ≡ filled (refusal m' p n) (part m'.bytes p n) old → piece ≡ ys
reads_again m m' p n ys old piece r long whole w a k e =
    let inside : within m.sectors p (length ys) ≡ true =
    within_by (within m.sectors p (length ys)) (refuses m (p / 512)) _ m m' p ys w in
    let fit : p + length ys ≤ length m.bytes = omega (arith, whole.long, (fits_in m.sectors p (length ys) inside).2) in
    read_done (refusal m' p n) r (part m'.bytes p n) old piece a k e
    ∙ ap (λ (xs : List ℕ). part xs p n) (done_bytes (refusal m p (length ys)) m m' p ys w)
    ∙ ap (λ (j : ℕ). part (laid m.bytes p ys) p j) long ∙ part_laid m.bytes p ys fit
