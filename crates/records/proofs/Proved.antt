-- The laws of the record reader.
use Rattle.std.proofs.Common.{◌≡◌, ℕ, ◌+◌, ◌<◌, List, [], ◌∷◌, ◌++◌, map, length, Some, None, Ok, Err, Option, Result, sym, refl, ap, subst, ⊎_elim, arith}
use Rattle.faults.specs.declared.file.FileFault.{FileFault}
use Rattle.faults.specs.declared.file.FileFault.TheVariants as fault
use Rattle.faults.specs.Reports.{file_report}
use Rattle.cdb.specs.Records.{Record, Records, size}
use Rattle.cdb.specs.Files.{position}
use Rattle.cdb.specs.Rules.{Each, Rule1, Rule2, Lawful}
use Rattle.cdb.specs.Verdicts as verdicts
use Rattle.cdb.specs.Verdicts.{Judged, broken_1, broken_2, broken_3}
use Rattle.cdb.proofs.FileLookup.{one_reading}
use Rattle.records.specs.declared.placed.PlacedRecord.{PlacedRecord}
use Rattle.records.specs.Readings.{TableInside, HeaderBroken, Passing, Placed, record_of, Hands}
use Rattle.records.specs.Laws.{Calls, none, handed, ended, refused, HandsOutRecords, HandsOutInOrder, RefusesAsJudged, told, first}
use Rattle.records.proofs.Walks.{joined}

-- what calls hand out from any place on
from_any : (f : List ℕ) {p q : ℕ} {es : List PlacedRecord} → Calls f p es q → Records f p q (map record_of es) × Placed p es
from_any f none = (refl, tt)
from_any f (handed {p} {q} {t} {e} {es} h c) =
    let r = from_any f c in
    let s : p + size (record_of e) ≡ q = h.2.5 in (
      joined f p q t (record_of e ∷ []) (map record_of es) h.2 r.0,
      (h.3.0, h.3.1, subst (λ (n : ℕ). Placed n es) (sym s) r.1),
    )
from_any f (ended {p} {q} {t} {es} h c) = let r = from_any f c in subst (λ (n : ℕ). Records f n t (map record_of es) × Placed n es) h.3 r
from_any f (refused {p} {q} {t} {x} {es} h c) = let r = from_any f c in subst (λ (n : ℕ). Records f n t (map record_of es) × Placed n es) h.1 r

pub any : (f : List ℕ) → HandsOutRecords f
any f es q c = from_any f c

-- the first of records that are read from the same place on is the same
pub same_record : (f : List ℕ) (p q t : ℕ) (r s : Record) (rs ss : List Record) → Records f p q (r ∷ rs) → Records f p t (s ∷ ss) → r ≡ s
same_record f p q t r s rs ss a b =
    let z : p + size s ≡ p + size r = omega (arith, a.0, a.1, b.0, b.1) in
    let o = one_reading f p (p + size r) (r ∷ []) (s ∷ []) (a.0, a.1, a.2, a.3, omega arith, refl) (b.0, b.1, b.2, b.3, omega arith, z) in
    cc

-- a lawful file keeps rules 1 and 2
pub keeps : (f : List ℕ) (rs : List Record) → Lawful f rs → Rule1 f × TableInside f
keeps f rs law = (law.long, (law.entries 0 (omega arith)).first refl)

pub headed : (f : List ℕ) → Rule1 f → TableInside f → (x : FileFault) → HeaderBroken f x → ⊥
headed f long inside x h =
    ⊎_elim (λ (a : (length f < 2048) × (x ≡ fault.Short (length f))). omega (arith, a.0, long))
    (λ (b : Rule1 f × (TableInside f → ⊥) × (x ≡ fault.Entry 0)). b.1 inside) h

-- no record that stands before the end of the records passes it
pub no_passing : (f : List ℕ) (p : ℕ) (after : List Record) (x : FileFault) → Records f p (position f 0) after → Passing f p x → ⊥
no_passing f p [] x a b = omega (arith, a, b.0)
no_passing f p (s ∷ ss) x a b = omega (arith, a.0, a.1, a.4, b.1)

no_refusal : (f : List ℕ) (rs : List Record) → Lawful f rs → (p t : ℕ) (x : FileFault) → Hands f p (Err x) t
    → (after : List Record) → Records f p (position f 0) after → ⊥
no_refusal f rs law p t x h after a =
    ⊎_elim (headed f law.long (keeps f rs law).1 x) (λ (b : Rule1 f × TableInside f × Passing f p x). no_passing f p after x a b.2) h.0

-- where the records that are left start at p, the answer hands out the first of them
first_of : (f : List ℕ) (rs : List Record) → Lawful f rs → (p t : ℕ) (r : Result (Option PlacedRecord) FileFault) → Hands f p r t
    → (after : List Record) → Records f p (position f 0) after → told r ≡ first after
first_of f rs law p t (Ok (Some e)) h [] a = absurd (omega (arith, h.2.4, h.4))
first_of f rs law p t (Ok (Some e)) h (s ∷ ss) a = ap (λ (z : Record). Ok (Some z)) (same_record f p t (position f 0) (record_of e) s [] ss h.2 a)
first_of f rs law p t (Ok None) h [] a = refl
first_of f rs law p t (Ok None) h (s ∷ ss) a = absurd (omega (arith, h.2, a.4))
first_of f rs law p t (Err x) h [] a = absurd (no_refusal f rs law p t x h [] a)
first_of f rs law p t (Err x) h (s ∷ ss) a = absurd (no_refusal f rs law p t x h (s ∷ ss) a)

-- the records that are left behind those handed out
left : (f : List ℕ) (rs : List Record) → Lawful f rs → {p q : ℕ} {es : List PlacedRecord} → Calls f p es q → (before : List Record) → Records f p (position f 0) before
    → (after : List Record) × (before ≡ map record_of es ++ after) × Records f q (position f 0) after
left f rs law none before b = (before, refl, b)
left f rs law (handed {p} {q} {t} {e} h c) [] b = absurd (omega (arith, h.2.4, h.4))
left f rs law (handed {p} {q} {t} {e} {es} h c) (s ∷ ss) b =
    let o : record_of e ≡ s = same_record f p q (position f 0) (record_of e) s [] ss h.2 b in
    let z : p + size s ≡ q = omega (arith, h.2.0, h.2.1, h.2.5, b.0, b.1) in
    let r = left f rs law c ss (subst (λ (n : ℕ). Records f n (position f 0) ss) z b.5) in
    let i : ss ≡ map record_of es ++ r.0 = r.1 in
    (r.0, cc, r.2)
left f rs law (ended {p} h c) before b = left f rs law c before (subst (λ (n : ℕ). Records f n (position f 0) before) (sym h.3) b)
left f rs law (refused {p} h c) before b = left f rs law c before (subst (λ (n : ℕ). Records f n (position f 0) before) (sym h.1) b)

pub in_order : (f : List ℕ) → HandsOutInOrder f
in_order f rs law es q c =
    let l = left f rs law c rs law.reads in
    (l.0, l.1, λ r t h. first_of f rs law q t r h l.0 l.2)

judged_short : (f : List ℕ) (x : FileFault) → length f < 2048 → x ≡ fault.Short (length f) → Judged f (verdicts.refused (file_report x))
judged_short f x l e = subst (λ (y : FileFault). Judged f (verdicts.refused (file_report y))) (sym e) (broken_1 l)

judged_entry : (f : List ℕ) (x : FileFault) → Rule1 f → (TableInside f → ⊥) → x ≡ fault.Entry 0 → Judged f (verdicts.refused (file_report x))
judged_entry f x l n e =
    subst (λ (y : FileFault). Judged f (verdicts.refused (file_report y))) (sym e)
    (broken_2 l (record { within = omega arith; before = λ i b. absurd (omega arith); broken = λ (k : Rule2 f 0). n (k.first refl) }))

judged_record : (f : List ℕ) (x : FileFault) (p : ℕ) (rs : List Record) → Rule1 f → Each (Rule2 f) → Records f 2048 p rs → Passing f p x
    → Judged f (verdicts.refused (file_report x))
judged_record f x p rs l k s b = subst (λ (y : FileFault). Judged f (verdicts.refused (file_report y))) (sym b.2) (broken_3 l k (rs, s, b.0, b.1))

pub judged : (f : List ℕ) → RefusesAsJudged f
judged f k es q t x c h =
    ⊎_elim
    (λ (a : HeaderBroken f x). ⊎_elim
    (λ (b : (length f < 2048) × (x ≡ fault.Short (length f))). judged_short f x b.0 b.1)
    (λ (b : Rule1 f × (TableInside f → ⊥) × (x ≡ fault.Entry 0)). judged_entry f x b.0 b.1 b.2) a)
    (λ (b : Rule1 f × TableInside f × Passing f q x). judged_record f x q (map record_of es) b.0 (k b.1) (any f es q c).0 b.2)
    h.0
