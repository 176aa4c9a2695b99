-- The laws of the text reader.
use Rattle.std.proofs.Common.{◌≡◌, ℕ, ◌+◌, ◌-◌, ◌≤◌, List, [], ◌∷◌, ◌++◌, map, length, drop, Some, None, Ok, Err, Option, Result, sym, refl, ap, ◌∙◌, subst, arith}
use Rattle.std.specs.List.{AllByRecursion}
use Rattle.cdb.specs.Records as cdb
use Rattle.text.specs.declared.fault.TextFault.{TextFault}
use Rattle.text.specs.declared.fault.TextFault.TheVariants.{Malformed, Short, Long}
use Rattle.text.specs.declared.lent.LentRecord.{LentRecord}
use Rattle.text.specs.Texts.{line, text, Proper, TextOf, Refused}
use Rattle.text.specs.Readings.{lent, Hands}
use Rattle.text.specs.Laws.{Calls, none, handed, ended, refused, told, first, ReadsInOrder, EndsWithItsRecords, RefusesTheWhole, OneAnswer}
use Rattle.text.proofs.Rests.{different, same_line, lines, text_lines, whole_refused}

-- a refused reader stays put
put' : (t : List ℕ) (p q : ℕ) (f : TextFault) → Hands t p (Err f) q → q ≡ p
put' t p q (Malformed e) h = h.1
put' t p q (Short n) h = absurd h
put' t p q Long h = absurd h

-- what calls handed out stands before what is left
pub record Read (t : List ℕ) (p q : ℕ) (rs : List cdb.Record) : Type 0 where
  pub proper : AllByRecursion Proper rs
  pub is : drop p t ≡ lines rs (drop q t)
  pub within : p ≤ length t → q ≤ length t

read : (t : List ℕ) {p q : ℕ} {xs : List LentRecord} → Calls t p xs q → Read t p q (map lent xs)
read t none = record { proper = tt; is = refl; within = λ l. l }
read t (handed {p} {q} {u} {x} h c) =
    let r = read t c in
    record { proper = (h.1, r.proper); is = h.0 ∙ ap (λ (z : List ℕ). line (lent x) ++ z) r.is; within = λ l. r.within h.3 }
read t (ended {p} {q} {u} {xs} h c) = subst (λ (n : ℕ). Read t n u (map lent xs)) h.1 (read t c)
read t (refused {p} {q} {u} {xs} f h c) = subst (λ (n : ℕ). Read t n u (map lent xs)) (put' t p q f h) (read t c)

pub ends_with_its_records : (t : List ℕ) → EndsWithItsRecords t
ends_with_its_records t xs q u c h =
    let r = read t c in
    (r.proper, r.is ∙ ap (lines (map lent xs)) h.0 ∙ sym (text_lines (map lent xs)))

pub refuses_the_whole : (t : List ℕ) → RefusesTheWhole t
refuses_the_whole t xs q u e c h =
    let r = read t c in
    whole_refused (map lent xs) t q e r.proper r.is (r.within (omega arith)) h.0.0 h.0.1

-- where these records are to come, the answer is the first of them
pub first_of : (t : List ℕ) (q u : ℕ) (r : Result (Option LentRecord) TextFault) → Hands t q r u → (after : List cdb.Record) → TextOf (drop q t) after → told r ≡ first after
first_of t q u (Ok (Some x)) h [] a = absurd (different [] (lent x) (drop u t) (sym a.1 ∙ h.0))
first_of t q u (Ok (Some x)) h (r ∷ rs) a = ap (λ (z : cdb.Record). Ok (Some z)) (same_line (lent x) r (drop u t) (text rs) h.1 a.0.0 (sym h.0 ∙ a.1)).0
first_of t q u (Ok None) h [] a = refl
first_of t q u (Ok None) h (r ∷ rs) a = absurd (different [] r (text rs) (sym h.0 ∙ a.1))
first_of t q u (Err (Malformed e)) h [] a = absurd (h.0.1.refused ([], a))
first_of t q u (Err (Malformed e)) h (r ∷ rs) a = absurd (h.0.1.refused (r ∷ rs, a))
first_of t q u (Err (Short n)) h [] a = absurd h
first_of t q u (Err (Short n)) h (r ∷ rs) a = absurd h
first_of t q u (Err Long) h [] a = absurd h
first_of t q u (Err Long) h (r ∷ rs) a = absurd h

-- the records that are left behind those handed out
left : (t : List ℕ) {p q : ℕ} {xs : List LentRecord} → Calls t p xs q → (before : List cdb.Record) → TextOf (drop p t) before
    → (after : List cdb.Record) × (before ≡ map lent xs ++ after) × TextOf (drop q t) after
left t none before b = (before, refl, b)
left t (handed {p} {q} {u} {x} h c) [] b = absurd (different [] (lent x) (drop q t) (sym b.1 ∙ h.0))
left t (handed {p} {q} {u} {x} {xs} h c) (s ∷ ss) b =
    let o = same_line (lent x) s (drop q t) (text ss) h.1 b.0.0 (sym h.0 ∙ b.1) in
    let r = left t c ss (b.0.1, o.1) in
    let e : lent x ≡ s = o.0 in
    let i : ss ≡ map lent xs ++ r.0 = r.1 in
    (r.0, cc, r.2)
left t (ended {p} h c) before b = left t c before (subst (λ (n : ℕ). TextOf (drop n t) before) (sym h.1) b)
left t (refused {p} {q} f h c) before b = left t c before (subst (λ (n : ℕ). TextOf (drop n t) before) (sym (put' t p q f h)) b)

pub reads_in_order : (t : List ℕ) → ReadsInOrder t
reads_in_order t rs a xs q c =
    let l = left t c rs a in
    (l.0, l.1, λ r u h. first_of t q u r h l.0 l.2)

-- one answer, by the first of two
one_record : (t : List ℕ) (p q u : ℕ) (x : LentRecord) (s : Result (Option LentRecord) TextFault) → Hands t p (Ok (Some x)) q → Hands t p s u → (told (Ok (Some x)) ≡ told s) × (q ≡ u)
one_record t p q u x (Ok (Some y)) h k =
    let o = same_line (lent x) (lent y) (drop q t) (drop u t) h.1 k.1 (sym h.0 ∙ k.0) in
    (ap (λ (z : cdb.Record). Ok (Some z)) o.0, h.2 ∙ ap (λ (z : cdb.Record). p + length (line z)) o.0 ∙ sym k.2)
one_record t p q u x (Ok None) h k = absurd (different [] (lent x) (drop q t) (sym k.0 ∙ h.0))
one_record t p q u x (Err (Malformed e)) h k = absurd (k.0.2 (lent x) (drop q t) h.1 h.0)
one_record t p q u x (Err (Short n)) h k = absurd k
one_record t p q u x (Err Long) h k = absurd k

one_end : (t : List ℕ) (p q u : ℕ) (s : Result (Option LentRecord) TextFault) → Hands t p (Ok None) q → Hands t p s u → (told (Ok None) ≡ told s) × (q ≡ u)
one_end t p q u (Ok (Some y)) h k = absurd (different [] (lent y) (drop u t) (sym h.0 ∙ k.0))
one_end t p q u (Ok None) h k = (refl, h.1 ∙ sym k.1)
one_end t p q u (Err (Malformed e)) h k = absurd (k.0.1.refused ([], (tt, h.0)))
one_end t p q u (Err (Short n)) h k = absurd k
one_end t p q u (Err Long) h k = absurd k

-- a text is refused at one place
pub one_place : (t : List ℕ) (m n : ℕ) → Refused t m → Refused t n → m ≡ n
one_place t m n a b = omega (arith, a.longest n b.within b.begins, b.longest m a.within a.begins)

one_refusal : (t : List ℕ) (p q u e : ℕ) (s : Result (Option LentRecord) TextFault) → Hands t p (Err (Malformed e)) q → Hands t p s u → (told (Err (Malformed e)) ≡ told s) × (q ≡ u)
one_refusal t p q u e (Ok (Some y)) h k = absurd (h.0.2 (lent y) (drop u t) k.1 k.0)
one_refusal t p q u e (Ok None) h k = absurd (h.0.1.refused ([], (tt, k.0)))
one_refusal t p q u e (Err (Malformed d)) h k =
    let o : e ≡ d = omega (arith, one_place (drop p t) (e - p) (d - p) h.0.1 k.0.1, h.0.0, k.0.0) in
    (ap (λ (n : ℕ). Err (Malformed n)) o, h.1 ∙ sym k.1)
one_refusal t p q u e (Err (Short n)) h k = absurd k
one_refusal t p q u e (Err Long) h k = absurd k

pub one_answer : (t : List ℕ) → OneAnswer t
one_answer t p q u (Ok (Some x)) s h k = one_record t p q u x s h k
one_answer t p q u (Ok None) s h k = one_end t p q u s h k
one_answer t p q u (Err (Malformed e)) s h k = one_refusal t p q u e s h k
one_answer t p q u (Err (Short n)) s h k = absurd h
one_answer t p q u (Err Long) s h k = absurd h
