-- A text that is read from its start on.
use Rattle.std.proofs.Common.{◌≡◌, ℕ, ◌+◌, ◌≤◌, List, [], ◌∷◌, ◌++◌, length, drop, Some, None, Ok, Err, Option, Result, decimal, sym, refl, ap, ◌∙◌, subst, arith, length-append}
use Rattle.std.proofs.lemmas.List.{length_push}
use Rattle.std.proofs.ByRecursion.{All-push}
use Rattle.cdb.specs.Records as cdb
use Rattle.text.specs.declared.fault.TextFault.{TextFault}
use Rattle.text.specs.declared.fault.TextFault.TheVariants.{Malformed, Short, Long}
use Rattle.text.specs.declared.lent.LentRecord.{LentRecord}
use Rattle.text.specs.Texts.{line, Proper, TextOf}
use Rattle.text.specs.Readings.{lent, Hands}
use Rattle.text.specs.Wholes.{bytes_in, Tallies}
use Rattle.text.proofs.Rests.{lines, text_lines, whole_refused}
use Rattle.text.proofs.Proved.{Read}

lines_push : (rs : List cdb.Record) (r : cdb.Record) (x : List ℕ) → lines (rs ++ (r ∷ [])) x ≡ lines rs (line r ++ x)
lines_push [] r x = refl
lines_push (s ∷ rs) r x = ap (λ (y : List ℕ). line s ++ y) (lines_push rs r x)

bytes_push : (rs : List cdb.Record) (r : cdb.Record) → bytes_in (rs ++ (r ∷ [])) ≡ bytes_in rs + (length r.key + length r.data')
bytes_push [] r = omega arith
bytes_push (s ∷ rs) r = omega (arith, bytes_push rs r)

pub length_line : (r : cdb.Record) → length (line r) ≡ length (decimal (length r.key)) + length (decimal (length r.data')) + length r.key + length r.data' + 6
length_line r =
    let k = r.key in
    let d = r.data' in
    let a = length-append (decimal (length k)) (44 ∷ (decimal (length d) ++ (58 ∷ (k ++ (45 ∷ 62 ∷ (d ++ (10 ∷ []))))))) in
    let b = length-append (decimal (length d)) (58 ∷ (k ++ (45 ∷ 62 ∷ (d ++ (10 ∷ []))))) in
    let c = length-append k (45 ∷ 62 ∷ (d ++ (10 ∷ []))) in
    let e = length-append d (10 ∷ []) in
    omega arith

-- one more record is read
pub read_push : (t : List ℕ) (p q : ℕ) (rs : List cdb.Record) (x : LentRecord) → Read t 0 p rs → Hands t p (Ok (Some x)) q → Read t 0 q (rs ++ (lent x ∷ []))
read_push t p q rs x r h =
    record {
      proper = All-push Proper rs (lent x) r.proper h.1;
      is = r.is ∙ ap (lines rs) h.0 ∙ sym (lines_push rs (lent x) (drop q t));
      within = λ l. h.3;
    }

-- the records read so far, up to a place
pub record Counted (t : List ℕ) (q n b : ℕ) : Type 0 where
  pub list : List cdb.Record
  pub read : Read t 0 q list
  pub records : n ≡ length list
  pub bytes : b ≡ bytes_in list
  pub few : n + b ≤ q

pub none : (t : List ℕ) → Counted t 0 0 0
none t = record { list = []; read = record { proper = tt; is = refl; within = λ l. l }; records = refl; bytes = refl; few = omega arith }

pub one_more : (t : List ℕ) (p q n b : ℕ) (x : LentRecord) → Counted t p n b → Hands t p (Ok (Some x)) q → Counted t q (n + 1) (b + (length x.key.now + length x.«data».now))
one_more t p q n b x c h =
    let cn = c.records in
    let cb = c.bytes in
    let cf = c.few in
    record {
      list = c.list ++ (lent x ∷ []);
      read = read_push t p q c.list x c.read h;
      records = omega (arith, length_push c.list (lent x));
      bytes = omega (arith, bytes_push c.list (lent x));
      few = omega (arith, h.2, length_line (lent x));
    }

-- the text ends, and all of it is read
pub all : (t : List ℕ) (p q n b : ℕ) → Counted t p n b → Hands t p (Ok None) q → (rs : List cdb.Record) × TextOf t rs × (n ≡ length rs) × (b ≡ bytes_in rs)
all t p q n b c h = (c.list, (c.read.proper, c.read.is ∙ ap (lines c.list) h.0 ∙ sym (text_lines c.list)), c.records, c.bytes)

-- a refusal is that of the whole text
pub refused : (t : List ℕ) (p q n b : ℕ) (f : TextFault) → Counted t p n b → Hands t p (Err f) q → Tallies t (Err f)
refused t p q n b (Malformed e) c h = whole_refused c.list t p e c.read.proper c.read.is (c.read.within (omega arith)) h.0.0 h.0.1
refused t p q n b (Short m) c h = h
refused t p q n b Long c h = h

-- a call's answer, over the text that was passed
pub over : (t u : List ℕ) (p q : ℕ) (r s : Result (Option LentRecord) TextFault) → u ≡ t → r ≡ s → Hands u p r q → Hands t p s q
over t u p q r s e o h = subst (λ (v : List ℕ). Hands v p s q) e (subst (λ (z : Result (Option LentRecord) TextFault). Hands u p z q) o h)
