-- A lent list that is filled with the records of a text.
use Rattle.std.proofs.Common.{◌≡◌, ℕ, ◌+◌, ◌<◌, ◌≤◌, List, [], ◌∷◌, ◌++◌, map, length, take, drop, set, Some, None, Ok, Err, Option, Result, sym, refl, ap, ◌∙◌, subst, arith, length-append, length-drop}
use Rattle.std.specs.List.{AllByRecursion}
use Rattle.std.proofs.lemmas.List.{length-set, take_more_set, map_push, length-map, length-take-le, take-append-le, drop_at}
use Rattle.cdb.specs.Records as cdb
use Rattle.text.specs.declared.fault.TextFault.{TextFault}
use Rattle.text.specs.declared.fault.TextFault.TheVariants.{Malformed, Short, Long}
use Rattle.text.specs.declared.lent.LentRecord.{LentRecord}
use Rattle.text.specs.Texts.{text, Proper, TextOf}
use Rattle.text.specs.Readings.{lent, Hands}
use Rattle.text.specs.Wholes.{Reads, GivesTheRecords}
use Rattle.text.proofs.Rests.{different, same_line, lines, text_lines}
use Rattle.text.proofs.Proved.{Read}
use Rattle.text.proofs.Counting.{read_push}

-- a text is that of one list
pub one_list : (rs ss : List cdb.Record) → AllByRecursion Proper rs → AllByRecursion Proper ss → text rs ≡ text ss → rs ≡ ss
one_list [] [] w v e = refl
one_list [] (s ∷ ss) w v e = absurd (different [] s (text ss) e)
one_list (r ∷ rs) [] w v e = absurd (different [] r (text rs) (sym e))
one_list (r ∷ rs) (s ∷ ss) w v e =
    let q = same_line r s (text rs) (text ss) w.0 v.0 e in
    let i : rs ≡ ss = one_list rs ss w.1 v.1 q.1 in
    let j : r ≡ s = q.0 in
    cc

pub one_text : (t : List ℕ) (rs ss : List cdb.Record) → TextOf t rs → TextOf t ss → rs ≡ ss
one_text t rs ss a b = one_list rs ss a.0 b.0 (sym a.1 ∙ b.1)

-- i of n are handed out, and the reader stands behind them
pub record Filling (t : List ℕ) (q i n : ℕ) (ys : List LentRecord) : Type 0 where
  pub read : Read t 0 q (map lent (take i ys))
  pub todo : List cdb.Record
  pub ahead : TextOf (drop q t) todo
  pub count : i + length todo ≡ n
  pub items : length ys ≡ n

-- what is still to come starts with a record
some : (u : List ℕ) (i n : ℕ) (todo : List cdb.Record) → TextOf u todo → i + length todo ≡ n → i < n → (r : cdb.Record) × (rs : List cdb.Record) × (todo ≡ r ∷ rs)
some u i n [] a c l = absurd (omega arith)
some u i n (r ∷ rs) a c l = (r, rs, refl)

module _ (t : List ℕ) (q i n : ℕ) (ys : List LentRecord) (w : Filling t q i n ys) (l : i < n) where
  -- the text does not end here, and is not refused
  pub not_ended : drop q t ≡ 10 ∷ [] → ⊥
  not_ended e =
      let s = some (drop q t) i n w.todo w.ahead w.count l in
      let a = subst (TextOf (drop q t)) s.2 w.ahead in
      different [] s.0 (text s.1) (sym e ∙ a.1)

  pub not_refused : (u : ℕ) (f : TextFault) → Hands t q (Err f) u → ⊥
  not_refused u (Malformed e) h = h.0.1.refused (w.todo, w.ahead)
  not_refused u (Short m) h = h
  not_refused u Long h = h

  -- the next record is handed out
  pub one_more : (u : ℕ) (x : LentRecord) → i < length ys → Hands t q (Ok (Some x)) u → Filling t u (i + 1) n (set ys i x)
  one_more u x m h =
      let s = some (drop q t) i n w.todo w.ahead w.count l in
      let a = subst (TextOf (drop q t)) s.2 w.ahead in
      let o = same_line (lent x) s.0 (drop u t) (text s.1) h.1 a.0.0 (sym h.0 ∙ a.1) in
      let k : map lent (take (i + 1) (set ys i x)) ≡ map lent (take i ys) ++ lent x ∷ [] = ap (map lent) (take_more_set ys i x m) ∙ map_push lent (take i ys) x in
      let c = w.count in
      let d : length w.todo ≡ length s.1 + 1 = ap length s.2 ∙ omega arith in
      record {
        read = subst (Read t 0 u) (sym k) (read_push t q u (map lent (take i ys)) x w.read h);
        todo = s.1;
        ahead = (a.0.1, o.1);
        count = omega arith;
        items = length-set ys i x ∙ w.items;
      }

-- the next call's answer: a record, which goes to place i of the list
pub record Handed (t : List ℕ) (u i n : ℕ) (ys : List LentRecord) (r : Result (Option LentRecord) TextFault) : Type 0 where
  pub handed : LentRecord
  pub is : r ≡ Ok (Some handed)
  pub next : Filling t u (i + 1) n (set ys i handed)

handed_by : (t : List ℕ) (q u i n : ℕ) (ys : List LentRecord) (r : Result (Option LentRecord) TextFault) → Filling t q i n ys → i < n → i < length ys → Hands t q r u
    → Handed t u i n ys r
handed_by t q u i n ys (Ok (Some x)) w l m h = record { handed = x; is = refl; next = one_more t q i n ys w l u x m h }
handed_by t q u i n ys (Ok None) w l m h = absurd (not_ended t q i n ys w l h.0)
handed_by t q u i n ys (Err f) w l m h = absurd (not_refused t q i n ys w l u f h)

-- while places are left, a call of the loop hands out a record
pub handed : {t v : List ℕ} {q i n : ℕ} {ys : List LentRecord} (r : Result (Option LentRecord) TextFault) (u : ℕ) → Filling t q i n ys → i < length ys
    → v ≡ t → Hands v q r u → Handed t u i n ys r
handed {q = q} r u w m e h = handed_by _ q u _ _ _ r w (omega (arith, w.items)) m (subst (λ (x : List ℕ). Hands x q r u) e h)

-- all are handed out, and the rest of the list stays
pub filled : (t : List ℕ) (q i n : ℕ) (xs ys : List LentRecord) → n ≤ length xs → Filling t q i n ys → length ys ≤ i
    → Reads t (length xs) xs (Ok n) (ys ++ drop n xs)
filled t q i n xs ys m w l = filled_by w.todo refl
  where
    b : length ys ≡ n
    b = w.items

    filled_by : (todo : List cdb.Record) → w.todo ≡ todo → Reads t (length xs) xs (Ok n) (ys ++ drop n xs)
    filled_by [] e =
        let a = subst (TextOf (drop q t)) e w.ahead in
        let c = w.count in
        let d : i ≡ n = omega (arith, ap length e) in
        let f : take i ys ≡ take n (ys ++ drop n xs) = ap (λ (k : ℕ). take k ys) d ∙ sym (take-append-le n ys (drop n xs) (omega arith)) in
        let r = subst (λ (zs : List LentRecord). Read t 0 q (map lent zs)) f w.read in (
          (r.proper, r.is ∙ ap (lines (map lent (take n (ys ++ drop n xs)))) a.1 ∙ sym (text_lines (map lent (take n (ys ++ drop n xs))))),
          m,
          omega (arith, length-append ys (drop n xs), length-drop n xs),
          drop_at ys (drop n xs) n b,
        )
    filled_by (r ∷ rs) e = absurd (omega (arith, w.count, w.items, ap length e))

-- the text of some records gives these records
pub gives : (t : List ℕ) (room : ℕ) (xs ys : List LentRecord) (r : Result ℕ TextFault) → room ≤ length xs → Reads t room xs r ys → GivesTheRecords t room r ys
gives t room xs ys (Ok n) h k rs a l =
    let o : map lent (take n ys) ≡ rs = one_text t (map lent (take n ys)) rs k.0 a in
    let ln : length (map lent (take n ys)) ≡ n = length-map (take n ys) lent ∙ length-take-le n ys (omega (arith, k.1, k.2)) in
    let e : n ≡ length rs = sym ln ∙ ap length o in
    (ap Ok e, subst (λ (m : ℕ). map lent (take m ys) ≡ rs) e o)
gives t room xs ys (Err (Malformed e)) h k rs a l = absurd (k.0.refused (rs, a))
gives t room xs ys (Err (Short n)) h k rs a l =
    let o : k.0.0 ≡ rs = one_text t k.0.0 rs k.0.1 a in
    absurd (omega (arith, ap length o, k.0.2))
gives t room xs ys (Err Long) h k rs a l = absurd k
