-- The data of a key by their number.
use Rattle.std.proofs.Common.{◌≡◌, ℕ, zero, suc, ◌-◌, ◌<◌, List, [], ◌∷◌, map, Some, None, Ok, Err, Option, Result, sym, refl, ap, ◌∙◌, subst, arith}
use Rattle.faults.specs.declared.file.FileFault.{FileFault}
use Rattle.device.specs.Meanings.{Meaning}
use Rattle.cdb.specs.Records.{Record, Item}
use Rattle.cdb.specs.Rules.{Lawful}
use Rattle.cdb.proofs.TableLaw.{LawfulFile}
use Rattle.cdb.proofs.ByTable.{by_table}
use Rattle.file.specs.declared.extents.Extent.{Extent}
use Rattle.file.specs.Extents.{file, Readable}
use Rattle.lookup.specs.declared.cursors.Cursor.{Cursor}
use Rattle.lookup.specs.declared.cursors.Found.{Found}
use Rattle.lookup.specs.Nexts.{Next}
use Rattle.lookup.specs.Starts.{fresh}
use Rattle.lookup.proofs.One.{start_one, next_one}
use Rattle.lookup_runs.specs.Datas.{datas}
use Rattle.lookup_runs.proofs.Held.{Holding}
use Rattle.lookup_runs.proofs.Walking.{data_of_item, head_of, State}
use Rattle.lookup_runs.proofs.Giving.{next_step, first, first_found, start_state, start_done}
use Rattle.lookup_nth.specs.Nths as nths
use Rattle.lookup_nth.specs.Nths.{numbered, NthFrom, Nth, OnlyNth, NthGivesRecord, TwoDataOfOneKey}

abbrev Answers : Type 0
Answers = Result (Option Found) FileFault

ok_err : (x : Option Found) (f : FileFault) → ◌≡◌ {A = Answers} (Ok x) (Err f) → ⊥
ok_err x f e = let z : ◌≡◌ {A = ℕ} 0 1 = cc in omega arith

none_some : (x : Found) → ◌≡◌ {A = Answers} (Ok None) (Ok (Some x)) → ⊥
none_some x e = let z : ◌≡◌ {A = ℕ} 0 1 = cc in omega arith

module _ (m : Meaning) (key : List ℕ) where
  -- the nexts from a cursor on have one answer
  from_one : (c : Cursor) (n : ℕ) (r s : Answers) → NthFrom m key c n r → NthFrom m key c n s → s ≡ r
  from_one c n r s (nths.refused {c' = a} x) (nths.refused {c' = b} y) = (next_one m c key r a x s b y).0
  from_one c n r s (nths.refused {c' = a} {f = f} x) (nths.ended {c' = b} y) = absurd (ok_err None f (next_one m c key (Err f) a x (Ok None) b y).0)
  from_one c n r s (nths.refused {c' = a} {f = f} x) (nths.here {c' = b} {x = v} y) = absurd (ok_err (Some v) f (next_one m c key (Err f) a x (Ok (Some v)) b y).0)
  from_one c n r s (nths.refused {c' = a} {f = f} x) (nths.later {c' = b} {x = v} y z) = absurd (ok_err (Some v) f (next_one m c key (Err f) a x (Ok (Some v)) b y).0)
  from_one c n r s (nths.ended {c' = a} x) (nths.refused {c' = b} {f = f} y) = absurd (ok_err None f (sym (next_one m c key (Ok None) a x (Err f) b y).0))
  from_one c n r s (nths.ended x) (nths.ended y) = refl
  from_one c n r s (nths.ended {c' = a} x) (nths.here {c' = b} {x = v} y) = absurd (none_some v (sym (next_one m c key (Ok None) a x (Ok (Some v)) b y).0))
  from_one c n r s (nths.ended {c' = a} x) (nths.later {c' = b} {x = v} y z) = absurd (none_some v (sym (next_one m c key (Ok None) a x (Ok (Some v)) b y).0))
  from_one c n r s (nths.here {c' = a} {x = u} x) (nths.refused {c' = b} {f = f} y) = absurd (ok_err (Some u) f (sym (next_one m c key (Ok (Some u)) a x (Err f) b y).0))
  from_one c n r s (nths.here {c' = a} {x = u} x) (nths.ended {c' = b} y) = absurd (none_some u (next_one m c key (Ok (Some u)) a x (Ok None) b y).0)
  from_one c n r s (nths.here {c' = a} x) (nths.here {c' = b} y) = (next_one m c key r a x s b y).0
  from_one c n r s (nths.later {c' = a} {x = u} x v) (nths.refused {c' = b} {f = f} y) = absurd (ok_err (Some u) f (sym (next_one m c key (Ok (Some u)) a x (Err f) b y).0))
  from_one c n r s (nths.later {c' = a} {x = u} x v) (nths.ended {c' = b} y) = absurd (none_some u (next_one m c key (Ok (Some u)) a x (Ok None) b y).0)
  from_one c n r s (nths.later {c' = a} {n = k} {x = u} x v) (nths.later {c' = b} {x = w} y z) =
      from_one a k r s v (subst (λ (d : Cursor). NthFrom m key d k s) (next_one m c key (Ok (Some u)) a x (Ok (Some w)) b y).1 z)

  -- one more next
  pub from_later : (c c' : Cursor) (n : ℕ) (x : Found) → (0 < n) → Next m c key (Ok (Some x)) c' → (r : Answers) → NthFrom m key c' (n - 1) r → NthFrom m key c n r
  from_later c c' n x l a r b = let z : suc (n - 1) ≡ n = omega arith in subst (λ (k : ℕ). NthFrom m key c k r) z (nths.later a b)

  pub from_here : (c c' : Cursor) (n : ℕ) (x : Found) → n ≡ 0 → Next m c key (Ok (Some x)) c' → NthFrom m key c n (Ok (Some x))
  from_here c c' n x z a = subst (λ (k : ℕ). NthFrom m key c k (Ok (Some x))) (sym z) (nths.here a)

module _ (m : Meaning) (e : Extent) (key : List ℕ) (n : ℕ) where
  err_same : (f g : FileFault) → ◌≡◌ {A = Result Cursor FileFault} (Err f) (Err g) → ◌≡◌ {A = Answers} (Err f) (Err g)
  err_same f g q = cc

  pub nth_one : (r : Answers) → Nth m e key n r → OnlyNth m e key n r
  nth_one r (nths.no_start {f = f} a) s (nths.no_start {f = g} b) = err_same g f (start_one m e key (Err f) a (Err g) b)
  nth_one r (nths.no_start {f = f} a) s (nths.started {c = c} b y) = let q = start_one m e key (Err f) a (Ok c) b in let z : ◌≡◌ {A = ℕ} 0 1 = cc in absurd (omega arith)
  nth_one r (nths.started {c = c} a x) s (nths.no_start {f = f} b) = let q = start_one m e key (Ok c) a (Err f) b in let z : ◌≡◌ {A = ℕ} 0 1 = cc in absurd (omega arith)
  nth_one r (nths.started {c = c} a x) s (nths.started {c = d} b y) =
      let q : Ok d ≡ Ok c = start_one m e key (Ok c) a (Ok d) b in
      let z : d ≡ c = cc in
      from_one m key c n r s x (subst (λ (u : Cursor). NthFrom m key u n s) z y)

none_left : (n : ℕ) → numbered n [] ≡ None
none_left zero = refl
none_left (suc n) = refl

module _ (m : Meaning) (e : Extent) (key : List ℕ) (rs : List Record) (rd : Readable m e) (law : LawfulFile (file m e) rs) where
  abbrev F : List ℕ
  F = file m e

  abbrev found : List Item → List Found
  found ys = map (data_of_item F) ys

  holds : Holding F e m
  holds = record { readable = rd; bytes = refl }

  -- what the next of the items to come is, and what is said of those behind it
  from_is : (c : Cursor) (ys : List Item) → State F rs law e key c ys → (n : ℕ) (r : Answers) → NthFrom m key c n r → r ≡ Ok (numbered n (found ys))
  from_is c ys s n r (nths.refused {c' = a} {f = f} x) = absurd (ok_err (head_of F rs law e key ys) f (sym (next_step F rs law e key m holds c ys s (Err f) a x).0))
  from_is c [] s n r (nths.ended {c' = a} x) = ap (λ (v : Option Found). Ok v) (sym (none_left n))
  from_is c (y ∷ ys) s n r (nths.ended {c' = a} x) = absurd (none_some (data_of_item F y) (next_step F rs law e key m holds c (y ∷ ys) s (Ok None) a x).0)
  from_is c [] s n r (nths.here {c' = a} {x = u} x) = absurd (none_some u (sym (next_step F rs law e key m holds c [] s (Ok (Some u)) a x).0))
  from_is c (y ∷ ys) s n r (nths.here {c' = a} x) = (next_step F rs law e key m holds c (y ∷ ys) s r a x).0
  from_is c [] s n r (nths.later {c' = a} {n = k} {x = u} x v) = absurd (none_some u (sym (next_step F rs law e key m holds c [] s (Ok (Some u)) a x).0))
  from_is c (y ∷ ys) s n r (nths.later {c' = a} {n = k} {x = u} x v) =
      from_is a ys (next_step F rs law e key m holds c (y ∷ ys) s (Ok (Some u)) a x).1 k r v

  fresh_is : (n : ℕ) (r : Answers) → NthFrom m key (fresh m e key) n r → r ≡ Ok (numbered n (datas 2048 rs key))
  fresh_is n r x =
      from_is (fresh m e key) (first F rs law e key) (start_state F rs law e key m holds) n r x
      ∙ ap (λ (xs : List Found). Ok (numbered n xs)) (first_found F rs law e key)

pub nth_is : (m : Meaning) (e : Extent) (key : List ℕ) (rs : List Record) → Readable m e → Lawful (file m e) rs → (n : ℕ) (r : Answers) → Nth m e key n r → r ≡ Ok (numbered n (datas 2048 rs key))
nth_is m e key rs rd law n r (nths.no_start {f = f} a) = let q = start_done m e rs key (Err f) rd law a in let z : ◌≡◌ {A = ℕ} 0 1 = cc in absurd (omega arith)
nth_is m e key rs rd law n r (nths.started {c = c} a x) =
    let q : Ok c ≡ Ok (fresh m e key) = start_done m e rs key (Ok c) rd law a in
    let z : c ≡ fresh m e key = cc in
    fresh_is m e key rs rd (by_table (file m e) rs law) n r (subst (λ (u : Cursor). NthFrom m key u n r) z x)

-- all that is owed for a number, from its answer
pub nth_alone : (m : Meaning) (e : Extent) (key : List ℕ) (n : ℕ) (r : Answers) → Nth m e key n r → {m' : Meaning} → m' ≡ m
    → record { answer : Nth m e key n r; only : OnlyNth m e key n r; law : NthGivesRecord m e key n r; sample : TwoDataOfOneKey; same : m' ≡ m }
nth_alone m e key n r a same =
    record { answer = a; only = nth_one m e key n r a; law = λ rs rd law. nth_is m e key rs rd law n r a; sample = (refl, refl, refl, refl); same = same }
