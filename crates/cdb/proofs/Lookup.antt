-- A lookup in a lawful table gives the items of its key, in file order.
use Rattle.std.proofs.Common.{◌≡◌, ℕ, zero, suc, ◌+◌, ◌-◌, ◌<◌, ◌≤◌, Bool, true, ◌⊎◌, List, [], ◌∷◌, length, filter, sym, ap, ◌∙◌, subst, inl, inr, ⊎_elim, mod-lt, arith}
use Rattle.std.specs.List.{ContainsAt as Has}
use Rattle.std.specs.Str.{bytes_eq}
use Rattle.std.proofs.ByRecursion.{all-has, all_has_itself, all_kept_by, kept_by_passes}
use Rattle.std.proofs.lemmas.Slice.Eq.{bytes_eq-Decides}
use Rattle.std.proofs.lemmas.Bool.{cond-true, cond-false, cases_Bool, cases_eq}
use Rattle.cdb.proofs.Pigeon.{has_nil, has_head, has_tail, has_cons_cases}
use Rattle.cdb.proofs.Put.{distance_one}
use Rattle.cdb.proofs.Forward.{all_positive}
use Rattle.cdb.proofs.Owner.{owner}
use Rattle.cdb.proofs.Backward.{pos_one, same_item, above}
use Rattle.cdb.specs.Records.{Item, hash_of}
use Rattle.cdb.specs.Tables.{Slot, entry, slot, Empty, Filled, home, spot, Distance}
use Rattle.cdb.proofs.TableLaw.{probe, InFile, LawfulTable, Hit, Gives, none, next}

in_file_lower : (p q : ℕ) (xs : List Item) → p ≤ q → InFile q xs → InFile p xs
in_file_lower p q [] l f = tt
in_file_lower p q (x ∷ xs) l f = (omega (arith, f.0), f.1)

pub in_file_kept : (p : Item → Bool) (q : ℕ) (xs : List Item) → InFile q xs → InFile q (filter p xs)
in_file_kept p q [] f = tt
in_file_kept p q (x ∷ xs) f =
    let r = in_file_kept p x.place xs f.1 in
    ⊎_elim
    (λ e. rw (cond-true (p x) (x ∷ filter p xs) (filter p xs) e) (f.0, r))
    (λ e. rw (cond-false (p x) (x ∷ filter p xs) (filter p xs) e) (in_file_lower q x.place (filter p xs) (omega (arith, f.0)) r))
    (cases_Bool (p x))

has_kept : (p : Item → Bool) (xs : List Item) (y : Item) → Has xs y → p y ≡ true → Has (filter p xs) y
has_kept p [] y h e = absurd (has_nil y h)
has_kept p (x ∷ xs) y h e =
    ⊎_elim
    (λ (q : x ≡ y). rw (cond-true (p x) (x ∷ filter p xs) (filter p xs) (ap p q ∙ e)) (subst (Has (x ∷ filter p xs)) q (has_head x (filter p xs))))
    (λ t. let r = has_kept p xs y t e in
    ⊎_elim
    (λ b. rw (cond-true (p x) (x ∷ filter p xs) (filter p xs) b) (has_tail x (filter p xs) y r))
    (λ b. rw (cond-false (p x) (x ∷ filter p xs) (filter p xs) b) r)
    (cases_Bool (p x)))
    (has_cons_cases x xs y h)

module _ (items : List Item) (slots : List Slot) (f : InFile 0 items) (law : LawfulTable items slots) (key : List ℕ) where
  -- an item of the key that is met at distance i has that distance
  met : (i : ℕ) (y : Item) → i < length slots → Hit items slots key i y → Distance slots y i
  met i y l h =
      let n = length slots in
      let pos_y = all-has (λ z. 0 < z.place) items y (all_positive 0 items f) h.0 in
      let r = owner items slots f law (probe slots key i) (rw h.1 pos_y) in
      let same : r.0 ≡ y = same_item 0 items f r.0 y r.1 h.0 (ap (λ (v : Slot). v.place) (sym r.3.holds ∙ ap (slot slots) r.4 ∙ h.1)) in
      let d : Distance slots y r.2 = subst (λ z. Distance slots z r.2) same r.3 in
      let at : probe slots key r.2 ≡ probe slots key i = ap (λ k. probe slots k r.2) (sym (ap (λ (z : Item). z.key) same ∙ h.2)) ∙ r.4 in
      let j : r.2 ≡ i = pos_one n (home n (hash_of key)) r.2 i (mod-lt _ (omega arith)) d.within l at in
      subst (Distance slots y) j d

  -- what is left of the items of the key, from distance j on
  record Left (j : ℕ) (xs : List Item) : Type 0 where
    each : (x : Item) → Has xs x → Has items x × (x.key ≡ key) × (d : ℕ) × Distance slots x d × (j ≤ d)
    all : (y : Item) (i : ℕ) → Has items y → y.key ≡ key → Distance slots y i → j ≤ i → Has xs y

  -- the first empty slot from distance j on, or the end
  ending : (n j : ℕ) → j + n ≡ length slots → (m : ℕ) × (j ≤ m) × (m ≤ length slots) × ((i : ℕ) → j ≤ i → i < m → Filled slots (probe slots key i)) × ((m ≡ length slots) ⊎ ((m < length slots) × Empty slots (probe slots key m)))
  ending zero j e = (j, omega arith, omega arith, (λ i a b. absurd (omega arith)), inl (omega arith))
  ending (suc n) j e =
      let r = ending n (suc j) (omega arith) in
      ⊎_elim
      (λ em. (j, omega arith, omega arith, (λ i a b. absurd (omega arith)), inr (omega arith, em)))
      (λ ne. (
        r.0,
        omega (arith, r.1),
        r.2,
        (λ i a b. ⊎_elim (λ (q : i ≡ j). subst (λ k. Filled slots (probe slots key k)) (sym q) (omega arith)) (λ nq. r.3 i (omega arith) b) (cases_eq i j)),
        r.4,
      ))
      (cases_eq (slot slots (probe slots key j)).place 0)

  gives : (q : ℕ) (xs : List Item) (j : ℕ) → j ≤ length slots → InFile q xs → Left j xs → Gives items slots key j xs
  gives q [] j l fs w =
      let r = ending (length slots - j) j (omega arith) in
      none r.0 r.1 (λ i a b. (r.3 i a b, λ x h. has_nil x (w.all x i h.0 h.2 (met i x (omega (arith, r.2)) h) a))) r.4
  gives q (x ∷ xs) j l fs w =
      let e = w.each x (has_head x xs) in
      let m = e.2 in
      let d : Distance slots x m = e.3 in
      let later : (y : Item) → Has xs y → x.place < y.place = λ y h. all-has (λ z. x.place < z.place) xs y (above x.place xs fs.1) h in
      let farther : (y : Item) (i : ℕ) → Has xs y → Distance slots y i → m < i =
      λ y i h dy.
      let ey = w.each y (has_tail x xs y h) in
      let a = law.ordered y x i m ey.0 e.0 (e.1 ∙ sym ey.1) (later y h) dy d in
      let b : i ≡ m → ⊥ = λ q.
      let s : entry y ≡ entry x = sym dy.holds ∙ ap (slot slots) (ap (λ k. probe slots k i) (ey.1 ∙ sym e.1) ∙ ap (spot slots x) q) ∙ d.holds in
      let z = ap (λ (v : Slot). v.place) s in omega (arith, later y h) in
      ⊎_elim (λ q. absurd (b q)) (λ o. omega arith) (cases_eq i m) in
      let lm = d.within in
      next m e.4 lm
      (λ i a b. (
        subst (λ k. Filled slots (probe slots k i)) e.1 (d.passed i b),
        λ y h.
            let dy = met i y (omega arith) h in
            ⊎_elim
            (λ (q : x ≡ y). let z = distance_one d (subst (λ v. Distance slots v i) (sym q) dy) in omega arith)
            (λ t. omega (arith, farther y i t dy))
            (has_cons_cases x xs y (w.all y i h.0 h.2 dy a)),
      ))
      (e.0, ap (slot slots) (ap (λ k. probe slots k m) (sym e.1)) ∙ d.holds, e.1)
      (gives x.place xs (m + 1) (omega arith) fs.1
      (record {
        each = λ y h. let r = w.each y (has_tail x xs y h) in (r.0, r.1, r.2, r.3, omega (arith, farther y r.2 h r.3));
        all = λ y i hy ky dy li. ⊎_elim
            (λ (q : x ≡ y). absurd (let z = distance_one d (subst (λ v. Distance slots v i) (sym q) dy) in omega arith))
            (λ t. t)
            (has_cons_cases x xs y (w.all y i hy ky dy (omega (arith, e.4))));
      }))

pub lookup : (items : List Item) (slots : List Slot) → InFile 0 items → LawfulTable items slots → (key : List ℕ) → Gives items slots key 0 (filter (λ x. bytes_eq x.key key) items)
lookup items slots f law key =
    let p : Item → Bool = λ x. bytes_eq x.key key in
    gives items slots f law key 0 (filter p items) 0 (omega arith) (in_file_kept p 0 items f)
    (record {
      each = λ x h.
          let a = all-has (Has items) (filter p items) x (all_kept_by p (Has items) items (all_has_itself items)) h in
          let b = all-has (λ y. p y ≡ true) (filter p items) x (kept_by_passes p items) h in
          let r = law.placed x a in
          (a, (bytes_eq-Decides x.key key).0 b, r.0, r.1, omega arith);
      all = λ y i hy ky dy l. has_kept p items y hy ((bytes_eq-Decides y.key key).1 ky);
    })
