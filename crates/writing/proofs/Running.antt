-- Runs of writes, one after another.
use Rattle.std.proofs.Common.{◌≡◌, ℕ, ◌+◌, ◌-◌, ◌*◌, ◌/◌, ◌%◌, ◌<◌, ◌≤◌, Bool, true, false, cond, ltb, List, [], ◌++◌, length, take, drop, Some, None, Ok, Err, Option, Result, sym, refl, ap, ◌∙◌, subst, inl, inr, ⊎_elim, arith, take-add, rules, IsErrAnd}
use mathlib.Core.Bool.{false≢true}
use Rattle.std.proofs.lemmas.List.{places, same_lists, length-append, length-take-le, length-drop, append_assoc, take_at, drop_at, drop-drop}
use Rattle.std.proofs.lemmas.Bool.{cases_lt, cases_eq, ltb-true, ltb-false}
use Rattle.std.proofs.lemmas.Result.{err_from_is_err_and}
use Rattle.byte_lists.specs.Bytes.{laid}
use Rattle.faults.specs.declared.device.DeviceFault.{DeviceFault}
use Rattle.faults.specs.declared.device.DeviceFault.TheVariants.{Range, Power, Bad}
use Rattle.device.specs.declared.pieces.Piece.{Piece}
use Rattle.device.specs.declared.pieces.Pieces.{Pieces}
use Rattle.device.specs.Meanings.{Meaning, Condition, Whole, Writes, endless, some, is_bad, spoils, refusal, refuses, spent, Cut, stored, Spends, WritesBy, Written}
use Rattle.device.specs.Pieces.{IsNext}
use Rattle.writing.specs.Runs.{Touches, Outside, Used, Counted, Completed, Stopped, Interrupted, Runs}
use Rattle.writing.proofs.Keeping.{used_none, used_both, used_less, counted_before, keeps_all, keeps_both, keeps_less, outside_part, completed_keeps}

abbrev Answer : Type 0
Answer = Result (Unit {0}) DeviceFault

-- nothing is written
laid_none : (xs : List ℕ) (p : ℕ) → p ≤ length xs → laid xs p [] ≡ xs
laid_none xs p h = same_lists _ _ (search (rules, places)) (λ k d l. grind (arith, places))

pub completed_none : (m : Meaning) (p : ℕ) → p ≤ length m.bytes → Completed m p [] m
completed_none m p h = record {
  sectors = refl;
  bytes = sym (laid_none m.bytes p h);
  condition = refl;
  power = refl;
  left = used_none m.left;
  on = λ l. absurd (omega arith);
  good = λ s t. absurd (omega (arith, t.0));
  none = λ e. refl;
}

-- two runs of bytes that abut
pub laid_both : (xs : List ℕ) (p : ℕ) (us vs : List ℕ) → p + (length us + length vs) ≤ length xs → laid (laid xs p us) (p + length us) vs ≡ laid xs p (us ++ vs)
laid_both xs p us vs h =
    let a : List ℕ = take p xs in
    let ys : List ℕ = drop p xs in
    let r : List ℕ = drop (length us) ys in
    let la : length a ≡ p = length-take-le p xs (omega arith) in
    let l : length (a ++ us) ≡ p + length us = length-append a us ∙ ap (λ (q : ℕ). q + length us) la in
    let e : laid xs p us ≡ (a ++ us) ++ r = sym (append_assoc a us r) in
    let t : take (p + length us) (laid xs p us) ≡ a ++ us = ap (take (p + length us)) e ∙ take_at (a ++ us) r (p + length us) l in
    let d : drop (p + length us) (laid xs p us) ≡ r = ap (drop (p + length us)) e ∙ drop_at (a ++ us) r (p + length us) l in
    let k : drop (length vs) r ≡ drop (length (us ++ vs)) ys = drop-drop (length vs) (length us) ys ∙ ap (λ (q : ℕ). drop q ys) (sym (length-append us vs)) in
    ap (λ (q : List ℕ). q ++ (vs ++ drop (length vs) (drop (p + length us) (laid xs p us)))) t
    ∙ ap (λ (q : List ℕ). (a ++ us) ++ (vs ++ drop (length vs) q)) d
    ∙ ap (λ (q : List ℕ). (a ++ us) ++ (vs ++ q)) k
    ∙ append_assoc a us (vs ++ drop (length (us ++ vs)) ys)
    ∙ ap (λ (q : List ℕ). a ++ q) (sym (append_assoc us vs (drop (length (us ++ vs)) ys)))

-- one piece
done_piece : (m : Meaning) (p : ℕ) (ys : List ℕ) (r : Answer) (n : Meaning) (w : Writes)
    → 0 < length ys → p % 512 + length ys ≤ 512 → m.power ≡ true → is_bad m (p / 512) ≡ false → Used (length ys) m.left w
    → (r ≡ Ok tt) × (n ≡ stored m p ys w) → Runs m p ys r n
done_piece m p ys r n w s i o b f t =
    let P : Answer → Type 0 = λ q. Runs m p ys q n in
    let Q : Meaning → Type 0 = λ q. Completed m p ys q in
    subst P (sym t.0) (subst Q (sym t.1) (record {
      sectors = refl;
      bytes = refl;
      condition = refl;
      power = refl;
      left = f;
      on = λ l. o;
      good = λ k c. let e : p / 512 ≡ k = omega (arith, c.1, c.2) in subst (λ (q : ℕ). is_bad m q ≡ false) e b;
      none = λ e. absurd (omega arith);
    }))

cut_piece : (m : Meaning) (p : ℕ) (ys : List ℕ) (r : Answer) (n : Meaning)
    → 0 < length ys → p % 512 + length ys ≤ 512 → m.power ≡ true → is_bad m (p / 512) ≡ false → m.left ≡ some 0
    → (r ≡ Err Power) × Cut m p ys n → Runs m p ys r n
cut_piece m p ys r n s i o b c t =
    let P : Answer → Type 0 = λ q. Runs m p ys q n in
    let u : Cut m p ys n = t.1 in
    subst P (sym t.0) (inr (record {
      on = o;
      counted = subst Counted (sym c) tt;
      off = u.power;
      out = u.left ∙ c;
      sector = p / 512;
      touched = (s, omega arith, omega arith);
      good = λ k h l. let e : p / 512 ≡ k = omega (arith, h.1) in subst (λ (q : ℕ). is_bad m q ≡ false) e b;
      keeps = record {
        sectors = u.sectors;
        condition = u.condition;
        long = u.bytes.long;
        same = λ k out. u.bytes.apart k out.1;
      };
    }))

spends_some : (m : Meaning) (p : ℕ) (ys : List ℕ) (r : Answer) (n : Meaning) (k : ℕ) (b : Bool) → ltb 0 k ≡ b
    → 0 < length ys → p % 512 + length ys ≤ 512 → m.power ≡ true → is_bad m (p / 512) ≡ false → m.left ≡ some k
    → Spends (cond b (Some (some (k - 1))) None) m p ys r n → Runs m p ys r n
spends_some m p ys r n k true q s i o b e t =
    done_piece m p ys r n (some (k - 1)) s i o b (let P : Writes → Type 0 = λ q. Used (length ys) q (some (k - 1)) in let z : 0 < k = ltb-true 0 k q in subst P (sym e) (omega arith)) t
spends_some m p ys r n k false q s i o b e t = let z : k ≡ 0 = omega (arith, ltb-false 0 k q) in cut_piece m p ys r n s i o b (e ∙ ap (λ (j : ℕ). some j) z) t

spends : (m : Meaning) (p : ℕ) (ys : List ℕ) (r : Answer) (n : Meaning) (w : Writes)
    → 0 < length ys → p % 512 + length ys ≤ 512 → m.power ≡ true → is_bad m (p / 512) ≡ false → m.left ≡ w
    → Spends (spent w) m p ys r n → Runs m p ys r n
spends m p ys r n endless s i o b e t = done_piece m p ys r n endless s i o b (let P : Writes → Type 0 = λ q. Used (length ys) q endless in subst P (sym e) tt) t
spends m p ys r n (some k) s i o b e t = spends_some m p ys r n k (ltb 0 k) refl s i o b e t

piece : (m : Meaning) (p : ℕ) (ys : List ℕ) (r : Answer) (n : Meaning) (on bad' : Bool)
    → 0 < length ys → p % 512 + length ys ≤ 512 → m.power ≡ on → is_bad m (p / 512) ≡ bad'
    → WritesBy (cond on (cond bad' (Some (Bad (512 * (p / 512)))) None) (Some Power)) m p ys r n → Runs m p ys r n
piece m p ys r n false bad' s i o b t =
    let P : Answer → Type 0 = λ q. Runs m p ys q n in
    subst P (sym t.0) (inl (s, o, t.1))
piece m p ys r n true true s i o b t =
    let P : Answer → Type 0 = λ q. Runs m p ys q n in
    let Q : Meaning → Type 0 = λ q. Stopped m p (length ys) (512 * (p / 512)) q in
    let z : 512 * (p / 512) - p ≡ 0 = omega arith in
    subst P (sym t.0) (subst Q (sym t.1) (record {
      keeps = keeps_all m (Outside p (length ys));
      power = refl;
      on = o;
      sector = p / 512;
      is = refl;
      touched = (s, omega arith, omega arith);
      marked = b;
      lowest = λ s t l. absurd (omega (arith, t.1));
      left = used_less m.left m.left 0 (512 * (p / 512) - p) (omega arith) (used_none m.left);
    }))
piece m p ys r n true false s i o b t = spends m p ys r n m.left s i o b refl t

-- a piece inside one sector of the device
pub piece_runs : (m : Meaning) (p : ℕ) (ys : List ℕ) (r : Answer) (n : Meaning)
    → 0 < length ys → p % 512 + length ys ≤ 512 → p + length ys ≤ 512 * m.sectors → Written m p ys r n → Runs m p ys r n
piece_runs m p ys r n s i w t =
    let in' : refusal m p (length ys) ≡ refuses m (p / 512) = search rules in
    let P : Option DeviceFault → Type 0 = λ q. WritesBy q m p ys r n in
    piece m p ys r n m.power (is_bad m (p / 512)) s i refl refl (subst P in' t)

-- a run that is refused in its first part
pub interrupted_early : (m : Meaning) (p a b : ℕ) (f : DeviceFault) (n : Meaning) → a ≤ b → Interrupted m p a f n → Interrupted m p b f n
interrupted_early m p a b Range n l h = absurd h
interrupted_early m p a b Power n l (inl h) = inl (omega (arith, h.0), h.1, h.2)
interrupted_early m p a b Power n l (inr h) = inr (record {
  on = h.on;
  counted = h.counted;
  off = h.off;
  out = h.out;
  sector = h.sector;
  touched = (omega (arith, h.touched.0), h.touched.1, omega (arith, h.touched.2));
  good = λ s t u. h.good s (h.touched.0, t.1, omega (arith, h.touched.2)) u;
  keeps = keeps_less m n _ _ h.keeps (λ k o. (outside_part p b p a k (omega arith) (omega arith) o.0, o.1));
})
interrupted_early m p a b (Bad x) n l h = record {
  keeps = keeps_less m n _ _ h.keeps (λ k o. outside_part p b p a k (omega arith) (omega arith) o);
  power = h.power;
  on = h.on;
  sector = h.sector;
  is = h.is;
  touched = (omega (arith, h.touched.0), h.touched.1, omega (arith, h.touched.2));
  marked = h.marked;
  lowest = λ s t u. h.lowest s (h.touched.0, t.1, omega (arith, h.touched.2)) u;
  left = h.left;
}

-- marks stay
pub bad_after : (m n : Meaning) (s : ℕ) → n.condition ≡ m.condition → is_bad n s ≡ is_bad m s
bad_after m n s e = ap (λ (f : ℕ → Condition). spoils (f s)) e

-- a run that is done, and another after it: the sectors below q of both are good
good_both : (m n : Meaning) (p : ℕ) (us : List ℕ) (b : ℕ) (q : ℕ) → Completed m p us n
    → ((s : ℕ) → Touches (p + length us) b s → s < q → is_bad n s ≡ false) → (s : ℕ) → Touches p (length us + b) s → s < q → is_bad m s ≡ false
good_both m n p us b q w g s t l =
    let same : is_bad n s ≡ is_bad m s = bad_after m n s w.condition in
    ⊎_elim
    (λ h. ⊎_elim
    (λ (e : length us ≡ 0). sym same ∙ g s (omega (arith, t.0), omega (arith, t.1), omega (arith, t.2)) l)
    (λ e. w.good s (omega arith, t.1, h))
    (cases_eq (length us) 0))
    (λ h. sym same ∙ g s (omega (arith, t.2), omega arith, omega (arith, t.2)) l)
    (cases_lt (512 * s) (p + length us))

was_on : (m n : Meaning) (p : ℕ) (us : List ℕ) → Completed m p us n → n.power ≡ true → m.power ≡ true
was_on m n p us w o = sym w.power ∙ o

completed_both : (m n o : Meaning) (p : ℕ) (us vs : List ℕ) → p + (length us + length vs) ≤ length m.bytes → Completed m p us n → Completed n (p + length us) vs o → Completed m p (us ++ vs) o
completed_both m n o p us vs h w v =
    let l : length (us ++ vs) ≡ length us + length vs = length-append us vs in
    record {
      sectors = v.sectors ∙ w.sectors;
      bytes = v.bytes ∙ ap (λ (q : List ℕ). laid q (p + length us) vs) w.bytes ∙ laid_both m.bytes p us vs h;
      condition = v.condition ∙ w.condition;
      power = v.power ∙ w.power;
      left = used_both m.left n.left o.left (length us) (length vs) (length (us ++ vs)) (omega arith) w.left v.left;
      on = λ x. ⊎_elim (λ e. was_on m n p us w (v.on (omega arith))) (λ e. w.on (omega arith)) (cases_eq (length us) 0);
      good = λ s t. good_both m n p us (length vs) (s + 1) w (λ k y z. v.good k y) s (omega (arith, t.0), t.1, omega (arith, t.2)) (omega arith);
      none = λ e. v.none (omega arith) ∙ w.none (omega arith);
    }

interrupted_later : (m n o : Meaning) (p : ℕ) (us : List ℕ) (b : ℕ) (f : DeviceFault) → p + (length us + b) ≤ length m.bytes → Completed m p us n → Interrupted n (p + length us) b f o → Interrupted m p (length us + b) f o
interrupted_later m n o p us b Range h w v = absurd v
interrupted_later m n o p us b Power h w (inl v) =
    ⊎_elim
    (λ e. let s : n ≡ m = w.none e in inl (omega (arith, v.0), ap (λ (q : Meaning). q.power) (sym s) ∙ v.1, v.2 ∙ s))
    (λ e. absurd (false≢true (sym v.1 ∙ w.power ∙ w.on (omega arith))))
    (cases_eq (length us) 0)
interrupted_later m n o p us b Power h w (inr v) = inr (record {
  on = was_on m n p us w v.on;
  counted = counted_before m.left n.left (length us) w.left v.counted;
  off = v.off;
  out = v.out;
  sector = v.sector;
  touched = (omega (arith, v.touched.0), omega (arith, v.touched.1), omega (arith, v.touched.2));
  good = λ s t l. good_both m n p us b (v.sector + 1) w (λ k y z. v.good k y (omega arith)) s t (omega arith);
  keeps = keeps_both m n o _ _ _ (completed_keeps m n p us (omega arith) w) v.keeps (λ k x. outside_part p (length us + b) p (length us) k (omega arith) (omega arith) x.0) (λ k x. (outside_part p (length us + b) (p + length us) b k (omega arith) (omega arith) x.0, x.1));
})
interrupted_later m n o p us b (Bad x) h w v = record {
  keeps = keeps_both m n o _ _ _ (completed_keeps m n p us (omega arith) w) v.keeps (λ k x. outside_part p (length us + b) p (length us) k (omega arith) (omega arith) x) (λ k x. outside_part p (length us + b) (p + length us) b k (omega arith) (omega arith) x);
  power = v.power ∙ w.power;
  on = was_on m n p us w v.on;
  sector = v.sector;
  is = v.is;
  touched = (omega (arith, v.touched.0), omega (arith, v.touched.1), omega (arith, v.touched.2));
  marked = sym (bad_after m n v.sector w.condition) ∙ v.marked;
  lowest = good_both m n p us b v.sector w v.lowest;
  left = used_both m.left n.left o.left (length us) (512 * v.sector - (p + length us)) (512 * v.sector - p) (omega arith) w.left v.left;
}

pub runs_both : (m n o : Meaning) (p : ℕ) (us vs : List ℕ) (r : Answer) → p + (length us + length vs) ≤ length m.bytes
    → Completed m p us n → Runs n (p + length us) vs r o → Runs m p (us ++ vs) r o
runs_both m n o p us vs (Ok x) h w v = completed_both m n o p us vs h w v
runs_both m n o p us vs (Err f) h w v =
    let P : ℕ → Type 0 = λ q. Interrupted m p q f o in
    subst P (sym (length-append us vs)) (interrupted_later m n o p us (length vs) f h w v)

-- bytes that are written piece by piece, as far as the pieces have come
pub record Upto (m : Meaning) (p : ℕ) (ys : List ℕ) (s : Pieces) (n : Meaning) : Type 0 where
  pub start : s.start ≡ p
  pub len : s.len ≡ length ys
  pub done : Completed m p (take s.done ys) n

-- the loop over the pieces: a piece more, and the piece at which it stops
module _ (m : Meaning) (p : ℕ) (ys : List ℕ) (h : Whole m) (l : p + length ys ≤ 512 * m.sectors) where
  piece_more : {n : Meaning} {w : Piece} {s t : Pieces} {zs : List ℕ} (r : Answer) (o : Meaning) → Upto m p ys s n → IsNext s w t → zs ≡ take (w.to - w.from) (drop w.from ys) → Written n w.place zs r o
      → (t.done ≤ length ys) × Runs m p (take t.done ys) r o
  piece_more {n} {w} {s} {t} {zs} r o u next e x =
      let us : List ℕ = take w.from ys in
      let done : Completed m p us n = rw next.from u.done in
      let to : w.to ≤ length ys = omega arith in
      let a : length us ≡ w.from = length-take-le w.from ys (omega arith) in
      let b : length zs ≡ w.to - w.from = ap length e ∙ length-take-le (w.to - w.from) (drop w.from ys) (omega (arith, length-drop w.from ys)) in
      let long : length m.bytes ≡ 512 * m.sectors = h.long in
      let same : n.sectors ≡ m.sectors = done.sectors in
      let c : Runs n w.place zs r o = piece_runs n w.place zs r o (omega arith) (omega arith) (omega arith) x in
      let P : ℕ → Type 0 = λ q. Runs n q zs r o in
      let at : w.place ≡ p + length us = omega arith in
      let d : Runs m p (us ++ zs) r o = runs_both m n o p us zs r (omega arith) done (subst P at c) in
      let Q : List ℕ → Type 0 = λ q. Runs m p q r o in
      let z : w.from + (w.to - w.from) ≡ t.done = omega arith in
      (omega arith, subst Q (ap (λ (q : List ℕ). us ++ q) e ∙ sym (take-add w.from (w.to - w.from) ys) ∙ ap (λ (q : ℕ). take q ys) z) d)

  pub turned : {n : Meaning} {w : Piece} {s t : Pieces} {zs : List ℕ} (o : Meaning) → Upto m p ys s n → IsNext s w t → zs ≡ take (w.to - w.from) (drop w.from ys) → Written n w.place zs (Ok tt) o
      → Upto m p ys t o
  turned o u next e x = record { start = next.start ∙ u.start; len = next.len ∙ u.len; done = (piece_more (Ok tt) o u next e x).1 }

  pub stopped : {n : Meaning} {w : Piece} {s t : Pieces} {zs : List ℕ} (f : DeviceFault) (r : Answer) (o : Meaning) → Upto m p ys s n → IsNext s w t → zs ≡ take (w.to - w.from) (drop w.from ys)
      → Written n w.place zs (Err f) o → IsErrAnd r (λ g. g ≡ f) → Runs m p ys r o
  stopped {t} f r o u next e x i =
      let y = err_from_is_err_and r i in
      let k = piece_more (Err f) o u next e x in
      let a : length (take t.done ys) ≡ t.done = length-take-le t.done ys k.0 in
      rw (y.1, y.2) (interrupted_early m p (length (take t.done ys)) (length ys) f o (omega (arith, k.0)) k.1)
