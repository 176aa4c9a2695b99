-- What one put changes.
use Rattle.std.proofs.Common.{◌≡◌, ℕ, ◌+◌, ◌%◌, ◌<◌, ◌≤◌, cond, ltb, List, length, count_by, sym, ap, ◌∙◌, subst, ⊎_elim, mod-lt, arith, length-set}
use Rattle.std.proofs.lemmas.List.{get_or-set_same, get_or-set_other}
use Rattle.std.proofs.lemmas.List.Sums.{sum_by-set}
use Rattle.std.proofs.lemmas.Bool.{lt-ltb, cond-true, cases_order}
use Rattle.cdb.specs.Records.{Item, hash_of}
use Rattle.cdb.specs.Tables.{Slot, blank, entry, slot, Empty, Filled, home, spot, Distance}
use Rattle.cdb.proofs.TableLaw.{probe, PutsItem}

pub spot_in : (s : List Slot) (x : Item) (j : ℕ) → 0 < length s → spot s x j < length s
spot_in s x j h = mod-lt (home (length s) (hash_of x.key) + j) h

pub spot_length : (s t : List Slot) → length t ≡ length s → (x : Item) (j : ℕ) → spot t x j ≡ spot s x j
spot_length s t e x j = ap (λ n. (home n (hash_of x.key) + j) % n) e

-- items of equal key have the same spots
pub spot_key : (s : List Slot) (x y : Item) → x.key ≡ y.key → (j : ℕ) → spot s x j ≡ spot s y j
spot_key s x y e j = ap (λ k. probe s k j) e

pub not_both : (s : List Slot) (i : ℕ) → Filled s i → Empty s i → ⊥
not_both s i f e = omega arith

-- an item has one distance
pub distance_one : {s : List Slot} {x : Item} {j k : ℕ} → Distance s x j → Distance s x k → j ≡ k
distance_one {s} {x} {j} {k} a b =
    ⊎_elim (λ e. e) (λ o. ⊎_elim (λ l. absurd (b.first j l a.holds)) (λ l. absurd (a.first k l b.holds)) o) (cases_order j k)

module _ (s : List Slot) (x : Item) (t : List Slot) (p : PutsItem s x t) where
  pub put_length : length t ≡ length s
  put_length = ap length p.after ∙ length-set s (spot s x p.distance) (entry x)

  pub put_new : slot t (spot s x p.distance) ≡ entry x
  put_new =
      rw p.after
      (get_or-set_same s (spot s x p.distance) (entry x) blank (spot_in s x p.distance (omega (arith, p.within))))

  pub put_other : (i : ℕ) → (i ≡ spot s x p.distance → ⊥) → slot t i ≡ slot s i
  put_other i n = rw p.after (get_or-set_other s (spot s x p.distance) i (entry x) blank n)

  pub put_old : (i : ℕ) → Filled s i → slot t i ≡ slot s i
  put_old i f = put_other i (λ e. not_both s i f (subst (Empty s) (sym e) p.free))

  pub put_same : (y : Item) (i : ℕ) → Filled s (spot s y i) → slot t (spot t y i) ≡ slot s (spot s y i)
  put_same y i f = rw (spot_length s t put_length y i) (put_old (spot s y i) f)

  -- an item that stands keeps its distance
  pub put_keeps : (y : Item) (k : ℕ) → 0 < y.place → Distance s y k → Distance t y k
  put_keeps y k pos d =
      let f : Filled s (spot s y k) = rw d.holds pos in
      record {
        within = rw put_length d.within;
        holds = put_same y k f ∙ d.holds;
        passed = λ i l. rw (put_same y i (d.passed i l)) (d.passed i l);
        first = λ i l e. d.first i l (sym (put_same y i (d.passed i l)) ∙ e);
      }

  -- the new item stands where it was put
  pub put_stands : ((i : ℕ) → Filled s i → (slot s i).place ≡ x.place → ⊥) → Distance t x p.distance
  put_stands fresh =
      record {
        within = rw put_length p.within;
        holds = rw (spot_length s t put_length x p.distance) put_new;
        passed = λ i l. rw (put_same x i (p.nearest i l)) (p.nearest i l);
        first = λ i l e.
            fresh (spot s x i) (p.nearest i l) (ap (λ (z : Slot). z.place) (sym (put_same x i (p.nearest i l)) ∙ e));
      }

  -- an earlier item of equal key is no farther away
  pub put_farther : (y : Item) (k : ℕ) → y.key ≡ x.key → Distance s y k → k ≤ p.distance
  put_farther y k e d =
      ⊎_elim (λ l. absurd (not_both s (spot s y p.distance) (d.passed p.distance l) (rw (spot_key s y x e p.distance) p.free)))
      (λ l. l) (Rattle.std.proofs.lemmas.Bool.cases_lt p.distance k)

  pub put_count : 0 < x.place → count_by (λ e. ltb 0 e.place) t ≡ count_by (λ e. ltb 0 e.place) s + 1
  put_count pos =
      let f : Slot → ℕ = λ e. cond (ltb 0 e.place) 1 0 in
      let a = sum_by-set f s (spot s x p.distance) (entry x) blank (spot_in s x p.distance (omega (arith, p.within))) in
      let b : f (slot s (spot s x p.distance)) ≡ 0 = ap (λ (n : ℕ). cond (ltb 0 n) 1 0) p.free in
      let c : f (entry x) ≡ 1 = cond-true (ltb 0 x.place) 1 0 (lt-ltb 0 x.place pos) in
      rw p.after (omega arith)
