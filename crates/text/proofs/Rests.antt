-- Lines before a text: what holds of the rest holds of the whole.
use Rattle.std.proofs.Common.{◌≡◌, ℕ, ◌-◌, ◌<◌, ◌≤◌, List, [], ◌∷◌, ◌++◌, length, take, drop, sym, refl, ap, ◌∙◌, subst, ⊎_elim, append_assoc, arith, length-append, length-drop}
use Rattle.std.specs.List.{AllByRecursion}
use Rattle.std.proofs.lemmas.Bool.{cases_lt}
use Rattle.std.proofs.lemmas.List.{take_at, take-append-drop}
use Rattle.cdb.specs.Records.{Record}
use Rattle.text.specs.Texts.{line, text, Proper, Text, Refused}
use Rattle.text.proofs.Numbers.{heads}
use Rattle.text.proofs.Lines.{rec, line_onto, one_line, closes, opens, Lined}

-- a text that ends is not a line
pub different : (x : List ℕ) (r : Record) (u : List ℕ) → 10 ∷ x ≡ line r ++ u → ⊥
different x r u e = let h : ◌≡◌ {A = ℕ} 10 43 = heads 10 43 x _ (e ∙ line_onto r u) in omega arith

-- a line is that of one record
pub same_line : (r s : Record) (u v : List ℕ) → Proper r → Proper s → line r ++ u ≡ line s ++ v → (r ≡ s) × (u ≡ v)
same_line r s u v a b e =
    let o = one_line r.key r.data' u s.key s.data' v a b (sym (line_onto r u) ∙ e ∙ line_onto s v) in
    (ap (λ (k : List ℕ). rec k r.data') o.0 ∙ ap (rec s.key) o.1, o.2)

-- the lines of some records, before a text
abbrev pub lines : List Record → List ℕ → List ℕ
lines [] x = x
lines (r ∷ rs) x = line r ++ lines rs x

pub text_lines : (rs : List Record) → text rs ≡ lines rs (10 ∷ [])
text_lines [] = refl
text_lines (r ∷ rs) = ap (λ (x : List ℕ). line r ++ x) (text_lines rs)

pub peel : (rs : List Record) (x : List ℕ) → AllByRecursion Proper rs → Text (lines rs x) → Text x
peel [] x w g = g
peel (r ∷ rs) x w g =
    peel rs x w.1
    (⊎_elim (λ (e : lines (r ∷ rs) x ≡ 10 ∷ []). absurd (different [] r (lines rs x) (sym e)))
    (λ (l : (l : Lined (lines (r ∷ rs) x)) × Text l.rest).
    let o = one_line r.key r.data' (lines rs x) l.0.key l.0.data' l.0.rest w.0 l.0.proper (sym (line_onto r (lines rs x)) ∙ l.0.is) in
    subst Text (sym o.2) l.1)
    (opens _ g))

pub wrap : (rs : List Record) (x : List ℕ) → AllByRecursion Proper rs → Text x → Text (lines rs x)
wrap [] x w g = g
wrap (r ∷ rs) x w g = subst Text (sym (line_onto r (lines rs x))) (closes r.key r.data' (lines rs x) w.0 (wrap rs x w.1 g))

lines_append : (rs : List Record) (x y : List ℕ) → lines rs x ++ y ≡ lines rs (x ++ y)
lines_append [] x y = refl
lines_append (r ∷ rs) x y = append_assoc (line r) (lines rs x) y ∙ ap (λ (z : List ℕ). line r ++ z) (lines_append rs x y)

-- the first bytes of a text that begins with lines
fronts : (rs : List Record) (t : List ℕ) (q m : ℕ) → t ≡ lines rs (drop q t) → q ≤ m → m ≤ length t → take m t ≡ lines rs (take (m - q) (drop q t))
fronts rs t q m i a b =
    let s : t ≡ lines rs (take (m - q) (drop q t)) ++ drop (m - q) (drop q t) =
    i ∙ ap (lines rs) (sym (take-append-drop (m - q) (drop q t))) ∙ sym (lines_append rs (take (m - q) (drop q t)) (drop (m - q) (drop q t))) in
    let l0 = length-append (lines rs (take (m - q) (drop q t))) (drop (m - q) (drop q t)) in
    let l1 = length-drop (m - q) (drop q t) in
    let l2 = length-drop q t in
    let l : length (lines rs (take (m - q) (drop q t))) ≡ m = omega (arith, ap length s) in
    ap (take m) s ∙ take_at (lines rs (take (m - q) (drop q t))) (drop (m - q) (drop q t)) m l

pub whole_refused : (rs : List Record) (t : List ℕ) (q e : ℕ) → AllByRecursion Proper rs → t ≡ lines rs (drop q t) → q ≤ length t → q ≤ e → Refused (drop q t) (e - q) → Refused t e
whole_refused rs t q e w i a b r =
    let h : e ≤ length t = omega (arith, r.within, length-drop q t) in
    record {
      within = h;
      begins = let g = r.begins in (
        g.0,
        subst Text (sym (ap (λ (x : List ℕ). x ++ g.0) (fronts rs t q e i b h) ∙ lines_append rs (take (e - q) (drop q t)) g.0)) (wrap rs _ w g.1),
      );
      longest = λ m l g.
          ⊎_elim
          (λ (k : q < m).
          let c : q ≤ m = omega arith in
          let p = peel rs _ w (subst Text (ap (λ (x : List ℕ). x ++ g.0) (fronts rs t q m i c l) ∙ lines_append rs (take (m - q) (drop q t)) g.0) g.1) in
          let n : m - q ≤ e - q = r.longest (m - q) (omega (arith, length-drop q t)) (g.0, p) in
          omega arith)
          (λ (k : m ≤ q). omega arith) (cases_lt q m);
      refused = λ x. r.refused (peel rs (drop q t) w (subst Text i x));
    }
