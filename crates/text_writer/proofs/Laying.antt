-- Pieces of text laid one behind the other.
use Rattle.std.proofs.Common.{◌≡◌, ℕ, ◌+◌, ◌≤◌, List, [], ◌∷◌, ◌++◌, length, take, drop, decimal, sym, ap, ◌∙◌, subst, append_assoc, arith, length-append}
use Rattle.std.proofs.lemmas.List.{take_at, drop_at, drop-drop, length-take-le}
use Rattle.byte_lists.specs.Bytes.{laid}
use Rattle.cdb.specs.Records.{Record}
use Rattle.text_writer.specs.Sheets.{Adds}
use Rattle.text_writer.specs.declared.sheet.Sheet.{Sheet}
use Rattle.text.specs.Texts.{line}
use Rattle.text.proofs.Counting.{length_line}

pub laid_laid : (b x y : List ℕ) (at : ℕ) → at + length x + length y ≤ length b → laid (laid b at x) (at + length x) y ≡ laid b at (x ++ y)
laid_laid b x y at l =
    let lt : length (take at b) ≡ at = length-take-le at b (omega arith) in
    let lx : length (take at b ++ x) ≡ at + length x = length-append (take at b) x ∙ ap (λ (n : ℕ). n + length x) lt in
    let r : List ℕ = drop (length x) (drop at b) in
    let s : laid b at x ≡ (take at b ++ x) ++ drop (length x) (drop at b) = sym (append_assoc (take at b) x (drop (length x) (drop at b))) in
    let a : take (at + length x) (laid b at x) ≡ take at b ++ x = ap (take (at + length x)) s ∙ take_at (take at b ++ x) (drop (length x) (drop at b)) (at + length x) lx in
    let d : drop (at + length x) (laid b at x) ≡ drop (length x) (drop at b) = ap (drop (at + length x)) s ∙ drop_at (take at b ++ x) (drop (length x) (drop at b)) (at + length x) lx in
    ap (λ (u : List ℕ). u ++ (y ++ drop (length y) (drop (at + length x) (laid b at x)))) a
    ∙ ap (λ (u : List ℕ). (take at b ++ x) ++ (y ++ drop (length y) u)) d
    ∙ append_assoc (take at b) x (y ++ drop (length y) (drop (length x) (drop at b)))
    ∙ ap (λ (u : List ℕ). take at b ++ u) (sym (append_assoc x y (drop (length y) (drop (length x) (drop at b)))))
    ∙ ap (λ (u : List ℕ). take at b ++ ((x ++ y) ++ u)) (drop-drop (length y) (length x) (drop at b) ∙ ap (λ (m : ℕ). drop m (drop at b)) (sym (length-append x y)))

-- what is written in two pieces is written as one
pub both : (x y : List ℕ) (s t u : Sheet) → s.written + (length x + length y) ≤ length s.buffer.now → Adds x s t → Adds y t u → Adds (x ++ y) s u
both x y s t u l a b =
    let p = a.written in
    let q = b.written in
    record {
      same_reference = b.same_reference ∙ a.same_reference;
      written = omega (arith, length-append x y);
      after = b.after ∙ ap (λ (z : List ℕ). laid z t.written y) a.after ∙ ap (λ (n : ℕ). laid (laid s.buffer.now s.written x) n y) p
          ∙ laid_laid s.buffer.now x y s.written (omega arith);
      long = b.long ∙ a.long;
    }

pieces : (r : Record) → ((((((43 ∷ []) ++ (decimal (length r.key) ++ (44 ∷ []))) ++ (decimal (length r.data') ++ (58 ∷ []))) ++ r.key) ++ (45 ∷ 62 ∷ [])) ++ r.data') ++ (10 ∷ []) ≡ line r
pieces r = simp append_assoc

-- the pieces of a line
pub line_added : (r : Record) (arrow : List ℕ) (s s₁ s₂ s₃ s₄ s₅ s₆ s₇ : Sheet) → arrow ≡ 45 ∷ 62 ∷ [] → s.written + length (line r) ≤ length s.buffer.now
    → Adds (43 ∷ []) s s₁ → Adds (decimal (length r.key) ++ (44 ∷ [])) s₁ s₂ → Adds (decimal (length r.data') ++ (58 ∷ [])) s₂ s₃ → Adds r.key s₃ s₄
    → Adds arrow s₄ s₅ → Adds r.data' s₅ s₆ → Adds (10 ∷ []) s₆ s₇ → Adds (line r) s s₇
line_added r arrow s s₁ s₂ s₃ s₄ s₅ s₆ s₇ e l a₁ a₂ a₃ a₄ a₅ a₆ a₇ =
    let a₅' = subst (λ (x : List ℕ). Adds x s₄ s₅) e a₅ in
    let n = length_line r in
    let k = length-append (decimal (length r.key)) (44 ∷ []) in
    let d = length-append (decimal (length r.data')) (58 ∷ []) in
    let b₂ = both _ _ s s₁ s₂ (omega arith) a₁ a₂ in
    let b₃ = both _ _ s s₂ s₃ (omega (arith, b₂.written, length-append {A = ℕ})) b₂ a₃ in
    let b₄ = both _ _ s s₃ s₄ (omega (arith, length-append {A = ℕ})) b₃ a₄ in
    let b₅ = both _ _ s s₄ s₅ (omega (arith, length-append {A = ℕ})) b₄ a₅' in
    let b₆ = both _ _ s s₅ s₆ (omega (arith, length-append {A = ℕ})) b₅ a₆ in
    let b₇ = both _ _ s s₆ s₇ (omega (arith, length-append {A = ℕ})) b₆ a₇ in
    subst (λ (x : List ℕ). Adds x s s₇) (pieces r) b₇
