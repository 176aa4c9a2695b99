-- The lines that tell an outcome.
use Rattle.std.proofs.Common.{◌≡◌, ℕ, ◌+◌, ◌≤◌, List, [], ◌∷◌, ◌++◌, length, Ok, codes, decimal, ap, ◌∙◌, subst, append_assoc, arith, length-append}
use Rattle.byte_lists.specs.Bytes.{laid}
use Rattle.faults.specs.declared.report.Report.{Report}
use Rattle.text_writer.specs.Outcomes.{ok_line, no_line, Lays}
use Rattle.text_writer.specs.Sheets.{Adds}
use Rattle.text_writer.specs.declared.sheet.Sheet.{Sheet}
use Rattle.text_writer.proofs.Laying.{both}

pub length_ok : (n b : ℕ) → length (ok_line n b) ≡ length (decimal n) + length (decimal b) + 5
length_ok n b =
    let a = length-append (decimal n) (44 ∷ (decimal b ++ (10 ∷ []))) in
    let c = length-append (decimal b) (10 ∷ []) in
    omega arith

pub length_no : (r : Report) → length (no_line r) ≡ length (decimal r.number) + length (decimal r.table) + length (decimal r.place) + 6
length_no r =
    let a = length-append (decimal r.number) (44 ∷ (decimal r.table ++ (44 ∷ (decimal r.place ++ (10 ∷ []))))) in
    let c = length-append (decimal r.table) (44 ∷ (decimal r.place ++ (10 ∷ []))) in
    let d = length-append (decimal r.place) (10 ∷ []) in
    omega arith

ok_pieces : (n b : ℕ) → (codes "ok," ++ (decimal n ++ (44 ∷ []))) ++ (decimal b ++ (10 ∷ [])) ≡ ok_line n b
ok_pieces n b = simp append_assoc

no_pieces : (r : Report) → ((codes "no," ++ (decimal r.number ++ (44 ∷ []))) ++ (decimal r.table ++ (44 ∷ []))) ++ (decimal r.place ++ (10 ∷ [])) ≡ no_line r
no_pieces r = simp append_assoc

-- a sheet with the whole line
whole : (x b : List ℕ) (s t : Sheet) → s.written ≡ 0 → s.buffer.now ≡ b → length x ≤ length b → Adds x s t → Lays x (length b) b (Ok t.written) t.buffer.now
whole x b s t e f l a =
    let w = a.written in
    (omega arith, omega arith, a.after ∙ ap (λ (n : ℕ). laid s.buffer.now n x) e ∙ ap (λ (c : List ℕ). laid c 0 x) f)

pub ok_added : (n m : ℕ) (b : List ℕ) (s s₁ s₂ s₃ : Sheet) → s.written ≡ 0 → s.buffer.now ≡ b → length (ok_line n m) ≤ length b
    → Adds (codes "ok,") s s₁ → Adds (decimal n ++ (44 ∷ [])) s₁ s₂ → Adds (decimal m ++ (10 ∷ [])) s₂ s₃
    → Lays (ok_line n m) (length b) b (Ok s₃.written) s₃.buffer.now
ok_added n m b s s₁ s₂ s₃ e f l a₁ a₂ a₃ =
    let g = ap length f in
    let z = length_ok n m in
    let p = length-append (decimal n) (44 ∷ []) in
    let q = length-append (decimal m) (10 ∷ []) in
    let b₂ = both _ _ s s₁ s₂ (omega arith) a₁ a₂ in
    let b₃ = both _ _ s s₂ s₃ (omega arith) b₂ a₃ in
    whole (ok_line n m) b s s₃ e f l (subst (λ (x : List ℕ). Adds x s s₃) (ok_pieces n m) b₃)

pub no_added : (r : Report) (b : List ℕ) (s s₁ s₂ s₃ s₄ : Sheet) → s.written ≡ 0 → s.buffer.now ≡ b → length (no_line r) ≤ length b
    → Adds (codes "no,") s s₁ → Adds (decimal r.number ++ (44 ∷ [])) s₁ s₂ → Adds (decimal r.table ++ (44 ∷ [])) s₂ s₃ → Adds (decimal r.place ++ (10 ∷ [])) s₃ s₄
    → Lays (no_line r) (length b) b (Ok s₄.written) s₄.buffer.now
no_added r b s s₁ s₂ s₃ s₄ e f l a₁ a₂ a₃ a₄ =
    let g = ap length f in
    let z = length_no r in
    let p = length-append (decimal r.number) (44 ∷ []) in
    let q = length-append (decimal r.table) (44 ∷ []) in
    let o = length-append (decimal r.place) (10 ∷ []) in
    let b₂ = both _ _ s s₁ s₂ (omega arith) a₁ a₂ in
    let b₃ = both _ _ s s₂ s₃ (omega (arith, length-append {A = ℕ})) b₂ a₃ in
    let b₄ = both _ _ s s₃ s₄ (omega (arith, length-append {A = ℕ})) b₃ a₄ in
    whole (no_line r) b s s₄ e f l (subst (λ (x : List ℕ). Adds x s s₄) (no_pieces r) b₄)
