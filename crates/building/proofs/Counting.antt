-- How many entries belong to each table.
use Rattle.std.proofs.Common.{◌≡◌, ℕ, zero, suc, ◌+◌, ◌-◌, ◌*◌, ◌%◌, ◌<◌, ◌≤◌, cond, eqb, ltb, ◌≢◌, List, [], ◌∷◌, length, get_or, set, replicate, sym, refl, ap, ◌∙◌, ⊎_elim, arith, get_or-set_other, get_or-set_same}
use Rattle.std.proofs.lemmas.Bool.Decides.{nat_tests}
use Rattle.std.proofs.lemmas.List.{get_or-replicate}
use Rattle.std.proofs.lemmas.List.Sums.{sum_by-cons}
use Rattle.std.proofs.lemmas.Bool.{cases_eq}
use Rattle.building.specs.declared.entries.Entry.{Entry}
use Rattle.building.specs.declared.layout.Table.{Table}
use Rattle.building.specs.Entries.{count_of, count_before}
use Rattle.building.specs.Builds.{table_in}

abbrev pub entry_at : List Entry → ℕ → Entry
entry_at es i = get_or es i (record { hash = 0; place = 0 })

one_more : (a t : ℕ) → cond {A = ℕ} (ltb a (t + 1)) 1 0 ≡ cond (ltb a t) 1 0 + cond (eqb a t) 1 0
one_more a t = grind (arith, nat_tests)

pub below_more : (t : ℕ) (es : List Entry) → count_before (t + 1) es ≡ count_before t es + count_of t es
below_more t [] = refl
below_more t (e ∷ es) =
    let a = sum_by-cons (λ (x : Entry). cond (ltb (x.hash % 256) (t + 1)) 1 0) e es in
    let b = sum_by-cons (λ (x : Entry). cond (ltb (x.hash % 256) t) 1 0) e es in
    let c = sum_by-cons (λ (x : Entry). cond (eqb (x.hash % 256) t) 1 0) e es in
    let d = one_more (e.hash % 256) t in
    let i = below_more t es in
    omega arith

pub below_none : (es : List Entry) → count_before 0 es ≡ 0
below_none [] = refl
below_none (e ∷ es) =
    let a = sum_by-cons (λ (x : Entry). cond (ltb (x.hash % 256) 0) 1 0) e es in
    let z : cond {A = ℕ} (ltb (e.hash % 256) 0) 1 0 ≡ 0 = grind (arith, nat_tests) in
    let i = below_none es in
    omega arith

pub below_all : (es : List Entry) → count_before 256 es ≡ length es
below_all [] = refl
below_all (e ∷ es) =
    let a = sum_by-cons (λ (x : Entry). cond (ltb (x.hash % 256) 256) 1 0) e es in
    let lt : e.hash % 256 < 256 = omega arith in
    let z : cond {A = ℕ} (ltb (e.hash % 256) 256) 1 0 ≡ 1 = grind (arith, nat_tests) in
    let i = below_all es in
    omega arith

-- tables follow one another
pub below_up : (es : List Entry) (t n : ℕ) → count_before t es ≤ count_before (t + n) es
below_up es t zero = let z : t + 0 ≡ t = omega arith in omega (arith, ap (λ (k : ℕ). count_before k es) z)
below_up es t (suc n) =
    let z : t + suc n ≡ t + n + 1 = omega arith in
    omega (arith, ap (λ (k : ℕ). count_before k es) z, below_more (t + n) es, below_up es t n)

pub below_apart : (es : List Entry) (t u : ℕ) → t < u → count_before t es + count_of t es ≤ count_before u es
below_apart es t u l =
    let z : t + 1 + (u - (t + 1)) ≡ u = omega arith in
    omega (arith, ap (λ (k : ℕ). count_before k es) z, below_up es (t + 1) (u - (t + 1)), below_more t es)

pub count_fits : (es : List Entry) (t : ℕ) → t < 256 → count_before t es + count_of t es ≤ length es
count_fits es t l = omega (arith, below_apart es t 256 l, below_all es)

-- each table has two slots for each of the entries that belong to it
abbrev pub Counted : List Table → List Entry → Type 0
Counted ts es = (t : ℕ) → t < 256 → (table_in ts t).slots ≡ 2 * count_of t es

pub counted_none : Counted (replicate 256 (record { offset = 0; slots = 0 })) []
counted_none t l = ap (λ (x : Table). x.slots) (get_or-replicate {A = Table} 256 t (record { offset = 0; slots = 0 }) (record { offset = 0; slots = 0 }) l)

-- a table gets its place
module _ (ts : List Table) (i next : ℕ) (l : i < length ts) where
  abbrev moved : List Table
  moved = set ts i (record { offset = next; slots = (table_in ts i).slots })

  abbrev none : Table
  none = record { offset = 0; slots = 0 }

  pub moved_slots : (es : List Entry) → Counted ts es → Counted moved es
  moved_slots es c t tl = ⊎_elim
      (λ (q : t ≡ i). ap (λ (k : ℕ). (table_in moved k).slots) q ∙ ap (λ (x : Table). x.slots) (get_or-set_same ts i (record { offset = next; slots = (table_in ts i).slots }) none l) ∙ ap (λ (k : ℕ). (table_in ts k).slots) (sym q) ∙ c t tl)
      (λ (ne : t ≢ i). ap (λ (x : Table). x.slots) (get_or-set_other ts i t (record { offset = next; slots = (table_in ts i).slots }) none ne) ∙ c t tl)
      (cases_eq t i)

  pub moved_offsets : (F : ℕ → ℕ) → next ≡ F i → ((t : ℕ) → t < i → (table_in ts t).offset ≡ F t) → (t : ℕ) → t < i + 1 → (table_in moved t).offset ≡ F t
  moved_offsets F e h t tl = ⊎_elim
      (λ (q : t ≡ i). ap (λ (k : ℕ). (table_in moved k).offset) q ∙ ap (λ (x : Table). x.offset) (get_or-set_same ts i (record { offset = next; slots = (table_in ts i).slots }) none l) ∙ e ∙ ap F (sym q))
      (λ (ne : t ≢ i). ap (λ (x : Table). x.offset) (get_or-set_other ts i t (record { offset = next; slots = (table_in ts i).slots }) none ne) ∙ h t (omega arith))
      (cases_eq t i)
