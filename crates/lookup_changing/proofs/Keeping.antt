-- A byte that flips outside a file leaves the file.
use Rattle.std.proofs.Common.{◌≡◌, ℕ, ◌+◌, ◌-◌, ◌*◌, ◌/◌, ◌<◌, ◌≤◌, min, true, ltb, ◌⊎◌, List, length, get_or, take, set, sym, refl, ap, ◌∙◌, subst, inl, inr, ⊎_elim, arith}
use Rattle.std.proofs.Math.Seq.{take-set-lt}
use Rattle.std.proofs.lemmas.List.{length-set, length-take-le, take-set-le, get_or-set_other, get_or_default, same_lists}
use Rattle.std.proofs.ByRecursion.{All-set}
use Rattle.std.proofs.lemmas.Bool.{cases_lt, lt-ltb, cond-true, cond-false, le-ltb}
use Rattle.byte_lists.specs.Bytes.{Bytes, part}
use Rattle.byte_lists.proofs.Parts.{get_d_part, length_part, part_of_front}
use Rattle.device.specs.Meanings.{endless, good, Whole}
use Rattle.memory.specs.Memories.{memory, fitting}
use Rattle.file.specs.declared.extents.Extent.{Extent}
use Rattle.lookup_runs.specs.Runs.{Keeps}
use Rattle.lookup_changing.specs.Flips.{beside, flipped}

-- a part of a list in which one byte elsewhere is set
part_set : (xs : List ℕ) (p v s n : ℕ) → (p < s) ⊎ (s + n ≤ p) → part (set xs p v) s n ≡ part xs s n
part_set xs p v s n o =
    let q : length (part (set xs p v) s n) ≡ length (part xs s n) =
    length_part (set xs p v) s n ∙ ap (λ (k : ℕ). min n (k - s)) (length-set xs p v) ∙ sym (length_part xs s n) in
    same_lists _ _ q (λ j d l.
    let b : j < n = let w = length_part (set xs p v) s n in omega arith in
    let ne : s + j ≡ p → ⊥ = λ z. ⊎_elim (λ (a : p < s). omega arith) (λ (a : s + n ≤ p). omega arith) o in
    get_or_default (part (set xs p v) s n) j d 0 l ∙ get_d_part (set xs p v) s n j b ∙ get_or-set_other xs p (s + j) v 0 ne
    ∙ sym (get_d_part xs s n j b) ∙ get_or_default (part xs s n) j 0 d (omega arith))

keeps_set : (xs : List ℕ) (p v : ℕ) (e : Extent) → (p < e.start) ⊎ (e.start + e.len ≤ p) → Keeps e (memory xs true endless) (memory (set xs p v) true endless)
keeps_set xs p v e o = λ r.
    let on : e.start + e.len ≤ 512 * fitting (set xs p v) =
    subst (λ (n : ℕ). e.start + e.len ≤ 512 * min (n / 512) 8388607) (sym (length-set xs p v)) r.on in (
      record { on = on; power = refl; bytes = λ j l. refl },
      part_of_front (set xs p v) e.start e.len (512 * fitting (set xs p v)) on ∙ part_set xs p v e.start e.len o
          ∙ sym (part_of_front xs e.start e.len (512 * fitting xs) r.on),
    )

-- the place beside an extent is outside
outside : (e : Extent) → (beside e < e.start) ⊎ (e.start + e.len ≤ beside e)
outside e =
    ⊎_elim
    (λ (l : 0 < e.start). inl (rw (cond-true (ltb 0 e.start) 0 (e.start + e.len) (lt-ltb 0 e.start l)) l))
    (λ (l : e.start ≤ 0). inr (rw (cond-false (ltb 0 e.start) 0 (e.start + e.len) (le-ltb 0 e.start l)) (omega arith)))
    (cases_lt 0 e.start)

pub keeps_flipped : (xs : List ℕ) (e : Extent) → Keeps e (memory xs true endless) (memory (flipped xs (beside e)) true endless)
keeps_flipped xs e = keeps_set xs (beside e) (255 - get_or xs (beside e) 0) e (outside e)

-- a front stays bytes where one is set
front_bytes : (xs : List ℕ) (p v n : ℕ) → v < 256 → Bytes (take n xs) → Bytes (take n (set xs p v))
front_bytes xs p v n l b =
    ⊎_elim
    (λ (h : p < n). subst Bytes (sym (take-set-lt n xs p v h)) (All-set (λ k. k < 256) (take n xs) p v l b))
    (λ (h : n ≤ p). subst Bytes (sym (take-set-le n xs p v h)) b)
    (cases_lt p n)

-- memory in which a byte is set has the sectors that it had, and is whole
pub set_fitting : (xs : List ℕ) (p v : ℕ) → fitting xs ≡ fitting (set xs p v)
set_fitting xs p v = ap (λ (n : ℕ). min (n / 512) 8388607) (sym (length-set xs p v))

pub set_whole : (xs : List ℕ) (p v : ℕ) → v < 256 → Whole (memory xs true endless) → Whole (memory (set xs p v) true endless)
set_whole xs p v l w =
    let n : ℕ = fitting xs in
    subst (λ (k : ℕ). Whole (record { sectors = k; bytes = take (512 * k) (set xs p v); condition = λ _. good; power = true; left = endless })) (set_fitting xs p v)
    (record {
      few = w.few;
      long = length-take-le (512 * n) (set xs p v) (omega (arith, length-set xs p v));
      bytes = front_bytes xs p v (512 * n) l w.bytes;
      on = w.on;
    })
