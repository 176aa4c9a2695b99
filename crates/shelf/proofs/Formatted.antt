-- The file without records, then the root before it.
use Rattle.std.proofs.Common.{◌≡◌, ℕ, ◌+◌, ◌*◌, ◌<◌, ◌≤◌, List, ◌++◌, length, take, drop, Ok, sym, ap, ◌∙◌, subst, ⊎_elim, arith, take-add}
use Rattle.std.proofs.lemmas.List.{length-append, length-take-le, length-drop, append_assoc, take_at, drop_at, drop-drop}
use Rattle.std.proofs.lemmas.Bool.{cases_lt}
use Rattle.byte_lists.specs.Bytes.{laid}
use Rattle.device.specs.Meanings.{Meaning, Whole, Written}
use Rattle.writing.specs.Runs.{Completed}
use Rattle.writing.proofs.Keeping.{used_both}
use Rattle.writing.proofs.Running.{piece_runs, bad_after}
use Rattle.building.specs.Empty.{empty_file}
use Rattle.building.proofs.Emptied.{empty_long}
use Rattle.areas.proofs.Rooted.{root_long}
use Rattle.shelf.specs.Formats.{new_root}
use Rattle.areas.specs.declared.area.Area.TheVariants.{Zero}

-- what is laid first stands behind what is laid then
laid_before : (xs : List ℕ) (p : ℕ) (us vs : List ℕ) → p + (length us + length vs) ≤ length xs → laid (laid xs (p + length us) vs) p us ≡ laid xs p (us ++ vs)
laid_before xs p us vs h =
    let u : ℕ = length us in
    let a : List ℕ = take p xs in
    let M : List ℕ = take u (drop p xs) in
    let R : List ℕ = drop (length vs) (drop (p + u) xs) in
    let la : length a ≡ p = length-take-le p xs (omega arith) in
    let l_m : length M ≡ u = length-take-le u (drop p xs) (omega (arith, length-drop p xs)) in
    let e : laid xs (p + u) vs ≡ a ++ (M ++ (vs ++ R)) = ap (λ (q : List ℕ). q ++ (vs ++ R)) (take-add p u xs) ∙ append_assoc a M (vs ++ R) in
    let t : take p (laid xs (p + u) vs) ≡ a = ap (take p) e ∙ take_at a (M ++ (vs ++ R)) p la in
    let d : drop p (laid xs (p + u) vs) ≡ M ++ (vs ++ R) = ap (drop p) e ∙ drop_at a (M ++ (vs ++ R)) p la in
    let f : drop u (M ++ (vs ++ R)) ≡ vs ++ R = drop_at M (vs ++ R) u l_m in
    let z : length vs + (p + u) ≡ length us + length vs + p = omega arith in
    let r : R ≡ drop (length (us ++ vs)) (drop p xs) =
    drop-drop (length vs) (p + u) xs ∙ ap (λ (q : ℕ). drop q xs) (omega (arith, length-append us vs)) ∙ sym (drop-drop (length (us ++ vs)) p xs) in
    ap (λ (q : List ℕ). q ++ (us ++ drop u (drop p (laid xs (p + u) vs)))) t
    ∙ ap (λ (q : List ℕ). a ++ (us ++ drop u q)) d
    ∙ ap (λ (q : List ℕ). a ++ (us ++ q)) f
    ∙ ap (λ (q : List ℕ). a ++ q) (sym (append_assoc us vs R))
    ∙ ap (λ (q : List ℕ). a ++ ((us ++ vs) ++ q)) r

completed_before : (m k n : Meaning) (p : ℕ) (us vs : List ℕ) → p + (length us + length vs) ≤ length m.bytes → 0 < length us → 0 < length vs
    → Completed m (p + length us) vs k → Completed k p us n → Completed m p (us ++ vs) n
completed_before m k n p us vs h i j w v =
    let l : length (us ++ vs) ≡ length us + length vs = length-append us vs in
    record {
      sectors = v.sectors ∙ w.sectors;
      bytes = v.bytes ∙ ap (λ (q : List ℕ). laid q p us) w.bytes ∙ laid_before m.bytes p us vs h;
      condition = v.condition ∙ w.condition;
      power = v.power ∙ w.power;
      left = used_both m.left k.left n.left (length vs) (length us) (length (us ++ vs)) (omega arith) w.left v.left;
      on = λ x. w.on j;
      good = λ s t. ⊎_elim
          (λ b. sym (bad_after m k s w.condition) ∙ v.good s (i, t.1, b))
          (λ b. w.good s (j, omega arith, omega (arith, t.2)))
          (cases_lt (512 * s) (p + length us));
      none = λ e. absurd (omega arith);
    }

pub formatted : (m k n : Meaning) → Whole m → 9 ≤ m.sectors → Completed m 512 empty_file k → Written k 0 new_root (Ok tt) n → Completed m 0 (new_root ++ empty_file) n
formatted m k n w nine file root =
    let lr : length new_root ≡ 512 = root_long Zero 2048 in
    let le = empty_long in
    let long : length m.bytes ≡ 512 * m.sectors = w.long in
    let s : k.sectors ≡ m.sectors = file.sectors in
    let P : ℕ → Type 0 = λ q. Completed m q empty_file k in
    let z : 512 ≡ 0 + length new_root = omega arith in
    let r : Completed k 0 new_root n = piece_runs k 0 new_root (Ok tt) n (omega arith) (omega arith) (omega arith) root in
    completed_before m k n 0 new_root empty_file (omega arith) (omega arith) (omega arith) (subst P z file) r
