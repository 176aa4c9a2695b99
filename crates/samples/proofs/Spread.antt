-- The positions of tables that abut, by the slots before them.
use Rattle.std.proofs.Common.{◌≡◌, ℕ, zero, suc, ◌+◌, ◌-◌, ◌*◌, ◌<◌, List, length, refl, ap, ◌∙◌, arith}
use Rattle.cdb.specs.Files.{position, slot_count, ends}
use Rattle.cdb.specs.Rules.{Each, Rule2}
use Rattle.cdb.specs.Verdicts.{slots_below}

below_none : (f : List ℕ) → slots_below f 0 ≡ 0
unfolding slots_below
below_none f = refl

below_more : (f : List ℕ) (t : ℕ) → slots_below f (suc t) ≡ slots_below f t + slot_count f t
unfolding slots_below
below_more f t = refl

-- no slots below a table before which no table has any
pub below_zero : (f : List ℕ) (n : ℕ) → ((t : ℕ) → t < n → slot_count f t ≡ 0) → slots_below f n ≡ 0
below_zero f zero h = below_none f
below_zero f (suc n) h = omega (arith, below_more f n, below_zero f n (λ t l. h t (omega arith)), h n (omega arith))

module _ (f : List ℕ) (entries : Each (Rule2 f)) where
  pub position_after : (t : ℕ) → t < 256 → position f t ≡ position f 0 + 8 * slots_below f t
  position_after zero l = omega (arith, below_none f)
  position_after (suc t) l =
      let z : suc t - 1 ≡ t = omega arith in
      let a : position f (suc t) ≡ ends f t = (entries (suc t) l).abuts (omega arith) ∙ ap (ends f) z in
      let r = position_after t (omega arith) in
      omega (arith, below_more f t)

  pub length_after : length f ≡ position f 0 + 8 * slots_below f 256
  length_after = omega (arith, (entries 255 (omega arith)).last refl, position_after 255 (omega arith), below_more f 255)
