-- A range that can be read, sector by sector.
use Rattle.std.proofs.Common.{◌≡◌, ℕ, ◌+◌, ◌-◌, ◌*◌, ◌/◌, ◌<◌, ◌≤◌, Bool, true, false, cond, Some, None, refl, subst, arith}
use Rattle.faults.specs.declared.device.DeviceFault.{DeviceFault}
use Rattle.faults.specs.declared.device.DeviceFault.TheVariants.{Power, Bad}
use Rattle.device.specs.Meanings.{Meaning, is_bad, refuses}
use Rattle.file.specs.Ranges.{Reads, AllRead}
use Rattle.writing.specs.Runs.{Touches}

by_cases : (on bad : Bool) (f : DeviceFault) → cond on (cond bad (Some f) None) (Some Power) ≡ None → (on ≡ true) × (bad ≡ false)
by_cases true true f e = absurd cc
by_cases true false f e = (refl, refl)
by_cases false bad f e = absurd cc

-- a sector that is not refused has power and is good
pub not_refused : (m : Meaning) (s : ℕ) → refuses m s ≡ None → (m.power ≡ true) × (is_bad m s ≡ false)
not_refused m s e = by_cases m.power (is_bad m s) (Bad (512 * s)) e

pub range_on : (m : Meaning) (p n : ℕ) → 0 < n → AllRead m p n → m.power ≡ true
range_on m p n l r = (not_refused m ((p + 0) / 512) (r 0 l)).0

-- its sectors are good
pub range_good : (m : Meaning) (p n : ℕ) → AllRead m p n → (s : ℕ) → Touches p n s → is_bad m s ≡ false
range_good m p n r s t =
    let j : ℕ = 512 * s - p in
    let a : p / 512 ≤ s = t.1 in
    let b : 512 * s < p + n = t.2 in
    let c : 0 < n = t.0 in
    let z : (p + j) / 512 ≡ s = omega arith in
    let l : j < n = omega arith in
    subst (λ (q : ℕ). is_bad m q ≡ false) z (not_refused m ((p + j) / 512) (r j l)).1

-- a range whose sectors are good can be read
pub good_range : (m : Meaning) (p n : ℕ) → (0 < n → m.power ≡ true) → ((s : ℕ) → Touches p n s → is_bad m s ≡ false) → AllRead m p n
good_range m p n on good j l =
    let b : is_bad m ((p + j) / 512) ≡ false = good ((p + j) / 512) (omega arith, omega arith, omega arith) in
    let o : m.power ≡ true = on (omega arith) in
    rw (o, b)

-- a part of it
pub range_part : (m : Meaning) (p n q k : ℕ) → p ≤ q → q + k ≤ p + n → AllRead m p n → AllRead m q k
range_part m p n q k h l r j b =
    let z : p + (q - p + j) ≡ q + j = omega arith in
    subst (Reads m) z (r (q - p + j) (omega arith))
