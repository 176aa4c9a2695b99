-- Pages that equal their sectors.
use Rattle.std.proofs.Common.{◌≡◌, ℕ, ◌+◌, ◌*◌, ◌/◌, ◌%◌, ◌<◌, ◌≤◌, true, ◌≢◌, List, length, set, is_ok, Some, None, Option, Result, sym, refl, ap, ◌∙◌, subst, ⊎_elim, arith, get_or-set_other, get_or-set_same}
use Rattle.std.proofs.lemmas.Bool.{cases_eq, false≢true}
use Rattle.byte_lists.specs.Bytes.{part}
use Rattle.byte_lists.proofs.Parts.{part_in}
use Rattle.faults.specs.declared.device.DeviceFault.{DeviceFault}
use Rattle.device.specs.Meanings.{Meaning, answer, filled}
use Rattle.cache.specs.declared.pages.Page.{Page}
use Rattle.cache.specs.Pages.{page_at, page_for, EqualTo, AllEqual}

-- a piece of a page that equals its sector
pub page_part :
    (xs bytes : List ℕ) (place n : ℕ) → bytes ≡ part xs (512 * (place / 512)) 512 → place % 512 + n ≤ 512
    → part bytes (place % 512) n ≡ part xs place n
page_part xs bytes place n e h =
    let q : 512 * (place / 512) + place % 512 ≡ place = omega arith in
    ap (λ (ys : List ℕ). part ys (place % 512) n) e ∙ part_in xs (512 * (place / 512)) 512 (place % 512) n h
    ∙ ap (λ (j : ℕ). part xs j n) q

-- a page's fact
abbrev pub Fine : Meaning → ℕ → Page → Type 0
Fine m k p = EqualTo m k p.sector p.bytes

-- where one page changes and is fine, all pages stay so
pub all_set :
    (m : Meaning) (pages : List Page) (i : ℕ) (p : Page) → AllEqual m pages → i < length pages → Fine m i p → AllEqual m (set pages i p)
all_set m pages i p all l fine k h =
    ⊎_elim
    (λ q. subst (λ (j : ℕ). Fine m j (page_at (set pages i p) j)) (sym q) (subst (Fine m i) (sym (get_or-set_same pages i p _ l)) fine))
    (λ ne. let n : k ≢ i = ne in subst (Fine m k) (sym (get_or-set_other pages i k p _ n)) (all k h))
    (cases_eq k i)

pub all_filled :
    (m : Meaning) (pages : List Page) (s : ℕ) → AllEqual m pages → length pages ≡ 8 → 0 < s → s < m.sectors
    → AllEqual m (set pages (s % 8) (page_for m s))
all_filled m pages s all l pos low = all_set m pages (s % 8) (page_for m s) all (omega arith) (pos, refl, low, refl)

-- a read that is done has filled its piece
pub read_done :
    (o : Option DeviceFault) (r : Result (Unit {0}) DeviceFault) (new old piece : List ℕ) → r ≡ answer o → is_ok r ≡ true → piece ≡ filled o new old
    → piece ≡ new
read_done None r new old piece a k e = e
read_done (Some f) r new old piece a k e = absurd (false≢true (sym (ap is_ok a) ∙ k))
