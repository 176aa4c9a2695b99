-- Pages while their device is written.
use Rattle.std.proofs.Common.{◌≡◌, ℕ, ◌+◌, ◌-◌, ◌*◌, ◌/◌, ◌%◌, ◌<◌, ◌≤◌, min, Bool, true, false, cond, ltb, leb, ◌≢◌, List, length, get_or, take, drop, set, Some, None, Ok, Err, Option, sym, refl, ap, ◌∙◌, subst, ⊎_elim, arith, get_or-set_other, get_or-set_same, rules}
use Rattle.std.proofs.lemmas.List.{places, same_lists, get_or_default, length-drop}
use Rattle.std.proofs.lemmas.Bool.{cases_eq, cases_lt, and_parts, ltb-true, leb-true, eq-eqb, eqb-true, both_ways, false≢true, cond-true, cond-false}
use Rattle.faults.specs.declared.device.DeviceFault.{DeviceFault}
use Rattle.faults.specs.declared.device.DeviceFault.TheVariants.{Range}
use Rattle.byte_lists.specs.Bytes.{part, laid}
use Rattle.byte_lists.proofs.Parts.{length_part, get_d_part}
use Rattle.byte_lists.proofs.Laid.{length_laid, before_laid, past_laid, take_laid}
use Rattle.device.specs.Meanings.{Meaning, Writes, Whole, within, refuses, refusal, spent, stored, Cut, Spends, WritesBy, Written}
use Rattle.cache.specs.declared.pages.Page.{Page}
use Rattle.cache.specs.Pages.{page_at, page_of, is_sector, kept, page_for, emptied, EqualTo, AllEqual, after_write}
use Rattle.cache.proofs.Paging.{Fine}

-- the device after a write, off the sector that was written
pub record Off (m : Meaning) (p : ℕ) (m' : Meaning) : Type 0 where
  pub sectors : m'.sectors ≡ m.sectors
  pub long : length m'.bytes ≡ length m.bytes
  pub apart : (k : ℕ) → (k / 512 ≡ p / 512 → ⊥) → get_or m'.bytes k 0 ≡ get_or m.bytes k 0

-- another sector is as it was
same_part : (m m' : Meaning) (p t : ℕ) → Off m p m' → (t ≡ p / 512 → ⊥) → part m'.bytes (512 * t) 512 ≡ part m.bytes (512 * t) 512
same_part m m' p t off ne =
    let n : t ≢ p / 512 = ne in
    let l : length (part m'.bytes (512 * t) 512) ≡ length (part m.bytes (512 * t) 512) =
    length_part m'.bytes (512 * t) 512 ∙ ap (λ (q : ℕ). min 512 (q - 512 * t)) off.long ∙ sym (length_part m.bytes (512 * t) 512) in
    same_lists _ _ l (λ k d i.
    let b : k < 512 = omega (arith, length_part m'.bytes (512 * t) 512) in
    let i' : k < length (part m.bytes (512 * t) 512) = omega arith in
    let far : (512 * t + k) / 512 ≢ p / 512 = omega arith in
    get_or_default (part m'.bytes (512 * t) 512) k d 0 i ∙ get_d_part m'.bytes (512 * t) 512 k b ∙ off.apart (512 * t + k) far
    ∙ sym (get_d_part m.bytes (512 * t) 512 k b) ∙ sym (get_or_default (part m.bytes (512 * t) 512) k d 0 i'))

-- a page of another sector stays equal to it
fine_off : (m m' : Meaning) (p k : ℕ) (o : Option ℕ) (bytes : List ℕ) → Off m p m' → EqualTo m k o bytes → (o ≡ Some (p / 512) → ⊥) → EqualTo m' k o bytes
fine_off m m' p k None bytes off e ne = tt
fine_off m m' p k (Some t) bytes off e ne =
    (e.0, e.1, subst (λ (n : ℕ). t < n) (sym off.sectors) e.2, e.3 ∙ sym (same_part m m' p t off (λ q. ne (ap (λ (n : ℕ). Some n) q))))

belongs : (m : Meaning) (k : ℕ) (o : Option ℕ) (bytes : List ℕ) (s : ℕ) → EqualTo m k o bytes → o ≡ Some s → k ≡ s % 8
belongs m k None bytes s e q = absurd (let z : ◌≡◌ {A = ℕ} 0 1 = cc in omega arith)
belongs m k (Some t) bytes s e q = let z : t ≡ s = cc in sym e.1 ∙ ap (λ (n : ℕ). n % 8) z

is_it : (o : Option ℕ) (s : ℕ) → o ≡ Some s → is_sector o s ≡ true
is_it o s e = ap (λ (q : Option ℕ). is_sector q s) e ∙ eq-eqb s s refl

-- no page keeps the sector that was written: the pages stay
pub all_off : (m m' : Meaning) (p : ℕ) (pages : List Page) → Off m p m' → AllEqual m pages → kept pages (p / 512) ≡ false → AllEqual m' pages
all_off m m' p pages off all free k h =
    fine_off m m' p k (page_at pages k).sector (page_at pages k).bytes off (all k h)
    (λ e. let b : k ≡ p / 512 % 8 = belongs m k _ (page_at pages k).bytes (p / 512) (all k h) e in
    both_ways (kept pages (p / 512)) free (is_it _ (p / 512) (ap (λ (j : ℕ). (page_at pages j).sector) (sym b) ∙ e)))

-- the page of the sector that was written changes, and equals its sector again
pub all_changed :
    (m m' : Meaning) (p : ℕ) (pages : List Page) (new : Page) → Off m p m' → AllEqual m pages → length pages ≡ 8 → Fine m' (p / 512 % 8) new
    → AllEqual m' (set pages (p / 512 % 8) new)
all_changed m m' p pages new off all l fine k h =
    ⊎_elim
    (λ q. let i : p / 512 % 8 < length pages = omega arith in
    subst (λ (j : ℕ). Fine m' j (page_at (set pages (p / 512 % 8) new) j)) (sym q) (subst (Fine m' (p / 512 % 8)) (sym (get_or-set_same pages (p / 512 % 8) new _ i)) fine))
    (λ ne. let n : k ≢ p / 512 % 8 = ne in
    subst (Fine m' k) (sym (get_or-set_other pages (p / 512 % 8) k new _ n))
    (fine_off m m' p k (page_at pages k).sector (page_at pages k).bytes off (all k h) (λ e. ne (belongs m k _ (page_at pages k).bytes (p / 512) (all k h) e))))
    (cases_eq k (p / 512 % 8))

drop_laid : (xs : List ℕ) (q r : ℕ) (ys : List ℕ) → (q + r) + length ys ≤ length xs → drop q (laid xs (q + r) ys) ≡ laid (drop q xs) r ys
drop_laid xs q r ys h = same_lists _ _ (search (rules, places)) (λ k d l. grind (arith, places))

-- a piece laid over a sector's page, and over the sector
pub laid_part :
    (xs ys : List ℕ) (p : ℕ) → 512 * (p / 512) + 512 ≤ length xs → p % 512 + length ys ≤ 512
    → laid (part xs (512 * (p / 512)) 512) (p % 512) ys ≡ part (laid xs p ys) (512 * (p / 512)) 512
laid_part xs ys p h b =
    let q : ℕ = 512 * (p / 512) in
    let e : q + p % 512 ≡ p = omega arith in
    let l : 512 ≤ length (drop q xs) = omega (arith, length-drop q xs) in
    sym (take_laid (drop q xs) (p % 512) ys 512 l b)
    ∙ ap (take 512) (sym (drop_laid xs q (p % 512) ys (omega arith)) ∙ ap (λ (j : ℕ). drop q (laid xs j ys)) e)

off_stored : (m : Meaning) (p : ℕ) (ys : List ℕ) (w : Writes) → p % 512 + length ys ≤ 512 → p + length ys ≤ length m.bytes → Off m p (stored m p ys w)
off_stored m p ys w inner fit =
    record {
      sectors = refl;
      long = length_laid m.bytes p ys fit;
      apart = λ j ne.
          let n : j / 512 ≢ p / 512 = ne in
          ⊎_elim (λ lt. before_laid m.bytes p ys j fit lt) (λ ge. let g : p + length ys ≤ j = omega arith in past_laid m.bytes p ys j fit g) (cases_lt j p);
    }

off_cut : (m m' : Meaning) (p : ℕ) (ys : List ℕ) → Cut m p ys m' → Off m p m'
off_cut m m' p ys cut = record { sectors = cut.sectors; long = cut.bytes.long; apart = cut.bytes.apart }

-- what a piece inside the device is
pub fits_in : (n p k : ℕ) → within n p k ≡ true → (0 < k) × (p % 512 + k ≤ 512) × (p + k ≤ 512 * n)
fits_in n p k h =
    let a = and_parts (ltb 0 k) _ h in
    let b = and_parts (leb (p % 512 + k) 512) _ a.1 in
    (ltb-true 0 k a.0, leb-true _ _ b.0, leb-true _ _ b.1)

free_by : (b : Bool) (o : Option DeviceFault) (f : DeviceFault) → cond b o (Some f) ≡ None → b ≡ true
free_by true o f e = refl
free_by false o f e = absurd (let z : ◌≡◌ {A = ℕ} 0 1 = cc in omega arith)

free_within : (m : Meaning) (p n : ℕ) → refusal m p n ≡ None → within m.sectors p n ≡ true
free_within m p n e = free_by (within m.sectors p n) (refuses m (p / 512)) Range e

-- the pages after a write, and that they equal their sectors
pub record Mended (o : Option Writes) (m' : Meaning) (s : ℕ) (pages new : List Page) : Type 0 where
  pub after : new ≡ after_write None o m' s pages
  pub all : AllEqual m' new

-- a kept page with the piece laid over it
kept_page :
    (m : Meaning) (k : ℕ) (o : Option ℕ) (bytes : List ℕ) (s : ℕ) → EqualTo m k o bytes → is_sector o s ≡ true
    → (0 < s) × (s % 8 ≡ k) × (s < m.sectors) × (bytes ≡ part m.bytes (512 * s) 512)
kept_page m k None bytes s e h = absurd (false≢true h)
kept_page m k (Some t) bytes s e h = subst (λ (n : ℕ). EqualTo m k (Some n) bytes) (eqb-true t s h) e

updated : List Page → ℕ → List ℕ → Page
updated pages p ys = record { sector = Some (p / 512); bytes = laid (page_of pages (p / 512)).bytes (p % 512) ys }

done_by :
    (b : Bool) (m m' : Meaning) (p : ℕ) (ys : List ℕ) (w : Writes) (pages new : List Page) → Whole m → p % 512 + length ys ≤ 512
    → p + length ys ≤ 512 * m.sectors → 0 < length ys → m' ≡ stored m p ys w → AllEqual m pages → length pages ≡ 8 → kept pages (p / 512) ≡ b
    → new ≡ cond b (set pages (p / 512 % 8) (updated pages p ys)) pages → Mended (Some w) m' (p / 512) pages new
unfolding updated
done_by true m m' p ys w pages new whole inner fit some e all l k n =
    let s : ℕ = p / 512 in
    let off : Off m p m' = subst (Off m p) (sym e) (off_stored m p ys w inner (omega (arith, whole.long))) in
    let page = kept_page m (s % 8) (page_of pages s).sector (page_of pages s).bytes s (all (s % 8) (omega arith)) k in
    let bytes : laid (page_of pages s).bytes (p % 512) ys ≡ part m'.bytes (512 * s) 512 =
    ap (λ (z : List ℕ). laid z (p % 512) ys) page.3 ∙ laid_part m.bytes ys p (omega (arith, whole.long)) inner
    ∙ ap (λ (z : Meaning). part z.bytes (512 * s) 512) (sym e) in
    let is : new ≡ set pages (s % 8) (page_for m' s) =
    n ∙ ap (λ (z : List ℕ). set pages (s % 8) (record { sector = Some s; bytes = z })) bytes in
    let low : s < m'.sectors = omega (arith, off.sectors, page.2) in
    record {
      after = is ∙ sym (cond-true (kept pages s) (set pages (s % 8) (page_for m' s)) pages k);
      all = subst (AllEqual m') (sym is) (all_changed m m' p pages (page_for m' s) off all l (page.0, refl, low, refl));
    }
done_by false m m' p ys w pages new whole inner fit some e all l k n =
    let off : Off m p m' = subst (Off m p) (sym e) (off_stored m p ys w inner (omega (arith, whole.long))) in
    record {
      after = n ∙ sym (cond-false (kept pages (p / 512)) (set pages (p / 512 % 8) (page_for m' (p / 512))) pages k);
      all = subst (AllEqual m') (sym n) (all_off m m' p pages off all k);
    }

done_spends :
    (o : Option Writes) (m m' : Meaning) (p : ℕ) (ys : List ℕ) (pages new : List Page) → Whole m → within m.sectors p (length ys) ≡ true
    → Spends o m p ys (Ok tt) m' → AllEqual m pages → length pages ≡ 8
    → new ≡ cond (kept pages (p / 512)) (set pages (p / 512 % 8) (updated pages p ys)) pages → Mended o m' (p / 512) pages new
done_spends None m m' p ys pages new whole h e all l n = absurd (let r = e.0 in let z : ◌≡◌ {A = ℕ} 0 1 = cc in omega arith)
done_spends (Some w) m m' p ys pages new whole h e all l n =
    let f = fits_in m.sectors p (length ys) h in
    done_by (kept pages (p / 512)) m m' p ys w pages new whole f.1 f.2 f.0 e.1 all l refl n

cut_spends :
    (o : Option Writes) (m m' : Meaning) (p : ℕ) (ys : List ℕ) (f : DeviceFault) (pages new : List Page)
    → Spends o m p ys (Err f) m' → AllEqual m pages → length pages ≡ 8
    → new ≡ set pages (p / 512 % 8) (emptied (page_of pages (p / 512))) → Mended o m' (p / 512) pages new
cut_spends None m m' p ys f pages new e all l n =
    record {
      after = n;
      all = subst (AllEqual m') (sym n) (all_changed m m' p pages (emptied (page_of pages (p / 512))) (off_cut m m' p ys e.1) all l tt);
    }
cut_spends (Some w) m m' p ys f pages new e all l n = absurd (let r = e.0 in let z : ◌≡◌ {A = ℕ} 0 1 = cc in omega arith)

-- a write that is done mends the pages
pub done_mends :
    (m m' : Meaning) (p : ℕ) (ys : List ℕ) (pages new : List Page) → Whole m → refusal m p (length ys) ≡ None → Written m p ys (Ok tt) m'
    → AllEqual m pages → length pages ≡ 8
    → new ≡ cond (kept pages (p / 512)) (set pages (p / 512 % 8) (record { sector = Some (p / 512); bytes = laid (page_of pages (p / 512)).bytes (p % 512) ys })) pages
    → Mended (spent m.left) m' (p / 512) pages new
unfolding updated
done_mends m m' p ys pages new whole free e all l n =
    done_spends (spent m.left) m m' p ys pages new whole (free_within m p (length ys) free)
    (subst (λ (o : Option DeviceFault). WritesBy o m p ys (Ok tt) m') free e) all l n

-- a cut mends the pages
pub cut_mends :
    (m m' : Meaning) (p : ℕ) (ys : List ℕ) (f : DeviceFault) (pages new : List Page) → refusal m p (length ys) ≡ None → Written m p ys (Err f) m'
    → AllEqual m pages → length pages ≡ 8 → new ≡ set pages (p / 512 % 8) (emptied (page_of pages (p / 512)))
    → Mended (spent m.left) m' (p / 512) pages new
cut_mends m m' p ys f pages new free e all l n =
    cut_spends (spent m.left) m m' p ys f pages new (subst (λ (o : Option DeviceFault). WritesBy o m p ys (Err f) m') free e) all l n
