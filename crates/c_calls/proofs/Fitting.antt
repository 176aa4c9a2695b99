-- A file that fits in memory can be read there, and is the front of the memory.
use Rattle.std.proofs.Common.{◌≡◌, ℕ, ◌*◌, ◌<◌, ◌≤◌, true, List, take, drop, Ok, Err, Option, Result, sym, refl, ap, ◌∙◌, subst, inr, ⊎_elim, arith}
use Rattle.std.proofs.lemmas.List.{take-take}
use Rattle.std.proofs.lemmas.Bool.{cases_lt}
use Rattle.faults.specs.declared.file.FileFault.{FileFault}
use Rattle.faults.specs.declared.file.FileFault.TheVariants.{Range}
use Rattle.device.specs.Meanings.{Meaning, endless}
use Rattle.memory.specs.Memories.{memory, fitting}
use Rattle.cdb.specs.Records.{Record}
use Rattle.cdb.specs.Rules.{Lawful}
use Rattle.cdb.specs.Verdicts.{Judged}
use Rattle.file.specs.declared.extents.Extent.{Extent}
use Rattle.file.specs.Extents as extents
use Rattle.file.specs.Extents.{MakesExtent, On, file, Readable, Unreadable}
use Rattle.auditing.specs.declared.audits.Counts.{Counts}
use Rattle.auditing.specs.Audits.{verdict, Audited}
use Rattle.auditing.proofs.Answering.{not_both, only_answer}
use Rattle.lookup.specs.declared.cursors.Found.{Found}
use Rattle.lookup.specs.Starts as starts
use Rattle.lookup_nth.specs.Nths as nths
use Rattle.lookup_nth.specs.Nths.{Nth, NthGivesRecord}
use Rattle.c_calls.specs.InMemory.{Fits, AuditsMemory, FindsInMemory, FindGivesRecord}

pub extent_is : (r : Result Extent FileFault) (e : Extent) (len : ℕ) → r ≡ Ok e → MakesExtent 0 len r → (e.start ≡ 0) × (e.len ≡ len)
extent_is r e len q h = let k = subst (MakesExtent 0 len) q h in (k.0, k.1)

module _ (xs : List ℕ) (e : Extent) (start : e.start ≡ 0) where
  abbrev m : Meaning
  m = memory xs true endless

  readable : Fits xs e.len → Readable m e
  readable fits = record { on = omega (arith, start, fits); power = refl; bytes = λ j l. refl }

  same : Fits xs e.len → file m e ≡ take e.len xs
  same fits = ap (λ (s : ℕ). take e.len (drop s (take (512 * fitting xs) xs))) start ∙ take-take e.len (512 * fitting xs) xs fits

  judged : (r : Result Counts FileFault) → Fits xs e.len → Audited m e r → Judged (take e.len xs) (verdict r)
  judged (Ok c) fits h = subst (λ (f : List ℕ). Judged f (verdict (Ok c))) (same fits) h.1
  judged (Err f) fits h =
      ⊎_elim (λ u. absurd (not_both m e f (readable fits) u)) (λ j. subst (λ (z : List ℕ). Judged z (verdict (Err f))) (same fits) j.1) h

  -- the verdict on the bytes is the audit's answer on this memory
  audited : (r : Result Counts FileFault) → Fits xs e.len → Judged (take e.len xs) (verdict r) → Audited m e r
  audited (Ok c) fits j = (readable fits, subst (λ (f : List ℕ). Judged f (verdict (Ok c))) (sym (same fits)) j)
  audited (Err f) fits j = inr (readable fits, subst (λ (z : List ℕ). Judged z (verdict (Err f))) (sym (same fits)) j)

  module _ (off : On m e → ⊥) where
    unread : (f : FileFault) → Unreadable m e f → ◌≡◌ {A = Result Counts FileFault} (Err f) (Err Range)
    unread f (extents.outside a) = refl
    unread f (extents.no_power on a) = absurd (off on)
    unread f (extents.bad_sector on a b) = absurd (off on)

    no_audit : (r : Result Counts FileFault) → Audited m e r → r ≡ Err Range
    no_audit (Ok c) h = absurd (off h.0.on)
    no_audit (Err f) h = ⊎_elim (λ u. unread f u) (λ j. absurd (off j.0.on)) h

    no_find : (key : List ℕ) (n : ℕ) (r : Result (Option Found) FileFault) → Nth m e key n r → r ≡ Err Range
    no_find key n r (nths.no_start (starts.outside a)) = refl
    no_find key n r (nths.no_start (starts.short on l)) = absurd (off on)
    no_find key n r (nths.no_start (starts.entry_bad on l b)) = absurd (off on)
    no_find key n r (nths.started (starts.started on l b) x) = absurd (off on)

  no_fit : (Fits xs e.len → ⊥) → On m e → ⊥
  no_fit long on = long (omega (arith, start, on))

-- so for a device that means such memory
module _ (xs : List ℕ) (d : Meaning) (means : d ≡ memory xs true endless) (e : Extent) (len : ℕ) (start : e.start ≡ 0) (long : e.len ≡ len) where
  pub audits : (r : Result Counts FileFault) → Audited d e r → AuditsMemory xs len r
  audits r h =
      let a : Audited (memory xs true endless) e r = subst (λ (k : Meaning). Audited k e r) means h in
      subst (λ (n : ℕ). AuditsMemory xs n r) long ((λ fits. judged xs e start r fits a), (λ over. no_audit xs e start (no_fit xs e start over) r a))

  pub finds : (key : List ℕ) (n : ℕ) (r : Result (Option Found) FileFault) → Nth d e key n r → FindsInMemory xs len key n r
  finds key n r h =
      let a : Nth (memory xs true endless) e key n r = subst (λ (k : Meaning). Nth k e key n r) means h in
      ((λ fits. (e, start, long, a)), (λ over. no_find xs e start (no_fit xs e start (subst (λ (k : ℕ). Fits xs k → ⊥) (sym long) over)) key n r a))

  pub gives : (key : List ℕ) (n : ℕ) (r : Result (Option Found) FileFault) → NthGivesRecord d e key n r → FindGivesRecord xs len key n r
  gives key n r h =
      let a : NthGivesRecord (memory xs true endless) e key n r = subst (λ (k : Meaning). NthGivesRecord k e key n r) means h in
      subst (λ (k : ℕ). FindGivesRecord xs k key n r) long
      (λ (rs : List Record) fits law. a rs (readable xs e start fits) (subst (λ (f : List ℕ). Lawful f rs) (sym (same xs e start fits)) law))

-- one answer fits
pub one_audit : (xs : List ℕ) (len : ℕ) (r s : Result Counts FileFault) → AuditsMemory xs len r → AuditsMemory xs len s → s ≡ r
one_audit xs len r s a b =
    ⊎_elim
    (λ (over : 512 * fitting xs < len). let off : Fits xs len → ⊥ = λ fits. omega (arith, over, fits) in b.1 off ∙ sym (a.1 off))
    (λ (fits : len ≤ 512 * fitting xs).
    let e : Extent = record { start = 0; len = len; bounded = omega (arith, fits) } in
    only_answer (m xs e refl) e r s (audited xs e refl r fits (a.0 fits)) (audited xs e refl s fits (b.0 fits)))
    (cases_lt (512 * fitting xs) len)
