-- One answer fits, and it accepts exactly what is made.
use Rattle.std.proofs.Common.{◌≡◌, ℕ, ◌+◌, ◌/◌, ◌^◌, ◌<◌, ◌≤◌, Bool, true, false, cond, eqb, List, [], ◌∷◌, length, Some, Ok, Err, Result, sym, refl, ap, ◌∙◌, ⊎_elim, arith}
use mathlib.Core.Bool.{false≢true}
use Rattle.std.specs.List.{AllByRecursion}
use Rattle.std.proofs.lemmas.Bool.{cases_lt}
use Rattle.byte_lists.specs.Bytes.{Bytes}
use Rattle.byte_lists.proofs.Parts.{part_bytes, length_part}
use Rattle.faults.specs.declared.report.Report.{Report}
use Rattle.faults.specs.declared.device.DeviceFault.{DeviceFault}
use Rattle.faults.specs.declared.device.DeviceFault.TheVariants as device
use Rattle.faults.specs.declared.file.FileFault.{FileFault}
use Rattle.faults.specs.declared.file.FileFault.TheVariants as fault
use Rattle.faults.specs.Reports.{report, located, device_report, file_report}
use Rattle.device.specs.Meanings.{Meaning, Whole, refuses}
use Rattle.cdb.specs.Records.{Record, Item, items}
use Rattle.cdb.specs.Rules.{Rule4, Lawful}
use Rattle.cdb.specs.Verdicts.{Verdict, accepted, refused, slots_below, Probes, Judged, broken_1, broken_2, broken_3, broken_4, broken_5, broken_6, broken_7, broken_8, keeps_all}
use Rattle.cdb.specs.Files.{position}
use Rattle.cdb.proofs.Exactly.{lawful_exactly}
use Rattle.cdb.proofs.FileLookup.{one_reading}
use Rattle.cdb.proofs.OneVerdict.{one_verdict}
use Rattle.file.specs.declared.extents.Extent.{Extent}
use Rattle.file.specs.Ranges.{FirstBad}
use Rattle.file.specs.Extents.{file, Readable, Unreadable, outside, no_power, bad_sector}
use Rattle.file.proofs.Readying.{some_none}
use Rattle.auditing.specs.declared.audits.Counts.{Counts}
use Rattle.auditing.specs.Audits.{verdict, Audited, OnlyAnswer, AcceptedExactlyWhenMade, OneRecordList}

-- the fault of a rule, from how it is told
fault_of : Report → FileFault
fault_of r =
    cond (eqb r.number 1) (fault.Short r.place) (cond (eqb r.number 2) (fault.Entry r.table) (cond (eqb r.number 3) (fault.Record r.place)
    (cond (eqb r.number 4) (fault.Lost r.table r.place) (cond (eqb r.number 5) (fault.Count r.table r.place) (cond (eqb r.number 6) (fault.Full r.table r.place)
    (cond (eqb r.number 7) (fault.Stained r.table r.place) (fault.Order r.table r.place)))))))

device_number : (f : DeviceFault) → (device_report f).number ≤ 8 → ⊥
device_number device.Range h = omega arith
device_number device.Power h = omega arith
device_number (device.Bad p) h = omega arith

fault_back : (f : FileFault) → (file_report f).number ≤ 8 → fault_of (file_report f) ≡ f
unfolding fault_of
fault_back (fault.Device l) h = absurd (device_number l.fault h)
fault_back (fault.Short n) h = refl
fault_back (fault.Entry t) h = refl
fault_back (fault.Record p) h = refl
fault_back (fault.Lost t p) h = refl
fault_back (fault.Count t p) h = refl
fault_back (fault.Full t p) h = refl
fault_back (fault.Stained t p) h = refl
fault_back (fault.Order t p) h = refl
fault_back (fault.Past t p) h = absurd (omega arith)
fault_back fault.Range h = absurd (omega arith)
fault_back fault.OtherKey h = absurd (omega arith)

report_of : Verdict → Report
report_of (accepted a b c) = report 0 0 0
report_of (refused r) = r

counts_of : Verdict → Counts
counts_of (accepted a b c) = record { records = a; slots = b; probes = c }
counts_of (refused r) = record { records = 0; slots = 0; probes = 0 }

is_accepted : Verdict → Bool
is_accepted (accepted a b c) = true
is_accepted (refused r) = false

-- a rule's number is at most 8
rule_number : (f : List ℕ) (v : Verdict) → Judged f v → (report_of v).number ≤ 8
unfolding report_of
rule_number f v (broken_1 h) = omega arith
rule_number f v (broken_2 r1 h) = omega arith
rule_number f v (broken_3 r1 r2 h) = omega arith
rule_number f v (broken_4 rs r1 r2 r3 h) = omega arith
rule_number f v (broken_5 rs r1 r2 r3 r4 h) = omega arith
rule_number f v (broken_6 rs r1 r2 r3 r4 r5 h) = omega arith
rule_number f v (broken_7 rs r1 r2 r3 r4 r5 r6 h k) = omega arith
rule_number f v (broken_8 rs r1 r2 r3 r4 r5 r6 r7 h) = omega arith
rule_number f v (keeps_all rs law h) = omega arith

-- what is known where a file is accepted
abbrev pub Kept : List ℕ → Verdict → Type 0
Kept f (accepted a b n) = (rs : List Record) × Lawful f rs × (a ≡ length rs) × (b ≡ slots_below f 256) × Probes f (items 2048 rs) n
Kept f (refused r) = Unit {0}

pub kept : (f : List ℕ) (v : Verdict) → Judged f v → Kept f v
kept f v (broken_1 h) = tt
kept f v (broken_2 r1 h) = tt
kept f v (broken_3 r1 r2 h) = tt
kept f v (broken_4 rs r1 r2 r3 h) = tt
kept f v (broken_5 rs r1 r2 r3 r4 h) = tt
kept f v (broken_6 rs r1 r2 r3 r4 r5 h) = tt
kept f v (broken_7 rs r1 r2 r3 r4 r5 r6 h k) = tt
kept f v (broken_8 rs r1 r2 r3 r4 r5 r6 r7 h) = tt
kept f v (keeps_all rs law h) = (rs, law, refl, refl, h)

pub never : (f : List ℕ) (a b n : ℕ) (r : Report) → Judged f (accepted a b n) → Judged f (refused r) → ⊥
unfolding is_accepted
never f a b n r h k = false≢true (sym (ap is_accepted (one_verdict f (accepted a b n) (refused r) h k)))

one_bad : (m : Meaning) (p n : ℕ) (f g : DeviceFault) → FirstBad m p n f → FirstBad m p n g → f ≡ g
one_bad m p n f g a b =
    ⊎_elim
    (λ (l : a.k < b.k). absurd (some_none (refuses m ((p + a.k) / 512)) f (b.before a.k l) a.refused))
    (λ (l : b.k ≤ a.k).
    ⊎_elim
    (λ (i : b.k < a.k). absurd (some_none (refuses m ((p + b.k) / 512)) g (a.before b.k i) b.refused))
    (λ (i : a.k ≤ b.k).
    let z : a.k ≡ b.k = omega arith in
    let q : Some f ≡ Some g = sym a.refused ∙ ap (λ (k : ℕ). refuses m ((p + k) / 512)) z ∙ b.refused in
    cc)
    (cases_lt b.k a.k))
    (cases_lt a.k b.k)

module _ (m : Meaning) (e : Extent) where
  one_unreadable : (f g : FileFault) → Unreadable m e f → Unreadable m e g → f ≡ g
  one_unreadable f g (outside a) (outside b) = refl
  one_unreadable f g (outside a) (no_power on b) = absurd (a on)
  one_unreadable f g (outside a) (bad_sector on b h) = absurd (a on)
  one_unreadable f g (no_power on a) (outside b) = absurd (b on)
  one_unreadable f g (no_power on a) (no_power on' b) = refl
  one_unreadable f g (no_power on a) (bad_sector on' b h) = absurd (false≢true (sym a ∙ b))
  one_unreadable f g (bad_sector on a h) (outside b) = absurd (b on)
  one_unreadable f g (bad_sector on a h) (no_power on' b) = absurd (false≢true (sym b ∙ a))
  one_unreadable f g (bad_sector {f = x} on a h) (bad_sector {f = y} on' b k) = ap (λ (z : DeviceFault). fault.Device (located z 256 0)) (one_bad m e.start e.len x y h k)

  pub not_both : (f : FileFault) → Readable m e → Unreadable m e f → ⊥
  not_both f r (outside a) = a r.on
  not_both f r (no_power on a) = false≢true (sym a ∙ r.power)
  not_both f r (bad_sector {f = x} on a h) = some_none (refuses m ((e.start + h.k) / 512)) x (r.bytes h.k h.within) h.refused

  same_fault : (f g : FileFault) → Judged (file m e) (refused (file_report f)) → Judged (file m e) (refused (file_report g)) → f ≡ g
  unfolding report_of
  same_fault f g h k =
      let q : file_report f ≡ file_report g = ap report_of (one_verdict (file m e) (refused (file_report f)) (refused (file_report g)) h k) in
      sym (fault_back f (rule_number (file m e) (refused (file_report f)) h)) ∙ ap fault_of q ∙ fault_back g (rule_number (file m e) (refused (file_report g)) k)

  pub only_answer : (r s : Result Counts FileFault) → Audited m e r → Audited m e s → s ≡ r
  unfolding counts_of
  only_answer (Ok c) (Ok d) h k = ap (λ (v : Verdict). Ok (counts_of v)) (one_verdict (file m e) (verdict (Ok d)) (verdict (Ok c)) k.1 h.1)
  only_answer (Ok c) (Err g) h k =
      ⊎_elim (λ u. absurd (not_both g h.0 u)) (λ j. absurd (never (file m e) c.records c.slots c.probes (file_report g) h.1 j.1)) k
  only_answer (Err f) (Ok d) h k =
      ⊎_elim (λ u. absurd (not_both f k.0 u)) (λ j. absurd (never (file m e) d.records d.slots d.probes (file_report f) k.1 j.1)) h
  only_answer (Err f) (Err g) h k =
      ⊎_elim
      (λ (u : Unreadable m e f). ⊎_elim (λ (v : Unreadable m e g). ap (λ (x : FileFault). Err x) (one_unreadable g f v u)) (λ j. absurd (not_both f j.0 u)) k)
      (λ i. ⊎_elim (λ (v : Unreadable m e g). absurd (not_both g i.0 v)) (λ j. ap (λ (x : FileFault). Err x) (same_fault g f j.1 i.1)) k)
      h

  pub probes_exist : (xs : List Item) → AllByRecursion (Rule4 (file m e)) xs → (n : ℕ) × Probes (file m e) xs n
  probes_exist [] h = (0, refl)
  probes_exist (x ∷ xs) h = let r = probes_exist xs h.1 in (h.0.0 + 1 + r.0, (h.0.0, r.0, h.0.1, r.1, refl))

  module _ (w : Whole m) where
    bytes : Bytes (file m e)
    bytes = part_bytes m.bytes w.bytes e.start e.len

    short : length (file m e) < 2 ^ 32
    short = omega (arith, length_part m.bytes e.start e.len, e.bounded)

    pub accepted_made : (r : Result Counts FileFault) → Audited m e r → AcceptedExactlyWhenMade m e r
    accepted_made (Ok c) h readable =
        let k = kept (file m e) (verdict (Ok c)) h.1 in
        (k.0, (lawful_exactly (file m e) k.0 bytes short).0 k.1, (k.2, k.3, k.4))
    accepted_made (Err x) h readable = λ rs made.
        ⊎_elim
        (λ u. not_both x readable u)
        (λ j.
        let law = (lawful_exactly (file m e) rs bytes short).1 made in
        let p = probes_exist (items 2048 rs) law.placed in
        never (file m e) (length rs) (slots_below (file m e) 256) p.0 (file_report x) (keeps_all rs law p.1) j.1)
        h

    -- what follows for an answer that fits
    pub follows : (r : Result Counts FileFault) → Audited m e r → OnlyAnswer m e r × AcceptedExactlyWhenMade m e r × OneRecordList m e
    follows r a = ((λ s h. only_answer r s a h), accepted_made r a, λ rs ss b d. one_reading (file m e) 2048 (position (file m e) 0) rs ss b.reads d.reads)
