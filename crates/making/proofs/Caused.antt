-- A device's refusal has a cause.
use Rattle.std.proofs.Common.{◌≡◌, ℕ, ◌+◌, ◌*◌, ◌≤◌, List, ◌∷◌, length, Ok, Err, Result, sym, ap, ◌∙◌, subst, inl, inr, arith, length-append}
use Rattle.std.specs.List.{flat_map}
use Rattle.faults.specs.declared.device.DeviceFault.{DeviceFault}
use Rattle.faults.specs.declared.device.DeviceFault.TheVariants.{Range, Power, Bad}
use Rattle.faults.specs.declared.file.FileFault.{FileFault}
use Rattle.device.specs.Meanings.{Meaning}
use Rattle.cdb.specs.Records.{Record, record_bytes, size}
use Rattle.writing.specs.Runs.{Counted, Interrupted, at_place}
use Rattle.writing.proofs.Keeping.{counted_before}
use Rattle.writing.proofs.Running.{bad_after}
use Rattle.writing.proofs.Recorded.{record_long}
use Rattle.building.specs.declared.entries.Entry.{Entry}
use Rattle.building.specs.Closes.{Closes}
use Rattle.making.specs.declared.fault.MakeFault.{MakeFault}
use Rattle.making.specs.declared.fault.MakeFault.TheVariants.{Text, Entries, Long, File}
use Rattle.making.specs.Sizes.{end_of, made_length}
use Rattle.making.specs.Makes.{entries_from, RecordStopped, CloseStopped, MakesFile}
use Rattle.making.specs.Laws.{Cause, off, ran_out, bad, RefusedForCause}
use Rattle.making.proofs.Noting.{entries_long}
use Rattle.making.proofs.Written.{flat_append}

-- a run that was refused in a part, after what left conditions and power as they were
pub cause : (m k n : Meaning) (p len q long : ℕ) (f : DeviceFault) → k.condition ≡ m.condition → k.power ≡ m.power → (Counted k.left → Counted m.left)
    → q ≤ p → p + len ≤ q + long → Interrupted k p len f n → Cause m q long n f
cause m k n p len q long Range c w l a b h = absurd h
cause m k n p len q long Power c w l a b (inl h) = off (sym w ∙ h.1)
cause m k n p len q long Power c w l a b (inr h) = ran_out (sym w ∙ h.on) (l h.counted) h.off h.out
cause m k n p len q long (Bad x) c w l a b h =
    subst (λ (z : ℕ). Cause m q long n (Bad z)) (sym h.is)
    (bad h.sector (sym w ∙ h.on) (omega (arith, h.touched.0), omega (arith, h.touched.1), omega (arith, h.touched.2)) (sym (bad_after m k h.sector c) ∙ h.marked))

record_cause : (m n : Meaning) (es fs : List Entry) (rs : List Record) (x : FileFault) → RecordStopped m es rs x n fs → (f : DeviceFault) × (p : ℕ) × (x ≡ at_place f p) × Cause m 0 (made_length rs) n f
record_cause m n es fs rs x h =
    let w = h.written in
    let j = flat_append h.before (h.next ∷ h.after) in
    let long : end_of h.before + size h.next ≤ 0 + made_length rs =
    omega (arith, ap (λ z. length (flat_map record_bytes z)) h.among, ap length j, length-append (flat_map record_bytes h.before) (flat_map record_bytes (h.next ∷ h.after)), length-append (record_bytes h.next) (flat_map record_bytes h.after), record_long h.next) in
    (h.fault, end_of h.before, h.told, cause m h.between n (end_of h.before) (size h.next) 0 (made_length rs) h.fault w.condition w.power (counted_before m.left h.between.left _ w.left) (omega arith) long h.refused)

close_cause : (m n : Meaning) (es fs : List Entry) (rs : List Record) (x : FileFault) → CloseStopped m es rs x n fs → (f : DeviceFault) × (p : ℕ) × (x ≡ at_place f p) × Cause m 0 (made_length rs) n f
close_cause m n es fs rs x h = closes h.refused
  where
    closes : Closes h.between 0 (end_of rs) (entries_from 2048 rs) (Err x) n → (f : DeviceFault) × (p : ℕ) × (x ≡ at_place f p) × Cause m 0 (made_length rs) n f
    closes (f, inl (told, v)) =
        let w = h.written in
        let l = entries_long 2048 rs in
        (f, end_of rs, told, cause m h.between n (0 + end_of rs) (16 * length (entries_from 2048 rs)) 0 (made_length rs) f w.condition w.power (counted_before m.left h.between.left _ w.left) (omega arith) (omega (arith, l)) v)
    closes (f, inr (told, v)) =
        let w = h.written in
        let b = v.built in (
          f,
          0,
          told,
          cause m v.between n 0 2048 0 (made_length rs) f (b.keeps.condition ∙ w.condition) (b.power ∙ w.power)
              (λ c. counted_before m.left h.between.left _ w.left (counted_before h.between.left v.between.left _ b.left c)) (omega arith) (omega arith) v.refused,
        )

pub refused_for_cause : (m n : Meaning) (es fs : List Entry) (t : List ℕ) (r : Result ℕ MakeFault) → MakesFile m es t r n fs → RefusedForCause m t r n
refused_for_cause m n es fs t (Ok len) h = tt
refused_for_cause m n es fs t (Err (Text f)) h = tt
refused_for_cause m n es fs t (Err Entries) h = tt
refused_for_cause m n es fs t (Err (Long limit)) h = tt
refused_for_cause m n es fs t (Err (File x)) (rs, fit, inl h) = let z = record_cause m n es fs rs x h in (rs, fit.text, z.0, z.1, z.2, z.3)
refused_for_cause m n es fs t (Err (File x)) (rs, fit, inr h) = let z = close_cause m n es fs rs x h in (rs, fit.text, z.0, z.1, z.2, z.3)
