-- Tables that start empty.
use Rattle.std.proofs.Common.{◌≡◌, ℕ, ◌+◌, ◌-◌, ◌*◌, ◌<◌, ◌≤◌, List, [], length, get_or, replicate, Ok, Err, Result, sym, refl, ap, ◌∙◌, subst, inr, arith}
use Rattle.std.proofs.lemmas.List.{get_or-replicate}
use Rattle.byte_lists.proofs.Parts.{At, at_get_d}
use Rattle.faults.specs.declared.device.DeviceFault.{DeviceFault}
use Rattle.device.specs.Meanings.{Meaning, Whole}
use Rattle.cdb.specs.Tables.{Slot, Fills, start}
use Rattle.writing.specs.Runs.{Outside, Keeps, Completed, Lost, Interrupted}
use Rattle.writing.proofs.Keeping.{completed_keeps, keeps_all, keeps_both, used_none, used_both, counted_before}
use Rattle.writing.proofs.Running.{bad_after}
use Rattle.writing.proofs.Zeroed.{zeros_long}
use Rattle.building.specs.declared.entries.Entry.{Entry}
use Rattle.building.specs.Entries.{count_of}
use Rattle.building.specs.Builds.{start_of, FilledWith, FillsAll}
use Rattle.building.specs.Closes.{Builds}
use Rattle.building.proofs.Counting.{count_fits}
use Rattle.building.proofs.Slotted.{slots_zero, at_laid}

abbrev pub zeros : ℕ → List ℕ
zeros n = replicate n 0

module _ (m n : Meaning) (from : ℕ) (es : List Entry) (w : Whole m) (l : from + 16 * length es ≤ 512 * m.sectors) (p : Completed m from (zeros (16 * length es)) n) where
  abbrev size : ℕ
  size = 16 * length es

  zero_byte : (k : ℕ) → from ≤ k → k < from + size → get_or n.bytes k 0 ≡ 0
  zero_byte k a b =
      let long : length m.bytes ≡ 512 * m.sectors = w.long in
      let z : length (zeros size) ≡ size = zeros_long size in
      let at : At n.bytes from (zeros size) = subst (λ (q : List ℕ). At q from (zeros size)) (sym p.bytes) (at_laid m.bytes from (zeros size) (omega arith)) in
      let e : from + (k - from) ≡ k = omega arith in
      ap (λ (i : ℕ). get_or n.bytes i 0) (sym e) ∙ at_get_d n.bytes from (zeros size) at (k - from) (omega arith) ∙ get_or-replicate {A = ℕ} size (k - from) 0 0 (omega arith)

  pub filled_start : FilledWith n from es [] n
  filled_start =
      let z : length (zeros size) ≡ size = zeros_long size in
      record {
        keeps = keeps_all n (Outside from size);
        power = refl;
        left = used_none n.left;
        on = λ h. p.power ∙ p.on (omega arith);
        good = λ s t. bad_after m n s p.condition ∙ p.good s (omega (arith, t.0), t.1, omega (arith, t.2));
        none = λ e. refl;
        tables = λ t tl.
            let P : List Slot → Type 0 = λ q. Fills (2 * count_of t es) [] q in
            let c = count_fits es t tl in
            subst P (sym (slots_zero n.bytes (start_of from es t) (2 * count_of t es) (λ k a b. zero_byte k (omega arith) (omega arith)))) start;
      }

  zeroed_keeps : Keeps m (Outside from size) n
  zeroed_keeps =
      let long : length m.bytes ≡ 512 * m.sectors = w.long in
      let z : length (zeros size) ≡ size = zeros_long size in
      subst (λ (q : ℕ). Keeps m (Outside from q) n) z (completed_keeps m n from (zeros size) (omega arith) p)

  pub built_after : (o : Meaning) (r : Result (Unit {0}) DeviceFault) → FillsAll n from es r o → Builds m from es r o
  built_after o (Ok u) b =
      let z : length (zeros size) ≡ size = zeros_long size in
      record {
        keeps = keeps_both m n o _ _ _ zeroed_keeps b.keeps (λ k h. h) (λ k h. h);
        power = b.power ∙ p.power;
        left = used_both m.left n.left o.left (length (zeros size)) 0 size (omega arith) p.left b.left;
        on = λ h. p.on (omega arith);
        good = λ s t. p.good s (omega (arith, t.0), t.1, omega (arith, t.2));
        none = λ e. b.none e ∙ p.none (omega arith);
        tables = b.tables;
      }
  built_after o (Err f) b =
      let z : length (zeros size) ≡ size = zeros_long size in
      let g : Lost n from size o = b.1 in
      let h : Lost m from size o = record {
        on = sym p.power ∙ g.on;
        counted = counted_before m.left n.left (length (zeros size)) p.left g.counted;
        off = g.off;
        out = g.out;
        sector = g.sector;
        touched = g.touched;
        good = λ s t u. p.good s (omega (arith, t.0), t.1, omega (arith, t.2));
        keeps = keeps_both m n o _ _ _ zeroed_keeps g.keeps (λ k h. h.0) (λ k h. h);
      } in
      let P : DeviceFault → Type 0 = λ q. Interrupted m from size q o in
      subst P (sym b.0) (inr h)
