-- Tables, then the header.
use Rattle.std.proofs.Common.{◌≡◌, ℕ, ◌+◌, ◌*◌, ◌^◌, ◌<◌, ◌≤◌, List, length, sym, refl, ap, ◌∙◌, subst, inr, arith}
use Rattle.byte_lists.specs.Bytes.{part}
use Rattle.byte_lists.proofs.Parts.{At, part_long}
use Rattle.byte_lists.proofs.Words.{word_in}
use Rattle.faults.specs.declared.device.DeviceFault.{DeviceFault}
use Rattle.device.specs.Meanings.{Meaning, Whole}
use Rattle.cdb.specs.Tables.{Slot, Fills}
use Rattle.cdb.specs.Files.{position, slot_count, slots_at, slots_in}
use Rattle.writing.specs.Runs.{Outside, Keeps, Completed, Interrupted}
use Rattle.writing.proofs.Keeping.{completed_keeps, keeps_both, used_both}
use Rattle.writing.proofs.Running.{bad_after}
use Rattle.building.specs.declared.entries.Entry.{Entry}
use Rattle.building.specs.declared.layout.Table.{Table}
use Rattle.building.specs.Entries.{count_of, count_before, puts_into, Tabled}
use Rattle.building.specs.Builds.{TablesOf, headed}
use Rattle.building.specs.Closes.{Built, Closed, HeaderRefused}
use Rattle.building.proofs.Counting.{count_fits}
use Rattle.building.proofs.Slotted.{slots_same, slots_within, at_laid}
use Rattle.building.proofs.Headed.{headed_long, header_words}

module _ (m k n : Meaning) (base end : ℕ) (ts : List Table) (es : List Entry) (w : Whole m) (within : base + (end + 16 * length es) ≤ 512 * m.sectors) (past : 2048 ≤ end) (c : TablesOf ts es) where
  abbrev head : List ℕ
  head = headed end ts 256

  module _ (built : Built m (base + end) es k) (done : Completed k base head n) where
    head_long : length head ≡ 2048
    head_long = headed_long end ts 256

    between_long : length k.bytes ≡ 512 * m.sectors
    between_long = built.keeps.long ∙ w.long

    head_keeps : Keeps k (Outside base 2048) n
    head_keeps =
        let l = head_long in
        let b = between_long in
        subst (λ (q : ℕ). Keeps k (Outside base q) n) l (completed_keeps k n base head (omega arith) done)

    tabled : Tabled (part n.bytes base (end + 16 * length es)) end es
    tabled =
        let L : ℕ = end + 16 * length es in
        let f : List ℕ = part n.bytes base L in
        let b = between_long in
        let ln : length n.bytes ≡ 512 * m.sectors = head_keeps.long ∙ b in
        let short : base + L < 2 ^ 32 = omega (arith, w.few) in
        let at : At n.bytes base head = subst (λ (q : List ℕ). At q base head) (sym done.bytes) (at_laid k.bytes base head (omega arith)) in
        let rd = header_words n.bytes base end ts es c (omega arith) at in
        let positions : (t : ℕ) → t < 256 → position f t ≡ end + 16 * count_before t es = λ t tl. word_in n.bytes f base L (8 * t) (base + 8 * t) refl (omega arith) refl ∙ (rd t tl).0 in
        let lengths : (t : ℕ) → t < 256 → slot_count f t ≡ 2 * count_of t es = λ t tl. word_in n.bytes f base L (8 * t + 4) (base + 8 * t + 4) refl (omega arith) (omega arith) ∙ (rd t tl).1 in
        record {
          long = part_long n.bytes base L (omega arith);
          positions = positions;
          lengths = lengths;
          filled = λ t tl.
              let fits = count_fits es t tl in
              let P : List Slot → Type 0 = λ q. Fills (2 * count_of t es) (puts_into t es) q in
              let from : ℕ = base + end + 16 * count_before t es in
              let here : slots_at k.bytes from (2 * count_of t es) ≡ slots_at f (end + 16 * count_before t es) (2 * count_of t es) =
              slots_same k.bytes n.bytes from (2 * count_of t es) (λ i a z. sym (head_keeps.same i (inr (omega arith))))
              ∙ sym (slots_within n.bytes base L (end + 16 * count_before t es) from (2 * count_of t es) (omega arith) (omega arith)) in
              let told : slots_at f (end + 16 * count_before t es) (2 * count_of t es) ≡ slots_in f t =
              ap (λ (q : ℕ). slots_at f q (2 * count_of t es)) (sym (positions t tl)) ∙ ap (λ (q : ℕ). slots_at f (position f t) q) (sym (lengths t tl)) in
              subst P (here ∙ told) (built.tables t tl);
        }

    pub closed : Closed m base end es n
    closed =
        let l = head_long in
        record {
          keeps = keeps_both m k n _ _ _ built.keeps head_keeps (λ i h. h.0) (λ i h. h.1);
          power = done.power ∙ built.power;
          left = used_both m.left k.left n.left (16 * length es) (length head) (2048 + 16 * length es) (omega arith) built.left done.left;
          on = sym built.power ∙ done.on (omega arith);
          tables_good = built.good;
          header_good = λ s t. sym (bad_after m k s built.keeps.condition) ∙ done.good s (omega arith, t.1, omega (arith, t.2));
          tabled = tabled;
        }

  pub header_refused : (f : DeviceFault) → Built m (base + end) es k → Interrupted k base (length head) f n → HeaderRefused m base end es f n
  header_refused f built run = record { between = k; built = built; refused = subst (λ (q : ℕ). Interrupted k base q f n) (headed_long end ts 256) run }
