-- Records with the tables and the header of their entries are a file.
use Rattle.std.proofs.Common.{◌≡◌, ℕ, ◌+◌, ◌*◌, ◌<◌, ◌≤◌, false, List, length, sym, refl, ◌∙◌, subst, inl, inr, ⊎_elim, arith}
use Rattle.std.specs.List.{flat_map}
use Rattle.std.proofs.lemmas.Bool.{cases_lt}
use Rattle.byte_lists.specs.Bytes.{part}
use Rattle.byte_lists.proofs.Parts.{At, part_in}
use Rattle.device.specs.Meanings.{Meaning, Whole, is_bad}
use Rattle.cdb.specs.Records.{Record, record_bytes}
use Rattle.cdb.specs.Rules.{Lawful}
use Rattle.writing.specs.Runs.{Touches, Outside, Keeps, Completed}
use Rattle.writing.proofs.Keeping.{keeps_both, completed_keeps, used_both}
use Rattle.writing.proofs.Running.{bad_after}
use Rattle.building.specs.declared.entries.Entry.{Entry}
use Rattle.building.specs.Entries.{Tabled}
use Rattle.building.specs.Closes.{Closed}
use Rattle.building.proofs.Slotted.{part_same, at_laid}
use Rattle.building.proofs.Made.{tabled_is_lawful}
use Rattle.making.specs.Sizes.{end_of, made_length}
use Rattle.making.specs.Makes.{entries_from, MadeFile}
use Rattle.making.proofs.Noting.{entries_long, entries_slots}

module _ (m k n : Meaning) (rs : List Record) (whole : Whole m) (room : made_length rs ≤ 512 * m.sectors)
    (written : Completed m 2048 (flat_map record_bytes rs) k) (closed : Closed k 0 (end_of rs) (entries_from 2048 rs) n) where
  abbrev R : List ℕ
  R = flat_map record_bytes rs

  abbrev es : List Entry
  es = entries_from 2048 rs

  first : Keeps m (Outside 2048 (length R)) k
  first = completed_keeps m k 2048 R (omega (arith, whole.long)) written

  counted : length es ≡ length rs
  counted = entries_long 2048 rs

  long : length n.bytes ≡ 512 * m.sectors
  long = closed.keeps.long ∙ first.long ∙ whole.long

  tabled : Tabled (part n.bytes 0 (made_length rs)) (end_of rs) es
  tabled = subst (λ (q : ℕ). Tabled (part n.bytes 0 (end_of rs + 16 * q)) (end_of rs) es) counted closed.tabled

  stand : part (part n.bytes 0 (made_length rs)) 2048 (length R) ≡ R
  stand =
      let a : At k.bytes 2048 R = subst (λ (q : List ℕ). At q 2048 R) (sym written.bytes) (at_laid m.bytes 2048 R (omega (arith, whole.long))) in
      part_in n.bytes 0 (made_length rs) 2048 (length R) (omega arith)
      ∙ part_same n.bytes k.bytes 2048 (length R) (omega (arith, long)) (omega (arith, first.long, whole.long)) (λ i u v. closed.keeps.same i (inl (omega arith), inr (omega arith)))
      ∙ a

  sound : Lawful (part n.bytes 0 (made_length rs)) rs
  sound = tabled_is_lawful (part n.bytes 0 (made_length rs)) rs es (end_of rs) (entries_slots 2048 rs) tabled (omega (arith, tabled.long, counted, whole.few)) refl stand

  same_sector : (s : ℕ) → is_bad k s ≡ false → is_bad m s ≡ false
  same_sector s e = sym (bad_after m k s written.condition) ∙ e

  good : (s : ℕ) → Touches 0 (made_length rs) s → is_bad m s ≡ false
  good s (a, b, c) =
      ⊎_elim
      (λ (h : 512 * s < 2048). same_sector s (closed.header_good s (omega arith, omega arith, omega arith)))
      (λ (h : 2048 ≤ 512 * s). ⊎_elim
      (λ (i : 512 * s < end_of rs). written.good s (omega arith, omega arith, omega arith))
      (λ (i : end_of rs ≤ 512 * s). same_sector s (closed.tables_good s (omega (arith, counted), omega arith, omega (arith, counted))))
      (cases_lt (512 * s) (end_of rs)))
      (cases_lt (512 * s) 2048)

  pub made_file : MadeFile m rs n
  made_file = record {
    lawful = sound;
    tabled = tabled;
    keeps = keeps_both m k n _ _ _ first closed.keeps (λ i l. inr (omega arith)) (λ i l. (inr (omega (arith, counted)), inr (omega arith)));
    power = closed.power ∙ written.power;
    left = used_both m.left k.left n.left (length R) (2048 + 16 * length es) (made_length rs) (omega (arith, counted)) written.left closed.left;
    on = sym written.power ∙ closed.on;
    good = good;
  }
