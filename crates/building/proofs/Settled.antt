-- An entry in its table.
use Rattle.std.proofs.Common.{◌≡◌, ℕ, ◌+◌, ◌*◌, ◌^◌, ◌<◌, ◌≤◌, false, List, length, set, Ok, Err, Result, sym, refl, ap, ◌∙◌, subst, inl, inr, mod-lt, arith}
use mathlib.Core.Bool.{false≢true}
use Rattle.byte_lists.specs.Bytes.{word_at}
use Rattle.byte_lists.proofs.Parts.{At}
use Rattle.faults.specs.declared.device.DeviceFault.{DeviceFault}
use Rattle.faults.specs.declared.device.DeviceFault.TheVariants.{Range, Power, Bad}
use Rattle.device.specs.Meanings.{Meaning, Whole, is_bad}
use Rattle.cdb.specs.Tables.{Slot, Empty, Filled, Puts, home, slot_away}
use Rattle.cdb.specs.Files.{slot_bytes, slots_at}
use Rattle.cdb.proofs.Slots.{slot_at}
use Rattle.cdb.proofs.Placement.{length_slots_at}
use Rattle.file.specs.Ranges.{AllRead}
use Rattle.writing.specs.Runs.{Outside, Keeps, Completed, Runs}
use Rattle.writing.proofs.Keeping.{completed_keeps, keeps_less, outside_part, used_less}
use Rattle.building.specs.Builds.{Nearest, PutsEntry}
use Rattle.building.proofs.Ranged.{range_on, range_good}
use Rattle.building.proofs.Slotted.{slots_set, seen_back, at_laid}

puts_at : (m o : Meaning) (pos len p : ℕ) (x : Slot) → x.hash < 2 ^ 32 → x.place < 2 ^ 32 → Whole m → pos + 8 * len ≤ 512 * m.sectors → Nearest m.bytes pos len x.hash p
    → Completed m p (slot_bytes x) o → Puts (slots_at m.bytes pos len) x (slots_at o.bytes pos len)
puts_at m o pos len p x hs ps w l near put =
    let s : List Slot = slots_at m.bytes pos len in
    let n : length s ≡ len = length_slots_at m.bytes pos len in
    let d : ℕ = near.distance in
    let dl : d < len = near.within in
    let k : ℕ = slot_away len x.hash d in
    let kl : k < len = mod-lt (home len x.hash + d) (omega arith) in
    let e : p ≡ pos + 8 * k = near.is in
    let long : length m.bytes ≡ 512 * m.sectors = w.long in
    let fr : Keeps m (Outside p 8) o = completed_keeps m o p (slot_bytes x) (omega arith) put in
    let at : At o.bytes p (slot_bytes x) = subst (λ (q : List ℕ). At q p (slot_bytes x)) (sym put.bytes) (at_laid m.bytes p (slot_bytes x) (omega arith)) in
    let new : slots_at o.bytes pos len ≡ set s k x = slots_set m.bytes o.bytes pos len k p x kl e fr.same (seen_back o.bytes p x hs ps at) in
    let E : ℕ → Type 0 = λ (q : ℕ). Empty s (slot_away q x.hash d) in
    let free : Empty s k = ap (λ (v : Slot). v.place) (slot_at m.bytes pos len k kl) ∙ ap (λ (q : ℕ). word_at m.bytes (q + 4)) (sym e) ∙ near.free in
    record {
      distance = d;
      within = omega arith;
      free = subst E (sym n) free;
      nearest = λ i h.
          let il : slot_away len x.hash i < len = mod-lt (home len x.hash + i) (omega arith) in
          let F : ℕ → Type 0 = λ (q : ℕ). Filled s (slot_away q x.hash i) in
          let G : Slot → Type 0 = λ (v : Slot). 0 < v.place in
          subst F (sym n) (subst G (sym (slot_at m.bytes pos len (slot_away len x.hash i) il)) (near.nearest i h));
      after = new ∙ ap (λ (q : ℕ). set s (slot_away q x.hash d) x) (sym n);
    }

-- a slot lies in its table
pub slot_inside : (pos len hash j p : ℕ) → j < len → p ≡ pos + 8 * slot_away len hash j → (pos ≤ p) × (p + 8 ≤ pos + 8 * len)
slot_inside pos len hash j p l e =
    let k : slot_away len hash j < len = mod-lt (home len hash + j) (omega arith) in
    (omega arith, omega arith)

slot_in : (bytes : List ℕ) (pos len hash p : ℕ) → Nearest bytes pos len hash p → (pos ≤ p) × (p + 8 ≤ pos + 8 * len)
slot_in bytes pos len hash p near = slot_inside pos len hash near.distance p near.within near.is

pub near_inside : (bytes : List ℕ) (pos len hash p : ℕ) → Nearest bytes pos len hash p → p + 8 ≤ pos + 8 * len
near_inside bytes pos len hash p near = (slot_in bytes pos len hash p near).1

module _ (m o : Meaning) (pos len p : ℕ) (x : Slot) (w : Whole m) (i : pos + 8 * len ≤ 512 * m.sectors) (u : AllRead m pos (8 * len)) (near : Nearest m.bytes pos len x.hash p) where
  at_start : pos ≤ p
  at_start = (slot_in m.bytes pos len x.hash p near).0

  at_end : p + 8 ≤ pos + 8 * len
  at_end = (slot_in m.bytes pos len x.hash p near).1

  put : (r : Result (Unit {0}) DeviceFault) → x.hash < 2 ^ 32 → x.place < 2 ^ 32 → Runs m p (slot_bytes x) r o → PutsEntry m pos len x r o
  put (Ok a) hs ps run =
      let s = at_start in
      let e = at_end in
      let long : length m.bytes ≡ 512 * m.sectors = w.long in
      record {
        puts = puts_at m o pos len p x hs ps w i near run;
        keeps = keeps_less m o (Outside p 8) _ (completed_keeps m o p (slot_bytes x) (omega arith) run) (λ k h. outside_part pos (8 * len) p 8 k (omega arith) (omega arith) h);
        power = run.power;
        left = used_less m.left o.left 8 0 (omega arith) run.left;
      }
  put (Err Range) hs ps run = absurd run
  put (Err Power) hs ps (inl a) =
      let s = at_start in
      let e = at_end in
      absurd (false≢true (sym a.1 ∙ range_on m pos (8 * len) (omega arith) u))
  put (Err Power) hs ps (inr a) =
      let s = at_start in
      let e = at_end in (
        refl,
        record {
          on = a.on;
          counted = a.counted;
          off = a.off;
          out = a.out;
          sector = a.sector;
          touched = (omega arith, omega (arith, a.touched.1), omega (arith, a.touched.2));
          good = λ k t l. range_good m pos (8 * len) u k t;
          keeps = keeps_less m o _ _ a.keeps (λ k h. (outside_part pos (8 * len) p 8 k (omega arith) (omega arith) h.0, h.1));
        },
      )
  put (Err (Bad b)) hs ps run =
      let s = at_start in
      let e = at_end in
      let g : is_bad m run.sector ≡ false = range_good m pos (8 * len) u run.sector (omega arith, omega (arith, run.touched.1), omega (arith, run.touched.2)) in
      absurd (false≢true (sym g ∙ run.marked))

pub puts_entry : (m n o : Meaning) (pos len p : ℕ) (x : Slot) (ys : List ℕ) (r : Result (Unit {0}) DeviceFault) → x.hash < 2 ^ 32 → x.place < 2 ^ 32 → Whole m → pos + 8 * len ≤ 512 * m.sectors → AllRead m pos (8 * len)
    → Nearest m.bytes pos len x.hash p → n ≡ m → ys ≡ slot_bytes x → Runs n p ys r o → PutsEntry m pos len x r o
puts_entry m n o pos len p x ys r hs ps w i u near same e run =
    let P : Meaning → Type 0 = λ q. Runs q p ys r o in
    let Q : List ℕ → Type 0 = λ q. Runs m p q r o in
    put m o pos len p x w i u near r hs ps (subst Q e (subst P same run))
