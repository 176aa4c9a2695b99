-- A file that is made in memory.
use Rattle.std.proofs.Common.{◌≡◌, ℕ, ◌*◌, ◌≤◌, true, List, length, take, Ok, Err, sym, ap, ◌∙◌, subst, arith}
use mathlib.Core.Bool.{false≢true}
use Rattle.byte_lists.specs.Bytes.{part}
use Rattle.byte_lists.proofs.Parts.{part_of_front}
use Rattle.faults.specs.declared.device.DeviceFault.{DeviceFault}
use Rattle.device.specs.Meanings.{Meaning, endless}
use Rattle.cdb.specs.Records.{Record}
use Rattle.memory.specs.Memories.{memory, fitting}
use Rattle.building.specs.declared.entries.Entry.{Entry}
use Rattle.text.specs.Texts.{TextOf}
use Rattle.making.specs.declared.fault.MakeFault.{MakeFault}
use Rattle.making.specs.declared.fault.MakeFault.TheVariants.{Text, Entries, Long, File}
use Rattle.making.specs.Sizes.{made_length}
use Rattle.making.specs.Makes.{MakesFile, Noted}
use Rattle.making.specs.Laws.{Cause, off, ran_out, bad, GivesBack, GivesText, GivesTheTextBack, RefusedForCause}
use Rattle.making.specs.InMemory.{FileOf, MemoryRefused}
use Rattle.making.proofs.Noting.{entries_long}

module _ (bytes : List ℕ) (es : List Entry) (t : List ℕ) (n : Meaning) (fs : List Entry) where
  abbrev m : Meaning
  m = memory bytes true endless

  -- memory has power, endless writes and no bad sector
  no_cause : (p len : ℕ) (f : DeviceFault) → Cause m p len n f → ⊥
  no_cause p len f (off h) = false≢true (sym h)
  no_cause p len f (ran_out o h x y) = h
  no_cause p len f (bad s o h b) = false≢true b

  pub memory_refused : (x : MakeFault) → MakesFile m es t (Err x) n fs → RefusedForCause m t (Err x) n → MemoryRefused bytes es t x fs
  memory_refused (Text f) h c = (h.0, h.2)
  memory_refused Entries h c = (h.0, h.1, h.2, h.4)
  memory_refused (Long limit) h c = (h.0, h.1, h.2, h.3, h.4, h.6)
  memory_refused (File x) h c = no_cause 0 (made_length c.0) c.2 c.5

  -- the memory that comes back holds the file
  module _ (len : ℕ) (made : List ℕ) (h : MakesFile m es t (Ok len) n fs) (back : GivesTheTextBack t (Ok len) n) (sectors : n.sectors ≡ fitting made) (held : n.bytes ≡ take (512 * fitting made) made) where
    within : len ≤ 512 * fitting made
    within = omega (arith, h.1.room, h.2, h.3.keeps.sectors, sectors)

    same : part n.bytes 0 len ≡ take len made
    same = ap (λ (q : List ℕ). part q 0 len) held ∙ part_of_front made 0 len (512 * fitting made) (omega (arith, within))

    pub room : len ≤ length made
    room = omega (arith, within)

    pub file_made : (rs : List Record) × TextOf t rs × FileOf t rs (take len made) × Noted es rs fs
    file_made =
        let rs : List Record = h.0 in
        let file : List ℕ = part n.bytes 0 (made_length rs) in
        let is : file ≡ take len made = ap (λ (q : ℕ). part n.bytes 0 q) (sym h.2) ∙ same in
        let long : length file ≡ made_length rs = h.3.tabled.long ∙ omega (arith, entries_long 2048 rs) in
        let made_of : FileOf t rs file = record {
          long = long;
          lawful = h.3.lawful;
          tabled = h.3.tabled;
          back = subst (λ (q : ℕ). GivesBack (part n.bytes 0 q) rs) h.2 (back.0 rs h.1.text);
          gives = subst (λ (q : ℕ). GivesText t (part n.bytes 0 q)) h.2 back.1;
        } in
        (rs, h.1.text, subst (FileOf t rs) is made_of, h.4)
