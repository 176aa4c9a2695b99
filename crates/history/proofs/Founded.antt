-- A format makes the file without records live.
use Rattle.std.proofs.Common.{◌≡◌, ℕ, ◌+◌, ◌<◌, ◌≤◌, List, [], ◌++◌, length, get_or, replicate, Ok, sym, refl, subst, inr, ⊎_elim, arith}
use Rattle.std.proofs.lemmas.List.{length-replicate, get_or-replicate, get_or_past}
use Rattle.std.proofs.lemmas.List.Sorted.{IsPermutation-refl}
use Rattle.std.proofs.lemmas.Bool.{cases_lt}
use Rattle.byte_lists.specs.Bytes.{Bytes, part}
use Rattle.byte_lists.proofs.Parts.{At, at_both, part_bytes}
use Rattle.device.specs.Meanings.{Meaning, Whole}
use Rattle.cdb.specs.Records.{belonging}
use Rattle.cdb.specs.Tables.{Slot, Filling, start}
use Rattle.cdb.specs.Files.{Made}
use Rattle.cdb.specs.Rules.{Lawful}
use Rattle.cdb.proofs.Exactly.{lawful_exactly}
use Rattle.building.specs.Empty.{empty_file}
use Rattle.building.proofs.Emptied.{empty_long}
use Rattle.building.proofs.Slotted.{at_laid}
use Rattle.areas.specs.declared.area.Area.TheVariants.{Zero}
use Rattle.areas.proofs.Rooted.{root_long}
use Rattle.shelf.specs.declared.states.Shelf.{Shelf}
use Rattle.shelf.specs.States.{Live}
use Rattle.shelf.specs.Formats.{new_root, Formats}
use Rattle.history.specs.declared.calls.State.TheVariants.{Idle}
use Rattle.history.specs.Events.{none}
use Rattle.history.proofs.Keeping.{Sound}

no_slots : (i : ℕ) → get_or {A = List Slot} (replicate 256 []) i [] ≡ []
no_slots i =
    ⊎_elim (λ (l : i < 256). get_or-replicate {A = List Slot} 256 i [] [] l)
    (λ (l : 256 ≤ i). get_or_past {X = List Slot} (replicate 256 []) i [] (rw (length-replicate {A = List Slot} 256 []) l)) (cases_lt i 256)

no_filling : Filling [] []
no_filling = record {
  roomy = inr (refl, refl);
  order = [];
  permitted = record { same = IsPermutation-refl []; kept = λ i j d l m e. absurd (omega arith) };
  fills = start;
}

empty_made : Made empty_file []
unfolding empty_file
empty_made = record {
  tables = replicate 256 [];
  count = length-replicate {A = List Slot} 256 [];
  bytes = refl;
  filled = λ t l. subst (λ (q : List Slot). Filling (belonging t []) q) (sym (no_slots t)) no_filling;
}

empty_lawful : Bytes empty_file → Lawful empty_file []
empty_lawful b = (lawful_exactly empty_file [] b (omega (arith, empty_long))).1 empty_made

-- root and file stand one behind the other
module _ (m n : Meaning) (s : Shelf) (whole : Whole n) (f : Formats m (Ok s) n) where
  laid_there : At n.bytes 0 (new_root ++ empty_file)
  laid_there = subst (λ (q : List ℕ). At q 0 (new_root ++ empty_file)) (sym f.2.bytes) (at_laid m.bytes 0 (new_root ++ empty_file) (omega arith))

  abbrev first : Live
  first = record { sectors = m.sectors; area = Zero; len = 2048 }

  root_stands : part n.bytes 0 512 ≡ new_root
  root_stands = subst (λ (q : ℕ). part n.bytes 0 q ≡ new_root) (root_long Zero 2048) (at_both n.bytes 0 new_root empty_file laid_there).0

  file_stands : part n.bytes 512 2048 ≡ empty_file
  file_stands =
      let at : part n.bytes (0 + length new_root) (length empty_file) ≡ empty_file = (at_both n.bytes 0 new_root empty_file laid_there).1 in
      let z : 0 + length new_root ≡ 512 = omega (arith, root_long Zero 2048) in
      subst (λ (q : ℕ). part n.bytes q 2048 ≡ empty_file) z (subst (λ (q : ℕ). part n.bytes (0 + length new_root) q ≡ empty_file) empty_long at)

  pub formatted_sound : Sound [] (Idle s) n
  formatted_sound =
      let nine : 9 ≤ m.sectors = f.0 in
      let bytes : Bytes empty_file = subst Bytes file_stands (part_bytes n.bytes whole.bytes 512 2048) in
      record {
        draft = [];
        records = [];
        published = none;
        good = record {
          live = first;
          rooted = record {
            sectors = sym f.2.sectors;
            names = record { is = root_stands; long = omega arith; fits = omega (arith, f.2.sectors) };
          };
          told = f.1;
          lawful = subst (λ (q : List ℕ). Lawful q []) (sym file_stands) (empty_lawful bytes);
          long = whole.long;
          few = whole.few;
          ready = λ on. tt;
        };
      }
