-- The samples, worked.
use Rattle.std.proofs.Common.{◌≡◌, ℕ, zero, suc, ◌+◌, ◌^◌, ◌<◌, ◌≤◌, ltb, List, [], ◌∷◌, ◌++◌, length, get_or, set, replicate, count_by, sym, refl, ap, ◌∙◌, subst, ⊎_elim, arith}
use Rattle.std.specs.List.{AllByRecursion}
use Rattle.std.proofs.ByRecursion.{All-append, All-weaker}
use Rattle.std.proofs.lemmas.List.{length-replicate, get_or-replicate, get_or_past, replicate_more}
use Rattle.std.proofs.lemmas.Bool.{cases_lt, cases_eq}
use Rattle.byte_lists.specs.Bytes.{word_at}
use Rattle.faults.specs.Reports.{report}
use Rattle.cdb.specs.Records.{Item, hash_of}
use Rattle.cdb.specs.Tables.{Slot, blank, entry, slot, Empty, slot_away, spot, Distance, Puts, Fills, start, put}
use Rattle.cdb.specs.Files.{file_of, position, slot_count, slots_at}
use Rattle.cdb.specs.Rules.{Lawful}
use Rattle.cdb.specs.Verdicts.{accepted, refused, Judged, broken_1, broken_2, keeps_all}
use Rattle.cdb.proofs.Placement.{Small}
use Rattle.samples.specs.Samples.{Samples, key_a, two_records, two_entries, only_table, holding, four_slots, exchanged_slots, eleven_slots, two_slots, empty_file, four_slot_file, exchanged_file, eleven_slot_file, two_slot_file}
use Rattle.samples.proofs.OneTable.{OneTable, one_table}
use Rattle.samples.proofs.TwoRecords.{first_item, second_item, Proper, Holds, in_order, out_of_order, without_room}

-- zeros

abbrev zeros : ℕ → List ℕ
zeros n = replicate n 0

zero_byte : (n i : ℕ) → get_or (zeros n) i 0 ≡ 0
zero_byte n i =
    ⊎_elim (λ (l : i < n). get_or-replicate {A = ℕ} n i 0 0 l)
    (λ (l : n ≤ i). get_or_past (zeros n) i 0 (rw (length-replicate {A = ℕ} n 0) l)) (cases_lt i n)

zero_word : (n p : ℕ) → word_at (zeros n) p ≡ 0
zero_word n p = omega (arith, zero_byte n p, zero_byte n (p + 1), zero_byte n (p + 2), zero_byte n (p + 3))

few_zeros : (n : ℕ) → n < 2048 → Judged (zeros n) (refused (report 1 256 n))
few_zeros n l =
    let len : length (zeros n) ≡ n = length-replicate {A = ℕ} n 0 in
    subst (λ (k : ℕ). Judged (zeros n) (refused (report 1 256 k))) len (broken_1 (omega arith))

many_zeros : (n : ℕ) → 2048 ≤ n → Judged (zeros n) (refused (report 2 0 0))
many_zeros n l =
    broken_2 {t = 0} (omega (arith, length-replicate {A = ℕ} n 0))
    (record {
      within = omega arith;
      before = λ i m. absurd (omega arith);
      broken = λ keeps. omega (arith, zero_word n 0, (keeps.first refl).0);
    })

-- no records

module _ (f : List ℕ) (one : OneTable f [] 255 []) where
  no_slots : (t : ℕ) → t < 256 → slot_count f t ≡ 0
  no_slots t l = ⊎_elim (λ (z : t ≡ 255). ap (slot_count f) z ∙ one.count) (λ ne. one.else' t l ne) (cases_eq t 255)

  no_records : Judged f (accepted 0 0 0)
  no_records =
      let law : Lawful f [] =
      record {
        long = omega (arith, one.total);
        entries = one.entries;
        reads = one.read;
        placed = tt;
        counted = λ t l. ap (λ (n : ℕ). count_by (λ (v : Slot). ltb 0 v.place) (slots_at f (position f t) n)) (no_slots t l);
        room = λ t l some. absurd (omega (arith, no_slots t l));
        clear = λ t l i m. absurd (omega (arith, no_slots t l));
        ordered = tt;
      } in
      subst (λ (n : ℕ). Judged f (accepted 0 n 0)) one.below (keeps_all [] law refl)

no_tables : only_table 255 [] ≡ replicate 256 []
unfolding only_table
no_tables = replicate_more {X = List Slot} 255 []

empty_one : OneTable empty_file [] 255 []
empty_one = subst (λ (ss : List (List Slot)). OneTable (file_of [] ss) [] 255 []) no_tables (one_table [] 255 [] (omega arith) tt (omega arith))

-- two records

at_home : (s : List Slot) (x : Item) → 0 < length s → slot s (spot s x 0) ≡ entry x → Distance s x 0
at_home s x l h = record { within = l; holds = h; passed = λ i m. absurd (omega arith); first = λ i m. absurd (omega arith) }

-- at distance 1, where the home holds another place
beside_home : (s : List Slot) (x : Item) (p : ℕ) → 1 < length s → slot s (spot s x 1) ≡ entry x → (slot s (spot s x 0)).place ≡ p → 0 < p → (p ≡ x.place → ⊥) → Distance s x 1
beside_home s x p l h other some ne =
    record {
      within = l;
      holds = h;
      passed = λ i m. let z : i ≡ 0 = omega arith in rw z (omega arith);
      first = λ i m e. let z : i ≡ 0 = omega arith in
          ne (sym other ∙ ap (λ (k : ℕ). (slot s (spot s x k)).place) (sym z) ∙ ap (λ (v : Slot). v.place) e);
    }

blank_proper : Proper blank
blank_proper = ((omega arith, omega arith), λ e. refl)

filled_proper : (h p : ℕ) → h < 2 ^ 32 → 0 < p → p < 2 ^ 32 → Proper (holding h p)
filled_proper h p a b c = ((a, c), λ e. absurd (omega arith))

a_first_proper : Proper (holding 177604 2048)
a_first_proper = filled_proper 177604 2048 (omega arith) (omega arith) (omega arith)

a_second_proper : Proper (holding 177604 2058)
a_second_proper = filled_proper 177604 2058 (omega arith) (omega arith) (omega arith)

empty_first_proper : Proper (holding 5381 2048)
empty_first_proper = filled_proper 5381 2048 (omega arith) (omega arith) (omega arith)

empty_second_proper : Proper (holding 5381 2057)
empty_second_proper = filled_proper 5381 2057 (omega arith) (omega arith) (omega arith)

all_same : (n : ℕ) (v : Slot) → Proper v → AllByRecursion Proper (replicate n v)
all_same zero v h = tt
all_same (suc n) v h = (h, all_same n v h)

four_holds : Holds key_a 196 four_slots 0 1
unfolding hash_of
four_holds =
    record {
      belongs = refl;
      below = omega arith;
      short = omega arith;
      proper = (blank_proper, (a_first_proper, (a_second_proper, (blank_proper, tt))));
      counted = refl;
      first = at_home four_slots (first_item key_a) (omega arith) refl;
      second = beside_home four_slots (second_item key_a) 2048 (omega arith) refl refl (omega arith) (λ e. omega arith);
    }

exchanged_holds : Holds key_a 196 exchanged_slots 1 0
unfolding hash_of
exchanged_holds =
    record {
      belongs = refl;
      below = omega arith;
      short = omega arith;
      proper = (blank_proper, (a_second_proper, (a_first_proper, (blank_proper, tt))));
      counted = refl;
      first = beside_home exchanged_slots (first_item key_a) 2058 (omega arith) refl refl (omega arith) (λ e. omega arith);
      second = at_home exchanged_slots (second_item key_a) (omega arith) refl;
    }

eleven_holds : Holds [] 5 eleven_slots 0 1
unfolding hash_of
eleven_holds =
    record {
      belongs = refl;
      below = omega arith;
      short = omega arith;
      proper = (empty_second_proper, All-append Proper (replicate 9 blank) (holding 5381 2048 ∷ []) (all_same 9 blank blank_proper) (empty_first_proper, tt));
      counted = refl;
      first = at_home eleven_slots (first_item []) (omega arith) refl;
      second = beside_home eleven_slots (second_item []) 2048 (omega arith) refl refl (omega arith) (λ e. omega arith);
    }

two_holds : Holds [] 5 two_slots 0 1
unfolding hash_of
two_holds =
    record {
      belongs = refl;
      below = omega arith;
      short = omega arith;
      proper = (empty_second_proper, (empty_first_proper, tt));
      counted = refl;
      first = at_home two_slots (first_item []) (omega arith) refl;
      second = beside_home two_slots (second_item []) 2048 (omega arith) refl refl (omega arith) (λ e. omega arith);
    }

two_full : (i : ℕ) → i < 2 → Empty two_slots i → ⊥
two_full zero l e = omega arith
two_full (suc zero) l e = omega arith
two_full (suc (suc i)) l e = omega arith

-- what is read from the file whose table t has these slots
file_with : (key : List ℕ) (t : ℕ) (s : List Slot) (d e : ℕ) → Holds key t s d e → OneTable (file_of (two_records key) (only_table t s)) (two_records key) t s
file_with key t s d e h = one_table (two_records key) t s h.below (All-weaker Proper Small (λ v p. p.0) s h.proper) h.short

-- both records are put in file order
both_put : (key : List ℕ) (len : ℕ) (s t : List Slot) → Puts (replicate len blank) (entry (first_item key)) s → Puts s (entry (second_item key)) t → Fills len (two_entries key) t
both_put key len s t a b = put {xs = entry (first_item key) ∷ []} (put {xs = []} start a) b

-- into its home
at_once : (s : List Slot) (x : Slot) (t : List Slot) → 0 < length s → Empty s (slot_away (length s) x.hash 0) → t ≡ set s (slot_away (length s) x.hash 0) x → Puts s x t
at_once s x t l free after = record { distance = 0; within = l; free = free; nearest = λ i m. absurd (omega arith); after = after }

-- into the slot after its home, which is filled
at_next : (s : List Slot) (x : Slot) (t : List Slot) → 1 < length s → 0 < (slot s (slot_away (length s) x.hash 0)).place → Empty s (slot_away (length s) x.hash 1) → t ≡ set s (slot_away (length s) x.hash 1) x → Puts s x t
at_next s x t l taken free after =
    record {
      distance = 1;
      within = l;
      free = free;
      nearest = λ i m. let z : i ≡ 0 = omega arith in rw z taken;
      after = after;
    }

four_fills : Fills 4 (two_entries key_a) four_slots
unfolding hash_of
four_fills =
    let s = blank ∷ holding 177604 2048 ∷ blank ∷ blank ∷ [] in
    both_put key_a 4 s four_slots
    (at_once (replicate 4 blank) (entry (first_item key_a)) s (omega arith) refl refl)
    (at_next s (entry (second_item key_a)) four_slots (omega arith) (omega arith) refl refl)

eleven_fills : Fills 11 (two_entries []) eleven_slots
unfolding hash_of
eleven_fills =
    let s = replicate 10 blank ++ holding 5381 2048 ∷ [] in
    both_put [] 11 s eleven_slots
    (at_once (replicate 11 blank) (entry (first_item [])) s (omega arith) refl refl)
    (at_next s (entry (second_item [])) eleven_slots (omega arith) (omega arith) refl refl)

two_fills : Fills 2 (two_entries []) two_slots
unfolding hash_of
two_fills =
    let s = blank ∷ holding 5381 2048 ∷ [] in
    both_put [] 2 s two_slots
    (at_once (replicate 2 blank) (entry (first_item [])) s (omega arith) refl refl)
    (at_next s (entry (second_item [])) two_slots (omega arith) (omega arith) refl refl)

hash_none : hash_of [] ≡ 5381
unfolding hash_of
hash_none = refl

hash_of_a : hash_of key_a ≡ 177604
unfolding hash_of
hash_of_a = refl

pub samples : Samples
samples =
    let four = file_with key_a 196 four_slots 0 1 four_holds in
    let exchanged = file_with key_a 196 exchanged_slots 1 0 exchanged_holds in
    let eleven = file_with [] 5 eleven_slots 0 1 eleven_holds in
    let two = file_with [] 5 two_slots 0 1 two_holds in
    record {
      hash_empty = hash_none;
      hash_a = hash_of_a;
      empty_length = empty_one.total;
      empty_entries = λ t l. (empty_one.starts t (omega arith), no_slots empty_file empty_one t l);
      empty_verdict = no_records empty_file empty_one;
      four_table = four_holds.belongs;
      four_home = rw hash_of_a;
      four_filled = four_fills;
      four_length = four.total;
      four_verdict = in_order key_a 196 four_slots 0 1 four_holds four_slot_file four (0, omega arith, refl) (omega arith);
      exchanged_length = exchanged.total;
      exchanged_verdict = out_of_order key_a 196 exchanged_slots 1 0 exchanged_holds exchanged_file exchanged (0, omega arith, refl) (omega arith);
      eleven_table = eleven_holds.belongs;
      eleven_home = rw hash_none;
      eleven_first = refl;
      eleven_second = refl;
      eleven_filled = eleven_fills;
      eleven_length = eleven.total;
      eleven_verdict = in_order [] 5 eleven_slots 0 1 eleven_holds eleven_slot_file eleven (1, omega arith, refl) (omega arith);
      two_filled = two_fills;
      two_length = two.total;
      two_verdict = without_room [] 5 two_slots 0 1 two_holds two_slot_file two (omega arith) two_full;
      short_verdict = few_zeros 2047 (omega arith);
      zeros_verdict = many_zeros 2048 (omega arith);
    }
