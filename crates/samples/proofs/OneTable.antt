-- What is read from a file of which one table alone has slots.
use Rattle.std.proofs.Common.{◌≡◌, ℕ, zero, suc, ◌+◌, ◌-◌, ◌*◌, ◌^◌, ◌<◌, ◌≤◌, List, [], ◌∷◌, ◌++◌, length, get_or, replicate, refl, ap, ◌∙◌, ⊎_elim, arith}
use Rattle.std.specs.List.{flat_map, AllByRecursion}
use Rattle.std.proofs.lemmas.List.{length-append, length-replicate, get_or_at, get_or_append_left, get_or-append_right, get_or-replicate, get_or_past}
use Rattle.std.proofs.lemmas.Bool.{cases_lt}
use Rattle.cdb.specs.Records.{Record, record_bytes}
use Rattle.cdb.specs.Tables.{Slot}
use Rattle.cdb.specs.Files.{table_bytes, file_of, position, slot_count, slots_in}
use Rattle.cdb.specs.Rules.{Each, Rule2, Rule3}
use Rattle.cdb.specs.Verdicts.{slots_below}
use Rattle.cdb.proofs.Placement.{Small, length_table_bytes}
use Rattle.cdb.proofs.FileProof.{made_reads, length_file_of}
use Rattle.samples.specs.Samples.{only_table}
use Rattle.samples.proofs.Spread.{below_zero, position_after, length_after}

none_bytes : (n : ℕ) → length (flat_map table_bytes (replicate n [])) ≡ 0
none_bytes zero = refl
none_bytes (suc n) = none_bytes n

after_none_bytes : (n : ℕ) (ss : List (List Slot)) → length (flat_map table_bytes (replicate n [] ++ ss)) ≡ length (flat_map table_bytes ss)
after_none_bytes zero ss = refl
after_none_bytes (suc n) ss = after_none_bytes n ss

no_slots : (n i : ℕ) → get_or {A = List Slot} (replicate n []) i [] ≡ []
no_slots n i =
    ⊎_elim (λ (l : i < n). get_or-replicate {A = List Slot} n i [] [] l)
    (λ (l : n ≤ i). get_or_past {X = List Slot} (replicate n []) i [] (rw (length-replicate {A = List Slot} n []) l)) (cases_lt i n)

module _ (u : ℕ) (s : List Slot) where
  only_length : u < 256 → length (only_table u s) ≡ 256
  unfolding only_table
  only_length lu =
      length-append (replicate u []) (s ∷ replicate (255 - u) [])
      ∙ omega (arith, length-replicate {A = List Slot} u [], length-replicate {A = List Slot} (255 - u) [])

  only_bytes : length (flat_map table_bytes (only_table u s)) ≡ 8 * length s
  unfolding only_table
  only_bytes =
      let rest : List (List Slot) = replicate (255 - u) [] in
      after_none_bytes u (s ∷ rest)
      ∙ length-append (table_bytes s) (flat_map table_bytes rest) ∙ omega (arith, none_bytes (255 - u), length_table_bytes s)

  only_here : get_or (only_table u s) u [] ≡ s
  unfolding only_table
  only_here = get_or_at (replicate u []) s (replicate (255 - u) []) [] u (length-replicate {A = List Slot} u [])

  only_else : (t : ℕ) → (t ≡ u → ⊥) → get_or (only_table u s) t [] ≡ []
  unfolding only_table
  only_else t ne =
      let rest : List (List Slot) = replicate (255 - u) [] in
      let lead : length {A = List Slot} (replicate u []) ≡ u = length-replicate {A = List Slot} u [] in
      ⊎_elim
      (λ (l : t < u). get_or_append_left (replicate u []) (s ∷ rest) [] t (rw lead l) ∙ no_slots u t)
      (λ (l : u ≤ t).
      let k : t - u ≡ suc (t - u - 1) = omega arith in
      get_or-append_right (replicate u []) (s ∷ rest) u t [] lead l
      ∙ ap (λ (i : ℕ). get_or (s ∷ rest) i []) k ∙ no_slots (255 - u) (t - u - 1))
      (cases_lt t u)

pub record OneTable (f : List ℕ) (rs : List Record) (u : ℕ) (s : List Slot) : Type 0 where
  pub total : length f ≡ 2048 + length (flat_map record_bytes rs) + 8 * length s
  pub entries : Each (Rule2 f)
  pub read : Rule3 f rs
  -- all tables up to u start where the records end
  pub starts : (t : ℕ) → t ≤ u → position f t ≡ 2048 + length (flat_map record_bytes rs)
  pub count : slot_count f u ≡ length s
  pub here : slots_in f u ≡ s
  pub else' : (t : ℕ) → t < 256 → (t ≡ u → ⊥) → slot_count f t ≡ 0
  pub below : slots_below f 256 ≡ length s

pub one_table : (rs : List Record) (u : ℕ) (s : List Slot) → u < 256 → AllByRecursion Small s → length (flat_map record_bytes rs) + 8 * length s < 2 ^ 31 → OneTable (file_of rs (only_table u s)) rs u s
one_table rs u s lu small short =
    let ss = only_table u s in
    let f = file_of rs ss in
    let bytes = only_bytes u s in
    let many = only_length u s lu in
    let len : length f ≡ 2048 + length (flat_map record_bytes rs) + 8 * length s = length_file_of rs ss ∙ omega arith in
    let back = made_reads f rs ss many refl (omega arith) in
    let none : (t : ℕ) → t < 256 → (t ≡ u → ⊥) → slot_count f t ≡ 0 = λ t l ne. back.counts t l ∙ ap length (only_else u s t ne) in
    record {
      total = len;
      entries = back.entries;
      read = back.read;
      starts = λ t l. position_after f back.entries t (omega arith)
          ∙ omega (arith, back.first, below_zero f t (λ i m. none i (omega arith) (λ e. omega arith)));
      count = back.counts u lu ∙ ap length (only_here u s);
      here = back.slots u lu (rw (only_here u s) small) ∙ only_here u s;
      else' = none;
      below = omega (arith, length_after f back.entries, back.first);
    }
