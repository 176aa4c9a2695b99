-- A file is lawful exactly when permitted fillings give its bytes.
use Rattle.std.proofs.Common.{◌≡◌, ℕ, zero, suc, ◌+◌, ◌-◌, ◌*◌, ◌%◌, ◌^◌, ◌<◌, ◌≤◌, eqb, ◌↔◌, List, [], ◌∷◌, ◌++◌, length, get_or, sym, refl, ap, ◌∙◌, subst, ⊎_elim, arith}
use Rattle.std.specs.List.{ContainsAt as Has, flat_map, AllByRecursion}
use Rattle.std.proofs.lemmas.List.{length-append}
use Rattle.std.proofs.ByRecursion.{all-has, All-from_get_or, all_kept_by, has_shuffled}
use Rattle.std.proofs.lemmas.List.Sorted.{IsPermutation-sym}
use Rattle.std.proofs.lemmas.Bool.{cases_eq}
use Rattle.cdb.proofs.Forward.{forward, held, all_positive}
use Rattle.cdb.proofs.Backward.{backward}
use Rattle.cdb.proofs.Lookup.{in_file_kept}
use Rattle.byte_lists.proofs.Parts.{At, at_both, at_join, at_whole, at_self}
use Rattle.byte_lists.proofs.Words.{word_read, word_made}
use Rattle.cdb.proofs.Placement.{length_table_bytes, length_slots_at, Small, slots_read, slots_made, records_made, records_read, items_small}
use Rattle.cdb.specs.Records.{Item, hash_of}
use Rattle.cdb.specs.Tables.{Slot, blank, slot}
use Rattle.cdb.proofs.TableLaw.{InFile}
use Rattle.cdb.specs.Records.{Record, size, record_bytes, items, belonging}
use Rattle.byte_lists.specs.Bytes.{Bytes, word, word_at}
use Rattle.cdb.specs.Files.{table_bytes, header, file_of, Made, position, slot_count, ends, slots_at, slots_in}
use Rattle.cdb.specs.Rules.{Each, Rule2, Rule3}
use Rattle.cdb.proofs.TableLaw.{FillingItems, LawfulFile}
use Rattle.cdb.specs.Tables.{Filling}
use Rattle.cdb.proofs.Raw.{items_filling, raw_filling}

items_in_file : (q p : ℕ) (rs : List Record) → q < p → InFile q (items p rs)
items_in_file q p [] l = tt
items_in_file q p (r ∷ rs) l = (l, items_in_file p (p + size r) rs (omega arith))

pub belonging_in_file : (t : ℕ) (rs : List Record) → InFile 0 (belonging t rs)
belonging_in_file t rs = in_file_kept (λ x. eqb (hash_of x.key % 256) t) 0 (items 2048 rs) (items_in_file 0 2048 rs (omega arith))

length_header : (p : ℕ) (ss : List (List Slot)) → length (header p ss) ≡ 8 * length ss
length_header p [] = refl
length_header p (s ∷ ss) = omega (arith, length_header (p + 8 * length s) ss)

-- where the table i starts, of tables of which the first starts at p
starts : ℕ → List (List Slot) → ℕ → ℕ
starts p [] i = p
starts p (s ∷ ss) zero = p
starts p (s ∷ ss) (suc i) = starts (p + 8 * length s) ss i

starts_zero : (p : ℕ) (ss : List (List Slot)) → starts p ss 0 ≡ p
unfolding starts
starts_zero p [] = refl
starts_zero p (s ∷ ss) = refl

starts_next : (p : ℕ) (ss : List (List Slot)) (i : ℕ) → i < length ss → starts p ss (suc i) ≡ starts p ss i + 8 * length (get_or ss i [])
unfolding starts
starts_next p [] i l = absurd (omega arith)
starts_next p (s ∷ ss) zero l = starts_zero (p + 8 * length s) ss
starts_next p (s ∷ ss) (suc i) l = starts_next (p + 8 * length s) ss i (omega arith)

starts_end : (p : ℕ) (ss : List (List Slot)) → starts p ss (length ss) ≡ p + length (flat_map table_bytes ss)
unfolding starts
starts_end p [] = omega arith
starts_end p (s ∷ ss) =
    starts_end (p + 8 * length s) ss ∙ omega (arith, length-append (table_bytes s) (flat_map table_bytes ss), length_table_bytes s)

starts_below : (p : ℕ) (ss : List (List Slot)) (i : ℕ) → i < length ss → starts p ss i + 8 * length (get_or ss i []) ≤ p + length (flat_map table_bytes ss)
unfolding starts
starts_below p [] i l = absurd (omega arith)
starts_below p (s ∷ ss) zero l = omega (arith, length-append (table_bytes s) (flat_map table_bytes ss), length_table_bytes s)
starts_below p (s ∷ ss) (suc i) l =
    let r = starts_below (p + 8 * length s) ss i (omega arith) in
    omega (arith, length-append (table_bytes s) (flat_map table_bytes ss), length_table_bytes s)

tables_at : (f : List ℕ) (p : ℕ) (ss : List (List Slot)) → At f p (flat_map table_bytes ss) → (i : ℕ) → i < length ss → At f (starts p ss i) (table_bytes (get_or ss i []))
unfolding starts
tables_at f p [] a i l = absurd (omega arith)
tables_at f p (s ∷ ss) a zero l = (at_both f p (table_bytes s) (flat_map table_bytes ss) a).0
tables_at f p (s ∷ ss) a (suc i) l =
    tables_at f (p + 8 * length s) ss (subst (λ n. At f (p + n) (flat_map table_bytes ss)) (length_table_bytes s) (at_both f p (table_bytes s) (flat_map table_bytes ss) a).1) i (omega arith)

-- what the header says
header_read : (f : List ℕ) (q p : ℕ) (ss : List (List Slot)) → p + length (flat_map table_bytes ss) < 2 ^ 32 → At f q (header p ss) →
    (i : ℕ) → i < length ss → (word_at f (q + 8 * i) ≡ starts p ss i) × (word_at f (q + 8 * i + 4) ≡ length (get_or ss i []))
unfolding starts
header_read f q p [] b a i l = absurd (omega arith)
header_read f q p (s ∷ ss) b a zero l =
    let all = length-append (table_bytes s) (flat_map table_bytes ss) in
    let len = length_table_bytes s in
    let w = at_both f q (word p ++ word (length s)) (header (p + 8 * length s) ss) a in
    let u = at_both f q (word p) (word (length s)) w.0 in
    let z : q + 8 * 0 ≡ q = omega arith in
    (rw z (word_read f q p (omega arith) u.0), rw z (word_read f (q + 4) (length s) (omega arith) u.1))
header_read f q p (s ∷ ss) b a (suc i) l =
    let all = length-append (table_bytes s) (flat_map table_bytes ss) in
    let len = length_table_bytes s in
    let w = at_both f q (word p ++ word (length s)) (header (p + 8 * length s) ss) a in
    let r = header_read f (q + 8) (p + 8 * length s) ss (omega arith) w.1 i (omega arith) in
    let z : q + 8 * suc i ≡ q + 8 + 8 * i = omega arith in
    rw z r

-- the slots of a filling are small
filling_small : (xs : List Item) (s : List Slot) → InFile 0 xs → AllByRecursion (λ (y : Item). (hash_of y.key < 2 ^ 32) × (y.place < 2 ^ 32)) xs → FillingItems xs s → AllByRecursion Small s
filling_small xs s f small fill =
    let back : (y : Item) → Has fill.order y → Has xs y = λ y h. has_shuffled fill.order xs y (IsPermutation-sym xs fill.order fill.permitted.same) h in
    let h = held (λ y m. all-has (λ z. 0 < z.place) xs y (all_positive 0 xs f) (back y m)) fill.fills in
    All-from_get_or Small s blank
    (λ i l. ⊎_elim
    (λ e. rw (h.clear i e) (omega arith))
    (λ ne. let r = h.whose i (omega arith) in
    rw r.2 (all-has (λ (y : Item). (hash_of y.key < 2 ^ 32) × (y.place < 2 ^ 32)) xs r.0 small (back r.0 r.1)))
    (cases_eq (slot s i).place 0))

pub length_file_of : (rs : List Record) (ss : List (List Slot)) → length (file_of rs ss) ≡ 8 * length ss + length (flat_map record_bytes rs) + length (flat_map table_bytes ss)
unfolding file_of
length_file_of rs ss =
    let R = flat_map record_bytes rs in
    let T = flat_map table_bytes ss in
    let p = 2048 + length R in
    length-append (header p ss) (R ++ T) ∙ omega (arith, length_header p ss, length-append R T)

-- what is read from a file that is made from records and tables, filled or not
pub record ReadBack (f : List ℕ) (rs : List Record) (ss : List (List Slot)) : Type 0 where
  pub total : length f ≡ 2048 + length (flat_map record_bytes rs) + length (flat_map table_bytes ss)
  pub first : position f 0 ≡ 2048 + length (flat_map record_bytes rs)
  pub counts : (t : ℕ) → t < 256 → slot_count f t ≡ length (get_or ss t [])
  pub entries : Each (Rule2 f)
  pub read : Rule3 f rs
  pub slots : (t : ℕ) → t < 256 → AllByRecursion Small (get_or ss t []) → slots_in f t ≡ get_or ss t []

pub made_reads : (f : List ℕ) (rs : List Record) (ss : List (List Slot)) → length ss ≡ 256 → f ≡ file_of rs ss → length f < 2 ^ 32 → ReadBack f rs ss
unfolding file_of
made_reads f rs ss count made short =
    let R = flat_map record_bytes rs in
    let T = flat_map table_bytes ss in
    let p = 2048 + length R in
    let H = header p ss in
    let a = at_both f 0 H (R ++ T) (at_self f (H ++ (R ++ T)) made) in
    let lh : length H ≡ 2048 = length_header p ss ∙ ap (λ n. 8 * n) count in
    let lh0 : 0 + length H ≡ 2048 = omega arith in
    let a1 : At f 2048 (R ++ T) = subst (λ n. At f n (R ++ T)) lh0 a.1 in
    let b = at_both f 2048 R T a1 in
    let len : length f ≡ p + length T = ap length made ∙ length_file_of rs ss ∙ omega arith in
    let head = header_read f 0 p ss (omega arith) a.0 in
    let pos : (t : ℕ) → t < 256 → position f t ≡ starts p ss t = λ t l. ap (word_at f) (omega arith) ∙ (head t (omega arith)).0 in
    let cnt : (t : ℕ) → t < 256 → slot_count f t ≡ length (get_or ss t []) = λ t l. ap (word_at f) (omega arith) ∙ (head t (omega arith)).1 in
    let pos0 : position f 0 ≡ p = pos 0 (omega arith) ∙ starts_zero p ss in
    record {
      total = len;
      first = pos0;
      counts = cnt;
      entries = λ t l. record {
        first = λ z. rw z (omega arith, omega arith);
        abuts = λ s.
            let z : suc (t - 1) ≡ t = omega arith in
            let nxt = starts_next p ss (t - 1) (omega arith) in
            pos t l ∙ ap (starts p ss) (sym z) ∙ nxt ∙ rw (pos (t - 1) (omega arith), cnt (t - 1) (omega arith));
        within = omega (arith, pos t l, cnt t l, starts_below p ss t (omega arith));
        last = λ z.
            let nxt = starts_next p ss 255 (omega arith) in
            let end : starts p ss 256 ≡ p + length T = ap (starts p ss) (sym count) ∙ starts_end p ss in
            rw z (omega (arith, pos 255 (omega arith), cnt 255 (omega arith)));
      };
      read = records_read f 2048 (position f 0) rs (omega arith) b.0 (sym pos0);
      slots = λ t l small.
          let s = get_or ss t [] in
          ap (λ n. slots_at f n (slot_count f t)) (pos t l) ∙ ap (slots_at f (starts p ss t)) (cnt t l)
          ∙ slots_read f (starts p ss t) s small (tables_at f p ss b.1 t (omega arith));
    }

lawful_from_made : (file : List ℕ) (rs : List Record) → Bytes file → length file < 2 ^ 32 → Made file rs → LawfulFile file rs
lawful_from_made file rs bytes short m =
    let back = made_reads file rs m.tables m.count m.bytes short in
    let e0 = (back.entries 0 (omega arith)).first refl in
    let small = items_small file bytes 2048 (position file 0) rs (omega arith) back.read in
    record {
      long = omega arith;
      first = e0.0;
      within = e0.1;
      abut = λ t l. let z : t + 1 - 1 ≡ t = omega arith in (back.entries (t + 1) (omega arith)).abuts (omega arith) ∙ ap (ends file) z;
      last = (back.entries 255 (omega arith)).last refl;
      read = back.read;
      tables = λ t l.
          let xs = belonging t rs in
          let s = get_or m.tables t [] in
          let fill = items_filling xs s (m.filled t l) in
          let inf = belonging_in_file t rs in
          let sm = filling_small xs s inf (all_kept_by (λ x. eqb (hash_of x.key % 256) t) (λ (y : Item). (hash_of y.key < 2 ^ 32) × (y.place < 2 ^ 32)) (items 2048 rs) small) fill in
          rw (back.slots t l sm) (forward xs s inf fill.roomy fill.order fill.permitted fill.fills);
    }

-- the tables from table t on, n of them
tables_of : List ℕ → ℕ → ℕ → List (List Slot)
tables_of f t zero = []
tables_of f t (suc n) = slots_at f (position f t) (slot_count f t) ∷ tables_of f (t + 1) n

length_tables_of : (f : List ℕ) (t n : ℕ) → length (tables_of f t n) ≡ n
unfolding tables_of
length_tables_of f t zero = refl
length_tables_of f t (suc n) = ap suc (length_tables_of f (t + 1) n)

get_d_tables_of : (f : List ℕ) (t n i : ℕ) → i < n → get_or (tables_of f t n) i [] ≡ slots_at f (position f (t + i)) (slot_count f (t + i))
unfolding tables_of
get_d_tables_of f t zero i l = absurd (omega arith)
get_d_tables_of f t (suc n) zero l = let z : t + 0 ≡ t = omega arith in rw z
get_d_tables_of f t (suc n) (suc i) l =
    let z : t + suc i ≡ t + 1 + i = omega arith in rw z (get_d_tables_of f (t + 1) n i (omega arith))

-- p is where table t starts, or the end of the file
abbrev Starts : List ℕ → ℕ → ℕ → Type 0
Starts f t p = (t < 256 → p ≡ position f t) × (t ≡ 256 → p ≡ length f)

module _ (f : List ℕ) (rs : List Record) (bytes : Bytes f) (law : LawfulFile f rs) where
  starts_more : (t p : ℕ) → t < 256 → Starts f t p → Starts f (t + 1) (p + 8 * length (slots_at f (position f t) (slot_count f t)))
  starts_more t p l h =
      let len = length_slots_at f (position f t) (slot_count f t) in
      let here = h.0 l in (
        (λ m. let z = law.abut t (omega arith) in omega arith),
        (λ e. let q : t ≡ 255 = omega arith in
            let z : position f t + 8 * slot_count f t ≡ length f = rw q law.last in omega arith),
      )

  tables_total : (n t p : ℕ) → t + n ≡ 256 → Starts f t p → p + length (flat_map table_bytes (tables_of f t n)) ≡ length f
  unfolding tables_of
  tables_total zero t p e h = let z = h.1 (omega arith) in omega arith
  tables_total (suc n) t p e h =
      let s = slots_at f (position f t) (slot_count f t) in
      let r = tables_total n (t + 1) (p + 8 * length s) (omega arith) (starts_more t p (omega arith) h) in
      omega (arith, length-append (table_bytes s) (flat_map table_bytes (tables_of f (t + 1) n)), length_table_bytes s)

  tables_made : (n t p : ℕ) → t + n ≡ 256 → Starts f t p → At f p (flat_map table_bytes (tables_of f t n))
  unfolding tables_of
  tables_made zero t p e h = refl
  tables_made (suc n) t p e h =
      let s = slots_at f (position f t) (slot_count f t) in
      let here : p ≡ position f t = h.0 (omega arith) in
      let more = starts_more t p (omega arith) h in
      let total = tables_total n (t + 1) (p + 8 * length s) (omega arith) more in
      let len = length_slots_at f (position f t) (slot_count f t) in
      let tb : p + 8 * length s ≡ p + length (table_bytes s) = ap (λ k. p + k) (sym (length_table_bytes s)) in
      let head : At f p (table_bytes s) = subst (λ k. At f k (table_bytes s)) (sym here) (slots_made f bytes (position f t) (slot_count f t) (omega arith)) in
      at_join f p (table_bytes s) (flat_map table_bytes (tables_of f (t + 1) n)) head
      (subst (λ k. At f k (flat_map table_bytes (tables_of f (t + 1) n))) tb (tables_made n (t + 1) (p + 8 * length s) (omega arith) more))

  header_made : (n t p : ℕ) → t + n ≡ 256 → Starts f t p → At f (8 * t) (header p (tables_of f t n))
  unfolding tables_of
  header_made zero t p e h = refl
  header_made (suc n) t p e h =
      let s = slots_at f (position f t) (slot_count f t) in
      let here : position f t ≡ p = sym (h.0 (omega arith)) in
      let len : slot_count f t ≡ length s = sym (length_slots_at f (position f t) (slot_count f t)) in
      let long = law.long in
      let w0 : At f (8 * t) (word p) = subst (λ k. At f (8 * t) (word k)) here (word_made f bytes (8 * t) (omega arith)) in
      let w1 : At f (8 * t + 4) (word (length s)) = subst (λ k. At f (8 * t + 4) (word k)) len (word_made f bytes (8 * t + 4) (omega arith)) in
      let next : 8 * (t + 1) ≡ 8 * t + 8 = omega arith in
      at_join f (8 * t) (word p ++ word (length s)) (header (p + 8 * length s) (tables_of f (t + 1) n))
      (at_join f (8 * t) (word p) (word (length s)) w0 w1)
      (subst (λ k. At f k (header (p + 8 * length s) (tables_of f (t + 1) n))) next
      (header_made n (t + 1) (p + 8 * length s) (omega arith) (starts_more t p (omega arith) h)))

made_from_lawful : (file : List ℕ) (rs : List Record) → Bytes file → LawfulFile file rs → Made file rs
unfolding file_of
made_from_lawful file rs bytes law =
    let R = flat_map record_bytes rs in
    let ss = tables_of file 0 256 in
    let T = flat_map table_bytes ss in
    let p = 2048 + length R in
    let H = header p ss in
    let rec = records_made file bytes 2048 (position file 0) rs law.within law.read in
    let st : Starts file 0 p = ((λ l. rec.1), λ e. absurd (omega arith)) in
    let ah : At file 0 H = header_made file rs bytes law 256 0 p (omega arith) st in
    let at : At file p T = tables_made file rs bytes law 256 0 p (omega arith) st in
    let lh : length H ≡ 2048 = length_header p ss ∙ ap (λ n. 8 * n) (length_tables_of file 0 256) in
    let lh0 : 2048 ≡ 0 + length H = omega arith in
    let total = tables_total file rs bytes law 256 0 p (omega arith) st in
    let all : At file 0 (H ++ (R ++ T)) =
    at_join file 0 H (R ++ T) ah (subst (λ n. At file n (R ++ T)) lh0 (at_join file 2048 R T rec.0 at)) in
    let len : length (H ++ (R ++ T)) ≡ length file = length-append H (R ++ T) ∙ omega (arith, length-append R T) in
    record {
      tables = ss;
      count = length_tables_of file 0 256;
      bytes = at_whole file (H ++ (R ++ T)) all len;
      filled = λ t l.
          let s = slots_at file (position file t) (slot_count file t) in
          let z : 0 + t ≡ t = omega arith in
          let same : get_or ss t [] ≡ s = get_d_tables_of file 0 256 t l ∙ ap (λ k. slots_at file (position file k) (slot_count file k)) z in
          let r = backward (belonging t rs) s (belonging_in_file t rs) (law.tables t l) in
          subst (Filling (belonging t rs)) (sym same)
          (raw_filling (belonging t rs) s (record { roomy = r.0; order = r.1.0; permitted = r.1.1; fills = r.1.2 }));
    }

pub file_sound : (file : List ℕ) (rs : List Record) → Bytes file → length file < 2 ^ 32 → LawfulFile file rs ↔ Made file rs
file_sound file rs bytes short = (made_from_lawful file rs bytes, lawful_from_made file rs bytes short)
