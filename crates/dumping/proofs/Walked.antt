-- Records that a reader walks over, and how long their lines are.
use Rattle.std.proofs.Common.{◌≡◌, ℕ, ◌+◌, ◌*◌, ◌^◌, ◌<◌, ◌≤◌, List, [], ◌∷◌, ◌++◌, length, sym, refl, ap, ◌∙◌, subst, append_assoc, arith, length-append, take-append-drop}
use Rattle.std.specs.List.{flat_map, AllByRecursion}
use Rattle.std.proofs.lemmas.List.{append-nil, flat_map_more}
use Rattle.std.proofs.lemmas.Fmt.{length-decimal-le}
use Rattle.byte_lists.specs.Bytes.{Bytes}
use Rattle.byte_lists.proofs.Parts.{part_bytes}
use Rattle.cdb.specs.Records.{Record, Records, size}
use Rattle.cdb.specs.Files.{position}
use Rattle.cdb.proofs.FileLookup.{one_reading}
use Rattle.text.specs.Texts.{line, text, Proper}
use Rattle.text.proofs.Counting.{length_line}
use Rattle.text_writer.specs.Sheets.{Adds}
use Rattle.text_writer.specs.declared.sheet.Sheet.{Sheet}
use Rattle.text_writer.proofs.Back.{text_append, text_joined}
use Rattle.text_writer.proofs.Laying.{both}
use Rattle.dumping.specs.Walks.{Ahead, Standing}

-- i of the n records of f are met, and the reader stands at p
pub record Walked (f : List ℕ) (n i p : ℕ) (met : List Record) : Type 0 where
  pub todo : List Record
  pub standing : Standing f (met ++ todo)
  pub ahead : Ahead f p todo
  pub count : i + length todo ≡ n

pub begun : (f : List ℕ) (n : ℕ) (rs : List Record) → Standing f rs → n ≡ length rs → Walked f n 0 2048 []
begun f n rs h c = record { todo = rs; standing = h; ahead = h; count = omega arith }

-- what a call of take says
abbrev pub Takes : List ℕ → ℕ → Record → ℕ → Type 0
Takes f p x q = (r : Record) (rs : List Record) → Ahead f p (r ∷ rs) → (x ≡ r) × Ahead f q rs

module _ (f : List ℕ) (n i p : ℕ) (met : List Record) (w : Walked f n i p met) where
  -- what is still to come begins with a record
  some : i < n → (todo : List Record) → w.todo ≡ todo → (r : Record) × (rs : List Record) × (w.todo ≡ r ∷ rs)
  some l [] e = absurd (omega (arith, w.count, ap length e))
  some l (r ∷ rs) e = (r, rs, e)

  pub ahead : i < n → (g : List ℕ) → g ≡ f → (r : Record) × (rs : List Record) × Ahead g p (r ∷ rs)
  ahead l g o =
      let s = some l w.todo refl in
      (s.0, s.1, subst (λ (u : List ℕ). Ahead u p (s.0 ∷ s.1)) (sym o) (subst (Ahead f p) s.2 w.ahead))

  pub more : i < n → (g : List ℕ) → g ≡ f → (x : Record) (q : ℕ) → Takes g p x q → Walked f n (i + 1) q (met ++ x ∷ [])
  more l g o x q t =
      let s = some l w.todo refl in
      let a = subst (λ (u : List ℕ). Takes u p x q) o t s.0 s.1 (subst (Ahead f p) s.2 w.ahead) in
      let e : met ++ w.todo ≡ (met ++ x ∷ []) ++ s.1 =
      ap (λ (u : List Record). met ++ u) (s.2 ∙ ap (λ (z : Record). z ∷ s.1) (sym a.0)) ∙ sym (append_assoc met (x ∷ []) s.1) in
      record {
        todo = s.1;
        standing = subst (Standing f) e w.standing;
        ahead = a.1;
        count = omega (arith, w.count, ap length s.2);
      }

  -- all are met
  pub all : n ≤ i → Standing f met
  all l = all_by w.todo refl
    where
      all_by : (todo : List Record) → w.todo ≡ todo → Standing f met
      all_by [] e = subst (Standing f) (ap (λ (u : List Record). met ++ u) e ∙ append-nil met) w.standing
      all_by (r ∷ rs) e = absurd (omega (arith, w.count, ap length e))

-- one line more
pub lines_more : (met : List Record) (x : Record) → flat_map line (met ++ x ∷ []) ≡ flat_map line met ++ line x
lines_more met x = sym (flat_map_more line [] met x)

line_bound : (r : Record) → length r.key < 2 ^ 32 → length r.data' < 2 ^ 32 → length (line r) ≤ 4 * size r
line_bound r k d =
    let a = length-decimal-le 10 (length r.key) (omega arith) (omega arith) (omega arith) in
    let b = length-decimal-le 10 (length r.data') (omega arith) (omega arith) (omega arith) in
    omega (arith, length_line r)

-- the lines of records take at most four times as much as the records
lines_bound : (f : List ℕ) (p end : ℕ) (rs : List Record) → end < 2 ^ 32 → Records f p end rs → length (flat_map line rs) + 4 * p ≤ 4 * end
lines_bound f p end [] l h = omega arith
lines_bound f p end (r ∷ rs) l h =
    let i = lines_bound f (p + size r) end rs l h.5 in
    let b = line_bound r (omega (arith, h.4)) (omega (arith, h.4)) in
    omega (arith, length-append (line r) (flat_map line rs))

pub text_bound : (f : List ℕ) (rs : List Record) → Standing f rs → length (text rs) ≤ 4 * 2 ^ 32
text_bound f rs h =
    let l : position f 0 < 2 ^ 32 = omega (arith, h.small, h.inside.1) in
    let b = lines_bound f 2048 (position f 0) rs l h.reads in
    omega (arith, ap length (text_joined rs), length-append (flat_map line rs) (10 ∷ []))

-- the lines of some records, then those of others and the line feed
pub text_split : (met todo : List Record) → length (text (met ++ todo)) ≡ length (flat_map line met) + length (text todo)
text_split met todo = ap length (text_append met todo) ∙ length-append (flat_map line met) (text todo)

-- a file has one record list
pub one_standing : (f : List ℕ) (rs ss : List Record) → Standing f rs → Standing f ss → rs ≡ ss
one_standing f rs ss a b = one_reading f 2048 (position f 0) rs ss a.reads b.reads

-- the records of a file are such that a text can tell
proper : (f : List ℕ) → Bytes f → (p end : ℕ) (rs : List Record) → end < 2 ^ 32 → Records f p end rs → AllByRecursion Proper rs
proper f b p end [] l h = tt
proper f b p end (r ∷ rs) l h = (
  (
    subst Bytes h.2 (part_bytes f b (p + 8) (length r.key)),
    subst Bytes h.3 (part_bytes f b (p + 8 + length r.key) (length r.data')),
    omega (arith, h.4),
    omega (arith, h.4),
  ),
  proper f b (p + size r) end rs l h.5,
)

pub all_proper : (f : List ℕ) (rs : List Record) → Standing f rs → AllByRecursion Proper rs
all_proper f rs h = proper f h.bytes 2048 (position f 0) rs (omega (arith, h.small, h.inside.1)) h.reads

-- the lines of the records met are measured, with the line feed
pub record Measured (f : List ℕ) (n i p len : ℕ) : Type 0 where
  pub met : List Record
  pub walked : Walked f n i p met
  pub long : len ≡ length (flat_map line met) + 1

pub unmeasured : (f : List ℕ) (n : ℕ) (rs : List Record) → Standing f rs → n ≡ length rs → Measured f n 0 2048 1
unmeasured f n rs h c = record { met = []; walked = begun f n rs h c; long = refl }

module _ (f : List ℕ) (n i p len : ℕ) (w : Measured f n i p len) where
  pub measured_ahead : i < n → (g : List ℕ) → g ≡ f → (r : Record) × (rs : List Record) × Ahead g p (r ∷ rs)
  measured_ahead = ahead f n i p w.met w.walked

  pub measured_more : i < n → (g : List ℕ) → g ≡ f → (x : Record) (q : ℕ) → Takes g p x q → Measured f n (i + 1) q (len + length (line x))
  measured_more l g o x q t =
      let e = w.long in
      record {
        met = w.met ++ x ∷ [];
        walked = more f n i p w.met w.walked l g o x q t;
        long = omega (arith, ap length (lines_more w.met x), length-append (flat_map line w.met) (line x));
      }

  pub measured_bound : len ≤ 4 * 2 ^ 32
  measured_bound = let e = w.long in omega (arith, text_bound f (w.met ++ w.walked.todo) w.walked.standing, text_split w.met w.walked.todo, text_least w.walked.todo)
    where
      text_least : (rs : List Record) → 1 ≤ length (text rs)
      text_least [] = omega arith
      text_least (r ∷ rs) = omega (arith, length-append (line r) (text rs), text_least rs)

  pub all_measured : n ≤ i → (rs : List Record) × Standing f rs × (len ≡ length (text rs))
  all_measured l =
      let e = w.long in
      (w.met, all f n i p w.met w.walked l, omega (arith, ap length (text_joined w.met), length-append (flat_map line w.met) (10 ∷ [])))

-- the lines of the records met are written on a sheet that has room for the text of all
pub record Written (f : List ℕ) (n i p : ℕ) (s t : Sheet) : Type 0 where
  pub met : List Record
  pub walked : Walked f n i p met
  pub fits : s.written + length (text (met ++ walked.todo)) ≤ length s.buffer.now
  pub adds : Adds (flat_map line met) s t

nothing : (s : Sheet) → Adds [] s s
nothing s = record { same_reference = refl; written = omega arith; after = sym (take-append-drop s.written s.buffer.now); long = refl }

pub unwritten : (f : List ℕ) (n : ℕ) (rs : List Record) (s : Sheet) → Standing f rs → n ≡ length rs → s.written + length (text rs) ≤ length s.buffer.now → Written f n 0 2048 s s
unfolding begun
unwritten f n rs s h c l = record { met = []; walked = begun f n rs h c; fits = l; adds = nothing s }

module _ (f : List ℕ) (n i p : ℕ) (s t : Sheet) (w : Written f n i p s t) where
  pub written_ahead : i < n → (g : List ℕ) → g ≡ f → (r : Record) × (rs : List Record) × Ahead g p (r ∷ rs)
  written_ahead = ahead f n i p w.met w.walked

  module _ (l : i < n) (g : List ℕ) (o : g ≡ f) (x : Record) (q : ℕ) (k : Takes g p x q) where
    next : Walked f n (i + 1) q (w.met ++ x ∷ [])
    next = more f n i p w.met w.walked l g o x q k

    -- the next record is that of the walk, so its line has room
    same : w.met ++ w.walked.todo ≡ (w.met ++ x ∷ []) ++ next.todo
    same = one_standing f (w.met ++ w.walked.todo) ((w.met ++ x ∷ []) ++ next.todo) w.walked.standing next.standing

    long : length (text (w.met ++ w.walked.todo)) ≡ length (flat_map line w.met) + length (line x) + length (text next.todo)
    long =
        ap (λ (rs : List Record). length (text rs)) same
        ∙ text_split (w.met ++ x ∷ []) next.todo
        ∙ ap (λ (m : ℕ). m + length (text next.todo)) (ap length (lines_more w.met x) ∙ length-append (flat_map line w.met) (line x))

    pub line_fits : t.written + length (line x) ≤ length t.buffer.now
    line_fits = let a = w.adds in let b = w.fits in omega (arith, a.written, a.long, long)

    pub written_more : (u : Sheet) → Adds (line x) t u → Written f n (i + 1) q s u
    written_more u b =
        let a = w.adds in
        record {
          met = w.met ++ x ∷ [];
          walked = next;
          fits = subst (λ (rs : List Record). s.written + length (text rs) ≤ length s.buffer.now) same w.fits;
          adds = subst (λ (y : List ℕ). Adds y s u) (sym (lines_more w.met x)) (both (flat_map line w.met) (line x) s t u (omega (arith, w.fits, long)) a b);
        }

  end_room : s.written + (length (flat_map line w.met) + 1) ≤ length s.buffer.now
  end_room = omega (arith, w.fits, text_split w.met w.walked.todo, text_least w.walked.todo)
    where
      text_least : (rs : List Record) → 1 ≤ length (text rs)
      text_least [] = omega arith
      text_least (r ∷ rs) = omega (arith, length-append (line r) (text rs), text_least rs)

  pub end_fits : t.written + 1 ≤ length t.buffer.now
  end_fits = let a = w.adds in omega (arith, a.written, a.long, end_room)

  pub all_written : n ≤ i → (end : List ℕ) → end ≡ 10 ∷ [] → (u : Sheet) → Adds end t u → (rs : List Record) × Standing f rs × Adds (text rs) s u
  all_written l end e u b = (
    w.met,
    all f n i p w.met w.walked l,
    subst (λ (y : List ℕ). Adds y s u) (sym (text_joined w.met))
        (both (flat_map line w.met) (10 ∷ []) s t u end_room w.adds (subst (λ (y : List ℕ). Adds y t u) e b)),
  )
