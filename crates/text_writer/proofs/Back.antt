-- What was read is written back, and what was written is read back.
use Rattle.std.proofs.Common.{◌≡◌, ℕ, ◌+◌, ◌<◌, ◌≤◌, List, [], ◌∷◌, ◌++◌, map, length, get_or, take, drop, Ok, Err, Bool, true, false, Decides, Result, sym, refl, ap, ◌∙◌, subst, append_assoc, arith, length-append}
use Rattle.std.specs.List.{flat_map, AllByRecursion, AllWithin, HoldsAt}
use Rattle.std.specs.Bool.{MatchBool}
use Rattle.std.proofs.lemmas.Bool.{false≢true}
use Rattle.std.proofs.lemmas.List.{take_at, take_all, take-append-drop, map-append, at_drop_more, at_drop_all, length-map, get_or-map, map_more, flat_map_more}
use Rattle.std.proofs.ByRecursion.{All-get_or, All-map, all_from_every}
use Rattle.byte_lists.specs.Bytes.{laid}
use Rattle.cdb.specs.Records.{Record}
use Rattle.text.specs.declared.fault.TextFault.{TextFault}
use Rattle.text.specs.declared.fault.TextFault.TheVariants.{Malformed, Short, Long}
use Rattle.text.specs.Texts.{line, text, Proper}
use Rattle.text.specs.declared.lent.LentRecord.{LentRecord}
use Rattle.text.specs.Readings.{lent}
use Rattle.text.proofs.Filling.{gives}
use Rattle.text_writer.proofs.Laying.{both}
use Rattle.text_writer.specs.Sheets.{Adds}
use Rattle.text_writer.specs.declared.sheet.Sheet.{Sheet}
use Rattle.text_writer.specs.Writings.{Writes, GivesTheTextBack, ReadsBack}

pub text_joined : (rs : List Record) → text rs ≡ flat_map line rs ++ (10 ∷ [])
text_joined [] = refl
text_joined (r ∷ rs) = ap (λ (x : List ℕ). line r ++ x) (text_joined rs) ∙ sym (append_assoc (line r) (flat_map line rs) (10 ∷ []))

-- the start of a buffer that a text was laid over
laid_start : (b x : List ℕ) → take (length x) (laid b 0 x) ≡ x
laid_start b x = take_at x (drop (length x) b) (length x) refl

pub text_back : (rs : List Record) (room : ℕ) (b : List ℕ) (r : Result ℕ TextFault) (c : List ℕ) → Writes rs room b r c → GivesTheTextBack rs room r c
text_back rs room b (Ok n) c w t a l =
    let e : length t ≡ length (text rs) = ap length a.1 in (
      ap Ok (w.1 ∙ sym e),
      ap (λ (m : ℕ). take m c) e ∙ ap (take (length (text rs))) w.3 ∙ laid_start b (text rs) ∙ sym a.1,
    )
text_back rs room b (Err (Malformed e)) c w t a l = absurd w
text_back rs room b (Err (Short n)) c w t a l = absurd (omega (arith, ap length a.1, w.1))
text_back rs room b (Err Long) c w t a l = absurd (w.0 a.0)

pub list_back : (rs : List Record) (room : ℕ) (b : List ℕ) (r : Result ℕ TextFault) (c : List ℕ) → Writes rs room b r c → ReadsBack rs r c
list_back rs room b (Ok n) c w = λ xs ys r k l.
    let e : take n c ≡ text rs = ap (λ (m : ℕ). take m c) w.1 ∙ ap (take (length (text rs))) w.3 ∙ laid_start b (text rs) in
    gives (take n c) (length xs) xs ys r (omega arith) k rs (w.0, e) l
list_back rs room b (Err f) c w = tt

-- the record of a list at an index, and the text from there on
abbrev pub blank : LentRecord
blank = record { key = record { ref_ptr = (0, 0); now = [] }; «data» = record { ref_ptr = (0, 0); now = [] } }

pub proper_at : (xs : List LentRecord) (i : ℕ) (d : LentRecord) → i < length xs → AllByRecursion Proper (map lent xs) → Proper (lent (get_or xs i d))
proper_at xs i d l h =
    let m : i < length (map lent xs) = omega (arith, length-map xs lent) in
    subst Proper (get_or-map lent xs i d (lent d) l) (All-get_or Proper (map lent xs) i (lent d) m h)

pub text_from : (xs : List LentRecord) (i : ℕ) (d : LentRecord) → i < length xs
    → length (text (map lent (drop i xs))) ≡ length (line (lent (get_or xs i d))) + length (text (map lent (drop (i + 1) xs)))
text_from xs i d l =
    at_drop_more (λ (ys : List LentRecord). length (text (map lent ys))) xs i d l
    ∙ length-append (line (lent (get_or xs i d))) (text (map lent (drop (i + 1) xs)))

pub text_end : (xs : List LentRecord) (i : ℕ) → length xs ≤ i → length (text (map lent (drop i xs))) ≡ 1
text_end xs i l = at_drop_all (λ (ys : List LentRecord). length (text (map lent ys))) xs i l

-- whether all are proper, from what was answered of each
pub all_proper_decided : (r : Bool) (xs : List LentRecord)
    → MatchBool r (AllWithin (λ x. Proper (lent x)) xs 0 (length xs)) ((k : ℕ) × (k < length xs) × HoldsAt (λ x. Proper (lent x) → ⊥) xs k)
    → Decides r (AllByRecursion Proper (map lent xs))
all_proper_decided true xs m = ((λ e. All-map Proper lent xs (all_from_every (λ x. Proper (lent x)) xs m)), λ h. refl)
all_proper_decided false xs m = ((λ e. absurd (false≢true e)), λ h. absurd (m.2 blank (proper_at xs m.0 blank m.1 h)))

pub joined_lines_more : (xs : List LentRecord) (i : ℕ) (d : LentRecord) → i < length xs
    → flat_map line (map lent (take (i + 1) xs)) ≡ flat_map line (map lent (take i xs)) ++ line (lent (get_or xs i d))
joined_lines_more xs i d l = ap (flat_map line) (map_more lent xs i d l) ∙ sym (flat_map_more line [] (map lent (take i xs)) (lent (get_or xs i d)))

pub text_append : (rs ss : List Record) → text (rs ++ ss) ≡ flat_map line rs ++ text ss
text_append [] ss = refl
text_append (r ∷ rs) ss = ap (λ (x : List ℕ). line r ++ x) (text_append rs ss) ∙ sym (append_assoc (line r) (flat_map line rs) (text ss))

-- the lines of the first records, and the text of the others
text_split : (xs : List LentRecord) (i : ℕ) → length (text (map lent xs)) ≡ length (flat_map line (map lent (take i xs))) + length (text (map lent (drop i xs)))
text_split xs i =
    ap (λ (ys : List LentRecord). length (text (map lent ys))) (sym (take-append-drop i xs))
    ∙ ap (λ (rs : List Record). length (text rs)) (map-append lent (take i xs) (drop i xs))
    ∙ ap length (text_append (map lent (take i xs)) (map lent (drop i xs)))
    ∙ length-append (flat_map line (map lent (take i xs))) (text (map lent (drop i xs)))

-- the lines of the first i records are written
module _ (xs : List LentRecord) (i : ℕ) (s t : Sheet) (fits : s.written + length (text (map lent xs)) ≤ length s.buffer.now) (a : Adds (flat_map line (map lent (take i xs))) s t) where
  pub line_fits : i < length xs → t.written + length (line (lent (get_or xs i blank))) ≤ length t.buffer.now
  line_fits l = omega (arith, a.written, a.long, text_split xs i, text_from xs i blank l)

  pub one_line_more : (u : Sheet) → i < length xs → Adds (line (lent (get_or xs i blank))) t u → Adds (flat_map line (map lent (take (i + 1) xs))) s u
  one_line_more u l b =
      subst (λ (x : List ℕ). Adds x s u) (sym (joined_lines_more xs i blank l))
      (both _ _ s t u (omega (arith, text_split xs i, text_from xs i blank l)) a b)

  pub end_fits : length xs ≤ i → t.written + 1 ≤ length t.buffer.now
  end_fits l = omega (arith, a.written, a.long, text_split xs i, text_end xs i l)

  pub all_written : (end : List ℕ) (u : Sheet) → end ≡ 10 ∷ [] → length xs ≤ i → Adds end t u → Adds (text (map lent xs)) s u
  all_written end u n l b =
      let e = take_all i xs l in
      subst (λ (x : List ℕ). Adds x s u) (ap (λ (ys : List LentRecord). flat_map line (map lent ys) ++ (10 ∷ [])) e ∙ sym (text_joined (map lent xs)))
      (both _ (10 ∷ []) s t u (omega (arith, text_split xs i, text_end xs i l)) a (subst (λ (x : List ℕ). Adds x t u) n b))

-- a sheet with the whole text
pub whole_text : (rs : List Record) (b : List ℕ) (s t : Sheet) → AllByRecursion Proper rs → s.written ≡ 0 → s.buffer.now ≡ b → length (text rs) ≤ length b → Adds (text rs) s t
    → Writes rs (length b) b (Ok t.written) t.buffer.now
whole_text rs b s t w e f l a =
    let n = a.written in
    (w, omega arith, omega arith, a.after ∙ ap (λ (k : ℕ). laid s.buffer.now k (text rs)) e ∙ ap (λ (c : List ℕ). laid c 0 (text rs)) f)
