-- A file with the tables of its records' entries is lawful.
use Rattle.std.proofs.Common.{◌≡◌, ℕ, zero, suc, ◌+◌, ◌*◌, ◌%◌, ◌^◌, ◌<◌, Bool, true, false, cond, eqb, List, [], ◌∷◌, map, length, get_or, filter, sym, refl, ap, ◌∙◌, subst, inl, inr, ⊎_elim, arith}
use mathlib.Core.Bool.{false≢true}
use Rattle.std.specs.List.{flat_map}
use Rattle.std.proofs.lemmas.List.{length-map}
use Rattle.std.proofs.ByRecursion.{All-get_or}
use Rattle.std.proofs.lemmas.List.Sorted.{IsPermutation-refl}
use Rattle.std.proofs.lemmas.Bool.{cases_eq}
use Rattle.byte_lists.specs.Bytes.{part}
use Rattle.cdb.specs.Records.{Record, Item, record_bytes, items, belonging, hash_of, table_of}
use Rattle.cdb.specs.Tables.{Slot, entry, Permitted, Roomy}
use Rattle.cdb.specs.Files.{position, slot_count, slots_in}
use Rattle.cdb.specs.Rules.{Lawful}
use Rattle.cdb.proofs.TableLaw.{InFile, FillsItems, LawfulTable}
use Rattle.cdb.proofs.Raw.{fills_items}
use Rattle.cdb.proofs.Placement.{length_slots_at, records_read}
use Rattle.cdb.proofs.Forward.{forward}
use Rattle.cdb.proofs.Backward.{above}
use Rattle.cdb.proofs.FileProof.{belonging_in_file}
use Rattle.cdb.proofs.ByTable.{all_tables}
use Rattle.building.specs.declared.entries.Entry.{Entry}
use Rattle.building.specs.Entries.{slot_of, belongs, count_of, puts_into, Tabled}
use Rattle.building.proofs.Counting.{below_more, below_none, below_all}
use Rattle.building.proofs.Grown.{order_long}

both : (b c : Bool) (e : Entry) (x : Item) (es : List Entry) (xs : List Item) → b ≡ c → slot_of e ≡ entry x → map slot_of es ≡ map entry xs → map slot_of (cond b (e ∷ es) es) ≡ map entry (cond c (x ∷ xs) xs)
both true true e x es xs q h t = ap (λ (z : Slot). z ∷ map slot_of es) h ∙ ap (λ (z : List Slot). entry x ∷ z) t
both true false e x es xs q h t = absurd (false≢true (sym q))
both false true e x es xs q h t = absurd (false≢true q)
both false false e x es xs q h t = t

abbrev item_of : ℕ → Item → Bool
item_of t x = eqb (table_of x.key) t

order_of : (t : ℕ) (es : List Entry) (xs : List Item) → map slot_of es ≡ map entry xs → map slot_of (filter (belongs t) es) ≡ map entry (filter (item_of t) xs)
order_of t [] [] e = refl
order_of t [] (x ∷ xs) e = let z = ap length e in absurd (omega arith)
order_of t (a ∷ es) [] e = let z = ap length e in absurd (omega arith)
order_of t (a ∷ es) (x ∷ xs) e =
    let h : slot_of a ≡ entry x = cc in
    let r : map slot_of es ≡ map entry xs = cc in
    let k : a.hash ≡ hash_of x.key = ap (λ (s : Slot). s.hash) h in
    both (belongs t a) (item_of t x) a x (filter (belongs t) es) (filter (item_of t) xs) (ap (λ (q : ℕ). eqb (q % 256) t) k) h (order_of t es xs r)

rises : (q : ℕ) (xs : List Item) → InFile q xs → (i j : ℕ) (d : Item) → i < j → j < length xs → (get_or xs i d).place < (get_or xs j d).place
rises q [] f i j d l m = absurd (omega arith)
rises q (x ∷ xs) f zero zero d l m = absurd (omega arith)
rises q (x ∷ xs) f zero (suc j) d l m = All-get_or (λ (y : Item). x.place < y.place) xs j d (omega arith) (above x.place xs f.1)
rises q (x ∷ xs) f (suc i) zero d l m = absurd (omega arith)
rises q (x ∷ xs) f (suc i) (suc j) d l m = rises x.place xs f.1 i j d (omega arith) (omega arith)

in_turn : (xs : List Item) → InFile 0 xs → Permitted xs xs
in_turn xs f = record { same = IsPermutation-refl xs; kept = λ i j d l m e. rises 0 xs f i j d l m }

roomy : (n : ℕ) → Roomy n (2 * n)
roomy n = ⊎_elim (λ (e : n ≡ 0). inr (e, omega arith)) (λ e. inl (omega arith)) (cases_eq n 0)

module _ (f : List ℕ) (rs : List Record) (es : List Entry) (end : ℕ) (left : map slot_of es ≡ map entry (items 2048 rs)) (h : Tabled f end es) where
  table_lawful : (t : ℕ) → t < 256 → LawfulTable (belonging t rs) (slots_in f t)
  table_lawful t l =
      let xs : List Item = belonging t rs in
      let s : List Slot = slots_in f t in
      let o : puts_into t es ≡ map entry xs = order_of t es (items 2048 rs) left in
      let n : count_of t es ≡ length xs = sym (order_long t es) ∙ ap length o ∙ length-map xs entry in
      let sl : length s ≡ 2 * count_of t es = length_slots_at f (position f t) (slot_count f t) ∙ h.lengths t l in
      let fill : FillsItems (2 * count_of t es) xs s = fills_items (h.filled t l) xs (sym o) in
      let F : ℕ → Type 0 = λ q. FillsItems q xs s in
      let R : ℕ → Type 0 = λ q. Roomy (length xs) q in
      let sl' : length s ≡ 2 * length xs = sl ∙ ap (λ (q : ℕ). 2 * q) n in
      forward xs s (belonging_in_file t rs) (subst R (sym sl') (roomy (length xs))) xs (in_turn xs (belonging_in_file t rs)) (subst F (sym sl) fill)

  -- the entries are those of the records, and the records stand in the file
  pub tabled_is_lawful : length f < 2 ^ 32 → end ≡ 2048 + length (flat_map record_bytes rs) → part f 2048 (length (flat_map record_bytes rs)) ≡ flat_map record_bytes rs → Lawful f rs
  tabled_is_lawful short e records =
      let long : length f ≡ end + 16 * length es = h.long in
      let p0 : position f 0 ≡ end = h.positions 0 (omega arith) ∙ omega (arith, below_none es) in
      let at = h.positions in
      let n = h.lengths in
      all_tables f rs (record {
        long = omega arith;
        first = omega arith;
        within = omega arith;
        abut = λ t l. omega (arith, at (t + 1) (omega arith), at t (omega arith), n t (omega arith), below_more t es);
        last = omega (arith, at 255 (omega arith), n 255 (omega arith), below_more 255 es, below_all es);
        read = records_read f 2048 (position f 0) rs (omega arith) records (sym e ∙ sym p0);
        tables = table_lawful;
      })
