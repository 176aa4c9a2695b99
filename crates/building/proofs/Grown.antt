-- Tables that grow.
use Rattle.std.proofs.Common.{◌≡◌, ℕ, zero, suc, ◌+◌, ◌*◌, ◌/◌, ◌%◌, ◌<◌, ◌≤◌, Bool, true, false, cond, List, [], ◌∷◌, ◌++◌, map, length, take, set, replicate, count_by, filter, sym, refl, ap, ◌∙◌, subst, inl, inr, ⊎_elim, mod-lt, arith}
use Rattle.std.proofs.lemmas.List.Sums.{sum_by-cons, sum_by-take-le, count_by_more_yes, length-filter}
use Rattle.std.proofs.lemmas.List.Elements.{filter_more}
use Rattle.std.proofs.lemmas.Bool.{cases_lt, cases_eq, eq-eqb, ne_eqb}
use Rattle.std.proofs.lemmas.List.{length-replicate, length-set, length_push, length-map, map-append, append-nil, take_all}
use Rattle.byte_lists.specs.Bytes.{word_at}
use Rattle.device.specs.Meanings.{Meaning}
use Rattle.cdb.specs.Tables.{Slot, blank, slot, home, slot_away, Fills, start, put}
use Rattle.cdb.specs.Files.{slots_at}
use Rattle.cdb.proofs.Placement.{length_slots_at}
use Rattle.cdb.proofs.Forward.{taken, empty_slot}
use Rattle.cdb.proofs.Backward.{pos_all}
use Rattle.cdb.proofs.Slots.{slot_at}
use Rattle.file.specs.Ranges.{AllRead}
use Rattle.writing.specs.Runs.{Outside, Lost}
use Rattle.writing.proofs.Keeping.{used_both, counted_before, keeps_both, outside_part}
use Rattle.writing.proofs.Running.{bad_after}
use Rattle.building.specs.declared.entries.Entry.{Entry}
use Rattle.building.specs.declared.layout.Table.{Table}
use Rattle.building.specs.Entries.{slot_of, belongs, count_of, puts_into}
use Rattle.building.specs.Builds.{table_in, TablesOf, start_of, table_at, HasRoom, PutInto, FilledWith}
use Rattle.building.proofs.Ranged.{good_range}
use Rattle.building.proofs.Slotted.{slots_same}
use Rattle.building.proofs.Counting.{entry_at, below_apart, count_fits}

at_most_one : (b : Bool) → cond {A = ℕ} b 1 0 ≤ 1
at_most_one true = omega arith
at_most_one false = omega arith

abbrev one : Slot → ℕ
one s = cond (taken s) 1 0

set_count : (s : List Slot) (k : ℕ) (x : Slot) → count_by taken (set s k x) ≤ count_by taken s + 1
set_count [] k x = omega arith
set_count (y ∷ s) zero x = omega (arith, sum_by-cons one x s, sum_by-cons one y s, at_most_one (taken x))
set_count (y ∷ s) (suc k) x = omega (arith, sum_by-cons one y (set s k x), sum_by-cons one y s, set_count s k x)

blank_count : (n : ℕ) → count_by taken (replicate n blank) ≡ 0
blank_count zero = refl
blank_count (suc n) = omega (arith, sum_by-cons one blank (replicate n blank), blank_count n)

pub fill_long : {len : ℕ} {xs s : List Slot} → Fills len xs s → length s ≡ len
fill_long {len} start = length-replicate len blank
fill_long (put {xs} {s} {t} {x} f p) = ap length p.after ∙ length-set s _ x ∙ fill_long f

pub fill_count : {len : ℕ} {xs s : List Slot} → Fills len xs s → count_by taken s ≤ length xs
fill_count {len} start = omega (arith, blank_count len)
fill_count (put {xs} {s} {t} {x} f p) =
    let k : ℕ = slot_away (length s) x.hash p.distance in
    let e : count_by taken t ≡ count_by taken (set s k x) = ap (count_by taken) p.after in
    omega (arith, e, set_count s k x, fill_count f, length_push xs x)

-- a table with fewer entries than slots has an empty slot
pub room_in : (bytes : List ℕ) (pos len hash : ℕ) (xs : List Slot) → Fills len xs (slots_at bytes pos len) → length xs < len → HasRoom bytes pos len hash
room_in bytes pos len hash xs f l =
    let s : List Slot = slots_at bytes pos len in
    let n : length s ≡ len = length_slots_at bytes pos len in
    let e = empty_slot s (omega (arith, fill_count f)) in
    let i : ℕ = e.0 in
    let il : i < len = omega (arith, e.1) in
    let o = pos_all len (home len hash) i (mod-lt (hash / 256) (omega arith)) il in
    let z : (slot s i).place ≡ word_at bytes (pos + 8 * i + 4) = ap (λ (v : Slot). v.place) (slot_at bytes pos len i il) in
    (o.0, o.1, ap (λ (q : ℕ). word_at bytes (pos + 8 * q + 4)) o.2 ∙ sym z ∙ e.2)

pub order_long : (t : ℕ) (es : List Entry) → length (puts_into t es) ≡ count_of t es
order_long t es = length-map (filter (belongs t) es) slot_of ∙ length-filter (belongs t) es

-- the next entry's table has room for it
pub order_room : (es : List Entry) (i : ℕ) → i < length es → length (puts_into ((entry_at es i).hash % 256) (take i es)) < count_of ((entry_at es i).hash % 256) es
order_room es i l =
    let t : ℕ = (entry_at es i).hash % 256 in
    let a = order_long t (take i es) in
    let b = count_by_more_yes (belongs t) es i (record { hash = 0; place = 0 }) l (eq-eqb t t refl) in
    let c = sum_by-take-le (λ (e : Entry). cond (belongs t e) 1 0) es (i + 1) in
    omega arith

order_same : (es : List Entry) (i : ℕ) → i < length es → puts_into ((entry_at es i).hash % 256) (take (i + 1) es) ≡ puts_into ((entry_at es i).hash % 256) (take i es) ++ slot_of (entry_at es i) ∷ []
order_same es i l =
    let t : ℕ = (entry_at es i).hash % 256 in
    let e = filter_more (belongs t) es i (record { hash = 0; place = 0 }) l in
    let b : belongs t (entry_at es i) ≡ true = eq-eqb t t refl in
    let F : Bool → List Entry = λ q. filter (belongs t) (take i es) ++ cond q (entry_at es i ∷ []) [] in
    ap (map slot_of) (e ∙ ap F b) ∙ map-append slot_of (filter (belongs t) (take i es)) (entry_at es i ∷ [])

order_other : (es : List Entry) (i u : ℕ) → i < length es → ((entry_at es i).hash % 256 ≡ u → ⊥) → puts_into u (take (i + 1) es) ≡ puts_into u (take i es)
order_other es i u l ne =
    let e = filter_more (belongs u) es i (record { hash = 0; place = 0 }) l in
    let b : belongs u (entry_at es i) ≡ false = ne_eqb ((entry_at es i).hash % 256) u ne in
    let F : Bool → List Entry = λ q. filter (belongs u) (take i es) ++ cond q (entry_at es i ∷ []) [] in
    ap (map slot_of) (e ∙ ap F b ∙ append-nil (filter (belongs u) (take i es)))

-- one entry more
module _ (m n o : Meaning) (from : ℕ) (es : List Entry) (i : ℕ) (l : i < length es) where
  abbrev mine : ℕ
  mine = (entry_at es i).hash % 256

  abbrev pub pos_of : ℕ
  pos_of = start_of from es mine

  abbrev pub len_of : ℕ
  len_of = 2 * count_of mine es

  mine_in : pos_of + 8 * len_of ≤ from + 16 * length es
  mine_in = omega (arith, count_fits es mine (omega arith))

  grown : FilledWith m from es (take i es) n → PutInto n pos_of len_of (slot_of (entry_at es i)) o → (u : ℕ) → u < 256 → Fills (2 * count_of u es) (puts_into u (take (i + 1) es)) (table_at o.bytes from es u)
  grown b p u ul =
      ⊎_elim
      (λ (e : mine ≡ u).
      let P : List Slot → Type 0 = λ q. Fills len_of q (table_at o.bytes from es mine) in
      let Q : ℕ → Type 0 = λ q. Fills (2 * count_of q es) (puts_into q (take (i + 1) es)) (table_at o.bytes from es q) in
      subst Q e (subst P (sym (order_same es i l)) (put (b.tables mine (omega arith)) p.puts)))
      (λ (ne : mine ≡ u → ⊥).
      let P : List Slot → Type 0 = λ q. Fills (2 * count_of u es) q (table_at o.bytes from es u) in
      let Q : List Slot → Type 0 = λ q. Fills (2 * count_of u es) (puts_into u (take i es)) q in
      let out : (k : ℕ) → start_of from es u ≤ k → k < start_of from es u + 8 * (2 * count_of u es) → Outside pos_of (8 * len_of) k =
      λ k a c. ⊎_elim
      (λ (lt : u < mine). inl (omega (arith, below_apart es u mine lt)))
      (λ (ge : mine ≤ u). let lt : mine < u = omega (arith, ne) in inr (omega (arith, below_apart es mine u lt)))
      (cases_lt u mine) in
      let same : table_at n.bytes from es u ≡ table_at o.bytes from es u =
      slots_same n.bytes o.bytes (start_of from es u) (2 * count_of u es) (λ k a c. sym (p.keeps.same k (out k a c))) in
      subst P (sym (order_other es i u l ne)) (subst Q same (b.tables u ul)))
      (cases_eq mine u)

  mine_out : (k : ℕ) → Outside from (16 * length es) k → Outside pos_of (8 * len_of) k
  mine_out k h = let c = mine_in in outside_part from (16 * length es) pos_of (8 * len_of) k (omega arith) (omega arith) h

  pub filled_more : FilledWith m from es (take i es) n → PutInto n pos_of len_of (slot_of (entry_at es i)) o → FilledWith m from es (take (i + 1) es) o
  filled_more b p = record {
    keeps = keeps_both m n o _ _ _ b.keeps p.keeps (λ k h. h) mine_out;
    power = p.power ∙ b.power;
    left = used_both m.left n.left o.left 0 0 0 (omega arith) b.left p.left;
    on = b.on;
    good = b.good;
    none = λ e. absurd (omega arith);
    tables = grown b p;
  }

  pub filled_within : FilledWith m from es (take i es) n → from + 16 * length es ≤ 512 * m.sectors → pos_of + 8 * len_of ≤ 512 * n.sectors
  filled_within b h = let s : n.sectors ≡ m.sectors = b.keeps.sectors in let c = mine_in in omega arith

  pub filled_reads : FilledWith m from es (take i es) n → AllRead n pos_of (8 * len_of)
  filled_reads b =
      let c = mine_in in
      good_range n pos_of (8 * len_of) (λ z. b.power ∙ b.on (omega arith))
      (λ s t. bad_after m n s b.keeps.condition ∙ b.good s (omega arith, omega (arith, t.1), omega (arith, t.2)))

  pub filled_room : FilledWith m from es (take i es) n → HasRoom n.bytes pos_of len_of (entry_at es i).hash
  filled_room b = room_in n.bytes pos_of len_of (entry_at es i).hash (puts_into mine (take i es)) (b.tables mine (omega arith)) (omega (arith, order_room es i l))

  pub filled_lost : FilledWith m from es (take i es) n → Lost n pos_of (8 * len_of) o → Lost m from (16 * length es) o
  filled_lost b g =
      let c = mine_in in
      record {
        on = sym b.power ∙ g.on;
        counted = counted_before m.left n.left 0 b.left g.counted;
        off = g.off;
        out = g.out;
        sector = g.sector;
        touched = (omega arith, omega (arith, g.touched.1), omega (arith, g.touched.2));
        good = λ s t u. b.good s t;
        keeps = keeps_both m n o _ _ _ b.keeps g.keeps (λ k h. h.0) (λ k h. (mine_out k h.0, h.1));
      }

pub filled_all : (m n : Meaning) (from : ℕ) (es : List Entry) (i : ℕ) → length es ≤ i → FilledWith m from es (take i es) n → FilledWith m from es es n
filled_all m n from es i l b = let P : List Entry → Type 0 = λ q. FilledWith m from es q n in subst P (take_all i es l) b

-- the next entry's table by what the code has of it: where it starts and its slots
module _ (m n : Meaning) (from : ℕ) (es : List Entry) (i : ℕ) (l : i < length es) (ts : List Table) (u : ℕ) (e : u ≡ (entry_at es i).hash % 256) (h : TablesOf ts es) (b : FilledWith m from es (take i es) n) where
  abbrev there : ℕ
  there = from + (table_in ts u).offset

  abbrev count : ℕ
  count = (table_in ts u).slots

  there_is : there ≡ start_of from es ((entry_at es i).hash % 256)
  there_is = ap (λ (q : ℕ). from + (table_in ts q).offset) e ∙ ap (λ (q : ℕ). from + q) (h.offsets ((entry_at es i).hash % 256) (omega arith))

  count_is : count ≡ 2 * count_of ((entry_at es i).hash % 256) es
  count_is = ap (λ (q : ℕ). (table_in ts q).slots) e ∙ h.slots ((entry_at es i).hash % 256) (omega arith)

  -- what a put asks of it
  pub put_within : from + 16 * length es ≤ 512 * m.sectors → there + 8 * count ≤ 512 * n.sectors
  put_within w = rw (there_is, count_is) (filled_within m n n from es i l b w)

  pub put_reads : AllRead n there (8 * count)
  put_reads = rw (there_is, count_is) (filled_reads m n n from es i l b)

  pub put_room : HasRoom n.bytes there count (entry_at es i).hash
  put_room = rw (there_is, count_is) (filled_room m n n from es i l b)

  -- what it makes of all the tables, done or refused
  pub put_more : (o : Meaning) → PutInto n there count (slot_of (entry_at es i)) o → FilledWith m from es (take (i + 1) es) o
  put_more o p = filled_more m n o from es i l b (rw (there_is, count_is) at p)

  pub put_lost : (o : Meaning) → Lost n there (8 * count) o → Lost m from (16 * length es) o
  put_lost o p = filled_lost m n o from es i l b (rw (there_is, count_is) at p)
