-- Records of equal key.
use Rattle.std.proofs.Common.{◌≡◌, ℕ, zero, suc, ◌+◌, ◌*◌, ◌%◌, ◌<◌, ◌≤◌, min, ◌⊎◌, List, length, Ok, Err, Result, sym, refl, ap, ◌∙◌, subst, inl, inr, ⊎_elim, arith, below_more}
use Rattle.std.proofs.lemmas.Bool.{cases_lt, cases_eq}
use Rattle.cdb.specs.Records.{Item, hash_of}
use Rattle.cdb.specs.Tables.{Slot, Distance}
use Rattle.byte_lists.specs.Bytes.{word_at}
use Rattle.cdb.specs.Files.{position, slot_count}
use Rattle.cdb.proofs.Placement.{length_slots_at}
use Rattle.faults.specs.declared.file.FileFault.{FileFault}
use Rattle.scanning.specs.declared.searches.Search.{Search}
use Rattle.scanning.specs.Searches.{slot_place, HoldsBoth, Passed, Found}
use Rattle.scanning.specs.Searches.{item_at, Lowers, LaterAt, Searched, Located}
use Rattle.cdb.specs.Files.{slots_of}
use Rattle.cdb.proofs.Put.{distance_one}
use Rattle.file.specs.declared.words.Words.{Words}
use Rattle.byte_lists.proofs.Parts.{part_long}
use Rattle.scanning.specs.Searches.{Lowest, Lowered}
use Rattle.file.specs.Extents.{WordsAt}
use Rattle.scanning.proofs.Probes.{slot_placed, found_distance, missing_distance}

-- equal keys are equally long
pub key_lengths : (f : List ℕ) (p q : ℕ) → p + 8 + word_at f p ≤ length f → q + 8 + word_at f q ≤ length f → (item_at f q).key ≡ (item_at f p).key → word_at f q ≡ word_at f p
key_lengths f p q l k e = sym (part_long f (q + 8) (word_at f q) k) ∙ ap length e ∙ part_long f (p + 8) (word_at f p) l

module _ (f : List ℕ) (pos len hash p j best low : ℕ) (h : Lowest f pos len hash p j best low) where
  pub lowest_none : (LaterAt f hash p (slot_place pos len hash j) → ⊥) → Lowest f pos len hash p (j + 1) best low
  lowest_none n = record {
    most = h.most;
    least = below_more (λ i. LaterAt f hash p (slot_place pos len hash i) → low ≤ word_at f (slot_place pos len hash i + 4)) j h.least (λ a. absurd (n a));
    from = ⊎_elim (λ (a : low ≡ best). inl a) (λ a. inr (a.0, omega (arith, a.1), a.2, a.3)) h.from;
  }

  pub lowest_some : (q : ℕ) → LaterAt f hash p (slot_place pos len hash j) → q ≡ word_at f (slot_place pos len hash j + 4) → Lowest f pos len hash p (j + 1) best (min low q)
  lowest_some q a e = record {
    most = omega (arith, h.most);
    least = below_more (λ i. LaterAt f hash p (slot_place pos len hash i) → min low q ≤ word_at f (slot_place pos len hash i + 4)) j (λ i l b. omega (arith, h.least i l b)) (λ b. omega arith);
    from =
        ⊎_elim
        (λ (b : low < q).
        let z : min low q ≡ low = omega arith in
        ⊎_elim (λ (a : low ≡ best). inl (z ∙ a)) (λ a. inr (a.0, omega (arith, a.1), a.2, z ∙ a.3)) h.from)
        (λ (b : q ≤ low). let z : min low q ≡ q = omega arith in inr (j, omega arith, a, z ∙ e))
        (cases_lt low q);
  }

-- one more slot
pub lowest_more : (f : List ℕ) (pos len hash p j best low r : ℕ) (w : Words) (s : ℕ) → WordsAt f s w → s ≡ slot_place pos len hash j → Lowest f pos len hash p j best low
    → Lowers f hash p w.first w.second low r → Lowest f pos len hash p (j + 1) best r
lowest_more f pos len hash p j best low r w s pair e h k =
    let a : w.first ≡ word_at f (slot_place pos len hash j) = pair.0 ∙ ap (word_at f) e in
    let b : w.second ≡ word_at f (slot_place pos len hash j + 4) = pair.1 ∙ ap (λ (i : ℕ). word_at f (i + 4)) e in
    let g : Lowers f hash p (word_at f (slot_place pos len hash j)) (word_at f (slot_place pos len hash j + 4)) low r = rw (a, b) at k in
    ⊎_elim
    (λ x. rw x.1 (lowest_some f pos len hash p j best low h (word_at f (slot_place pos len hash j + 4)) x.0 refl))
    (λ x. rw x.1 (lowest_none f pos len hash p j best low h x.0))
    g

-- below m no slot holds a hash and a place, or one is the first that does
first_holder : (f : List ℕ) (pos len hash r m : ℕ) → ((i : ℕ) → i < m → 0 < word_at f (slot_place pos len hash i + 4))
    → Passed f pos len hash r m ⊎ ((j : ℕ) × (j < m) × HoldsBoth f (slot_place pos len hash j) hash r × Passed f pos len hash r j)
first_holder f pos len hash r zero full = inl (λ i l. absurd (omega arith))
first_holder f pos len hash r (suc m) full =
    let here : 0 < word_at f (slot_place pos len hash m + 4) = full m (omega arith) in
    ⊎_elim
    (λ (a : Passed f pos len hash r m).
    let more : (HoldsBoth f (slot_place pos len hash m) hash r → ⊥) → Passed f pos len hash r (suc m) =
    λ n i l. ⊎_elim (λ (b : i < m). a i b) (λ (b : m ≤ i). let z : m ≡ i = omega arith in subst (λ (k : ℕ). (0 < word_at f (slot_place pos len hash k + 4)) × (HoldsBoth f (slot_place pos len hash k) hash r → ⊥)) z (here, n)) (cases_lt i m) in
    ⊎_elim
    (λ (b : word_at f (slot_place pos len hash m) ≡ hash).
    ⊎_elim
    (λ (c : word_at f (slot_place pos len hash m + 4) ≡ r). inr (m, omega arith, (b, c), a))
    (λ (c : word_at f (slot_place pos len hash m + 4) ≡ r → ⊥). inl (more (λ h. c h.1)))
    (cases_eq (word_at f (slot_place pos len hash m + 4)) r))
    (λ (b : word_at f (slot_place pos len hash m) ≡ hash → ⊥). inl (more (λ h. b h.0)))
    (cases_eq (word_at f (slot_place pos len hash m)) hash))
    (λ a. inr (a.0, omega (arith, a.1), a.2, a.3))
    (first_holder f pos len hash r m (λ i l. full i (omega arith)))

-- the table of a key
abbrev table_pos : List ℕ → List ℕ → ℕ
table_pos f key = position f (hash_of key % 256)

abbrev table_len : List ℕ → List ℕ → ℕ
table_len f key = slot_count f (hash_of key % 256)

-- the slot at an item's distance, in numbers
held : (f : List ℕ) (x : Item) (j : ℕ) → Distance (slots_of f x) x j → HoldsBoth f (slot_place (table_pos f x.key) (table_len f x.key) (hash_of x.key) j) (hash_of x.key) x.place
held f x j d =
    let l : j < table_len f x.key = subst (λ (n : ℕ). j < n) (length_slots_at f (table_pos f x.key) (table_len f x.key)) d.within in
    let q = sym (slot_placed f (table_pos f x.key) (table_len f x.key) x (omega arith) j) ∙ d.holds in
    (ap (λ (s : Slot). s.hash) q, ap (λ (s : Slot). s.place) q)

module _ (f : List ℕ) (p best : ℕ) (some : 0 < p) where
  pub lowered_some : (k r : ℕ) → Found f (table_pos f (item_at f p).key) (table_len f (item_at f p).key) (hash_of (item_at f p).key) p k
      → Lowest f (table_pos f (item_at f p).key) (table_len f (item_at f p).key) (hash_of (item_at f p).key) p k best r → Lowered f (item_at f p) best r
  lowered_some k r found low =
      let y = item_at f p in
      let pos = table_pos f y.key in
      let len = table_len f y.key in
      let H = hash_of y.key in
      let dy : Distance (slots_of f y) y k = found_distance f pos len y k found in
      record {
        most = low.most;
        least = λ q o.
            let z : o.0 ≡ k = distance_one o.2 dy in
            let j = o.1 in
            let w : HoldsBoth f (slot_place pos len H j) H q =
            subst (λ (key : List ℕ). HoldsBoth f (slot_place (table_pos f key) (table_len f key) (hash_of key) j) (hash_of key) q) o.5 (held f (item_at f q) j o.3) in
            let s = slot_place pos len H j in
            let b : (item_at f (word_at f (s + 4))).key ≡ y.key = ap (λ (u : ℕ). (item_at f u).key) w.1 ∙ o.5 in
            let c : p < word_at f (s + 4) = subst (λ (u : ℕ). p < u) (sym w.1) o.6 in
            let bound : word_at f (s + 4) + 8 + word_at f (word_at f (s + 4)) ≤ length f = subst (λ (u : ℕ). u + 8 + word_at f u ≤ length f) (sym w.1) o.7 in
            subst (λ (u : ℕ). r ≤ u) w.1 (low.least j (omega (arith, o.4)) (w.0, c, bound, b));
        from =
            ⊎_elim
            (λ (a : r ≡ best). inl a)
            (λ a.
            let i = a.0 in
            let e : (item_at f r).key ≡ y.key = ap (λ (u : ℕ). (item_at f u).key) a.3 ∙ a.2.3 in
            let hold : HoldsBoth f (slot_place pos len H i) H r = (a.2.0, sym a.3) in
            ⊎_elim
            (λ (b : Passed f pos len H r (i + 1)). absurd ((b i (omega arith)).1 hold))
            (λ b.
            let j = b.0 in
            let fo : Found f pos len H r j = record { within = omega (arith, found.within, a.1, b.1); holds = b.2; passed = b.3 } in
            let F : List ℕ → Type 0 = λ u. Found f (table_pos f u) (table_len f u) (hash_of u) r j in
            inr (k, j, dy, found_distance f (table_pos f (item_at f r).key) (table_len f (item_at f r).key) (item_at f r) j (subst F (sym e) fo), omega (arith, a.1, b.1), e, subst (λ (u : ℕ). p < u) (sym a.3) a.2.1, subst (λ (u : ℕ). u + 8 + word_at f u ≤ length f) (sym a.3) a.2.2))
            (first_holder f pos len H r (i + 1) (λ n l. (found.passed n (omega (arith, a.1))).0)))
            low.from;
      }

-- what holds of the table that was read holds of the key's table, and the other way round
module _ (f : List ℕ) (p h : ℕ) (r : Words) (e : h ≡ hash_of (item_at f p).key) (pair : WordsAt f (8 * (h % 256)) r) where
  is_pos : r.first ≡ table_pos f (item_at f p).key
  is_pos = pair.0 ∙ ap (λ (z : ℕ). word_at f (8 * (z % 256))) e

  is_len : r.second ≡ table_len f (item_at f p).key
  is_len = pair.1 ∙ ap (λ (z : ℕ). word_at f (8 * (z % 256) + 4)) e

  pub at_table : (Q : ℕ → ℕ → ℕ → Type 0) → Q r.first r.second h → Q (table_pos f (item_at f p).key) (table_len f (item_at f p).key) (hash_of (item_at f p).key)
  at_table Q x = rw (← is_pos, ← is_len, ← e) x

-- what a search in the key's table says of the record at p
pub located : (f : List ℕ) (p best : ℕ) (r : Result Search FileFault) → 0 < p
    → Searched f (table_pos f (item_at f p).key) (table_len f (item_at f p).key) (hash_of (item_at f p).key) p best r → Located f p best r
located f p best (Ok x) some h =
    (h.0, found_distance f (table_pos f (item_at f p).key) (table_len f (item_at f p).key) (item_at f p) x.distance h.1, lowered_some f p best some x.distance x.low h.1 h.2)
located f p best (Err y) some h = (h.0, missing_distance f (table_pos f (item_at f p).key) (table_len f (item_at f p).key) (item_at f p) some h.1)
