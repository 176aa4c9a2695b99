-- What is known of the records up to a place, and one more.
use Rattle.std.proofs.Common.{◌≡◌, ℕ, ◌+◌, ◌-◌, ◌%◌, ◌<◌, ◌≤◌, Bool, true, false, cond, eqb, ◌≢◌, List, [], ◌∷◌, ◌++◌, length, get_or, set, Err, filter, sym, refl, ap, ◌∙◌, subst, ⊎_elim, arith, get_or-set_other, get_or-set_same}
use Rattle.std.specs.List.{AllByRecursion}
use Rattle.std.proofs.lemmas.List.Elements.{filter-append}
use Rattle.std.proofs.lemmas.List.{length-append}
use Rattle.std.proofs.lemmas.Bool.{cases_eq, eq-eqb, ne_eqb}
use Rattle.cdb.specs.Records.{Item, hash_of}
use Rattle.cdb.specs.Tables.{Distance}
use Rattle.cdb.specs.Records.{Record, Records, size, items, belonging, table_of}
use Rattle.byte_lists.specs.Bytes.{part, word_at}
use Rattle.cdb.specs.Files.{slots_of}
use Rattle.cdb.specs.Rules.{Rule4}
use Rattle.cdb.specs.Verdicts.{Probes}
use Rattle.faults.specs.declared.file.FileFault.{FileFault}
use Rattle.scanning.specs.Searches.{item_at, Located}
use Rattle.scanning.specs.Sweeps.{Lost, Met, Tally, Ahead}
use Rattle.scanning.proofs.Walks.{record_at, records_more, record_here, size_here}

pub probes_more : (f : List ℕ) (xs : List Item) (x : Item) (n j : ℕ) → Probes f xs n → Distance (slots_of f x) x j → Probes f (xs ++ x ∷ []) (n + (j + 1))
probes_more f [] x n j h d = (j, 0, d, refl, omega arith)
probes_more f (y ∷ xs) x n j h d = (h.0, h.1 + (j + 1), h.2, probes_more f xs x h.1 j h.3 d, omega (arith, h.4))

pub probes_placed : (f : List ℕ) (xs : List Item) (n : ℕ) → Probes f xs n → AllByRecursion (Rule4 f) xs
probes_placed f [] n h = tt
probes_placed f (y ∷ xs) n h = ((h.0, h.2), probes_placed f xs h.1 h.3)

pub items_more : (f : List ℕ) (q p : ℕ) (rs : List Record) (r : Record) → Records f q p rs → items q (rs ++ r ∷ []) ≡ items q rs ++ record { key = r.key; place = p } ∷ []
items_more f q p [] r h = ap (λ (z : ℕ). record { key = r.key; place = z } ∷ []) h
items_more f q p (s ∷ rs) r h = ap (λ (z : List Item). record { key = s.key; place = q } ∷ z) (items_more f (q + size s) p rs r h.5)

pub items_append : (f : List ℕ) (q p : ℕ) (rs ss : List Record) → Records f q p rs → items q (rs ++ ss) ≡ items q rs ++ items p ss
items_append f q p [] ss h = ap (λ (z : ℕ). items z ss) h
items_append f q p (s ∷ rs) ss h = ap (λ (z : List Item). record { key = s.key; place = q } ∷ z) (items_append f (q + size s) p rs ss h.5)

pub records_append : (f : List ℕ) (q p end : ℕ) (rs ss : List Record) → p ≤ end → Records f q p rs → Records f p end ss → Records f q end (rs ++ ss)
records_append f q p end [] ss l h k = subst (λ (x : ℕ). Records f x end ss) (sym h) k
records_append f q p end (s ∷ rs) ss l h k = (h.0, h.1, h.2, h.3, omega (arith, h.4), records_append f (q + size s) p end rs ss l h.5 k)

abbrev test : ℕ → Item → Bool
test t x = eqb (hash_of x.key % 256) t

-- how many belong to a table, with one more
one_more : (t : ℕ) (xs : List Item) (x : Item) → length (filter (test t) (xs ++ x ∷ [])) ≡ length (filter (test t) xs) + cond (test t x) 1 0
one_more t xs x =
    ap length (filter-append (test t) xs (x ∷ [])) ∙ length-append (filter (test t) xs) (filter (test t) (x ∷ []))
    ∙ ap (λ (n : ℕ). length (filter (test t) xs) + n) (elim (test t x) as (λ (b : Bool). length (cond b (x ∷ []) []) ≡ cond b 1 0) [ true ↦ refl | false ↦ refl ])

pub tally_more : (f : List ℕ) (p : ℕ) (counts : List ℕ) (rs : List Record) (r : Record) (t : ℕ) → Records f 2048 p rs → length counts ≡ 256 → t < 256 → t ≡ table_of r.key
    → Tally counts rs → Tally (set counts t (get_or counts t 0 + 1)) (rs ++ r ∷ [])
tally_more f p counts rs r t h l b e k s m =
    let x : Item = record { key = r.key; place = p } in
    let q : length (belonging s (rs ++ r ∷ [])) ≡ length (belonging s rs) + cond (test s x) 1 0 =
    ap (λ (z : List Item). length (filter (test s) z)) (items_more f 2048 p rs r h) ∙ one_more s (items 2048 rs) x in
    ⊎_elim
    (λ (a : s ≡ t).
    let u : test s x ≡ true = eq-eqb (table_of r.key) s (sym (a ∙ e)) in
    let v : get_or (set counts t (get_or counts t 0 + 1)) s 0 ≡ get_or counts t 0 + 1 = ap (λ (i : ℕ). get_or (set counts t (get_or counts t 0 + 1)) i 0) a ∙ (let i : t < length counts = omega arith in rw get_or-set_same) in
    let w : get_or counts t 0 ≡ length (belonging s rs) = ap (λ (i : ℕ). get_or counts i 0) (sym a) ∙ k s m in
    v ∙ ap (λ (i : ℕ). i + 1) w ∙ sym (q ∙ ap (λ (z : Bool). length (belonging s rs) + cond z 1 0) u))
    (λ (a : s ≡ t → ⊥).
    let u : test s x ≡ false = ne_eqb (table_of r.key) s (λ z. a (sym (e ∙ z))) in
    let n : s ≢ t = a in
    let v : get_or (set counts t (get_or counts t 0 + 1)) s 0 ≡ get_or counts s 0 = rw get_or-set_other in
    let z : length (belonging s rs) + 0 ≡ length (belonging s rs) = omega arith in
    v ∙ k s m ∙ sym (q ∙ ap (λ (z : Bool). length (belonging s rs) + cond z 1 0) u ∙ z))
    (cases_eq s t)

-- one more record
pub met_more : (f : List ℕ) (p n q j t : ℕ) (counts : List ℕ) → Met f p q counts → n ≡ p + (8 + (word_at f p + word_at f (p + 4))) → n ≤ length f → length counts ≡ 256 → t < 256
    → t ≡ table_of (item_at f p).key → Distance (slots_of f (item_at f p)) (item_at f p) j → Met f n (q + (j + 1)) (set counts t (get_or counts t 0 + 1))
met_more f p n q j t counts m e l lc lt et d =
    let w : p + (8 + (word_at f p + word_at f (p + 4))) ≤ length f = omega arith in
    let z : p + size (record_at f p) ≡ n = omega (arith, size_here f p w) in (
      m.0 ++ record_at f p ∷ [],
      subst (λ (i : ℕ). Records f 2048 i (m.0 ++ record_at f p ∷ [])) z (records_more f 2048 p m.0 (record_at f p) m.1 (record_here f p w)),
      subst (λ (xs : List Item). Probes f xs (q + (j + 1))) (sym (items_more f 2048 p m.0 (record_at f p) m.1)) (probes_more f (items 2048 m.0) (item_at f p) q j m.2 d),
      tally_more f p counts m.0 (record_at f p) t m.1 lc lt et m.3,
    )

-- no records yet
pub met_none : (f counts : List ℕ) → ((t : ℕ) → t < 256 → get_or counts t 0 ≡ 0) → Met f 2048 0 counts
met_none f counts h = ([], refl, refl, h)

-- a record without a distance
pub met_lost : (f : List ℕ) (p end q best : ℕ) (counts : List ℕ) (y : FileFault) → Met f p q counts → Ahead f p end → p < end → Located f p best (Err y) → Lost f end y
met_lost f p end q best counts y m ([], h) l lost = absurd (omega arith)
met_lost f p end q best counts y m (r ∷ rs, h) l lost =
    let k : r.key ≡ (item_at f p).key = sym (ap (λ (n : ℕ). part f (p + 8) n) h.0 ∙ h.2) in
    let here : items 2048 (m.0 ++ r ∷ rs) ≡ items 2048 m.0 ++ item_at f p ∷ items (p + size r) rs =
    items_append f 2048 p m.0 (r ∷ rs) m.1 ∙ ap (λ (u : List ℕ). items 2048 m.0 ++ record { key = u; place = p } ∷ items (p + size r) rs) k in (
      m.0 ++ r ∷ rs,
      records_append f 2048 p end m.0 (r ∷ rs) (omega arith) m.1 h,
      (
        item_at f p,
        record {
          before = items 2048 m.0;
          after = items (p + size r) rs;
          among = here;
          kept = probes_placed f (items 2048 m.0) q m.2;
          broken = λ d. lost.1 d.0 d.1;
        },
        lost.0,
      ),
    )

pub counts_more : (counts : List ℕ) (t p n : ℕ) → ((s : ℕ) → s < 256 → get_or counts s 0 ≤ p - 2048) → length counts ≡ 256 → t < 256 → 2048 ≤ p → p < n
    → (s : ℕ) → s < 256 → get_or (set counts t (get_or counts t 0 + 1)) s 0 ≤ n - 2048
counts_more counts t p n h l b lp q s m =
    ⊎_elim
    (λ (a : s ≡ t).
    let v : get_or (set counts t (get_or counts t 0 + 1)) s 0 ≡ get_or counts t 0 + 1 = ap (λ (i : ℕ). get_or (set counts t (get_or counts t 0 + 1)) i 0) a ∙ (let i : t < length counts = omega arith in rw get_or-set_same) in
    omega (arith, h t b))
    (λ (a : s ≡ t → ⊥).
    let n : s ≢ t = a in
    let v : get_or (set counts t (get_or counts t 0 + 1)) s 0 ≡ get_or counts s 0 = rw get_or-set_other in
    omega (arith, h s m))
    (cases_eq s t)
