-- A lent list that is filled with records.
use Rattle.std.proofs.Common.{◌≡◌, ℕ, ◌+◌, ◌<◌, ◌≤◌, min, List, [], ◌∷◌, ◌++◌, map, length, take, drop, set, Some, None, Ok, Err, Option, Result, sym, refl, ap, ◌∙◌, subst, ⊎_elim, arith, length-append, length-drop}
use Rattle.std.proofs.lemmas.Bool.{cases_lt}
use Rattle.std.proofs.lemmas.List.{length-set, take_more_set, map_push, length-map, length-take-le, take-append-le, take_at, drop_at}
use Rattle.faults.specs.declared.file.FileFault.{FileFault}
use Rattle.cdb.specs.Records.{Record, Records, size}
use Rattle.cdb.specs.Files.{position}
use Rattle.records.specs.declared.placed.PlacedRecord.{PlacedRecord}
use Rattle.cdb.specs.Rules.{Rule1}
use Rattle.records.specs.Readings.{TableInside, Passing, Placed, record_of, Hands, Fills}
use Rattle.records.specs.Laws.{FillsInOrder}
use Rattle.records.proofs.Walks.{joined, rest}
use Rattle.records.proofs.Proved.{same_record, keeps, headed, no_passing}

-- i of n are handed out, and the reader stands behind them
pub record Filling (f : List ℕ) (p q i n room : ℕ) (fs : List PlacedRecord) : Type 0 where
  pub stand : Records f p q (map record_of (take i fs))
  pub placed : Placed p (take i fs)
  pub end : ℕ
  pub todo : List Record
  pub ahead : Records f q end todo
  pub count : i + length todo ≡ n
  pub items : length fs ≡ n
  pub within : end ≤ position f 0
  pub whole : n < room → end ≡ position f 0

placed_push : (f : List ℕ) (p q : ℕ) (xs : List PlacedRecord) (e : PlacedRecord) → Records f p q (map record_of xs) → Placed p xs → Placed q (e ∷ []) → Placed p (xs ++ e ∷ [])
placed_push f p q [] e r a b = subst (λ (n : ℕ). Placed n (e ∷ [])) (sym r) b
placed_push f p q (x ∷ xs) e r a b = (a.0, a.1, placed_push f (p + size (record_of x)) q xs e r.5 a.2 b)

-- what is still to come starts with a record
some : (f : List ℕ) (q t i n : ℕ) (todo : List Record) → Records f q t todo → i + length todo ≡ n → i < n → (r : Record) × (rs : List Record) × (todo ≡ r ∷ rs)
some f q t i n [] a c l = absurd (omega arith)
some f q t i n (r ∷ rs) a c l = (r, rs, refl)

module _ (f : List ℕ) (p q i n room : ℕ) (fs : List PlacedRecord) (w : Filling f p q i n room fs) (l : i < n) where
  -- the reader does not stand at the end, nor at what breaks rule 3
  pub not_ended : q ≡ position f 0 → ⊥
  not_ended e =
      let s = some f q w.end i n w.todo w.ahead w.count l in
      let a = subst (Records f q w.end) s.2 w.ahead in
      omega (arith, a.4, w.within)

  pub not_passing : (x : FileFault) → Passing f q x → ⊥
  not_passing x b =
      let s = some f q w.end i n w.todo w.ahead w.count l in
      let a = subst (Records f q w.end) s.2 w.ahead in
      omega (arith, a.0, a.1, a.4, b.1, w.within)

  -- the next record is handed out
  pub one_more : (t : ℕ) (e : PlacedRecord) → i < length fs → Records f q t (record_of e ∷ []) → Placed q (e ∷ []) → Filling f p t (i + 1) n room (set fs i e)
  one_more t e m r a =
      let s = some f q w.end i n w.todo w.ahead w.count l in
      let h = subst (Records f q w.end) s.2 w.ahead in
      let z : q + size s.0 ≡ t = omega (arith, r.0, r.1, r.5, h.0, h.1) in
      let k : map record_of (take (i + 1) (set fs i e)) ≡ map record_of (take i fs) ++ record_of e ∷ [] =
      ap (map record_of) (take_more_set fs i e m) ∙ map_push record_of (take i fs) e in
      let c = w.count in
      let d : length w.todo ≡ length s.1 + 1 = ap length s.2 ∙ omega arith in
      record {
        stand = subst (Records f p t) (sym k) (joined f p q t (map record_of (take i fs)) (record_of e ∷ []) w.stand r);
        placed = subst (Placed p) (sym (take_more_set fs i e m)) (placed_push f p q (take i fs) e w.stand w.placed a);
        end = w.end;
        todo = s.1;
        ahead = subst (λ (k : ℕ). Records f k w.end s.1) z h.5;
        count = omega arith;
        items = length-set fs i e ∙ w.items;
        within = w.within;
        whole = w.whole;
      }

-- the next call's answer: a record, which goes to place i of the list
pub record Handed (f : List ℕ) (p t i n room : ℕ) (fs : List PlacedRecord) (r : Result (Option PlacedRecord) FileFault) : Type 0 where
  pub handed : PlacedRecord
  pub is : r ≡ Ok (Some handed)
  pub next : Filling f p t (i + 1) n room (set fs i handed)

handed_by : (f : List ℕ) → Rule1 f → TableInside f → (p q t i n room : ℕ) (fs : List PlacedRecord) (r : Result (Option PlacedRecord) FileFault)
    → Filling f p q i n room fs → i < n → i < length fs → Hands f q r t → Handed f p t i n room fs r
handed_by f long inside p q t i n room fs (Ok (Some e)) w l m h = record { handed = e; is = refl; next = one_more f p q i n room fs w l t e m h.2 h.3 }
handed_by f long inside p q t i n room fs (Ok None) w l m h = absurd (not_ended f p q i n room fs w l h.2)
handed_by f long inside p q t i n room fs (Err x) w l m h =
    absurd (⊎_elim (headed f long inside x)
    (λ (b : Rule1 f × TableInside f × Passing f q x). not_passing f p q i n room fs w l x b.2) h.0)

-- while places are left, a call of the loop hands out a record
pub handed : {f g : List ℕ} {p q i n room : ℕ} {fs : List PlacedRecord} (r : Result (Option PlacedRecord) FileFault) (t : ℕ) → Rule1 f → TableInside f
    → Filling f p q i n room fs → i < length fs → g ≡ f → Hands g q r t → Handed f p t i n room fs r
handed {f = f} {q = q} r t long inside w m o k =
    handed_by f long inside _ q t _ _ _ _ r w (omega (arith, w.items)) m (subst (λ (u : List ℕ). Hands u q r t) o k)

-- nothing is left to hand out
pub done : (f : List ℕ) (p q i n room : ℕ) (fs : List PlacedRecord) → Filling f p q i n room fs → n ≤ i → (i ≡ n) × (q ≤ position f 0) × (n < room → q ≡ position f 0)
done f p q i n room fs w l = done_by w.todo refl
  where
    done_by : (todo : List Record) → w.todo ≡ todo → (i ≡ n) × (q ≤ position f 0) × (n < room → q ≡ position f 0)
    done_by [] e =
        let a : q ≡ w.end = subst (Records f q w.end) e w.ahead in
        let c = w.count in
        (omega (arith, ap length e), omega (arith, w.within), λ h. a ∙ w.whole h)
    done_by (r ∷ rs) e = absurd (omega (arith, w.count, ap length e))

-- the first places are filled, and the rest of the list stays
pub filled : (f : List ℕ) (p q i n room : ℕ) (es fs : List PlacedRecord) → Rule1 f → TableInside f → n ≤ room → room ≡ length es
    → Filling f p q i n room fs → length fs ≤ i → Fills f p room es (Ok n) (fs ++ drop n es) q
filled f p q i n room es fs long inside m r w l =
    let c = w.items in
    let d = done f p q i n room fs w (omega arith) in
    let t : take i fs ≡ take n (fs ++ drop n es) = ap (λ (k : ℕ). take k fs) d.0 ∙ sym (take-append-le n fs (drop n es) (omega arith)) in (
      long,
      inside,
      subst (λ (xs : List PlacedRecord). Records f p q (map record_of xs)) t w.stand,
      subst (Placed p) t w.placed,
      d.1,
      omega (arith, length-append fs (drop n es), length-drop n es),
      drop_at fs (drop n es) n c,
      m,
      d.2,
    )

-- records that are read from the same place on agree as far as they go
pub agree : (f : List ℕ) (p q t : ℕ) (xs ys : List Record) → Records f p q xs → Records f p t ys → q ≤ t → (zs : List Record) × (ys ≡ xs ++ zs) × Records f q t zs
agree f p q t [] ys a b l = (ys, refl, subst (λ (n : ℕ). Records f n t ys) a b)
agree f p q t (x ∷ xs) [] a b l = absurd (omega (arith, a.4))
agree f p q t (x ∷ xs) (y ∷ ys) a b l =
    let o : x ≡ y = same_record f p q t x y xs ys a b in
    let z : p + size y ≡ p + size x = omega (arith, a.0, a.1, b.0, b.1) in
    let r = agree f (p + size x) q t xs ys a.5 (subst (λ (n : ℕ). Records f n t ys) z b.5) l in
    let e : ys ≡ xs ++ r.0 = r.1 in
    (r.0, cc, r.2)

none_left : (f : List ℕ) (q : ℕ) (zs : List Record) → Records f q q zs → length zs ≡ 0
none_left f q [] a = refl
none_left f q (z ∷ zs) a = absurd (omega (arith, a.4))

-- on a lawful file the list is filled with the records that follow
pub filled_in_order : (f : List ℕ) (p room : ℕ) (es fs : List PlacedRecord) (r : Result ℕ FileFault) (q : ℕ) → room ≤ length es → Fills f p room es r fs q → FillsInOrder f p room r fs
filled_in_order f p room es fs (Ok n) q h k before after law b =
    let a = rest f 2048 p (position f 0) before after law.reads b in
    let g = agree f p q (position f 0) (map record_of (take n fs)) after k.2 a k.4 in
    let ln : length (map record_of (take n fs)) ≡ n = length-map (take n fs) record_of ∙ length-take-le n fs (omega (arith, k.5, k.7)) in
    let la : length after ≡ n + length g.0 = ap length g.1 ∙ length-append (map record_of (take n fs)) g.0 ∙ ap (λ (m : ℕ). m + length g.0) ln in
    let m : min room (length after) ≡ n =
    ⊎_elim (λ (c : n < room). let z = none_left f q g.0 (subst (λ (e : ℕ). Records f q e g.0) (sym (k.8 c)) g.2) in omega arith)
    (λ (c : room ≤ n). omega (arith, k.7)) (cases_lt n room) in (
      ap Ok (sym m),
      subst (λ (i : ℕ). map record_of (take i fs) ≡ take i after) (sym m) (sym (ap (take n) g.1 ∙ take_at (map record_of (take n fs)) g.0 n ln)),
    )
filled_in_order f p room es fs (Err x) q h k before after law b =
    let a = rest f 2048 p (position f 0) before after law.reads b in
    absurd (⊎_elim (headed f law.long (keeps f (before ++ after) law).1 x)
    (λ (c : Rule1 f × TableInside f × ((rs : List Record) × (at : ℕ) × Records f p at rs × (length rs < room) × Passing f at x)).
    let d = c.2 in
    let g = agree f p d.1 (position f 0) d.0 after d.2 a (omega (arith, d.4.0)) in
    no_passing f d.1 g.0 x g.2 d.4) k.0)
