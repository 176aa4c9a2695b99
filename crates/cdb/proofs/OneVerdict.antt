-- A file has one verdict: rule by rule, either it breaks there, at one place, or the rest decides.
use Rattle.std.proofs.Common.{◌≡◌, ℕ, ◌+◌, ◌*◌, ◌<◌, ◌≤◌, ◌⊎◌, List, [], ◌∷◌, ◌++◌, length, sym, refl, ap, ◌∙◌, subst, inl, inr, ⊎_elim, arith}
use Rattle.std.specs.List.{AllByRecursion}
use Rattle.std.proofs.lemmas.Bool.{cases_lt}
use Rattle.byte_lists.specs.Bytes.{word_at}
use Rattle.faults.specs.Reports.{report}
use Rattle.cdb.specs.Records.{Record, Records, Item, items, table_of, size}
use Rattle.cdb.specs.Files.{position, slot_count}
use Rattle.cdb.specs.Rules.{First, FirstOf, Each, Rule1, Rule2, Rule3, Passes, Rule4, Rule5, Rule6, Clear, Rule7, Rule8}
use Rattle.cdb.specs.Verdicts.{Verdict, accepted, refused, Probes, slots_below, Judged, broken_1, broken_2, broken_3, broken_4, broken_5, broken_6, broken_7, broken_8, keeps_all}
use Rattle.cdb.specs.Theorems.{OneVerdict}
use Rattle.cdb.proofs.FileLookup.{one_reading}
use Rattle.cdb.proofs.Put.{distance_one}

-- at most one verdict
abbrev One : (Verdict → Type 0) → Type 0
One P = (v w : Verdict) → P v → P w → v ≡ w

-- a rule is broken, or it is kept and the rest decides
abbrev Turn : Type 0 → (Verdict → Type 0) → (Verdict → Type 0) → Verdict → Type 0
Turn Kept Broken Rest v = Broken v ⊎ (Kept × Rest v)

one_turn : (Kept : Type 0) (Broken Rest : Verdict → Type 0) → ((v : Verdict) → Broken v → Kept → ⊥) → One Broken → One Rest → One (Turn Kept Broken Rest)
one_turn Kept Broken Rest not b r v w h k =
    ⊎_elim
    (λ (x : Broken v). ⊎_elim (λ (y : Broken w). b v w x y) (λ (y : Kept × Rest w). absurd (not v x y.0)) k)
    (λ (x : Kept × Rest v). ⊎_elim (λ (y : Broken w). absurd (not w y x.0)) (λ (y : Kept × Rest w). r v w x.1 y.1) k)
    h

one_first : (n t u : ℕ) (Keeps : ℕ → Type 0) → First n Keeps t → First n Keeps u → t ≡ u
one_first n t u Keeps a b =
    ⊎_elim
    (λ (l : t < u). absurd (a.broken (b.before t l)))
    (λ (l : u ≤ t). ⊎_elim (λ (k : u < t). absurd (b.broken (a.before u k))) (λ (k : t ≤ u). omega arith) (cases_lt u t))
    (cases_lt t u)

one_in_list : (Keeps : Item → Type 0) (b c a d : List Item) (x y : Item) → b ++ x ∷ a ≡ c ++ y ∷ d → AllByRecursion Keeps b → (Keeps x → ⊥) → AllByRecursion Keeps c → (Keeps y → ⊥) → x ≡ y
one_in_list Keeps [] [] a d x y e hb nx hc ny = cc
one_in_list Keeps [] (z ∷ c) a d x y e hb nx hc ny = let q : z ≡ x = cc in absurd (nx (subst Keeps q hc.0))
one_in_list Keeps (z ∷ b) [] a d x y e hb nx hc ny = let q : z ≡ y = cc in absurd (ny (subst Keeps q hb.0))
one_in_list Keeps (z ∷ b) (u ∷ c) a d x y e hb nx hc ny = let q : b ++ x ∷ a ≡ c ++ y ∷ d = cc in one_in_list Keeps b c a d x y q hb.1 nx hc.1 ny

one_first_of : (xs : List Item) (Keeps : Item → Type 0) (x y : Item) → FirstOf xs Keeps x → FirstOf xs Keeps y → x ≡ y
one_first_of xs Keeps x y a b = one_in_list Keeps a.before b.before a.after b.after x y (sym a.among ∙ b.among) a.kept a.broken b.kept b.broken

all_first : (Keeps : Item → Type 0) (b a : List Item) (x : Item) → AllByRecursion Keeps (b ++ x ∷ a) → Keeps x
all_first Keeps [] a x h = h.0
all_first Keeps (z ∷ b) a x h = all_first Keeps b a x h.1

not_first_of : (xs : List Item) (Keeps : Item → Type 0) (x : Item) → FirstOf xs Keeps x → AllByRecursion Keeps xs → ⊥
not_first_of xs Keeps x a h = a.broken (all_first Keeps a.before a.after x (subst (AllByRecursion Keeps) a.among h))

one_probes : (f : List ℕ) (xs : List Item) (n m : ℕ) → Probes f xs n → Probes f xs m → n ≡ m
one_probes f [] n m a b = omega arith
one_probes f (x ∷ xs) n m a b =
    let d : a.0 ≡ b.0 = distance_one a.2 b.2 in
    let r : a.1 ≡ b.1 = one_probes f xs a.1 b.1 a.3 b.3 in
    omega (arith, a.4, b.4)

module _ (f : List ℕ) where
  -- records stand up to p, and what is at p ends past the end: no record list ends there, nor is there another such p
  passes_not : (q p end : ℕ) (rs ss : List Record) → Records f q p rs → p < end → end < p + (8 + (word_at f p + word_at f (p + 4))) → Records f q end ss → ⊥
  passes_not q p end [] [] h l k g = omega arith
  passes_not q p end [] (s ∷ ss) h l k g =
      let e : word_at f p ≡ length s.key = ap (word_at f) (sym h) ∙ g.0 in
      let d : word_at f (p + 4) ≡ length s.data' = ap (λ n. word_at f (n + 4)) (sym h) ∙ g.1 in
      omega (arith, g.4)
  passes_not q p end (r ∷ rs) [] h l k g = omega (arith, h.4)
  passes_not q p end (r ∷ rs) (s ∷ ss) h l k g =
      let z : size s ≡ size r = omega (arith, h.0, h.1, g.0, g.1) in
      passes_not (q + size r) p end rs ss h.5 l k (subst (λ n. Records f (q + n) end ss) z g.5)

  passes_one : (q p u end : ℕ) (rs ss : List Record) → Records f q p rs → p < end → end < p + (8 + (word_at f p + word_at f (p + 4)))
      → Records f q u ss → u < end → end < u + (8 + (word_at f u + word_at f (u + 4))) → p ≡ u
  passes_one q p u end [] [] h l k g m n = sym h ∙ g
  passes_one q p u end [] (s ∷ ss) h l k g m n =
      let e : word_at f p ≡ length s.key = ap (word_at f) (sym h) ∙ g.0 in
      let d : word_at f (p + 4) ≡ length s.data' = ap (λ n. word_at f (n + 4)) (sym h) ∙ g.1 in
      absurd (omega (arith, g.4))
  passes_one q p u end (r ∷ rs) [] h l k g m n =
      let e : word_at f u ≡ length r.key = ap (word_at f) (sym g) ∙ h.0 in
      let d : word_at f (u + 4) ≡ length r.data' = ap (λ n. word_at f (n + 4)) (sym g) ∙ h.1 in
      absurd (omega (arith, h.4))
  passes_one q p u end (r ∷ rs) (s ∷ ss) h l k g m n =
      let z : size s ≡ size r = omega (arith, h.0, h.1, g.0, g.1) in
      passes_one (q + size r) p u end rs ss h.5 l k (subst (λ n. Records f (q + n) u ss) z g.5) m n

  abbrev B1 : Verdict → Type 0
  B1 v = (length f < 2048) × (v ≡ refused (report 1 256 (length f)))

  abbrev B2 : Verdict → Type 0
  B2 v = (t : ℕ) × First 256 (Rule2 f) t × (v ≡ refused (report 2 t (8 * t)))

  abbrev B3 : Verdict → Type 0
  B3 v = (p : ℕ) × Passes f p × (v ≡ refused (report 3 256 p))

  module _ (rs : List Record) where
    abbrev B4 : Verdict → Type 0
    B4 v = (x : Item) × FirstOf (items 2048 rs) (Rule4 f) x × (v ≡ refused (report 4 (table_of x.key) x.place))

    abbrev B5 : Verdict → Type 0
    B5 v = (t : ℕ) × First 256 (Rule5 f rs) t × (v ≡ refused (report 5 t (position f t)))

    abbrev B6 : Verdict → Type 0
    B6 v = (t : ℕ) × First 256 (Rule6 f) t × (v ≡ refused (report 6 t (position f t)))

    abbrev B7 : Verdict → Type 0
    B7 v = (t : ℕ) × (i : ℕ) × First 256 (Rule7 f) t × First (slot_count f t) (Clear f t) i × (v ≡ refused (report 7 t (position f t + 8 * i)))

    abbrev B8 : Verdict → Type 0
    B8 v = (x : Item) × FirstOf (items 2048 rs) (Rule8 f rs) x × (v ≡ refused (report 8 (table_of x.key) x.place))

    abbrev Last : Verdict → Type 0
    Last v = (n : ℕ) × Probes f (items 2048 rs) n × (v ≡ accepted (length rs) (slots_below f 256) n)

    -- the rules from the fourth on, for these records
    abbrev From4 : Verdict → Type 0
    From4 =
        Turn (AllByRecursion (Rule4 f) (items 2048 rs)) B4 (Turn (Each (Rule5 f rs)) B5 (Turn (Each (Rule6 f)) B6 (Turn (Each (Rule7 f)) B7 (Turn (AllByRecursion (Rule8 f rs) (items 2048 rs)) B8 Last))))

    not_each : (Keeps : ℕ → Type 0) (t : ℕ) → First 256 Keeps t → Each Keeps → ⊥
    not_each Keeps t h all = h.broken (all t h.within)

    one_last : One Last
    one_last v w a b = a.2 ∙ ap (accepted (length rs) (slots_below f 256)) (one_probes f (items 2048 rs) a.0 b.0 a.1 b.1) ∙ sym b.2

    one_8 : One B8
    one_8 v w a b = a.2 ∙ ap (λ (x : Item). refused (report 8 (table_of x.key) x.place)) (one_first_of (items 2048 rs) (Rule8 f rs) a.0 b.0 a.1 b.1) ∙ sym b.2

    one_7 : One B7
    one_7 v w a b =
        let t : a.0 ≡ b.0 = one_first 256 a.0 b.0 (Rule7 f) a.2 b.2 in
        let i : a.1 ≡ b.1 = one_first (slot_count f b.0) a.1 b.1 (Clear f b.0) (subst (λ (u : ℕ). First (slot_count f u) (Clear f u) a.1) t a.3) b.3 in
        a.4 ∙ ap (λ (u : ℕ). refused (report 7 u (position f u + 8 * a.1))) t ∙ ap (λ (k : ℕ). refused (report 7 b.0 (position f b.0 + 8 * k))) i ∙ sym b.4

    one_6 : One B6
    one_6 v w a b = a.2 ∙ ap (λ (t : ℕ). refused (report 6 t (position f t))) (one_first 256 a.0 b.0 (Rule6 f) a.1 b.1) ∙ sym b.2

    one_5 : One B5
    one_5 v w a b = a.2 ∙ ap (λ (t : ℕ). refused (report 5 t (position f t))) (one_first 256 a.0 b.0 (Rule5 f rs) a.1 b.1) ∙ sym b.2

    one_4 : One B4
    one_4 v w a b = a.2 ∙ ap (λ (x : Item). refused (report 4 (table_of x.key) x.place)) (one_first_of (items 2048 rs) (Rule4 f) a.0 b.0 a.1 b.1) ∙ sym b.2

    one_from_4 : One From4
    one_from_4 =
        one_turn _ B4 _ (λ v h. not_first_of (items 2048 rs) (Rule4 f) h.0 h.1) one_4
        (one_turn _ B5 _ (λ v h. not_each (Rule5 f rs) h.0 h.1) one_5
        (one_turn _ B6 _ (λ v h. not_each (Rule6 f) h.0 h.1) one_6
        (one_turn _ B7 _ (λ v h. not_each (Rule7 f) h.0 h.2) one_7
        (one_turn _ B8 Last (λ v h. not_first_of (items 2048 rs) (Rule8 f rs) h.0 h.1) one_8 one_last))))

  -- the file has records, and these decide
  abbrev Rest3 : Verdict → Type 0
  Rest3 v = (rs : List Record) × Rule3 f rs × From4 rs v

  one_rest_3 : One Rest3
  one_rest_3 v w a b =
      let e : a.0 ≡ b.0 = one_reading f 2048 (position f 0) a.0 b.0 a.1 b.1 in
      one_from_4 b.0 v w (subst (λ (rs : List Record). From4 rs v) e a.2) b.2

  abbrev From3 : Verdict → Type 0
  From3 = Turn ((rs : List Record) × Rule3 f rs) B3 Rest3

  one_from_3 : One From3
  one_from_3 =
      one_turn _ B3 Rest3 (λ v h k. passes_not 2048 h.0 (position f 0) h.1.0 k.0 h.1.1 h.1.2 h.1.3 k.1)
      (λ v w a b. a.2 ∙ ap (λ (p : ℕ). refused (report 3 256 p)) (passes_one 2048 a.0 b.0 (position f 0) a.1.0 b.1.0 a.1.1 a.1.2 a.1.3 b.1.1 b.1.2 b.1.3) ∙ sym b.2)
      one_rest_3

  abbrev From1 : Verdict → Type 0
  From1 = Turn (Rule1 f) B1 (Turn (Each (Rule2 f)) B2 From3)

  one_from_1 : One From1
  one_from_1 =
      one_turn _ B1 _ (λ v h k. omega (arith, h.0)) (λ v w a b. a.1 ∙ sym b.1)
      (one_turn _ B2 From3 (λ v h k. h.1.broken (k h.0 h.1.within))
      (λ v w a b. a.2 ∙ ap (λ (t : ℕ). refused (report 2 t (8 * t))) (one_first 256 a.0 b.0 (Rule2 f) a.1 b.1) ∙ sym b.2) one_from_3)

  from_3 : {v : Verdict} → Rule1 f → Each (Rule2 f) → (rs : List Record) → Rule3 f rs → From4 rs v → From1 v
  from_3 r1 r2 rs r3 h = inr (r1, inr (r2, inr ((rs, r3), (rs, r3, h))))

  in_turn : (v : Verdict) → Judged f v → From1 v
  in_turn v (broken_1 h) = inl (h, refl)
  in_turn v (broken_2 {t} r1 h) = inr (r1, inl (t, h, refl))
  in_turn v (broken_3 {p} r1 r2 h) = inr (r1, inr (r2, inl (p, h, refl)))
  in_turn v (broken_4 rs {x} r1 r2 r3 h) = from_3 r1 r2 rs r3 (inl (x, h, refl))
  in_turn v (broken_5 rs {t} r1 r2 r3 r4 h) = from_3 r1 r2 rs r3 (inr (r4, inl (t, h, refl)))
  in_turn v (broken_6 rs {t} r1 r2 r3 r4 r5 h) = from_3 r1 r2 rs r3 (inr (r4, inr (r5, inl (t, h, refl))))
  in_turn v (broken_7 rs {t} {i} r1 r2 r3 r4 r5 r6 h k) = from_3 r1 r2 rs r3 (inr (r4, inr (r5, inr (r6, inl (t, i, h, k, refl)))))
  in_turn v (broken_8 rs {x} r1 r2 r3 r4 r5 r6 r7 h) = from_3 r1 r2 rs r3 (inr (r4, inr (r5, inr (r6, inr (r7, inl (x, h, refl))))))
  in_turn v (keeps_all rs {n} law h) =
      from_3 law.long law.entries rs law.reads (inr (law.placed, inr (law.counted, inr (law.room, inr (law.clear, inr (law.ordered, (n, h, refl)))))))

pub one_verdict : OneVerdict
one_verdict f v w a b = one_from_1 f v w (in_turn f v a) (in_turn f w b)
