-- Lines before a text: what a state of the lexer has seen, and how it can go on.
use Rattle.std.proofs.Common.{◌≡◌, ℕ, ◌-◌, ◌^◌, ◌<◌, ◌⊎◌, List, [], ◌∷◌, ◌++◌, length, replicate, Some, None, decimal, sym, refl, ap, ◌∙◌, subst, inl, inr, ⊎_elim, append_assoc, append-nil, arith, length-append}
use lib.ListN.{length-replicate}
use Rattle.std.specs.List.{AllByRecursion}
use Rattle.std.proofs.ByRecursion.{All-append, All-from_get_or}
use Rattle.std.proofs.lemmas.List.{get_or-replicate}
use Rattle.byte_lists.specs.Bytes.{Bytes}
use Rattle.cdb.specs.Records as cdb
use Rattle.text.specs.Texts.{line, text, Proper, Text, Begins}
use Rattle.text.specs.Lexing.{Dead}
use Rattle.text.specs.declared.state.State.{State}
use Rattle.text.specs.declared.state.State.TheVariants.{Start, KeyLength, DataLength, Key, Arrow, Data, Record, End}
use Rattle.text.proofs.Numbers.{heads, tails, never, ends, one_way, goes_on, first, digits}

abbrev pub rec : List ℕ → List ℕ → cdb.Record
rec k d = record { key = k; data' = d }

-- a record's line before a text
abbrev pub onto : List ℕ → List ℕ → List ℕ → List ℕ
onto k d u = 43 ∷ (decimal (length k) ++ (44 ∷ (decimal (length d) ++ (58 ∷ (k ++ (45 ∷ 62 ∷ (d ++ (10 ∷ u))))))))

pub line_onto : (r : cdb.Record) (u : List ℕ) → line r ++ u ≡ onto r.key r.data' u
line_onto r u = simp append_assoc

-- what a state has seen, before a text
abbrev pub front : State → List ℕ → List ℕ → List ℕ → List ℕ
front Start key data' s = s
front (KeyLength None) key data' s = 43 ∷ s
front (KeyLength (Some k)) key data' s = 43 ∷ (decimal k ++ s)
front (DataLength k None) key data' s = 43 ∷ (decimal k ++ (44 ∷ s))
front (DataLength k (Some d)) key data' s = 43 ∷ (decimal k ++ (44 ∷ (decimal d ++ s)))
front (Key k d) key data' s = 43 ∷ (decimal k ++ (44 ∷ (decimal d ++ (58 ∷ (key ++ s)))))
front (Arrow k d) key data' s = 43 ∷ (decimal k ++ (44 ∷ (decimal d ++ (58 ∷ (key ++ (45 ∷ s))))))
front (Data k d) key data' s = 43 ∷ (decimal k ++ (44 ∷ (decimal d ++ (58 ∷ (key ++ (45 ∷ 62 ∷ (data' ++ s)))))))
front (Record k d) key data' s = 43 ∷ (decimal k ++ (44 ∷ (decimal d ++ (58 ∷ (key ++ (45 ∷ 62 ∷ (data' ++ (10 ∷ s))))))))
front End key data' s = 10 ∷ s

-- the numbers are words, and key and data are bytes and as long as the numbers say; a record that is whole is left out
abbrev pub Fit : State → List ℕ → List ℕ → Type 0
Fit Start key data' = Unit {0}
Fit (KeyLength None) key data' = Unit {0}
Fit (KeyLength (Some k)) key data' = k < 2 ^ 32
Fit (DataLength k None) key data' = k < 2 ^ 32
Fit (DataLength k (Some d)) key data' = (k < 2 ^ 32) × (d < 2 ^ 32)
Fit (Key k d) key data' = (k < 2 ^ 32) × (d < 2 ^ 32) × (length key ≡ k) × Bytes key
Fit (Arrow k d) key data' = (k < 2 ^ 32) × (d < 2 ^ 32) × (length key ≡ k) × Bytes key
Fit (Data k d) key data' = (k < 2 ^ 32) × (d < 2 ^ 32) × (length key ≡ k) × Bytes key × (length data' ≡ d) × Bytes data'
Fit (Record k d) key data' = ⊥
Fit End key data' = Unit {0}

pub front_append : (σ : State) (key data' s : List ℕ) → front σ key data' s ≡ front σ key data' [] ++ s
front_append Start key data' s = refl
front_append (KeyLength None) key data' s = refl
front_append (KeyLength (Some k)) key data' s = simp append-nil
front_append (DataLength k None) key data' s = simp append_assoc
front_append (DataLength k (Some d)) key data' s = simp (append_assoc, append-nil)
front_append (Key k d) key data' s = simp (append_assoc, append-nil)
front_append (Arrow k d) key data' s = simp append_assoc
front_append (Data k d) key data' s = simp (append_assoc, append-nil)
front_append (Record k d) key data' s = simp append_assoc
front_append End key data' s = refl

-- a line stands at the start
pub record Lined (t : List ℕ) : Type 0 where
  pub key : List ℕ
  pub data' : List ℕ
  pub rest : List ℕ
  pub proper : Proper (rec key data')
  pub is : t ≡ onto key data' rest

-- a text is its end, or a line before a text
pub opens : (t : List ℕ) → Text t → (t ≡ 10 ∷ []) ⊎ ((l : Lined t) × Text l.rest)
opens t x = opens_by t x.0 x.1.0 x.1.1
  where
    opens_by : (t : List ℕ) (rs : List cdb.Record) → AllByRecursion Proper rs → t ≡ text rs → (t ≡ 10 ∷ []) ⊎ ((l : Lined t) × Text l.rest)
    opens_by t [] w e = inl e
    opens_by t (r ∷ rs) w e =
        inr (record { key = r.key; data' = r.data'; rest = text rs; proper = w.0; is = e ∙ line_onto r (text rs) }, (rs, (w.1, refl)))

pub closes : (key data' u : List ℕ) → Proper (rec key data') → Text u → Text (onto key data' u)
closes key data' u h x =
    (rec key data' ∷ x.0, ((h, x.1.0), sym (line_onto (rec key data') u) ∙ ap (λ v. line (rec key data') ++ v) x.1.1))

pub empty : Text (10 ∷ [])
empty = ([], (tt, refl))

no_end : (xs t : List ℕ) (c : ℕ) → [] ≡ xs ++ (c ∷ t) → ⊥
no_end [] t c e = never c t e
no_end (x ∷ xs) t c e = never x (xs ++ (c ∷ t)) e

split : (xs ys s t : List ℕ) → length xs ≡ length ys → xs ++ s ≡ ys ++ t → (xs ≡ ys) × (s ≡ t)
split [] [] s t l e = (refl, e)
split [] (y ∷ ys) s t l e = absurd (omega arith)
split (x ∷ xs) [] s t l e = absurd (omega arith)
split (x ∷ xs) (y ∷ ys) s t l e =
    let h : x ≡ y = heads x y (xs ++ s) (ys ++ t) e in
    let r = split xs ys s t (omega arith) (tails x y (xs ++ s) (ys ++ t) e) in
    let q : xs ≡ ys = r.0 in
    (cc, r.1)

-- the parts of a line, one by one
past_plus : (x key data' u : List ℕ) → 43 ∷ x ≡ onto key data' u
    → x ≡ decimal (length key) ++ (44 ∷ (decimal (length data') ++ (58 ∷ (key ++ (45 ∷ 62 ∷ (data' ++ (10 ∷ u)))))))
past_plus x key data' u e = tails 43 43 x _ e

past_comma : (k : ℕ) (x key data' u : List ℕ) → k < 2 ^ 32 → length key < 2 ^ 32 → 43 ∷ (decimal k ++ (44 ∷ x)) ≡ onto key data' u
    → (k ≡ length key) × (x ≡ decimal (length data') ++ (58 ∷ (key ++ (45 ∷ 62 ∷ (data' ++ (10 ∷ u))))))
past_comma k x key data' u hk hl e =
    let r = one_way k (length key) x _ 44 44 hk hl (λ a b. omega arith) (λ a b. omega arith) (past_plus _ key data' u e) in
    (r.0, r.2)

past_colon : (k d : ℕ) (x key data' u : List ℕ) → k < 2 ^ 32 → d < 2 ^ 32 → length key < 2 ^ 32 → length data' < 2 ^ 32
    → 43 ∷ (decimal k ++ (44 ∷ (decimal d ++ (58 ∷ x)))) ≡ onto key data' u
    → (k ≡ length key) × (d ≡ length data') × (x ≡ key ++ (45 ∷ 62 ∷ (data' ++ (10 ∷ u))))
past_colon k d x key data' u hk hd hl hm e =
    let q = past_comma k (decimal d ++ (58 ∷ x)) key data' u hk hl e in
    let r = one_way d (length data') x _ 58 58 hd hm (λ a b. omega arith) (λ a b. omega arith) q.1 in
    (q.0, r.0, r.2)

past_key : (k d : ℕ) (kb x key data' u : List ℕ) → k < 2 ^ 32 → d < 2 ^ 32 → length key < 2 ^ 32 → length data' < 2 ^ 32 → length kb ≡ k
    → 43 ∷ (decimal k ++ (44 ∷ (decimal d ++ (58 ∷ (kb ++ x))))) ≡ onto key data' u
    → (d ≡ length data') × (kb ≡ key) × (x ≡ 45 ∷ 62 ∷ (data' ++ (10 ∷ u)))
past_key k d kb x key data' u hk hd hl hm l e =
    let q = past_colon k d (kb ++ x) key data' u hk hd hl hm e in
    let r = split kb key x (45 ∷ 62 ∷ (data' ++ (10 ∷ u))) (l ∙ q.0) q.2 in
    (q.1, r.0, r.1)

past_arrow : (k d : ℕ) (kb db x key data' u : List ℕ) → k < 2 ^ 32 → d < 2 ^ 32 → length key < 2 ^ 32 → length data' < 2 ^ 32 → length kb ≡ k → length db ≡ d
    → 43 ∷ (decimal k ++ (44 ∷ (decimal d ++ (58 ∷ (kb ++ (45 ∷ 62 ∷ (db ++ x))))))) ≡ onto key data' u
    → (kb ≡ key) × (db ≡ data') × (x ≡ 10 ∷ u)
past_arrow k d kb db x key data' u hk hd hl hm l m e =
    let q = past_key k d kb (45 ∷ 62 ∷ (db ++ x)) key data' u hk hd hl hm l e in
    let o : db ++ x ≡ data' ++ (10 ∷ u) = tails 62 62 _ _ (tails 45 45 _ _ q.2) in
    let r = split db data' x (10 ∷ u) (m ∙ q.0) o in
    (q.1, r.0, r.1)

-- a line is read one way
pub one_line : (k d u key data' v : List ℕ) → Proper (rec k d) → Proper (rec key data') → onto k d u ≡ onto key data' v → (k ≡ key) × (d ≡ data') × (u ≡ v)
one_line k d u key data' v a b e =
    let r = past_arrow (length k) (length d) k d (10 ∷ u) key data' v a.2 a.3 b.2 b.3 refl refl e in
    (r.0, r.1, tails 10 10 u v r.2)

ten : (x : List ℕ) (l : Lined (10 ∷ x)) → ⊥
ten x l = let h : ◌≡◌ {A = ℕ} 10 43 = heads 10 43 x _ l.is in omega arith

-- no line has this byte next
pub no_line : (σ : State) (kb db s : List ℕ) (b : ℕ) → Fit σ kb db → Dead σ b → Lined (front σ kb db (b ∷ s)) → ⊥
no_line Start kb db s b f no' l = no'.0 (heads b 43 s _ l.is)
no_line (KeyLength None) kb db s b f no' l = no' (first (length l.key) b s _ l.proper.2 (past_plus _ l.key l.data' l.rest l.is))
no_line (KeyLength (Some k)) kb db s b f no' l =
    ⊎_elim (λ e. no'.0 e) (λ r. no'.1 (r.0, r.1) (r.2, r.3))
    (goes_on k (length l.key) s _ b 44 f l.proper.2 (λ x y. omega arith) (past_plus _ l.key l.data' l.rest l.is))
no_line (DataLength k None) kb db s b f no' l =
    let q = past_comma k (b ∷ s) l.key l.data' l.rest f l.proper.2 l.is in
    no' (first (length l.data') b s _ l.proper.3 q.1)
no_line (DataLength k (Some d)) kb db s b f no' l =
    let q = past_comma k (decimal d ++ (b ∷ s)) l.key l.data' l.rest f.0 l.proper.2 l.is in
    ⊎_elim (λ e. no'.0 e) (λ r. no'.1 (r.0, r.1) (r.2, r.3))
    (goes_on d (length l.data') s _ b 58 f.1 l.proper.3 (λ x y. omega arith) q.1)
no_line (Key k d) kb db s b f no' l =
    let q = past_key k d kb (b ∷ s) l.key l.data' l.rest f.0 f.1 l.proper.2 l.proper.3 f.2 l.is in
    no' (heads b 45 s _ q.2)
no_line (Arrow k d) kb db s b f no' l =
    let q = past_key k d kb (45 ∷ (b ∷ s)) l.key l.data' l.rest f.0 f.1 l.proper.2 l.proper.3 f.2 l.is in
    no' (heads b 62 s _ (tails 45 45 _ _ q.2))
no_line (Data k d) kb db s b f no' l =
    let q = past_arrow k d kb db (b ∷ s) l.key l.data' l.rest f.0 f.1 l.proper.2 l.proper.3 f.2 f.4 l.is in
    no' (heads b 10 s _ q.2)
no_line (Record k d) kb db s b f no' l = f
no_line End kb db s b f no' l = ten (b ∷ s) l

-- no line ends here
pub no_short_line : (σ : State) (kb db : List ℕ) → Fit σ kb db → Lined (front σ kb db []) → ⊥
no_short_line Start kb db f l = never 43 _ l.is
no_short_line (KeyLength None) kb db f l = no_end (decimal (length l.key)) _ 44 (past_plus _ l.key l.data' l.rest l.is)
no_short_line (KeyLength (Some k)) kb db f l =
    let r = ends (decimal k) (decimal (length l.key)) [] _ 44 (digits k f) (λ x y. omega arith) (past_plus _ l.key l.data' l.rest l.is) in
    no_end r.0 _ 44 r.2
no_short_line (DataLength k None) kb db f l =
    let q = past_comma k [] l.key l.data' l.rest f l.proper.2 l.is in
    no_end (decimal (length l.data')) _ 58 q.1
no_short_line (DataLength k (Some d)) kb db f l =
    let q = past_comma k (decimal d ++ []) l.key l.data' l.rest f.0 l.proper.2 l.is in
    let r = ends (decimal d) (decimal (length l.data')) [] _ 58 (digits d f.1) (λ x y. omega arith) q.1 in
    no_end r.0 _ 58 r.2
no_short_line (Key k d) kb db f l =
    let q = past_key k d kb [] l.key l.data' l.rest f.0 f.1 l.proper.2 l.proper.3 f.2 l.is in
    never 45 _ q.2
no_short_line (Arrow k d) kb db f l =
    let q = past_key k d kb (45 ∷ []) l.key l.data' l.rest f.0 f.1 l.proper.2 l.proper.3 f.2 l.is in
    never 62 _ (tails 45 45 _ _ q.2)
no_short_line (Data k d) kb db f l =
    let q = past_arrow k d kb db [] l.key l.data' l.rest f.0 f.1 l.proper.2 l.proper.3 f.2 f.4 l.is in
    never 10 _ q.2
no_short_line (Record k d) kb db f l = f
no_short_line End kb db f l = ten [] l

plus : (x : List ℕ) → 43 ∷ x ≡ 10 ∷ [] → ⊥
plus x e = let h : ◌≡◌ {A = ℕ} 43 10 = heads 43 10 x [] e in omega arith

-- the end of a text does not have this byte next
not_end : (σ : State) (kb db s : List ℕ) (b : ℕ) → Fit σ kb db → Dead σ b → front σ kb db (b ∷ s) ≡ 10 ∷ [] → ⊥
not_end Start kb db s b f a e = a.1 (heads b 10 s [] e)
not_end (KeyLength None) kb db s b f a e = plus _ e
not_end (KeyLength (Some k)) kb db s b f a e = plus _ e
not_end (DataLength k None) kb db s b f a e = plus _ e
not_end (DataLength k (Some d)) kb db s b f a e = plus _ e
not_end (Key k d) kb db s b f a e = plus _ e
not_end (Arrow k d) kb db s b f a e = plus _ e
not_end (Data k d) kb db s b f a e = plus _ e
not_end (Record k d) kb db s b f a e = f
not_end End kb db s b f a e = never b s (sym (tails 10 10 (b ∷ s) [] e))

not_short_end : (σ : State) (kb db : List ℕ) → Fit σ kb db → (σ ≡ End → ⊥) → front σ kb db [] ≡ 10 ∷ [] → ⊥
not_short_end Start kb db f n e = never 10 [] e
not_short_end (KeyLength None) kb db f n e = plus _ e
not_short_end (KeyLength (Some k)) kb db f n e = plus _ e
not_short_end (DataLength k None) kb db f n e = plus _ e
not_short_end (DataLength k (Some d)) kb db f n e = plus _ e
not_short_end (Key k d) kb db f n e = plus _ e
not_short_end (Arrow k d) kb db f n e = plus _ e
not_short_end (Data k d) kb db f n e = plus _ e
not_short_end (Record k d) kb db f n e = f
not_short_end End kb db f n e = n refl

-- no text has this byte next
pub dead : (σ : State) (kb db s : List ℕ) (b : ℕ) → Fit σ kb db → Dead σ b → Text (front σ kb db (b ∷ s)) → ⊥
dead σ kb db s b f no' x = ⊎_elim (not_end σ kb db s b f no') (λ l. no_line σ kb db s b f no' l.0) (opens _ x)

-- no text ends here
pub short : (σ : State) (kb db : List ℕ) → Fit σ kb db → (σ ≡ End → ⊥) → Text (front σ kb db []) → ⊥
short σ kb db f n x = ⊎_elim (not_short_end σ kb db f n) (λ l. no_short_line σ kb db f l.0) (opens _ x)

-- each state has seen the beginning of some text
whole : (k d : ℕ) (kb db u : List ℕ) → k < 2 ^ 32 → d < 2 ^ 32 → length kb ≡ k → Bytes kb → length db ≡ d → Bytes db → Text u
    → Text (43 ∷ (decimal k ++ (44 ∷ (decimal d ++ (58 ∷ (kb ++ (45 ∷ 62 ∷ (db ++ (10 ∷ u)))))))))
whole k d kb db u hk hd lk bk ld bd x =
    subst (λ (n : ℕ). Text (43 ∷ (decimal n ++ (44 ∷ (decimal d ++ (58 ∷ (kb ++ (45 ∷ 62 ∷ (db ++ (10 ∷ u)))))))))) lk
    (subst (λ (n : ℕ). Text (43 ∷ (decimal (length kb) ++ (44 ∷ (decimal n ++ (58 ∷ (kb ++ (45 ∷ 62 ∷ (db ++ (10 ∷ u)))))))))) ld
    (closes kb db u (bk, bd, omega arith, omega arith) x))

zeros : ℕ → List ℕ
zeros n = replicate n 0

length_zeros : (n : ℕ) → length (zeros n) ≡ n
unfolding zeros
length_zeros n = length-replicate n 0

bytes_zeros : (n : ℕ) → Bytes (zeros n)
unfolding zeros
bytes_zeros n =
    let e : length (replicate {A = ℕ} n 0) ≡ n = length-replicate n 0 in
    All-from_get_or (λ b. b < 256) (replicate n 0) 0 (λ i l. rw (get_or-replicate {A = ℕ} n i 0 0 (omega arith)) (omega arith))

pub alive : (σ : State) (kb db : List ℕ) → Fit σ kb db → (s : List ℕ) × Text (front σ kb db s)
alive Start kb db f = (10 ∷ [], empty)
alive (KeyLength None) kb db f = (
  decimal 0 ++ (44 ∷ (decimal 0 ++ (58 ∷ ([] ++ (45 ∷ 62 ∷ ([] ++ (10 ∷ 10 ∷ []))))))),
  whole 0 0 [] [] (10 ∷ []) (omega arith) (omega arith) refl tt refl tt empty,
)
alive (KeyLength (Some k)) kb db f = (
  44 ∷ (decimal 0 ++ (58 ∷ (zeros k ++ (45 ∷ 62 ∷ ([] ++ (10 ∷ 10 ∷ [])))))),
  whole k 0 (zeros k) [] (10 ∷ []) f (omega arith) (length_zeros k) (bytes_zeros k) refl tt empty,
)
alive (DataLength k None) kb db f = (
  decimal 0 ++ (58 ∷ (zeros k ++ (45 ∷ 62 ∷ ([] ++ (10 ∷ 10 ∷ []))))),
  whole k 0 (zeros k) [] (10 ∷ []) f (omega arith) (length_zeros k) (bytes_zeros k) refl tt empty,
)
alive (DataLength k (Some d)) kb db f = (
  58 ∷ (zeros k ++ (45 ∷ 62 ∷ (zeros d ++ (10 ∷ 10 ∷ [])))),
  whole k d (zeros k) (zeros d) (10 ∷ []) f.0 f.1 (length_zeros k) (bytes_zeros k) (length_zeros d) (bytes_zeros d) empty,
)
alive (Key k d) kb db f =
    (45 ∷ 62 ∷ (zeros d ++ (10 ∷ 10 ∷ [])), whole k d kb (zeros d) (10 ∷ []) f.0 f.1 f.2 f.3 (length_zeros d) (bytes_zeros d) empty)
alive (Arrow k d) kb db f =
    (62 ∷ (zeros d ++ (10 ∷ 10 ∷ [])), whole k d kb (zeros d) (10 ∷ []) f.0 f.1 f.2 f.3 (length_zeros d) (bytes_zeros d) empty)
alive (Data k d) kb db f = (10 ∷ 10 ∷ [], whole k d kb db (10 ∷ []) f.0 f.1 f.2 f.3 f.4 f.5 empty)
alive (Record k d) kb db f = absurd f
alive End kb db f = ([], empty)

-- no line ends inside the key or the data
pub cut_key : (k d : ℕ) (x : List ℕ) → k < 2 ^ 32 → d < 2 ^ 32 → length x < k → Lined (front (DataLength k (Some d)) [] [] (58 ∷ x)) → ⊥
cut_key k d x hk hd l r =
    let q = past_colon k d x r.key r.data' r.rest hk hd r.proper.2 r.proper.3 r.is in
    omega (arith, ap length q.2 ∙ length-append r.key (45 ∷ 62 ∷ (r.data' ++ (10 ∷ r.rest))), q.0)

pub cut_data : (k d : ℕ) (kb x : List ℕ) → k < 2 ^ 32 → d < 2 ^ 32 → length kb ≡ k → length x < d → Lined (front (Arrow k d) kb [] (62 ∷ x)) → ⊥
cut_data k d kb x hk hd lk l r =
    let q = past_key k d kb (45 ∷ 62 ∷ x) r.key r.data' r.rest hk hd r.proper.2 r.proper.3 lk r.is in
    let o : x ≡ r.data' ++ (10 ∷ r.rest) = tails 62 62 _ _ (tails 45 45 _ _ q.2) in
    omega (arith, ap length o ∙ length-append r.data' (10 ∷ r.rest), q.0)

-- a text that starts with a plus sign starts with a line
pub plus_line : (x : List ℕ) → (Lined (43 ∷ x) → ⊥) → Text (43 ∷ x) → ⊥
plus_line x n t = ⊎_elim (λ e. plus x e) (λ l. n l.0) (opens _ t)

bytes_padded : (x : List ℕ) (n : ℕ) → Bytes x → Bytes (x ++ zeros n)
bytes_padded x n b = All-append (λ c. c < 256) x (zeros n) b (bytes_zeros n)

pub cut_key_alive : (k d : ℕ) (x : List ℕ) → k < 2 ^ 32 → d < 2 ^ 32 → length x < k → Bytes x → Begins (front (DataLength k (Some d)) [] [] (58 ∷ x))
cut_key_alive k d x hk hd l b =
    let lz : length (zeros (k - length x)) ≡ k - length x = length_zeros (k - length x) in
    let lk : length (x ++ zeros (k - length x)) ≡ k = length-append x (zeros (k - length x)) ∙ omega arith in (
      zeros (k - length x) ++ (45 ∷ 62 ∷ (zeros d ++ (10 ∷ 10 ∷ []))),
      subst Text
          (ap (λ (y : List ℕ). 43 ∷ (decimal k ++ (44 ∷ (decimal d ++ (58 ∷ y))))) (append_assoc x (zeros (k - length x)) (45 ∷ 62 ∷ (zeros d ++ (10 ∷ 10 ∷ []))))
          ∙ simp append_assoc)
          (whole k d (x ++ zeros (k - length x)) (zeros d) (10 ∷ []) hk hd lk (bytes_padded x (k - length x) b) (length_zeros d) (bytes_zeros d) empty),
    )

pub cut_data_alive : (k d : ℕ) (kb x : List ℕ) → k < 2 ^ 32 → d < 2 ^ 32 → length kb ≡ k → Bytes kb → length x < d → Bytes x
    → Begins (front (Arrow k d) kb [] (62 ∷ x))
cut_data_alive k d kb x hk hd lk bk l b =
    let lz : length (zeros (d - length x)) ≡ d - length x = length_zeros (d - length x) in
    let ld : length (x ++ zeros (d - length x)) ≡ d = length-append x (zeros (d - length x)) ∙ omega arith in (
      zeros (d - length x) ++ (10 ∷ 10 ∷ []),
      subst Text
          (ap (λ (y : List ℕ). 43 ∷ (decimal k ++ (44 ∷ (decimal d ++ (58 ∷ (kb ++ (45 ∷ 62 ∷ y))))))) (append_assoc x (zeros (d - length x)) (10 ∷ 10 ∷ []))
          ∙ simp append_assoc)
          (whole k d kb (x ++ zeros (d - length x)) (10 ∷ []) hk hd lk bk ld (bytes_padded x (d - length x) b) empty),
    )
