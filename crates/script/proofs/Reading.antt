-- What split_words has read of a line so far.
use Rattle.std.proofs.Common.{◌≡◌, ℕ, ◌+◌, ◌<◌, ◌≤◌, zero, suc, Bool, true, false, Bor, map, List, [], ◌∷◌, ◌++◌, length, get_or, drop, refl, sym, ap, ◌∙◌, subst, arith, add-one, append_assoc, append-nil, length-append, drop-cons}
use Rattle.std.proofs.lemmas.List.{drop_all, map-append}
use Rattle.std.specs.List.{AllByRecursion}
use Rattle.script.specs.Words.{pieces, starts_comment, in_front, up_to_comment, words, HasByte}

-- so many empty pieces in front of words
abbrev pub gapped : ℕ → List (List ℕ) → List (List ℕ)
gapped zero ws = ws
gapped (suc n) ws = gapped n (in_front [] ws)

-- these words and gaps stand in the first n pieces
pub record ReadSoFar (line : List ℕ) (ws : List (List ℕ)) (gap : Bool) (n : ℕ) : Type 0 where
  pub gaps : ℕ
  pub none : gap ≡ false → gaps ≡ 0
  pub some : gap ≡ true → 0 < gaps
  pub full : AllByRecursion HasByte ws
  pub rest : words line ≡ ws ++ gapped gaps (up_to_comment (drop n (pieces line)))

-- the piece with number n
abbrev pub At : List ℕ → ℕ → List ℕ → Type 0
At line n p = (n < length (pieces line)) × (p ≡ get_or (pieces line) n p)

at_drop : (line : List ℕ) (n : ℕ) (p : List ℕ) → At line n p → drop n (pieces line) ≡ p ∷ drop (n + 1) (pieces line)
at_drop line n p h = rw add-one (drop-cons (pieces line) n p h.0 ∙ ap (λ x. x ∷ drop (suc n) (pieces line)) (sym h.1))

gapped_nil : (n : ℕ) → gapped n [] ≡ []
gapped_nil zero = refl
gapped_nil (suc n) = gapped_nil n

pub read_start : (line : List ℕ) → ReadSoFar line [] false 0
read_start line = record { gaps = 0; none = λ _. refl; some = λ e. absurd (cc); full = tt; rest = refl }

comment_ends : (p : List ℕ) (ps : List (List ℕ)) → starts_comment p ≡ true → up_to_comment (p ∷ ps) ≡ []
comment_ends p ps c = rw c

no_comment : (p : List ℕ) (ps : List (List ℕ)) → starts_comment p ≡ false → up_to_comment (p ∷ ps) ≡ in_front p (up_to_comment ps)
no_comment p ps c = rw c

empty_no_comment : (p : List ℕ) → length p ≡ 0 → p ≡ []
empty_no_comment [] e = refl
empty_no_comment (x ∷ p) e = absurd (omega arith)

word_in_front : (p : List ℕ) (ws : List (List ℕ)) → 0 < length p → in_front p ws ≡ p ∷ ws
word_in_front [] ws l = absurd (omega arith)
word_in_front (b ∷ bs) ws l = refl

-- the rest gives nothing
done : (line : List ℕ) (ws : List (List ℕ)) (gap : Bool) (n : ℕ) → ReadSoFar line ws gap n → up_to_comment (drop n (pieces line)) ≡ [] → ws ≡ words line
done line ws gap n r e = sym (r.rest ∙ ap (λ x. ws ++ gapped r.gaps x) e ∙ ap (λ x. ws ++ x) (gapped_nil r.gaps) ∙ append-nil ws)

pub read_comment : (line : List ℕ) (ws : List (List ℕ)) (gap : Bool) (n : ℕ) (p : List ℕ) → ReadSoFar line ws gap n → At line n p → starts_comment p ≡ true → ws ≡ words line
read_comment line ws gap n p r at c = done line ws gap n r (ap up_to_comment (at_drop line n p at) ∙ comment_ends p (drop (n + 1) (pieces line)) c)

pub read_end : (line : List ℕ) (ws : List (List ℕ)) (gap : Bool) (n : ℕ) → ReadSoFar line ws gap n → n ≡ length (pieces line) → ws ≡ words line
read_end line ws gap n r e = done line ws gap n r (ap up_to_comment (drop_all n (pieces line) (omega arith)))

-- the words of a line, where a piece that starts no comment comes next
next : (line : List ℕ) (ws : List (List ℕ)) (gap : Bool) (n : ℕ) (p : List ℕ) (r : ReadSoFar line ws gap n) → At line n p → starts_comment p ≡ false → words line ≡ ws ++ gapped r.gaps (in_front p (up_to_comment (drop (n + 1) (pieces line))))
next line ws gap n p r at c = r.rest ∙ ap (λ x. ws ++ gapped r.gaps x) (ap up_to_comment (at_drop line n p at) ∙ no_comment p (drop (n + 1) (pieces line)) c)

pub read_gap : (line : List ℕ) (ws : List (List ℕ)) (gap : Bool) (n m : ℕ) (p : List ℕ) → ReadSoFar line ws gap n → At line n p → starts_comment p ≡ false → length p ≡ 0 → m ≡ n + 1 → ReadSoFar line ws true m
read_gap line ws gap n m p r at c e behind = record {
  gaps = suc r.gaps;
  none = λ f. absurd (cc);
  some = λ _. omega arith;
  full = r.full;
  rest = rw behind (next line ws gap n p r at c ∙ ap (λ x. ws ++ gapped r.gaps (in_front x (up_to_comment (drop (n + 1) (pieces line))))) (empty_no_comment p e));
}

-- the same, behind no gap, of a piece that is a word
next_word : (line : List ℕ) (ws : List (List ℕ)) (gap : Bool) (n : ℕ) (p : List ℕ) (r : ReadSoFar line ws gap n) → gap ≡ false → At line n p → 0 < length p → starts_comment p ≡ false → words line ≡ ws ++ (p ∷ up_to_comment (drop (n + 1) (pieces line)))
next_word line ws gap n p r f at l c = next line ws gap n p r at c
    ∙ ap (λ k. ws ++ gapped k (in_front p (up_to_comment (drop (n + 1) (pieces line))))) (r.none f)
    ∙ ap (λ x. ws ++ x) (word_in_front p (up_to_comment (drop (n + 1) (pieces line))) l)

one_more : (ws : List (List ℕ)) (p : List ℕ) → AllByRecursion HasByte ws → 0 < length p → AllByRecursion HasByte (ws ++ p ∷ [])
one_more [] p all l = (l, tt)
one_more (w ∷ ws) p all l = (all.0, one_more ws p all.1 l)

pub read_word : (line : List ℕ) (ws vs : List (List ℕ)) (gap : Bool) (n m : ℕ) (p : List ℕ) → ReadSoFar line ws gap n → gap ≡ false → At line n p → 0 < length p → starts_comment p ≡ false → vs ≡ ws ++ p ∷ [] → m ≡ n + 1 → ReadSoFar line vs gap m
read_word line ws vs gap n m p r f at l c e behind = record {
  gaps = 0;
  none = λ _. refl;
  some = λ t. absurd (cc);
  full = subst (AllByRecursion HasByte) (sym e) (one_more ws p r.full l);
  rest = rw (e, behind) (next_word line ws gap n p r f at l c ∙ sym (append_assoc ws (p ∷ []) (up_to_comment (drop (n + 1) (pieces line)))));
}

-- a gap in front of words is an empty word
gap_is_empty : (n : ℕ) (w : List ℕ) (ws : List (List ℕ)) → AllByRecursion HasByte (gapped n ([] ∷ (w ∷ ws))) → ⊥
gap_is_empty zero w ws all = omega (arith, all.0)
gap_is_empty (suc n) w ws all = gap_is_empty n [] (w ∷ ws) all

all_behind : (ws vs : List (List ℕ)) → AllByRecursion HasByte (ws ++ vs) → AllByRecursion HasByte vs
all_behind [] vs all = all
all_behind (w ∷ ws) vs all = all_behind ws vs all.1

gap_refused : (k : ℕ) (p : List ℕ) (ws : List (List ℕ)) → 0 < k → AllByRecursion HasByte (gapped k (p ∷ ws)) → ⊥
gap_refused zero p ws l all = omega arith
gap_refused (suc n) p ws l all = gap_is_empty n p ws all

pub refuse_gap : (line : List ℕ) (ws : List (List ℕ)) (gap : Bool) (n : ℕ) (p : List ℕ) → ReadSoFar line ws gap n → gap ≡ true → At line n p → 0 < length p → starts_comment p ≡ false → AllByRecursion HasByte (words line) → ⊥
refuse_gap line ws gap n p r t at l c all =
    let e : words line ≡ ws ++ gapped r.gaps (p ∷ up_to_comment (drop (n + 1) (pieces line))) = next line ws gap n p r at c ∙ ap (λ x. ws ++ gapped r.gaps x) (word_in_front p (up_to_comment (drop (n + 1) (pieces line))) l) in
    gap_refused r.gaps p (up_to_comment (drop (n + 1) (pieces line))) (r.some t) (all_behind ws (gapped r.gaps (p ∷ up_to_comment (drop (n + 1) (pieces line)))) (subst (AllByRecursion HasByte) e all))

pub refuse_many : (line : List ℕ) (ws : List (List ℕ)) (gap : Bool) (n : ℕ) (p : List ℕ) → ReadSoFar line ws gap n → gap ≡ false → At line n p → 0 < length p → starts_comment p ≡ false → 4 ≤ length ws → 4 < length (words line)
refuse_many line ws gap n p r f at l c e =
    rw (next_word line ws gap n p r f at l c, length-append ws (p ∷ up_to_comment (drop (n + 1) (pieces line)))) (omega arith)

-- one more word
pub pushed : (ws vs : List (Bor (List ℕ))) (w : Bor (List ℕ)) → vs ≡ ws ++ w ∷ [] → map (λ v. v.now) vs ≡ map (λ v. v.now) ws ++ w.now ∷ []
pushed ws vs w e = rw e (map-append (λ v. v.now) ws (w ∷ []))
