-- The scan's turns.
use Rattle.std.proofs.Common.{◌≡◌, ℕ, ◌+◌, ◌-◌, ◌*◌, ◌^◌, ◌<◌, ◌≤◌, List, [], ◌∷◌, ◌++◌, length, get_or, take, drop, Some, None, decimal, sym, refl, ap, ◌∙◌, subst, ⊎_elim, append_assoc, arith, length-append, length-drop}
use Rattle.std.proofs.lemmas.List.{take_at, drop_more, drop-drop, drop_at, take-append-drop, drop_all, length-take-le}
use Rattle.std.proofs.ByRecursion.{All-drop}
use Rattle.byte_lists.specs.Bytes.{Bytes, part}
use Rattle.byte_lists.proofs.Parts.{part_bytes}
use Rattle.text.specs.Texts.{line, Proper, Text, Begins, Refused}
use Rattle.text.specs.Readings.{NoLine, Stops}
use Rattle.text.specs.Scans.{spanned, Spans}
use Rattle.text.specs.Lexing.{Digit, Fitting, Grows, Dead, skip}
use Rattle.text.specs.declared.state.State.{State}
use Rattle.text.specs.declared.state.State.TheVariants.{Start, KeyLength, DataLength, Key, Arrow, Data, Record, End}
use Rattle.text.proofs.Numbers.{grown, single}
use Rattle.text.proofs.Lines.{rec, onto, line_onto, front, Fit, front_append, Lined, no_line, no_short_line, dead, short, alive, cut_key, cut_data, plus_line, cut_key_alive, cut_data_alive}
use Rattle.text.proofs.Stuck.{stuck_at, stuck_end}

-- from p to at the state has seen its front, with some key and data
pub record Seen (σ : State) (t : List ℕ) (p at : ℕ) : Type 0 where
  pub from : p ≤ at
  pub within : at ≤ length t
  pub key : List ℕ
  pub data' : List ℕ
  pub fit : Fit σ key data'
  pub is : drop p t ≡ front σ key data' (drop at t)

pub starts : (t : List ℕ) (p : ℕ) → p ≤ length t → Seen Start t p p
starts t p l = record { from = omega arith; within = l; key = []; data' = []; fit = tt; is = refl }

lined : (u : List ℕ) → (Lined u → ⊥) → NoLine u
lined u n r s h e = n (record { key = r.key; data' = r.data'; rest = s; proper = h; is = e ∙ line_onto r s })

length_seen : (t F : List ℕ) (p e : ℕ) → p ≤ e → e ≤ length t → drop p t ≡ F ++ drop e t → length F ≡ e - p
length_seen t F p e a b s = omega (arith, ap length s, length-drop p t, length-drop e t, length-append F (drop e t))

module _ (σ : State) (t : List ℕ) (p at : ℕ) (s : Seen σ t p at) where
  seen : List ℕ
  seen = front σ s.key s.data' []

  begins : Begins seen
  unfolding seen
  begins = let a = alive σ s.key s.data' s.fit in (a.0, subst Text (front_append σ s.key s.data' a.0) a.1)

  -- the text ends here
  pub ended : length t ≤ at → (σ ≡ End → ⊥) → Stops t p (length t)
  unfolding seen
  ended l n =
      let i : drop p t ≡ seen = s.is ∙ ap (front σ s.key s.data') (drop_all at t l) in
      let f = s.from in
      let w = s.within in (
        omega arith,
        subst (Refused (drop p t)) (length-drop p t)
            (stuck_end (drop p t) (subst Begins (sym i) begins) (λ x. short σ s.key s.data' s.fit n (subst Text i x))),
        lined (drop p t) (λ x. no_short_line σ s.key s.data' s.fit (subst Lined i x)),
      )

  -- the byte here is not taken
  pub stopped : at < length t → Dead σ (get_or t at 0) → Stops t p at
  unfolding seen
  stopped l d =
      let b = get_or t at 0 in
      let m : drop at t ≡ b ∷ drop (at + 1) t = drop_more t at 0 l in
      let i : drop p t ≡ front σ s.key s.data' (b ∷ drop (at + 1) t) = s.is ∙ ap (front σ s.key s.data') m in
      let j : drop p t ≡ seen ++ (b ∷ drop (at + 1) t) = i ∙ front_append σ s.key s.data' (b ∷ drop (at + 1) t) in (
        s.from,
        subst (Refused (drop p t)) (length_seen t seen p at s.from s.within (j ∙ ap (λ (z : List ℕ). seen ++ z) (sym m)))
            (stuck_at (drop p t) seen b (drop (at + 1) t) j begins
            (λ v x. dead σ s.key s.data' v b s.fit d (subst Text (sym (front_append σ s.key s.data' (b ∷ v))) x))),
        lined (drop p t) (λ x. no_line σ s.key s.data' (drop (at + 1) t) b s.fit d (subst Lined i x)),
      )

-- a byte is taken, and what follows is still to be skipped
abbrev pub Took : State → List ℕ → List ℕ → Type 0
Took Start x y = ⊥
Took (KeyLength None) x y = x ≡ front (KeyLength None) [] [] y
Took (KeyLength (Some k)) x y = (k < 2 ^ 32) × (x ≡ front (KeyLength (Some k)) [] [] y)
Took (DataLength k None) x y = (k < 2 ^ 32) × (x ≡ front (DataLength k None) [] [] y)
Took (DataLength k (Some d)) x y = (k < 2 ^ 32) × (d < 2 ^ 32) × (x ≡ front (DataLength k (Some d)) [] [] y)
Took (Key k d) x y = (k < 2 ^ 32) × (d < 2 ^ 32) × (x ≡ front (DataLength k (Some d)) [] [] (58 ∷ y))
Took (Arrow k d) x y = (k < 2 ^ 32) × (d < 2 ^ 32) × ((kb : List ℕ) × (length kb ≡ k) × Bytes kb × (x ≡ front (Arrow k d) kb [] y))
Took (Data k d) x y = (k < 2 ^ 32) × (d < 2 ^ 32) × ((kb : List ℕ) × (length kb ≡ k) × Bytes kb × (x ≡ front (Arrow k d) kb [] (62 ∷ y)))
Took (Record k d) x y =
    (k < 2 ^ 32) × (d < 2 ^ 32)
    × ((kb : List ℕ) × (db : List ℕ) × (length kb ≡ k) × Bytes kb × (length db ≡ d) × Bytes db × (x ≡ front (Record k d) kb db y))
Took End x y = x ≡ front End [] [] y

next_digit : (n b : ℕ) (y : List ℕ) → Digit b → Fitting n b → decimal n ++ (b ∷ y) ≡ decimal (10 * n + (b - 48)) ++ y
next_digit n b y g f = sym (ap (λ (ds : List ℕ). ds ++ y) (grown n b f.0 g.0 g.1 f.1) ∙ append_assoc (decimal n) (b ∷ []) y)

first_digit : (b : ℕ) (y : List ℕ) → Digit b → b ∷ y ≡ decimal (b - 48) ++ y
first_digit b y g = sym (ap (λ (ds : List ℕ). ds ++ y) (single b g.0 g.1))

-- a state is reached
reach : (σ τ : State) (x y : List ℕ) → σ ≡ τ → Took τ x y → Took σ x y
reach σ τ x y e t = subst (λ (s : State). Took s x y) (sym e) t

took : (σ σ' : State) (kb db x y : List ℕ) (b : ℕ) → Fit σ kb db → x ≡ front σ kb db (b ∷ y) → Grows σ b σ' → Took σ' x y
took Start σ' kb db x y b f e g =
    ⊎_elim (λ (h : (b ≡ 43) × (σ' ≡ KeyLength None)). reach σ' (KeyLength None) x y h.1 (e ∙ ap (λ (c : ℕ). c ∷ y) h.0))
    (λ (h : (b ≡ 10) × (σ' ≡ End)). reach σ' End x y h.1 (e ∙ ap (λ (c : ℕ). c ∷ y) h.0)) g
took (KeyLength None) σ' kb db x y b f e g =
    reach σ' (KeyLength (Some (b - 48))) x y g.1 (omega arith, e ∙ ap (λ (u : List ℕ). 43 ∷ u) (first_digit b y g.0))
took (KeyLength (Some k)) σ' kb db x y b f e g =
    ⊎_elim
    (λ (h : (b ≡ 44) × (σ' ≡ DataLength k None)). reach σ' (DataLength k None) x y h.1 (f, e ∙ ap (λ (c : ℕ). 43 ∷ (decimal k ++ (c ∷ y))) h.0))
    (λ (h : Digit b × Fitting k b × (σ' ≡ KeyLength (Some (10 * k + (b - 48))))).
    reach σ' (KeyLength (Some (10 * k + (b - 48)))) x y h.2 (h.1.1, e ∙ ap (λ (u : List ℕ). 43 ∷ u) (next_digit k b y h.0 h.1))) g
took (DataLength k None) σ' kb db x y b f e g =
    reach σ' (DataLength k (Some (b - 48))) x y g.1 (f, omega arith, e ∙ ap (λ (u : List ℕ). 43 ∷ (decimal k ++ (44 ∷ u))) (first_digit b y g.0))
took (DataLength k (Some d)) σ' kb db x y b f e g =
    ⊎_elim
    (λ (h : (b ≡ 58) × (σ' ≡ Key k d)). reach σ' (Key k d) x y h.1 (f.0, f.1, e ∙ ap (λ (c : ℕ). 43 ∷ (decimal k ++ (44 ∷ (decimal d ++ (c ∷ y))))) h.0))
    (λ (h : Digit b × Fitting d b × (σ' ≡ DataLength k (Some (10 * d + (b - 48))))).
    reach σ' (DataLength k (Some (10 * d + (b - 48)))) x y h.2
    (f.0, h.1.1, e ∙ ap (λ (u : List ℕ). 43 ∷ (decimal k ++ (44 ∷ u))) (next_digit d b y h.0 h.1))) g
took (Key k d) σ' kb db x y b f e g =
    reach σ' (Arrow k d) x y g.1 (f.0, f.1, (kb, f.2, f.3, e ∙ ap (λ (c : ℕ). front (Key k d) kb [] (c ∷ y)) g.0))
took (Arrow k d) σ' kb db x y b f e g =
    reach σ' (Data k d) x y g.1 (f.0, f.1, (kb, f.2, f.3, e ∙ ap (λ (c : ℕ). front (Arrow k d) kb [] (c ∷ y)) g.0))
took (Data k d) σ' kb db x y b f e g =
    reach σ' (Record k d) x y g.1 (f.0, f.1, (kb, db, f.2, f.3, f.4, f.5, e ∙ ap (λ (c : ℕ). front (Data k d) kb db (c ∷ y)) g.0))
took (Record k d) σ' kb db x y b f e g = absurd f
took End σ' kb db x y b f e g = absurd g

add_nil : (n : ℕ) → n ≡ n + 0
add_nil n = omega arith

parts : (t : List ℕ) (at n : ℕ) → drop at t ≡ take n (drop at t) ++ drop (at + n) t
parts t at n = sym (ap (λ (u : List ℕ). take n (drop at t) ++ u) (sym (drop-drop n at t)) ∙ take-append-drop n (drop at t))

module _ (t : List ℕ) (bytes : Bytes t) (p at : ℕ) (a : p ≤ at) where
  -- what is skipped is the key or the data
  skipped : (σ : State) → ((k d : ℕ) → σ ≡ Record k d → ⊥) → at + skip σ ≤ length t → Took σ (drop p t) (drop at t) → Seen σ t p (at + skip σ)
  skipped Start n b k = absurd k
  skipped (KeyLength None) n b k =
      record { from = omega arith; within = b; key = []; data' = []; fit = tt; is = k ∙ ap (λ (m : ℕ). front (KeyLength None) [] [] (drop m t)) (add_nil at) }
  skipped (KeyLength (Some i)) n b k =
      record { from = omega arith; within = b; key = []; data' = []; fit = k.0; is = k.1 ∙ ap (λ (m : ℕ). front (KeyLength (Some i)) [] [] (drop m t)) (add_nil at) }
  skipped (DataLength i None) n b k =
      record { from = omega arith; within = b; key = []; data' = []; fit = k.0; is = k.1 ∙ ap (λ (m : ℕ). front (DataLength i None) [] [] (drop m t)) (add_nil at) }
  skipped (DataLength i (Some d)) n b k =
      record {
        from = omega arith;
        within = b;
        key = [];
        data' = [];
        fit = (k.0, k.1);
        is = k.2 ∙ ap (λ (m : ℕ). front (DataLength i (Some d)) [] [] (drop m t)) (add_nil at);
      }
  skipped (Key i d) n b k =
      let l : length (drop at t) ≡ length t - at = length-drop at t in
      record {
        from = omega arith;
        within = b;
        key = part t at i;
        data' = [];
        fit = (k.0, k.1, length-take-le i (drop at t) (omega arith), part_bytes t bytes at i);
        is = k.2 ∙ ap (λ (u : List ℕ). front (DataLength i (Some d)) [] [] (58 ∷ u)) (parts t at i);
      }
  skipped (Arrow i d) n b k =
      record {
        from = omega arith;
        within = b;
        key = k.2.0;
        data' = [];
        fit = (k.0, k.1, k.2.1, k.2.2);
        is = k.2.3 ∙ ap (λ (m : ℕ). front (Arrow i d) k.2.0 [] (drop m t)) (add_nil at);
      }
  skipped (Data i d) n b k =
      let l : length (drop at t) ≡ length t - at = length-drop at t in
      record {
        from = omega arith;
        within = b;
        key = k.2.0;
        data' = part t at d;
        fit = (k.0, k.1, k.2.1, k.2.2, length-take-le d (drop at t) (omega arith), part_bytes t bytes at d);
        is = k.2.3 ∙ ap (λ (u : List ℕ). front (Arrow i d) k.2.0 [] (62 ∷ u)) (parts t at d);
      }
  skipped (Record i d) n b k = absurd (n i d refl)
  skipped End n b k =
      record { from = omega arith; within = b; key = []; data' = []; fit = tt; is = k ∙ ap (λ (m : ℕ). front End [] [] (drop m t)) (add_nil at) }

  -- a text that ends inside a line
  inside_line : (F : List ℕ) → drop p t ≡ 43 ∷ F → Begins (43 ∷ F) → (Lined (43 ∷ F) → ⊥) → at ≤ length t → Stops t p (length t)
  inside_line F i g n b = (
    omega arith,
    subst (Refused (drop p t)) (length-drop p t) (stuck_end (drop p t) (subst Begins (sym i) g) (λ x. plus_line F n (subst Text i x))),
    lined (drop p t) (λ x. n (subst Lined i x)),
  )

  -- too few bytes are left to skip
  cut : (σ : State) → at ≤ length t → length t < at + skip σ → Took σ (drop p t) (drop at t) → Stops t p (length t)
  cut Start b l k = absurd k
  cut (KeyLength n) b l k = absurd (omega arith)
  cut (DataLength n d) b l k = absurd (omega arith)
  cut (Key n d) b l k =
      let m : length (drop at t) < n = omega (arith, length-drop at t) in
      inside_line _ k.2 (cut_key_alive n d (drop at t) k.0 k.1 m (All-drop (λ c. c < 256) at t bytes)) (cut_key n d (drop at t) k.0 k.1 m) b
  cut (Arrow n d) b l k = absurd (omega arith)
  cut (Data n d) b l k =
      let m : length (drop at t) < d = omega (arith, length-drop at t) in
      inside_line _ k.2.3 (cut_data_alive n d k.2.0 (drop at t) k.0 k.1 k.2.1 k.2.2 m (All-drop (λ c. c < 256) at t bytes))
      (cut_data n d k.2.0 (drop at t) k.0 k.1 k.2.1 m) b
  cut (Record n d) b l k = absurd (omega arith)
  cut End b l k = absurd (omega arith)

module _ (σ σ' : State) (t : List ℕ) (p at : ℕ) (s : Seen σ t p at) (l : at < length t) (g : Grows σ (get_or t at 0) σ') where
  took_at : Took σ' (drop p t) (drop (at + 1) t)
  took_at =
      took σ σ' s.key s.data' (drop p t) (drop (at + 1) t) (get_or t at 0) s.fit (s.is ∙ ap (front σ s.key s.data') (drop_more t at 0 l)) g

  pub turned : Bytes t → ((k d : ℕ) → σ' ≡ Record k d → ⊥) → (at + 1) + skip σ' ≤ length t → Seen σ' t p ((at + 1) + skip σ')
  turned bytes n b = let f = s.from in skipped t bytes p (at + 1) (omega arith) σ' n b took_at

  pub cut_off : Bytes t → length t < (at + 1) + skip σ' → Stops t p (length t)
  cut_off bytes b = let f = s.from in cut t bytes p (at + 1) (omega arith) σ' (omega arith) b took_at

-- what follows a front of a known length
behind : (t X Z : List ℕ) (p q : ℕ) → drop p t ≡ X ++ Z → p + length X ≡ q → drop q t ≡ Z
behind t X Z p q e l = sym (ap (λ (n : ℕ). drop n t) l) ∙ sym (drop-drop (length X) p t) ∙ ap (drop (length X)) e ∙ drop_at X Z (length X) refl

placed : (t H kb db : List ℕ) (p next k d : ℕ) → drop p t ≡ H ++ (kb ++ (45 ∷ 62 ∷ (db ++ (10 ∷ drop next t)))) → length kb ≡ k → length db ≡ d → p ≤ next → next ≤ length t
    → (p + k + d + 3 ≤ next) × (part t (next - (k + d + 3)) k ≡ kb) × (part t (next - (d + 1)) d ≡ db)
placed t H kb db p next k d e lk ld a b =
    let l0 : length (drop p t) ≡ length H + length (kb ++ (45 ∷ 62 ∷ (db ++ (10 ∷ drop next t)))) = ap length e ∙ length-append H (kb ++ (45 ∷ 62 ∷ (db ++ (10 ∷ drop next t)))) in
    let l1 = length-append kb (45 ∷ 62 ∷ (db ++ (10 ∷ drop next t))) in
    let l2 = length-append db (10 ∷ drop next t) in
    let l3 = length-drop p t in
    let l4 = length-drop next t in
    let l5 = length-append H (kb ++ (45 ∷ 62 ∷ [])) in
    let l6 = length-append kb (45 ∷ 62 ∷ []) in
    let e' : drop p t ≡ (H ++ (kb ++ (45 ∷ 62 ∷ []))) ++ (db ++ (10 ∷ drop next t)) = e ∙ simp append_assoc in
    let x : drop (next - (k + d + 3)) t ≡ kb ++ (45 ∷ 62 ∷ (db ++ (10 ∷ drop next t))) = behind t H _ p _ e (omega arith) in
    let y : drop (next - (d + 1)) t ≡ db ++ (10 ∷ drop next t) = behind t (H ++ (kb ++ (45 ∷ 62 ∷ []))) _ p _ e' (omega arith) in
    (omega arith, ap (take k) x ∙ take_at kb _ k lk, ap (take d) y ∙ take_at db _ d ld)

spans_by : (t : List ℕ) (p next k d : ℕ) → p ≤ next → next ≤ length t → Took (Record k d) (drop p t) (drop next t) → Spans t p k d next
spans_by t p next k d a b w =
    let kb = w.2.0 in
    let db = w.2.1 in
    let i0 : drop p t ≡ 43 ∷ (decimal k ++ (44 ∷ (decimal d ++ (58 ∷ (kb ++ (45 ∷ 62 ∷ (db ++ (10 ∷ drop next t)))))))) = w.2.6 in
    let r = placed t (43 ∷ (decimal k ++ (44 ∷ (decimal d ++ (58 ∷ []))))) kb db p next k d (i0 ∙ simp append_assoc) w.2.2 w.2.4 a b in
    let same : rec kb db ≡ spanned t k d next = ap (λ (x : List ℕ). rec x db) (sym r.1) ∙ ap (rec (part t (next - (k + d + 3)) k)) (sym r.2) in
    let i1 : drop p t ≡ onto kb db (drop next t) =
    i0 ∙ ap (λ (n : ℕ). 43 ∷ (decimal n ++ (44 ∷ (decimal d ++ (58 ∷ (kb ++ (45 ∷ 62 ∷ (db ++ (10 ∷ drop next t))))))))) (sym w.2.2)
    ∙ ap (λ (n : ℕ). 43 ∷ (decimal (length kb) ++ (44 ∷ (decimal n ++ (58 ∷ (kb ++ (45 ∷ 62 ∷ (db ++ (10 ∷ drop next t))))))))) (sym w.2.4) in
    let i2 : drop p t ≡ line (spanned t k d next) ++ drop next t =
    i1 ∙ sym (line_onto (rec kb db) (drop next t)) ∙ ap (λ x. line x ++ drop next t) same in
    record {
      room = r.0;
      within = b;
      proper = subst Proper same (w.2.3, w.2.5, omega (arith, w.2.2, w.0), omega (arith, w.2.4, w.1));
      behind = omega (arith, length_seen t (line (spanned t k d next)) p next a b i2);
      is = i2;
    }

pub spans : (σ σ' : State) (t : List ℕ) (p at k d : ℕ) → Seen σ t p at → at < length t → Grows σ (get_or t at 0) σ' → σ' ≡ Record k d → Spans t p k d (at + 1)
spans σ σ' t p at k d s l g e =
    let f = s.from in
    spans_by t p (at + 1) k d (omega arith) (omega arith) (subst (λ (x : State). Took x (drop p t) (drop (at + 1) t)) e (took_at σ σ' t p at s l g))

-- the text ends with its line feed
pub last : (t : List ℕ) (σ : State) (p at : ℕ) → Seen σ t p at → σ ≡ End → length t ≤ at → drop p t ≡ 10 ∷ []
last t σ p at s e l =
    let n : Seen End t p at = subst (λ (x : State). Seen x t p at) e s in
    n.is ∙ ap (λ (x : List ℕ). 10 ∷ x) (drop_all at t l)
