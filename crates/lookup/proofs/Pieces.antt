-- Comparing piece by piece.
use Rattle.std.proofs.Common.{◌≡◌, ℕ, suc, ◌+◌, ◌-◌, ◌*◌, ◌/◌, ◌%◌, ◌<◌, ◌≤◌, Bool, true, false, ◌⊎◌, List, [], ◌∷◌, length, get_or, take, drop, Ok, Decides, sym, refl, ap, ◌∙◌, subst, inl, inr, ⊎_elim, add-zero, arith, length-drop, w8, Fits}
use Rattle.std.proofs.lemmas.List.{get_or-take, get_or-drop, length-take, same_lists, get_or_default}
use Rattle.std.proofs.lemmas.Bool.{cases_lt, cases_eq, false≢true}
use Rattle.byte_lists.specs.Bytes.{part, word_at}
use Rattle.byte_lists.proofs.Parts.{get_d_part, part_in}
use Rattle.faults.specs.declared.device.DeviceFault.{DeviceFault}
use Rattle.device.specs.Meanings.{Meaning, refuses}
use Rattle.file.specs.declared.extents.Extent.{Extent}
use Rattle.file.specs.Ranges.{Reads, AllRead}
use Rattle.file.specs.Extents.{file}
use Rattle.file.proofs.Turns.{piece_readable}
use Rattle.lookup.specs.Keys.{Agrees, Differs, Unread, Compared}

-- two lists of one length are equal, or differ in a place
differ_at : (xs ys : List ℕ) → length xs ≡ length ys → (xs ≡ ys) ⊎ ((k : ℕ) × (k < length ys) × (get_or xs k 0 ≡ get_or ys k 0 → ⊥))
differ_at [] [] l = inl refl
differ_at [] (y ∷ ys) l = absurd (omega arith)
differ_at (x ∷ xs) [] l = absurd (omega arith)
differ_at (x ∷ xs) (y ∷ ys) l =
    ⊎_elim
    (λ (h : x ≡ y).
    ⊎_elim
    (λ (t : xs ≡ ys). inl (ap (λ (z : ℕ). z ∷ xs) h ∙ ap (λ (zs : List ℕ). y ∷ zs) t))
    (λ t. inr (suc t.0, omega (arith, t.1), t.2))
    (differ_at xs ys (omega arith)))
    (λ ne. inr (0, omega arith, λ e. absurd (ne e)))
    (cases_eq x y)

-- a byte below 256 times a number
digits : (x y z w : ℕ) → x < 256 → z < 256 → x + 256 * y ≡ z + 256 * w → (x ≡ z) × (y ≡ w)
digits x y z w lx lz e =
    let a : (x + 256 * y) % 256 ≡ x = omega arith in
    let b : (z + 256 * w) % 256 ≡ z = omega arith in
    let c : x ≡ z = sym a ∙ ap (λ (k : ℕ). k % 256) e ∙ b in
    (c, omega arith)

module _ (a b : List ℕ) (i : ℕ) where
  -- equal words are equal bytes
  pub words_same : ((j : ℕ) → Fits w8 (get_or a j 0)) → ((j : ℕ) → Fits w8 (get_or b j 0)) → word_at a i ≡ word_at b i → (j : ℕ) → j < 4 → get_or a (i + j) 0 ≡ get_or b (i + j) 0
  words_same fa fb e j l =
      let d0 = digits (get_or a i 0) _ (get_or b i 0) _ (fa i).fits (fb i).fits e in
      let d1 = digits (get_or a (i + 1) 0) _ (get_or b (i + 1) 0) _ (fa (i + 1)).fits (fb (i + 1)).fits d0.1 in
      let d2 = digits (get_or a (i + 2) 0) (get_or a (i + 3) 0) (get_or b (i + 2) 0) (get_or b (i + 3) 0) (fa (i + 2)).fits (fb (i + 2)).fits d1.1 in
      let e0 : get_or a (i + 0) 0 ≡ get_or b (i + 0) 0 = rw add-zero d0.0 in
      let P : ℕ → Type 0 = λ k. get_or a (i + k) 0 ≡ get_or b (i + k) 0 in
      ⊎_elim (λ (q : j ≡ 0). subst P (sym q) e0)
      (λ n0. ⊎_elim (λ (q : j ≡ 1). subst P (sym q) d1.0)
      (λ n1. ⊎_elim (λ (q : j ≡ 2). subst P (sym q) d2.0)
      (λ n2. let q : j ≡ 3 = omega arith in subst P (sym q) d2.1)
      (cases_eq j 2)) (cases_eq j 1)) (cases_eq j 0)

  module _ (front : (j : ℕ) → j < i → get_or a j 0 ≡ get_or b j 0) where
    pub words_more : ((j : ℕ) → j < 4 → get_or a (i + j) 0 ≡ get_or b (i + j) 0) → (j : ℕ) → j < i + 4 → get_or a j 0 ≡ get_or b j 0
    words_more more j l =
        ⊎_elim (front j) (λ (c : i ≤ j). let z : i + (j - i) ≡ j = omega arith in subst (λ (k : ℕ). get_or a k 0 ≡ get_or b k 0) z (more (j - i) (omega arith))) (cases_lt j i)

-- pieces of one length that agree up to a place, and in their last word
pub bytes_all : (a b : List ℕ) (i : ℕ) → length a ≡ length b → 4 ≤ length a → length a ≤ i + 4 → ((j : ℕ) → j < i → get_or a j 0 ≡ get_or b j 0)
    → ((j : ℕ) → j < 4 → get_or a (length a - 4 + j) 0 ≡ get_or b (length a - 4 + j) 0) → a ≡ b
bytes_all a b i q four l front last =
    let all : (j : ℕ) → j < length a - 4 + 4 → get_or a j 0 ≡ get_or b j 0 = words_more a b (length a - 4) (λ j h. front j (omega arith)) last in
    same_lists a b q (λ j d h. get_or_default a j d 0 h ∙ all j (omega arith) ∙ get_or_default b j 0 d (omega arith))

module _ (m : Meaning) (e : Extent) (p : ℕ) where
  -- a piece inside one sector that was read
  module _ (want piece : List ℕ) (reads : Reads m (e.start + p)) (sector : (e.start + p) % 512 + length want ≤ 512)
      (read : piece ≡ part (file m e) p (length want)) (long : length piece ≡ length want) where
    at : (j : ℕ) → j < length want → get_or (file m e) (p + j) 0 ≡ get_or piece j 0
    at j l = sym (get_d_part (file m e) p (length want) j l) ∙ sym (ap (λ (ys : List ℕ). get_or ys j 0) read)

    all : (n : ℕ) → n ≤ length want → AllRead m (e.start + p) n
    all n h = λ j l. piece_readable m (e.start + p) (length want) j sector (omega arith) reads

    pub compared_here : (r : Bool) → Decides r (piece ≡ want) → Compared m e p want (Ok r)
    compared_here true d = record { reads = all (length want) (omega arith); same = λ j l. at j l ∙ ap (λ (ys : List ℕ). get_or ys j 0) (d.0 refl) }
    compared_here false d =
        ⊎_elim
        (λ s. absurd (false≢true (d.1 s)))
        (λ s. record { k = s.0; within = s.1; reads = all (s.0 + 1) (omega (arith, s.1)); differs = λ q. s.2 (sym (at s.0 s.1) ∙ q) })
        (differ_at piece want long)

  -- the same, where the piece was read at its place on the device
  pub compared_piece : (want piece : List ℕ) (place : ℕ) → place ≡ e.start + p → p + length want ≤ e.len → place % 512 + length want ≤ 512 → Reads m place
      → piece ≡ part m.bytes place (length want) → length piece ≡ length want → (r : Bool) → Decides r (piece ≡ want) → Compared m e p want (Ok r)
  compared_piece want piece place at inside sector reads read long =
      compared_here want piece (subst (Reads m) at reads) (subst (λ (k : ℕ). k % 512 + length want ≤ 512) at sector)
      (read ∙ ap (λ (k : ℕ). part m.bytes k (length want)) at ∙ sym (part_in m.bytes e.start e.len p (length want) inside)) long

  -- the piece of the key that is compared in a turn
  module _ (key : List ℕ) (from to : ℕ) (some : from < to) (fits : to ≤ length key) (agrees : Agrees m e p key from) where
    abbrev piece : List ℕ
    piece = take (to - from) (drop from key)

    long : length piece ≡ to - from
    long = simp (length-take, length-drop) (omega arith)

    get_d_piece : (j : ℕ) → j < to - from → get_or piece j 0 ≡ get_or key (from + j) 0
    get_d_piece j l = get_or-take (to - from) (drop from key) j 0 l ∙ get_or-drop from key j 0

    all_more : (n : ℕ) → AllRead m (e.start + (p + from)) n → AllRead m (e.start + p) (from + n)
    all_more n b = λ j l.
        ⊎_elim
        (λ (c : j < from). agrees.reads j c)
        (λ (c : from ≤ j). let z : e.start + (p + from) + (j - from) ≡ e.start + p + j = omega arith in subst (Reads m) z (b (j - from) (omega arith)))
        (cases_lt j from)

    agrees_to : (n : ℕ) → n ≤ to - from → Agrees m e (p + from) piece n → Agrees m e p key (from + n)
    agrees_to n h b =
        record {
          reads = all_more n b.reads;
          same = λ j c.
              ⊎_elim
              (λ (d : j < from). agrees.same j d)
              (λ (d : from ≤ j).
              let z : p + from + (j - from) ≡ p + j = omega arith in
              let y : from + (j - from) ≡ j = omega arith in
              ap (λ (i : ℕ). get_or (file m e) i 0) (sym z) ∙ b.same (j - from) (omega arith) ∙ get_d_piece (j - from) (omega arith) ∙ ap (λ (i : ℕ). get_or key i 0) y)
              (cases_lt j from);
        }

    pub agrees_more : Agrees m e (p + from) piece (length piece) → Agrees m e p key to
    agrees_more b =
        let z : from + length piece ≡ to = omega (arith, long) in
        subst (λ (n : ℕ). Agrees m e p key n) z (agrees_to (length piece) (omega (arith, long)) b)

    pub differs_later : Differs m e (p + from) piece → Differs m e p key
    differs_later b =
        let w : b.k < to - from = omega (arith, b.within, long) in
        let z : p + from + b.k ≡ p + (from + b.k) = omega arith in
        record {
          k = from + b.k;
          within = omega arith;
          reads = λ j c. all_more (b.k + 1) b.reads j (omega arith);
          differs = λ q. b.differs (ap (λ (i : ℕ). get_or (file m e) i 0) z ∙ q ∙ sym (get_d_piece b.k w));
        }

    pub unread_later : (f : DeviceFault) → Unread m e (p + from) piece f → Unread m e p key f
    unread_later f b =
        let w : b.k < to - from = omega (arith, b.within, long) in
        let z : e.start + (p + from) + b.k ≡ e.start + p + (from + b.k) = omega arith in
        record {
          k = from + b.k;
          within = omega arith;
          before = agrees_to b.k (omega arith) b.before;
          refused = ap (λ (i : ℕ). refuses m (i / 512)) (sym z) ∙ b.refused;
        }
