-- One read of a loop over sectors.
use Rattle.std.proofs.Common.{◌≡◌, ℕ, ◌+◌, ◌-◌, ◌*◌, ◌/◌, ◌%◌, ◌<◌, ◌≤◌, true, List, ◌++◌, length, get_or, take, drop, is_ok, Some, None, Err, Option, Result, sym, refl, ap, ◌∙◌, subst, ⊎_elim, append-nil, arith, length-drop, take-append-drop, rules}
use mathlib.Core.Bool.{false≢true}
use borrow.Rule.Slice.PartMut.{put_mid}
use Rattle.std.proofs.lemmas.List.{places, get_or-drop, length-take, length-append, same_lists, get_or_default, get_or_append_left, get_or-append_right, drop_all}
use Rattle.std.proofs.lemmas.Slice.{overwrites}
use Rattle.std.proofs.lemmas.Bool.{cases_lt}
use Rattle.faults.specs.declared.device.DeviceFault.{DeviceFault}
use Rattle.device.specs.declared.pieces.Piece.{Piece}
use Rattle.device.specs.Meanings.{Meaning, refuses, refusal, within, answer, filled}
use Rattle.byte_lists.specs.Bytes.{part}
use Rattle.byte_lists.proofs.Parts.{get_d_part}
use Rattle.file.specs.Ranges.{Reads, AllRead, FirstBad, Holds}

answered_ok : (o : Option DeviceFault) (r : Result (Unit {0}) DeviceFault) (new xs old : List ℕ) → r ≡ answer o → is_ok r ≡ true → new ≡ filled o xs old → (o ≡ None) × (new ≡ xs)
answered_ok None r new xs old a k e = (refl, e)
answered_ok (Some f) r new xs old a k e = absurd (false≢true (sym (ap is_ok a) ∙ k))

answered_err : (o : Option DeviceFault) (f : DeviceFault) (new xs old : List ℕ) → Err f ≡ answer o → new ≡ filled o xs old → (o ≡ Some f) × (new ≡ old)
answered_err None f new xs old a e = absurd (false≢true (ap is_ok a))
answered_err (Some h) f new xs old a e = (cc, e)

-- a read that is done
pub read_ok :
    (m : Meaning) (p n : ℕ) (r : Result (Unit {0}) DeviceFault) (old new : List ℕ) → within m.sectors p n ≡ true → r ≡ answer (refusal m p n) → is_ok r ≡ true
    → new ≡ filled (refusal m p n) (part m.bytes p n) old → Reads m p × (new ≡ part m.bytes p n)
read_ok m p n r old new i a k e =
    let h = answered_ok (refusal m p n) r new (part m.bytes p n) old a k e in
    let s : refusal m p n ≡ refuses m (p / 512) = simp i in
    (sym s ∙ h.0, h.1)

-- a read that is refused
pub read_err :
    (m : Meaning) (p n : ℕ) (f : DeviceFault) (old new : List ℕ) → within m.sectors p n ≡ true → Err f ≡ answer (refusal m p n)
    → new ≡ filled (refusal m p n) (part m.bytes p n) old → (refuses m (p / 512) ≡ Some f) × (new ≡ old)
read_err m p n f old new i a e =
    let h = answered_err (refusal m p n) f new (part m.bytes p n) old a e in
    let s : refusal m p n ≡ refuses m (p / 512) = simp i in
    (sym s ∙ h.0, h.1)

-- the bytes of one piece of a sector can be read if its first can
pub piece_readable : (m : Meaning) (q count j : ℕ) → q % 512 + count ≤ 512 → j < count → Reads m q → Reads m (q + j)
piece_readable m q count j h l r = let e : (q + j) / 512 ≡ q / 512 = omega arith in ap (refuses m) e ∙ r

pub readable_more : (m : Meaning) (p : ℕ) (w : Piece) → w.place ≡ p + w.from → AllRead m p w.from → Reads m w.place → AllRead m p w.to
readable_more m p w at a r = λ j l.
    ⊎_elim
    (λ (b : j < w.from). a j b)
    (λ (b : w.from ≤ j).
    let e : w.place + (j - w.from) ≡ p + j = omega arith in
    subst (Reads m) e (piece_readable m w.place (w.to - w.from) (j - w.from) w.inside (omega arith) r))
    (cases_lt j w.from)

-- the bytes of a buffer that a piece has
abbrev pub bytes_of : Piece → List ℕ → List ℕ
bytes_of w buf = take (w.to - w.from) (drop w.from buf)

-- the buffer after a read into them
abbrev pub buffer_with : Piece → List ℕ → List ℕ → List ℕ
buffer_with w buf piece = put_mid w.from (w.to - w.from) buf piece

pub holds_more :
    (m : Meaning) (p : ℕ) (w : Piece) (old buf piece : List ℕ) → w.place ≡ p + w.from → w.to ≤ length old → length piece ≡ w.to - w.from → Holds m p w.from old buf
    → piece ≡ part m.bytes w.place (w.to - w.from) → Holds m p w.to old (buffer_with w buf piece)
holds_more m p w old buf piece at l len h e =
    let lb : length buf ≡ length old = h.long in
    let new : List ℕ = buffer_with w buf piece in record {
      long = search (rules, overwrites);
      front = λ j b.
          ⊎_elim
          (λ (c : j < w.from). let x : get_or new j 0 ≡ get_or buf j 0 = search (rules, places) in x ∙ h.front j c)
          (λ (c : w.from ≤ j).
          let x : get_or new j 0 ≡ get_or piece (j - w.from) 0 = search (rules, places) in
          let z : w.place + (j - w.from) ≡ p + j = omega arith in
          x ∙ ap (λ (ys : List ℕ). get_or ys (j - w.from) 0) e ∙ get_d_part m.bytes w.place (w.to - w.from) (j - w.from) (omega arith) ∙ ap (λ (i : ℕ). get_or m.bytes i 0) z)
          (cases_lt j w.from);
      rest = λ j b. let x : get_or new j 0 ≡ get_or buf j 0 = search (rules, places) in x ∙ h.rest j (omega arith);
    }

-- a read that changed nothing
pub holds_still : (m : Meaning) (p : ℕ) (w : Piece) (old buf piece : List ℕ) → Holds m p w.from old buf → piece ≡ bytes_of w buf → Holds m p w.from old (buffer_with w buf piece)
holds_still m p w old buf piece h e =
    let s : buffer_with w buf piece ≡ buf = rw e (ap (λ (ys : List ℕ). take w.from buf ++ ys) (take-append-drop (w.to - w.from) (drop w.from buf)) ∙ take-append-drop w.from buf) in
    subst (Holds m p w.from old) (sym s) h

-- one turn of the loop, done
pub turn_ok :
    (m : Meaning) (p : ℕ) (w : Piece) (old buf piece : List ℕ) (r : Result (Unit {0}) DeviceFault) → w.place ≡ p + w.from → w.to ≤ length old → p + length old ≤ 512 * m.sectors
    → length piece ≡ length (bytes_of w buf) → AllRead m p w.from → Holds m p w.from old buf
    → r ≡ answer (refusal m w.place (length (bytes_of w buf))) → is_ok r ≡ true
    → piece ≡ filled (refusal m w.place (length (bytes_of w buf))) (part m.bytes w.place (length (bytes_of w buf))) (bytes_of w buf)
    → AllRead m p w.to × Holds m p w.to old (buffer_with w buf piece)
turn_ok m p w old buf piece r at l dev len a h ans ok e =
    let lb : length buf ≡ length old = h.long in
    let n : length (bytes_of w buf) ≡ w.to - w.from = simp (length-take, length-drop) (omega arith) in
    let i : within m.sectors w.place (length (bytes_of w buf)) ≡ true = rw n (search rules) in
    let done = read_ok m w.place (length (bytes_of w buf)) r (bytes_of w buf) piece i ans ok e in
    (readable_more m p w at a done.0, holds_more m p w old buf piece at l (len ∙ n) h (done.1 ∙ ap (part m.bytes w.place) n))

-- one turn of the loop, refused
pub turn_err :
    (m : Meaning) (p : ℕ) (w : Piece) (old buf piece : List ℕ) (f : DeviceFault) → w.place ≡ p + w.from → w.to ≤ length old → p + length old ≤ 512 * m.sectors
    → AllRead m p w.from → Holds m p w.from old buf
    → Err f ≡ answer (refusal m w.place (length (bytes_of w buf)))
    → piece ≡ filled (refusal m w.place (length (bytes_of w buf))) (part m.bytes w.place (length (bytes_of w buf))) (bytes_of w buf)
    → (b : FirstBad m p (length old) f) × Holds m p b.k old (buffer_with w buf piece)
turn_err m p w old buf piece f at l dev a h ans e =
    let lb : length buf ≡ length old = h.long in
    let n : length (bytes_of w buf) ≡ w.to - w.from = simp (length-take, length-drop) (omega arith) in
    let i : within m.sectors w.place (length (bytes_of w buf)) ≡ true = rw n (search rules) in
    let no = read_err m w.place (length (bytes_of w buf)) f (bytes_of w buf) piece i ans e in
    (record { k = w.from; within = omega arith; before = a; refused = subst (λ (x : ℕ). refuses m (x / 512) ≡ Some f) at no.0 }, holds_still m p w old buf piece h no.1)

-- what a buffer holds, as a list
pub holds_list :
    (m : Meaning) (p k : ℕ) (old new : List ℕ) → k ≤ length old → p + k ≤ length m.bytes → Holds m p k old new → new ≡ part m.bytes p k ++ drop k old
holds_list m p k old new l b h =
    let n : length (part m.bytes p k) ≡ k = simp (length-take, length-drop) (omega arith) in
    let long : length (part m.bytes p k ++ drop k old) ≡ length old = simp (length-append, length-drop) (omega arith) in
    same_lists _ _ (h.long ∙ sym long)
    (λ j d i.
    let i' : j < length (part m.bytes p k ++ drop k old) = omega (arith, h.long) in
    ⊎_elim
    (λ (c : j < k).
    get_or_default new j d 0 i ∙ h.front j c ∙ sym (get_d_part m.bytes p k j c)
    ∙ sym (get_or_append_left (part m.bytes p k) (drop k old) 0 j (omega arith)) ∙ get_or_default (part m.bytes p k ++ drop k old) j 0 d i')
    (λ (c : k ≤ j).
    let z : k + (j - k) ≡ j = omega arith in
    get_or_default new j d 0 i ∙ h.rest j c ∙ ap (λ (x : ℕ). get_or old x 0) (sym z) ∙ sym (get_or-drop k old (j - k) 0)
    ∙ sym (get_or-append_right (part m.bytes p k) (drop k old) k j 0 n c) ∙ get_or_default (part m.bytes p k ++ drop k old) j 0 d i')
    (cases_lt j k))

-- all of a buffer is filled
pub holds_all :
    (m : Meaning) (p : ℕ) (old new : List ℕ) → p + length old ≤ length m.bytes → Holds m p (length old) old new → new ≡ part m.bytes p (length old)
holds_all m p old new b h =
    holds_list m p (length old) old new (omega arith) b h ∙ ap (λ (ys : List ℕ). part m.bytes p (length old) ++ ys) (drop_all (length old) old (omega arith)) ∙ append-nil (part m.bytes p (length old))
