-- Walking from record to record.
use Rattle.std.proofs.Common.{◌≡◌, ℕ, ◌+◌, ◌<◌, ◌≤◌, List, [], ◌∷◌, ◌++◌, length, sym, refl, ap, ◌∙◌, subst, arith}
use Rattle.std.proofs.lemmas.List.{length-append}
use Rattle.cdb.specs.Records.{Record, Records, size}
use Rattle.byte_lists.specs.Bytes.{part, word_at}
use Rattle.file.specs.Extents.{WordsAt}
use Rattle.file.specs.declared.words.Words.{Words}
use Rattle.byte_lists.proofs.Parts.{part_long}
use Rattle.scanning.specs.Sweeps.{CountTo}
use Rattle.scanning.specs.Sweeps.{Ahead}

-- the record at a place
abbrev pub record_at : List ℕ → ℕ → Record
record_at f p = record { key = part f (p + 8) (word_at f p); data' = part f (p + 8 + word_at f p) (word_at f (p + 4)) }

-- one more record
pub records_more : (f : List ℕ) (q p : ℕ) (rs : List Record) (r : Record) → Records f q p rs → Records f p (p + size r) (r ∷ [])
    → Records f q (p + size r) (rs ++ r ∷ [])
records_more f q p [] r h k = subst (λ (x : ℕ). Records f x (p + size r) (r ∷ [])) (sym h) k
records_more f q p (s ∷ rs) r h k = (h.0, h.1, h.2, h.3, omega (arith, h.4), records_more f (q + size s) p rs r h.5 k)

pub record_here : (f : List ℕ) (p : ℕ) → p + (8 + (word_at f p + word_at f (p + 4))) ≤ length f → Records f p (p + size (record_at f p)) (record_at f p ∷ [])
record_here f p h =
    let k : length (part f (p + 8) (word_at f p)) ≡ word_at f p = part_long f (p + 8) (word_at f p) (omega arith) in
    let n : length (part f (p + 8 + word_at f p) (word_at f (p + 4))) ≡ word_at f (p + 4) = part_long f (p + 8 + word_at f p) (word_at f (p + 4)) (omega arith) in (
      sym k,
      sym n,
      ap (λ (i : ℕ). part f (p + 8) i) k,
      ap (λ (i : ℕ). part f (p + 8 + i) (length (part f (p + 8 + word_at f p) (word_at f (p + 4))))) k ∙ ap (λ (i : ℕ). part f (p + 8 + word_at f p) i) n,
      omega arith,
      refl,
    )

pub size_here : (f : List ℕ) (p : ℕ) → p + (8 + (word_at f p + word_at f (p + 4))) ≤ length f → size (record_at f p) ≡ 8 + (word_at f p + word_at f (p + 4))
size_here f p h =
    omega (arith, part_long f (p + 8) (word_at f p) (omega arith), part_long f (p + 8 + word_at f p) (word_at f (p + 4)) (omega arith))

pub count_more : (f : List ℕ) (p n q : ℕ) (r : Words) → WordsAt f p r → CountTo f p n → q ≡ p + 8 + r.first + r.second → q ≤ length f → CountTo f q (n + 1)
count_more f p n q r pair h e l =
    let w : p + (8 + (word_at f p + word_at f (p + 4))) ≤ length f = omega (arith, pair) in
    let z : p + size (record_at f p) ≡ q = omega (arith, pair, size_here f p w) in (
      h.0 ++ record_at f p ∷ [],
      subst (λ (x : ℕ). Records f 2048 x (h.0 ++ record_at f p ∷ [])) z (records_more f 2048 p h.0 (record_at f p) h.1 (record_here f p w)),
      length-append h.0 (record_at f p ∷ []) ∙ ap (λ (i : ℕ). i + 1) h.2,
    )

-- from one record to the next
pub ahead_next : (f : List ℕ) (p end : ℕ) → Ahead f p end → p < end → (p + (8 + (word_at f p + word_at f (p + 4))) ≤ end) × Ahead f (p + (8 + (word_at f p + word_at f (p + 4)))) end
ahead_next f p end ([], h) l = absurd (omega arith)
ahead_next f p end (r ∷ rs, h) l =
    let z : p + size r ≡ p + (8 + (word_at f p + word_at f (p + 4))) = omega (arith, h.0, h.1) in
    (omega (arith, h.4), (rs, subst (λ (q : ℕ). Records f q end rs) z h.5))
