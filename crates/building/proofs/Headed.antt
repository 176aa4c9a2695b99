-- Headers, entry by entry.
use Rattle.std.proofs.Common.{◌≡◌, ℕ, zero, suc, ◌+◌, ◌*◌, ◌^◌, ◌<◌, ◌≤◌, List, ◌++◌, length, Err, Result, sym, refl, ap, ◌∙◌, subst, ⊎_elim, arith}
use Rattle.std.proofs.lemmas.List.{length-append}
use Rattle.std.proofs.lemmas.Bool.{cases_lt}
use Rattle.byte_lists.specs.Bytes.{word, word_at}
use Rattle.byte_lists.proofs.Parts.{At, at_both}
use Rattle.byte_lists.proofs.Words.{word_read}
use Rattle.faults.specs.declared.device.DeviceFault.{DeviceFault}
use Rattle.device.specs.Meanings.{Meaning, Whole}
use Rattle.writing.specs.Runs.{Completed, Interrupted, Runs}
use Rattle.writing.proofs.Running.{runs_both, interrupted_early, completed_none}
use Rattle.building.specs.declared.entries.Entry.{Entry}
use Rattle.building.specs.declared.layout.Table.{Table}
use Rattle.building.specs.Entries.{count_of, count_before}
use Rattle.building.specs.Builds.{table_in, TablesOf, headed}
use Rattle.building.proofs.Counting.{count_fits}

pub headed_long : (p : ℕ) (ts : List Table) (t : ℕ) → length (headed p ts t) ≡ 8 * t
unfolding headed
headed_long p ts zero = refl
headed_long p ts (suc t) = length-append (headed p ts t) (word (p + (table_in ts t).offset) ++ word (table_in ts t).slots) ∙ omega (arith, headed_long p ts t)

abbrev pub pair_of : ℕ → List Table → ℕ → List ℕ
pair_of p ts t = word (p + (table_in ts t).offset) ++ word (table_in ts t).slots

headed_next : (p : ℕ) (ts : List Table) (t : ℕ) → headed p ts t ++ pair_of p ts t ≡ headed p ts (t + 1)
unfolding headed
headed_next p ts t = let z : suc t ≡ t + 1 = omega arith in ap (headed p ts) z

-- one entry more
pub head_more : (m n o : Meaning) (base p t : ℕ) (ts : List Table) (ys : List ℕ) (r : Result (Unit {0}) DeviceFault) → Whole m → base + 2048 ≤ 512 * m.sectors → t < 256
    → Completed m base (headed p ts t) n → ys ≡ pair_of p ts t → Runs n (base + 8 * t) ys r o → Runs m base (headed p ts (t + 1)) r o
head_more m n o base p t ts ys r w l tl put e run =
    let long : length m.bytes ≡ 512 * m.sectors = w.long in
    let h : length (headed p ts t) ≡ 8 * t = headed_long p ts t in
    let P : List ℕ → Type 0 = λ q. Runs n (base + 8 * t) q r o in
    let Q : ℕ → Type 0 = λ q. Runs n (base + q) (pair_of p ts t) r o in
    let R : List ℕ → Type 0 = λ q. Runs m base q r o in
    subst R (headed_next p ts t) (runs_both m n o base (headed p ts t) (pair_of p ts t) r (omega arith) put (subst Q (sym h) (subst P e run)))

pub head_interrupted : (m n o : Meaning) (base p t : ℕ) (ts : List Table) (ys : List ℕ) (f : DeviceFault) → Whole m → base + 2048 ≤ 512 * m.sectors → t < 256
    → Completed m base (headed p ts t) n → ys ≡ pair_of p ts t → Runs n (base + 8 * t) ys (Err f) o → Interrupted m base (length (headed p ts 256)) f o
head_interrupted m n o base p t ts ys f w l tl put e run =
    interrupted_early m base (length (headed p ts (t + 1))) (length (headed p ts 256)) f o (omega (arith, headed_long p ts (t + 1), headed_long p ts 256)) (head_more m n o base p t ts ys (Err f) w l tl put e run)

pub head_none : (m : Meaning) (base p : ℕ) (ts : List Table) → base ≤ length m.bytes → Completed m base (headed p ts 0) m
unfolding headed
head_none m base p ts l = completed_none m base l

-- the words of a header
header_read : (g : List ℕ) (b p : ℕ) (ts : List Table) (es : List Entry) → TablesOf ts es → (n : ℕ) → n ≤ 256 → p + 16 * length es < 2 ^ 32 → At g b (headed p ts n) → (t : ℕ) → t < n
    → (word_at g (b + 8 * t) ≡ p + 16 * count_before t es) × (word_at g (b + 8 * t + 4) ≡ 2 * count_of t es)
unfolding headed
header_read g b p ts es k zero h s a t l = absurd (omega arith)
header_read g b p ts es k (suc n) h s a t l =
    let w = at_both g b (headed p ts n) (pair_of p ts n) a in
    let P : ℕ → Type 0 = λ q. At g (b + q) (pair_of p ts n) in
    let o : ℕ = p + (table_in ts n).offset in
    let v = at_both g (b + 8 * n) (word o) (word (table_in ts n).slots) (subst P (headed_long p ts n) w.1) in
    let c = count_fits es n (omega arith) in
    let x = k.offsets n (omega arith) in
    let y = k.slots n (omega arith) in
    ⊎_elim
    (λ (lt : t < n). header_read g b p ts es k n (omega arith) s w.0 t lt)
    (λ (ge : n ≤ t).
    let e : n ≡ t = omega arith in
    let Q : ℕ → Type 0 = λ q. (word_at g (b + 8 * q) ≡ p + 16 * count_before q es) × (word_at g (b + 8 * q + 4) ≡ 2 * count_of q es) in
    let i = word_read g (b + 8 * n) o (omega arith) v.0 in
    let j = word_read g (b + 8 * n + 4) (table_in ts n).slots (omega arith) v.1 in
    subst Q e (i ∙ ap (λ (q : ℕ). p + q) x, j ∙ y))
    (cases_lt t n)

pub header_words : (g : List ℕ) (b p : ℕ) (ts : List Table) (es : List Entry) → TablesOf ts es → p + 16 * length es < 2 ^ 32 → At g b (headed p ts 256) → (t : ℕ) → t < 256
    → (word_at g (b + 8 * t) ≡ p + 16 * count_before t es) × (word_at g (b + 8 * t + 4) ≡ 2 * count_of t es)
header_words g b p ts es k s a t l = header_read g b p ts es k 256 (omega arith) s a t l
