-- Slots and records that stand at a place of a file.
use Rattle.std.proofs.Common.{◌≡◌, ℕ, zero, suc, ◌+◌, ◌*◌, ◌%◌, ◌^◌, ◌<◌, ◌≤◌, List, [], ◌∷◌, ◌++◌, length, fold, sym, refl, ap, ◌∙◌, subst, add-zero, mod-lt, arith}
use lib.Bits.{bit_xor, xor_lt}
use Rattle.std.specs.List.{flat_map, AllByRecursion}
use Rattle.std.proofs.lemmas.List.{length-append}
use Rattle.cdb.specs.Records.{Item, hash_of}
use Rattle.cdb.specs.Tables.{Slot}
use Rattle.cdb.specs.Records.{Record, size, record_bytes, Records, items}
use Rattle.byte_lists.specs.Bytes.{Bytes, word, word_at}
use Rattle.byte_lists.proofs.Parts.{At, at_both, at_join, at_bytes}
use Rattle.byte_lists.proofs.Words.{word_read, word_made}
use Rattle.cdb.specs.Files.{slot_bytes, table_bytes, slots_at}

pub length_table_bytes : (s : List Slot) → length (table_bytes s) ≡ 8 * length s
length_table_bytes [] = refl
length_table_bytes (a ∷ s) = omega (arith, length_table_bytes s)

pub length_slots_at : (f : List ℕ) (p n : ℕ) → length (slots_at f p n) ≡ n
length_slots_at f p zero = refl
length_slots_at f p (suc n) = ap suc (length_slots_at f (p + 8) n)

abbrev pub Small : Slot → Type 0
Small v = (v.hash < 2 ^ 32) × (v.place < 2 ^ 32)

pub slots_read : (f : List ℕ) (p : ℕ) (s : List Slot) → AllByRecursion Small s → At f p (table_bytes s) → slots_at f p (length s) ≡ s
slots_read f p [] h a = refl
slots_read f p (v ∷ s) h a =
    let w = at_both f p (slot_bytes v) (table_bytes s) a in
    let u = at_both f p (word v.hash) (word v.place) w.0 in
    let e = word_read f p v.hash h.0.0 u.0 in
    let g = word_read f (p + 4) v.place h.0.1 u.1 in
    let r = slots_read f (p + 8) s h.1 w.1 in
    rw (e, g, r)

pub slots_made : (f : List ℕ) → Bytes f → (p n : ℕ) → p + 8 * n ≤ length f → At f p (table_bytes (slots_at f p n))
slots_made f bytes p zero l = refl
slots_made f bytes p (suc n) l =
    at_join f p (word (word_at f p) ++ word (word_at f (p + 4))) (table_bytes (slots_at f (p + 8) n))
    (at_join f p (word (word_at f p)) (word (word_at f (p + 4))) (word_made f bytes p (omega arith)) (word_made f bytes (p + 4) (omega arith)))
    (slots_made f bytes (p + 8) n (omega arith))

length_record_bytes : (r : Record) → length (record_bytes r) ≡ size r
length_record_bytes r = omega (arith, length-append r.key r.data')

pub records_made : (f : List ℕ) → Bytes f → (p end : ℕ) (rs : List Record) → end ≤ length f → Records f p end rs → At f p (flat_map record_bytes rs) × (p + length (flat_map record_bytes rs) ≡ end)
records_made f bytes p end [] l h = (refl, add-zero p ∙ h)
records_made f bytes p end (r ∷ rs) l h =
    let i = records_made f bytes (p + size r) end rs l h.5 in
    let w0 : At f p (word (length r.key)) = subst (λ n. At f p (word n)) h.0 (word_made f bytes p (omega (arith, h.4))) in
    let w1 : At f (p + 4) (word (length r.data')) = subst (λ n. At f (p + 4) (word n)) h.1 (word_made f bytes (p + 4) (omega (arith, h.4))) in
    let head : At f p (record_bytes r) =
    at_join f p (word (length r.key) ++ word (length r.data')) (r.key ++ r.data')
    (at_join f p (word (length r.key)) (word (length r.data')) w0 w1)
    (at_join f (p + 8) r.key r.data' h.2 h.3) in
    let len = length_record_bytes r in (
      at_join f p (record_bytes r) (flat_map record_bytes rs) head (subst (λ n. At f n (flat_map record_bytes rs)) (ap (λ k. p + k) (sym len)) i.0),
      omega (arith, length-append (record_bytes r) (flat_map record_bytes rs), len, i.1),
    )

pub records_read : (f : List ℕ) (p end : ℕ) (rs : List Record) → end < 2 ^ 32 → At f p (flat_map record_bytes rs) → p + length (flat_map record_bytes rs) ≡ end → Records f p end rs
records_read f p end [] l a e = sym (add-zero p) ∙ e
records_read f p end (r ∷ rs) l a e =
    let len = length_record_bytes r in
    let all = length-append (record_bytes r) (flat_map record_bytes rs) in
    let w = at_both f p (record_bytes r) (flat_map record_bytes rs) a in
    let u = at_both f p (word (length r.key) ++ word (length r.data')) (r.key ++ r.data') w.0 in
    let v = at_both f p (word (length r.key)) (word (length r.data')) u.0 in
    let k = at_both f (p + 8) r.key r.data' u.1 in (
      word_read f p (length r.key) (omega arith) v.0,
      word_read f (p + 4) (length r.data') (omega arith) v.1,
      k.0,
      k.1,
      omega arith,
      records_read f (p + size r) end rs l (subst (λ n. At f (p + n) (flat_map record_bytes rs)) len w.1) (omega arith),
    )

fold_small : (h : ℕ) (key : List ℕ) → h < 2 ^ 32 → Bytes key → fold (λ h c. bit_xor (33 * h % 2 ^ 32) c) h key < 2 ^ 32
fold_small h [] l b = l
fold_small h (c ∷ key) l b =
    fold_small (bit_xor (33 * h % 2 ^ 32) c) key (xor_lt 32 (33 * h % 2 ^ 32) c (mod-lt (33 * h) (omega arith)) (omega (arith, b.0))) b.1

pub hash_small : (key : List ℕ) → Bytes key → hash_of key < 2 ^ 32
unfolding hash_of
hash_small key b = fold_small 5381 key (omega arith) b

pub items_small : (f : List ℕ) → Bytes f → (p end : ℕ) (rs : List Record) → end < 2 ^ 32 → Records f p end rs → AllByRecursion (λ (y : Item). (hash_of y.key < 2 ^ 32) × (y.place < 2 ^ 32)) (items p rs)
items_small f bytes p end [] l h = tt
items_small f bytes p end (r ∷ rs) l h =
    ((hash_small r.key (at_bytes f bytes (p + 8) r.key h.2), omega (arith, h.4)), items_small f bytes (p + size r) end rs l h.5)
