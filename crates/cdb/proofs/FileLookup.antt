-- A lookup in a lawful file; the one reading of a file.
use Rattle.std.proofs.Common.{◌≡◌, ℕ, ◌+◌, ◌%◌, ◌<◌, Bool, true, false, cond, eqb, List, [], ◌∷◌, length, filter, sym, refl, ap, ◌∙◌, subst, ⊎_elim, mod-lt, arith}
use Rattle.std.specs.Str.{bytes_eq}
use Rattle.std.proofs.lemmas.Slice.Eq.{bytes_eq-Decides}
use Rattle.std.proofs.lemmas.Bool.{cond-true, cond-false, cases_Bool, eq-eqb, both_ways}
use Rattle.cdb.proofs.Lookup.{lookup}
use Rattle.cdb.proofs.FileProof.{belonging_in_file}
use Rattle.cdb.specs.Records.{Item, hash_of}
use Rattle.cdb.proofs.TableLaw.{Gives}
use Rattle.cdb.specs.Records.{Record, size, items, belonging, table_of, Records}
use Rattle.byte_lists.specs.Bytes.{part}
use Rattle.cdb.specs.Files.{position, slot_count, slots_at}
use Rattle.cdb.proofs.TableLaw.{LawfulFile}

kept_twice : (p q : Item → Bool) → ((x : Item) → p x ≡ true → q x ≡ true) → (xs : List Item) → filter p (filter q xs) ≡ filter p xs
kept_twice p q h [] = refl
kept_twice p q h (x ∷ xs) =
    let r = kept_twice p q h xs in
    ⊎_elim
    (λ (e : q x ≡ true). rw (cond-true (q x) (x ∷ filter q xs) (filter q xs) e) (ap (λ z. cond (p x) (x ∷ z) z) r))
    (λ (e : q x ≡ false).
    rw (cond-false (q x) (x ∷ filter q xs) (filter q xs) e)
    (⊎_elim
    (λ (b : p x ≡ true). absurd (both_ways (q x) e (h x b)))
    (λ (b : p x ≡ false). rw (cond-false (p x) (x ∷ filter p xs) (filter p xs) b) r)
    (cases_Bool (p x))))
    (cases_Bool (q x))

pub file_lookup : (file : List ℕ) (rs : List Record) (law : LawfulFile file rs) (key : List ℕ) →
    Gives (belonging (table_of key) rs) (slots_at file (position file (table_of key)) (slot_count file (table_of key))) key 0
    (filter (λ x. bytes_eq x.key key) (items 2048 rs))
file_lookup file rs law key =
    let t = table_of key in
    let l : t < 256 = mod-lt (hash_of key) (omega arith) in
    let p : Item → Bool = λ x. bytes_eq x.key key in
    let q : Item → Bool = λ x. eqb (hash_of x.key % 256) t in
    let same = kept_twice p q (λ x e. eq-eqb (hash_of x.key % 256) t (ap (λ k. hash_of k % 256) ((bytes_eq-Decides x.key key).0 e))) (items 2048 rs) in
    subst (Gives (belonging t rs) (slots_at file (position file t) (slot_count file t)) key 0) same
    (lookup (belonging t rs) (slots_at file (position file t) (slot_count file t)) (belonging_in_file t rs) (law.tables t l) key)

abbrev rec : List ℕ → List ℕ → Record
rec k d = record { key = k; data' = d }

pub one_reading : (file : List ℕ) (p end : ℕ) (rs ss : List Record) → Records file p end rs → Records file p end ss → rs ≡ ss
one_reading file p end [] [] h g = refl
one_reading file p end [] (s ∷ ss) h g = absurd (omega (arith, g.4))
one_reading file p end (r ∷ rs) [] h g = absurd (omega (arith, h.4))
one_reading file p end (r ∷ rs) (s ∷ ss) h g =
    let k : length r.key ≡ length s.key = sym h.0 ∙ g.0 in
    let d : length r.data' ≡ length s.data' = sym h.1 ∙ g.1 in
    let key : r.key ≡ s.key = sym h.2 ∙ ap (part file (p + 8)) k ∙ g.2 in
    let dat : r.data' ≡ s.data' = sym h.3 ∙ ap (λ n. part file (p + 8 + n) (length r.data')) k ∙ ap (part file (p + 8 + length s.key)) d ∙ g.3 in
    let same : r ≡ s = ap (λ z. rec z r.data') key ∙ ap (rec s.key) dat in
    let sz : size s ≡ size r = omega arith in
    ap (λ z. z ∷ rs) same ∙ ap (λ z. s ∷ z) (one_reading file (p + size r) end rs ss h.5 (subst (λ n. Records file (p + n) end ss) sz g.5))
