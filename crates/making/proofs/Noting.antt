-- The entries of records, one more at a time.
use Rattle.std.proofs.Common.{◌≡◌, ℕ, zero, suc, ◌+◌, ◌<◌, List, [], ◌∷◌, ◌++◌, map, length, drop, set, sym, refl, ap, ◌∙◌, arith, length-append, length-drop, append_assoc}
use Rattle.std.specs.List.{flat_map}
use Rattle.cdb.specs.Records.{Record, record_bytes, size, items, hash_of}
use Rattle.cdb.specs.Tables.{Slot, entry}
use Rattle.writing.proofs.Recorded.{record_long}
use Rattle.building.specs.declared.entries.Entry.{Entry}
use Rattle.building.specs.Entries.{slot_of}
use Rattle.making.specs.Sizes.{end_of}
use Rattle.making.specs.Makes.{entries_from, Noted}

pub entries_long : (p : ℕ) (rs : List Record) → length (entries_from p rs) ≡ length rs
entries_long p [] = refl
entries_long p (r ∷ rs) = omega (arith, entries_long (p + size r) rs)

-- the entries hold what the slots of the records hold
pub entries_slots : (p : ℕ) (rs : List Record) → map slot_of (entries_from p rs) ≡ map entry (items p rs)
entries_slots p [] = refl
entries_slots p (r ∷ rs) = ap (λ (q : List Slot). record { hash = hash_of r.key; place = p } ∷ q) (entries_slots (p + size r) rs)

pub entries_push : (p : ℕ) (rs : List Record) (r : Record) → entries_from p (rs ++ r ∷ []) ≡ entries_from p rs ++ record { hash = hash_of r.key; place = p + length (flat_map record_bytes rs) } ∷ []
entries_push p [] r = let z : p ≡ p + 0 = omega arith in ap (λ (q : ℕ). record { hash = hash_of r.key; place = q } ∷ []) z
entries_push p (a ∷ rs) r =
    let z : p + size a + length (flat_map record_bytes rs) ≡ p + length (flat_map record_bytes (a ∷ rs)) = omega (arith, length-append (record_bytes a) (flat_map record_bytes rs), record_long a) in
    ap (λ (q : List Entry). record { hash = hash_of a.key; place = p } ∷ q) (entries_push (p + size a) rs r
    ∙ ap (λ (q : ℕ). entries_from (p + size a) rs ++ record { hash = hash_of r.key; place = q } ∷ []) z)

set_past : (xs bs : List Entry) (i : ℕ) (x : Entry) → i ≡ length xs → 0 < length bs → set (xs ++ bs) i x ≡ xs ++ x ∷ drop 1 bs
set_past [] [] i x e l = absurd (omega arith)
set_past [] (b ∷ bs) i x e l = ap (λ (q : ℕ). set (b ∷ bs) q x) e
set_past (a ∷ xs) bs zero x e l = absurd (omega arith)
set_past (a ∷ xs) bs (suc i) x e l = ap (λ (q : List Entry). a ∷ q) (set_past xs bs i x (omega arith) l)

drop_more : (n : ℕ) (xs : List Entry) → drop 1 (drop n xs) ≡ drop (suc n) xs
drop_more zero xs = refl
drop_more (suc n) [] = refl
drop_more (suc n) (x ∷ xs) = drop_more n xs

pub push_long : (rs : List Record) (r : Record) → length (rs ++ r ∷ []) ≡ length rs + 1
push_long rs r = length-append rs (r ∷ [])

-- one more record is noted
pub note_more : (es fs : List Entry) (rs : List Record) (r : Record) (i p : ℕ) → i ≡ length rs → i < length es → p ≡ end_of rs → Noted es rs fs
    → Noted es (rs ++ r ∷ []) (set fs i (record { hash = hash_of r.key; place = p }))
note_more es fs rs r i p e l at h =
    let A : List Entry = entries_from 2048 rs in
    let x : Entry = record { hash = hash_of r.key; place = p } in
    let k : set fs i x ≡ A ++ x ∷ drop 1 (drop (length rs) es) = ap (λ (q : List Entry). set q i x) h ∙ set_past A (drop (length rs) es) i x (omega (arith, entries_long 2048 rs)) (omega (arith, length-drop (length rs) es)) in
    let d : drop 1 (drop (length rs) es) ≡ drop (length (rs ++ r ∷ [])) es = drop_more (length rs) es ∙ ap (λ (q : ℕ). drop q es) (let z : suc (length rs) ≡ length (rs ++ r ∷ []) = omega (arith, push_long rs r) in z) in
    k
    ∙ ap (λ (q : List Entry). A ++ x ∷ q) d
    ∙ sym (append_assoc A (x ∷ []) (drop (length (rs ++ r ∷ [])) es))
    ∙ ap (λ (q : ℕ). (A ++ record { hash = hash_of r.key; place = q } ∷ []) ++ drop (length (rs ++ r ∷ [])) es) at
    ∙ ap (λ (q : List Entry). q ++ drop (length (rs ++ r ∷ [])) es) (sym (entries_push 2048 rs r))
