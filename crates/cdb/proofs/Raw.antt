-- A filling with what the slots of records hold is a filling with the records.
use Rattle.std.proofs.Common.{◌≡◌, ℕ, List, [], ◌∷◌, ◌++◌, map, length, sym, refl, ap, ◌∙◌, subst, arith}
use Rattle.std.proofs.lemmas.List.{length-append}
use Rattle.cdb.specs.Records.{Item}
use Rattle.cdb.specs.Tables as tables
use Rattle.cdb.specs.Tables.{Slot, entry, Puts, Fills, Filling}
use Rattle.cdb.proofs.TableLaw.{PutsItem, FillsItems, start, put, FillingItems}

-- the last of a mapped list
unsnoc : (xs : List Slot) (x : Slot) (order : List Item) → map entry order ≡ xs ++ x ∷ [] → (o : List Item) × (y : Item) × (order ≡ o ++ y ∷ []) × (map entry o ≡ xs) × (entry y ≡ x)
unsnoc [] x [] e = let z : ◌≡◌ {A = ℕ} 0 1 = ap length e in absurd (omega arith)
unsnoc [] x (a ∷ []) e = ([], a, refl, refl, cc)
unsnoc [] x (a ∷ b ∷ r) e = let z = ap length e in absurd (omega arith)
unsnoc (z ∷ zs) x [] e = let q = ap length e in absurd (omega (arith, length-append zs (x ∷ [])))
unsnoc (z ∷ zs) x (a ∷ r) e =
    let t : map entry r ≡ zs ++ x ∷ [] = cc in
    let h : entry a ≡ z = cc in
    let i = unsnoc zs x r t in
    (a ∷ i.0, i.1, ap (λ (q : List Item). a ∷ q) i.2, ap (λ (q : List Slot). entry a ∷ q) i.3 ∙ ap (λ (q : Slot). q ∷ zs) h, i.4)

puts_item : (s t : List Slot) (y : Item) → Puts s (entry y) t → PutsItem s y t
puts_item s t y p = record { distance = p.distance; within = p.within; free = p.free; nearest = p.nearest; after = p.after }

puts_raw : (s t : List Slot) (y : Item) → PutsItem s y t → Puts s (entry y) t
puts_raw s t y p = record { distance = p.distance; within = p.within; free = p.free; nearest = p.nearest; after = p.after }

pub fills_items : {len : ℕ} {ys s : List Slot} → Fills len ys s → (order : List Item) → map entry order ≡ ys → FillsItems len order s
fills_items {len} tables.start [] e = start
fills_items {len} tables.start (a ∷ r) e = let z = ap length e in absurd (omega arith)
fills_items {len} (tables.put {xs} {s} {t} {x} f p) order e =
    let u = unsnoc xs x order e in
    let o : List Item = u.0 in
    let y : Item = u.1 in
    let P : Slot → Type 0 = λ q. Puts s q t in
    let Q : List Item → Type 0 = λ q. FillsItems len q t in
    subst Q (sym u.2) (put (fills_items f o u.3) (puts_item s t y (subst P (sym u.4) p)))

map_push : (xs : List Item) (x : Item) → map entry (xs ++ x ∷ []) ≡ map entry xs ++ entry x ∷ []
map_push [] x = refl
map_push (y ∷ xs) x = ap (λ (q : List Slot). entry y ∷ q) (map_push xs x)

pub fills_raw : {len : ℕ} {order : List Item} {s : List Slot} → FillsItems len order s → Fills len (map entry order) s
fills_raw {len} start = tables.start
fills_raw {len} (put {order} {s} {t} {x} f p) =
    let Q : List Slot → Type 0 = λ q. Fills len q t in
    subst Q (sym (map_push order x)) (tables.put (fills_raw f) (puts_raw s t x p))

pub items_filling : (xs : List Item) (s : List Slot) → Filling xs s → FillingItems xs s
items_filling xs s h = record { roomy = h.roomy; order = h.order; permitted = h.permitted; fills = fills_items h.fills h.order refl }

pub raw_filling : (xs : List Item) (s : List Slot) → FillingItems xs s → Filling xs s
raw_filling xs s h = record { roomy = h.roomy; order = h.order; permitted = h.permitted; fills = fills_raw h.fills }
