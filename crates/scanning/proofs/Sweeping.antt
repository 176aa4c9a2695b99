-- Rule 8 over all records.
use Rattle.std.proofs.Common.{◌≡◌, ℕ, ◌+◌, ◌≤◌, List, [], ◌∷◌, ◌++◌, length, sym, refl, ap, ◌∙◌, subst, inl, inr, ⊎_elim, arith}
use Rattle.std.specs.List.{ContainsAt as Has, AllByRecursion}
use Rattle.std.proofs.ByRecursion.{All-push, All-weaker}
use Rattle.cdb.specs.Records.{Item}
use Rattle.cdb.specs.Records.{Record, Records, size, items}
use Rattle.byte_lists.specs.Bytes.{part, word_at}
use Rattle.cdb.proofs.Pigeon.{has_nil, has_cons_cases}
use Rattle.cdb.proofs.Members.{has_left, has_last}
use Rattle.scanning.specs.Searches.{item_at}
use Rattle.scanning.specs.Searches.{Overtakes, Lowered}
use Rattle.scanning.specs.Sweeps.{Swept}
use Rattle.scanning.proofs.Walks.{record_at, records_more, record_here, size_here}
use Rattle.scanning.proofs.Meets.{items_more}

pub swept_none : (f : List ℕ) (end : ℕ) → Swept f 2048 end end
swept_none f end = record { before = []; reads = refl; most = omega arith; least = tt; from = inl refl }

pub swept_more : (f : List ℕ) (p n end low x : ℕ) → Swept f p end low → n ≡ p + (8 + (word_at f p + word_at f (p + 4))) → n ≤ length f → Lowered f (item_at f p) low x → Swept f n end x
swept_more f p n end low x s e l h =
    let w : p + (8 + (word_at f p + word_at f (p + 4))) ≤ length f = omega arith in
    let z : p + size (record_at f p) ≡ n = omega (arith, size_here f p w) in
    let it : items 2048 (s.before ++ record_at f p ∷ []) ≡ items 2048 s.before ++ item_at f p ∷ [] = items_more f 2048 p s.before (record_at f p) s.reads in
    let P : ℕ → Item → Type 0 = λ v y. (q : ℕ) → Overtakes f y q → v ≤ q in
    record {
      before = s.before ++ record_at f p ∷ [];
      reads = subst (λ (i : ℕ). Records f 2048 i (s.before ++ record_at f p ∷ [])) z (records_more f 2048 p s.before (record_at f p) s.reads (record_here f p w));
      most = omega (arith, h.most, s.most);
      least = subst (λ (xs : List Item). AllByRecursion (P x) xs) (sym it)
          (All-push (P x) (items 2048 s.before) (item_at f p) (All-weaker (P low) (P x) (λ y a q o. omega (arith, a q o, h.most)) (items 2048 s.before) s.least) h.least);
      from =
          ⊎_elim
          (λ (a : x ≡ low).
          ⊎_elim
          (λ (b : low ≡ end). inl (a ∙ b))
          (λ b. inr (b.0, subst (λ (xs : List Item). Has xs b.0) (sym it) (has_left (items 2048 s.before) (item_at f p ∷ []) b.0 b.1), subst (λ (v : ℕ). Overtakes f b.0 v) (sym a) b.2))
          s.from)
          (λ a. inr (item_at f p, subst (λ (xs : List Item). Has xs (item_at f p)) (sym it) (has_last (items 2048 s.before) (item_at f p)), a))
          h.from;
    }

-- an item of the file is the record at its place, which ends at or before end
pub item_in : (f : List ℕ) (q end : ℕ) (rs : List Record) (x : Item) → Records f q end rs → Has (items q rs) x
    → (x ≡ item_at f x.place) × (q ≤ x.place) × (x.place + 8 + word_at f x.place ≤ end)
item_in f q end [] x h m = absurd (has_nil x m)
item_in f q end (r ∷ rs) x h m =
    let y : Item = record { key = r.key; place = q } in
    ⊎_elim
    (λ (e : y ≡ x).
    let k : y ≡ item_at f q = ap (λ (u : List ℕ). record { key = u; place = q }) (sym (ap (λ (n : ℕ). part f (q + 8) n) h.0 ∙ h.2)) in
    subst (λ (z : Item). (z ≡ item_at f z.place) × (q ≤ z.place) × (z.place + 8 + word_at f z.place ≤ end)) e (k, omega arith, omega (arith, h.4, h.0)))
    (λ i. let a = item_in f (q + size r) end rs x h.5 i in (a.0, omega (arith, a.1), a.2))
    (has_cons_cases y (items (q + size r) rs) x m)
