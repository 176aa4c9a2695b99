-- The entries of a draft are those of its records, and a finish from them makes a lawful file.
use Rattle.std.proofs.Common.{◌≡◌, ℕ, zero, suc, ◌+◌, ◌*◌, ◌<◌, ◌≤◌, List, [], ◌∷◌, ◌++◌, map, length, take, set, Ok, Err, sym, refl, ap, ◌∙◌, subst, arith}
use Rattle.std.specs.List.{flat_map}
use Rattle.std.proofs.lemmas.List.{length-append, length-take-le, map-append}
use Rattle.byte_lists.specs.Bytes.{part}
use Rattle.device.specs.Meanings.{Meaning}
use Rattle.cdb.specs.Records.{Record, Item, record_bytes, size, items, hash_of}
use Rattle.cdb.specs.Tables.{Slot, entry}
use Rattle.cdb.specs.Rules.{Lawful}
use Rattle.building.specs.declared.entries.Entry.{Entry}
use Rattle.building.specs.Entries.{slot_of, Tabled}
use Rattle.building.specs.Closes.{Closed}
use Rattle.building.proofs.Made.{tabled_is_lawful}
use Rattle.shelf.specs.declared.states.Draft.{Draft}
use Rattle.shelf.specs.declared.states.Finished.{Finished}
use Rattle.shelf.specs.States.{Live, live_at_draft, file_start}
use Rattle.shelf.specs.Adds.{entry_of, Adds}
use Rattle.shelf.specs.Finishes.{entries_of, Finishes}
use Rattle.shelf.specs.Drafts.{Drafted, begun, meanwhile, added, add_refused, finish_refused, finished_file, FinishAfterAddsIsLawful}
use Rattle.writing.proofs.Recorded.{record_long}
use Rattle.shelf.proofs.Inside.{on_device, add_inside, finish_inside}
use Rattle.shelf.proofs.Standing.{end, Stands, begun_stands, between_stands, add_stands, add_stopped_stands, finish_stopped_stands, finish_stands}

items_push : (p : ℕ) (rs : List Record) (r : Record) → items p (rs ++ r ∷ []) ≡ items p rs ++ record { key = r.key; place = p + length (flat_map record_bytes rs) } ∷ []
items_push p [] r = let z : p ≡ p + 0 = omega arith in ap (λ (q : ℕ). record { key = r.key; place = q } ∷ []) z
items_push p (a ∷ rs) r =
    let z : p + size a + length (flat_map record_bytes rs) ≡ p + length (flat_map record_bytes (a ∷ rs)) = omega (arith, length-append (record_bytes a) (flat_map record_bytes rs), record_long a) in
    ap (λ (q : List Item). record { key = a.key; place = p } ∷ q) (items_push (p + size a) rs r
    ∙ ap (λ (q : ℕ). items (p + size a) rs ++ record { key = r.key; place = q } ∷ []) z)

take_set : (es : List Entry) (i : ℕ) (x : Entry) → i < length es → take (suc i) (set es i x) ≡ take i es ++ x ∷ []
take_set [] i x l = absurd (omega arith)
take_set (a ∷ es) zero x l = refl
take_set (a ∷ es) (suc i) x l = ap (λ (q : List Entry). a ∷ q) (take_set es i x (omega arith))

pub record Holds (m : Meaning) (d : Draft) (es : List Entry) (rs : List Record) : Type 0 where
  pub stands : Stands m d rs
  pub few : m.sectors ≤ 8388607
  pub entries : map slot_of (entries_of d es) ≡ map entry (items 2048 rs)

add_holds : (m n : Meaning) (d e : Draft) (es fs : List Entry) (rs : List Record) (r : Record) → Holds m d es rs → Adds m d es r (Ok e) n fs → Holds n e fs (rs ++ r ∷ [])
add_holds m n d e es fs rs r h a =
    let x : Entry = entry_of d r in
    let pos : d.position ≡ end rs = h.stands.position in
    let one : e.records ≡ suc d.records = a.2.records ∙ omega arith in
    record {
      stands = add_stands m n d e es fs rs r h.stands a;
      few = omega (arith, h.few, a.1.sectors);
      entries =
          ap (λ (q : List Entry). map slot_of (take e.records q)) a.3
          ∙ ap (λ (q : ℕ). map slot_of (take q (set es d.records x))) one
          ∙ ap (map slot_of) (take_set es d.records x a.0.left)
          ∙ map-append slot_of (take d.records es) (x ∷ [])
          ∙ ap (λ (q : List Slot). q ++ slot_of x ∷ []) h.entries
          ∙ ap (λ (q : ℕ). map entry (items 2048 rs) ++ record { hash = hash_of r.key; place = q } ∷ []) pos
          ∙ sym (map-append entry (items 2048 rs) (record { key = r.key; place = end rs } ∷ []))
          ∙ ap (map entry) (sym (items_push 2048 rs r));
    }

few_after : (m n : Meaning) → n.sectors ≡ m.sectors → m.sectors ≤ 8388607 → n.sectors ≤ 8388607
few_after m n e l = omega arith

holds : {m : Meaning} {d : Draft} {es : List Entry} {rs : List Record} → Drafted m d es rs → Holds m d es rs
holds (begun {m} {s} {d} es w b) = record {
  stands = begun_stands m s d w b;
  few = w.few;
  entries = ap (λ (q : ℕ). map slot_of (take q es)) b.records;
}
holds (meanwhile {m} {n} {d} {es} {rs} t b) =
    let h = holds t in
    record { stands = between_stands m n d rs b h.stands; few = few_after m n b.sectors h.few; entries = h.entries }
holds (added {m} {n} {d} {e} {es} {fs} {rs} r t a) = add_holds m n d e es fs rs r (holds t) a
holds (add_refused {m} {n} {d} {es} {fs} {rs} r x t a on) =
    let h = holds t in
    let s : Stands n d rs = add_stopped_stands m n d rs h.stands (length es) r x.fault a.0 on in
    let k : Holds n d es rs = record { stands = s; few = few_after m n (add_inside m n d h.stands.long es fs r (Err x) a).sectors h.few; entries = h.entries } in
    subst (λ (q : Draft). Holds n q fs rs) (sym a.1) (subst (λ (q : List Entry). Holds n d q rs) (sym a.2) k)
holds (finish_refused {m} {n} {d} {es} {rs} x t a on) =
    let h = holds t in
    let s : Stands n d rs = finish_stopped_stands m n d es rs x.fault h.stands a.0 on in
    let k : Holds n d es rs = record { stands = s; few = few_after m n (finish_inside m n d h.stands.long es (Err x) a).sectors h.few; entries = h.entries } in
    subst (λ (q : Draft). Holds n q es rs) (sym a.1) k

-- the file of a finished draft, whose records stand in it
finished_lawful : (m n : Meaning) (d : Draft) (es : List Entry) (rs : List Record) (f : Finished) → Holds m d es rs → Finishes m d es (Ok f) n → Lawful (finished_file n f) rs
finished_lawful m n d es rs f h a =
    let R : List ℕ = flat_map record_bytes rs in
    let base : ℕ = file_start (live_at_draft d) in
    let ts : List Entry = entries_of d es in
    let L : ℕ = d.position + 16 * length ts in
    let file : List ℕ = part n.bytes base L in
    let tl : length ts ≡ d.records = length-take-le d.records es a.1 in
    let pos : d.position ≡ end rs = h.stands.position in
    let closed : Closed m base d.position ts n = a.2 in
    let on = on_device m n d h.stands.long a.0 in
    let room = d.room in
    let ln : length n.bytes ≡ length m.bytes = closed.keeps.long in
    let long : length m.bytes ≡ 512 * m.sectors = h.stands.long in
    let stand : part file 2048 (length R) ≡ R = finish_stands m n d es rs f h.stands a in
    let tabled : Tabled file d.position ts = closed.tabled in
    let law : Lawful file rs = tabled_is_lawful file rs ts d.position h.entries tabled (omega (arith, tabled.long, h.few)) pos stand in
    let made : L ≡ f.made = omega (arith, a.3.made) in
    let P : ℕ → Type 0 = λ q. Lawful (part n.bytes base q) rs in
    let Q : Live → Type 0 = λ q. Lawful (part n.bytes (file_start q) f.made) rs in
    subst Q (sym a.3.live) (subst P made law)

pub finish_after_adds_is_lawful : FinishAfterAddsIsLawful
finish_after_adds_is_lawful m n d es rs f t a = finished_lawful m n d es rs f (holds t) a
