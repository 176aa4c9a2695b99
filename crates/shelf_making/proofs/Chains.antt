-- Adds that are done one after the other are one run of writes.
use Rattle.std.proofs.Common.{◌≡◌, ℕ, ◌+◌, ◌≤◌, List, [], ◌∷◌, ◌++◌, length, Ok, sym, refl, ap, ◌∙◌, subst, arith, length-append}
use Rattle.std.specs.List.{flat_map}
use Rattle.std.proofs.lemmas.List.{length-set}
use Rattle.device.specs.Meanings.{Meaning, Whole}
use Rattle.cdb.specs.Records.{Record, record_bytes, size}
use Rattle.writing.specs.Runs.{Completed}
use Rattle.writing.proofs.Running.{completed_none, runs_both}
use Rattle.writing.proofs.Recorded.{record_long}
use Rattle.building.specs.declared.entries.Entry.{Entry}
use Rattle.areas.specs.Geometry.{other, area_size}
use Rattle.shelf.specs.declared.states.Shelf.{Shelf}
use Rattle.shelf.specs.declared.states.Draft.{Draft}
use Rattle.shelf.specs.States.{Live, live_at_draft, file_start, Begun}
use Rattle.shelf.specs.Adds.{next_place, entry_of, Adds}
use Rattle.shelf.specs.Drafts as drafts
use Rattle.shelf.proofs.Inside.{Long, on_device}
use Rattle.shelf.proofs.Standing.{joined_push}
use Rattle.shelf_making.specs.Adding.{AddedAll, none, more}

-- what these adds leave of the draft and of the device
pub record Chained (m : Meaning) (d : Draft) (es : List Entry) (rs : List Record) (e : Draft) (n : Meaning) (fs : List Entry) : Type 0 where
  pub sectors : n.sectors ≡ m.sectors
  pub live : live_at_draft e ≡ live_at_draft d
  pub position : e.position ≡ d.position + length (flat_map record_bytes rs)
  pub records : e.records ≡ d.records + length rs
  pub entries : length fs ≡ length es
  pub run : Long m → m.sectors ≡ d.live.sectors → Completed m (next_place d) (flat_map record_bytes rs) n

push_one : {m : Meaning} {d : Draft} {es : List Entry} {rs : List Record} {e g : Draft} {n o : Meaning} {fs gs : List Entry} (r : Record)
    → Chained m d es rs e n fs → Adds n e fs r (Ok g) o gs → Chained m d es (rs ++ r ∷ []) g o gs
push_one {m} {d} {es} {rs} {e} {g} {n} {o} {fs} {gs} r c a =
    let R : List ℕ = flat_map record_bytes rs in
    let j = joined_push rs r in
    let long : length (flat_map record_bytes (rs ++ r ∷ [])) ≡ length R + size r = omega (arith, ap length j, length-append R (record_bytes r), record_long r) in
    let start : file_start (live_at_draft e) ≡ file_start (live_at_draft d) = ap file_start c.live in
    let place : next_place e ≡ next_place d + length R = omega (arith, start, c.position) in
    record {
      sectors = a.1.sectors ∙ c.sectors;
      live = a.2.live ∙ c.live;
      position = omega (arith, a.2.position, c.position, long);
      records = omega (arith, a.2.records, c.records, length-append rs (r ∷ []));
      entries = ap length a.3 ∙ length-set fs e.records (entry_of e r) ∙ c.entries;
      run = λ l s.
          let k : Completed m (next_place d) R n = c.run l s in
          let v : Completed n (next_place d + length R) (record_bytes r) o = subst (λ (q : ℕ). Completed n q (record_bytes r) o) place a.1 in
          let on = on_device m m d l s in
          let room = g.room in
          let inside : next_place d + (length R + length (record_bytes r)) ≤ length m.bytes = omega (arith, on, room, record_long r, a.2.position, c.position, ap (λ (q : Live). area_size q.sectors (other q.area)) (a.2.live ∙ c.live)) in
          subst (λ (q : List ℕ). Completed m (next_place d) q o) (sym j) (runs_both m n o (next_place d) R (record_bytes r) (Ok tt) inside k v);
    }

pub chained : {m : Meaning} {d : Draft} {es : List Entry} {rs : List Record} {e : Draft} {n : Meaning} {fs : List Entry} → AddedAll m d es rs e n fs → Chained m d es rs e n fs
chained {m} {d} {es} none = record {
  sectors = refl;
  live = refl;
  position = omega arith;
  records = omega arith;
  entries = refl;
  run = λ l s. completed_none m (next_place d) (omega (arith, on_device m m d l s, d.room));
}
chained (more r w a) = push_one r (chained w) a

-- such adds are those since the begin of a draft
pub drafted : {m : Meaning} {d : Draft} {es : List Entry} {rs : List Record} {e : Draft} {n : Meaning} {fs : List Entry} (s : Shelf) → Whole m → Begun s d → AddedAll m d es rs e n fs → drafts.Drafted n e fs rs
drafted {es = es} s w b none = drafts.begun es w b
drafted s w b (more r h a) = drafts.added r (drafted s w b h) a
