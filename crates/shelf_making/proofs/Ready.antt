-- A finished draft of a make: its file is lawful with the records, can be read, and is accepted.
use Rattle.std.proofs.Common.{◌≡◌, ℕ, ◌+◌, ◌*◌, ◌<◌, ◌≤◌, true, false, List, length, Ok, Err, sym, ap, ◌∙◌, subst, ⊎_elim, arith}
use Rattle.std.specs.List.{flat_map}
use Rattle.std.proofs.lemmas.Bool.{cases_lt}
use Rattle.std.proofs.lemmas.List.{length-take-le}
use Rattle.byte_lists.specs.Bytes.{part}
use Rattle.faults.specs.declared.file.FileFault.{FileFault}
use Rattle.device.specs.Meanings.{Meaning, Whole, is_bad}
use Rattle.cdb.specs.Records.{Record, record_bytes}
use Rattle.cdb.specs.Rules.{Lawful}
use Rattle.file.specs.declared.extents.Extent.{Extent}
use Rattle.file.specs.Extents.{file, Readable}
use Rattle.auditing.proofs.Answering.{not_both}
use Rattle.writing.specs.Runs.{Touches, Keeps, Completed, Counted}
use Rattle.writing.proofs.Keeping.{counted_before}
use Rattle.writing.proofs.Running.{bad_after}
use Rattle.building.specs.declared.entries.Entry.{Entry}
use Rattle.building.specs.Closes.{Closed}
use Rattle.building.proofs.Ranged.{good_range}
use Rattle.areas.specs.Geometry.{other}
use Rattle.shelf.specs.declared.states.Shelf.{Shelf}
use Rattle.shelf.specs.declared.states.Draft.{Draft}
use Rattle.shelf.specs.declared.states.Finished.{Finished}
use Rattle.shelf.specs.States.{Live, live_of, live_at_draft, live_at_finished, file_start, file_room, Begun}
use Rattle.shelf.specs.Adds.{next_place}
use Rattle.shelf.specs.Finishes.{entries_of, Finishes}
use Rattle.shelf.specs.Publishes.{DraftAudited}
use Rattle.shelf.specs.Drafts.{finished_file}
use Rattle.shelf.proofs.Inside.{Long, long_after, area_on, finish_inside}
use Rattle.shelf.proofs.Held.{finish_after_adds_is_lawful}
use Rattle.making.specs.Sizes.{made_length}
use Rattle.shelf_making.specs.Adding.{AddedAll}
use Rattle.shelf_making.specs.Laws.{OutsideIdle}
use Rattle.shelf_making.proofs.Chains.{Chained, chained, drafted}
use Rattle.shelf_making.proofs.Staying.{both, inside, live_then}
use Rattle.shelf_making.proofs.Lawless.{not_refused}

module _ (m : Meaning) (s : Shelf) (d : Draft) (es : List Entry) (rs : List Record) (e : Draft) (k : Meaning) (fs : List Entry) (f : Finished) (j : Meaning)
    (whole : Whole m) (b : Begun s d) (w : AddedAll m d es rs e k fs) (fin : Finishes k e fs (Ok f) j) where
  abbrev l : Live
  l = live_of s

  abbrev R : List ℕ
  R = flat_map record_bytes rs

  c : Chained m d es rs e k fs
  c = chained w

  live_e : live_at_draft e ≡ l
  live_e = live_then m s d es rs whole.long b w

  pub live_f : live_at_finished f ≡ l
  live_f = fin.3.live ∙ live_e

  pub sized : m.sectors ≡ l.sectors
  sized = sym c.sectors ∙ fin.0 ∙ ap (λ (q : Live). q.sectors) live_e

  run : Completed m (next_place d) R k
  run = c.run whole.long (sized ∙ ap (λ (q : Live). q.sectors) (sym b.live))

  closed : Closed k (file_start (live_at_draft e)) e.position (entries_of e fs) j
  closed = fin.2

  pub kept : Keeps m (OutsideIdle l) j
  kept =
      let i = inside m s d es rs whole.long b w in
      let o : Keeps k (OutsideIdle (live_at_draft e)) j = finish_inside k j e (long_after m k _ i whole.long) fs (Ok f) fin in
      both m k j l i (subst (λ (q : Live). Keeps k (OutsideIdle q) j) live_e o)

  pub long : Long j
  long = long_after m j _ kept whole.long

  records : e.records ≡ length rs
  records = omega (arith, c.records, b.records)

  pub enough : length rs ≤ length es
  enough = omega (arith, fin.1, records, c.entries)

  position : e.position ≡ 2048 + length R
  position = omega (arith, c.position, b.position)

  pub made : f.made ≡ made_length rs
  made = omega (arith, fin.3.made, position, records)

  pub room : made_length rs ≤ file_room l
  room = subst (λ (q : Live). made_length rs ≤ file_room q) live_f (omega (arith, f.room, made))

  pub power : j.power ≡ m.power
  power = closed.power ∙ run.power

  pub on : m.power ≡ true
  on = sym run.power ∙ closed.on

  pub counted : Counted j.left → Counted m.left
  counted x = counted_before m.left k.left _ run.left (counted_before k.left j.left _ closed.left x)

  pub good : (i : ℕ) → Touches (file_start l) (made_length rs) i → is_bad m i ≡ false
  good i (z, a, h) =
      let start : file_start (live_at_draft e) ≡ file_start l = ap file_start live_e in
      let begin : file_start (live_at_draft d) ≡ file_start l = ap file_start b.live in
      let pos = b.position in
      let ts = length-take-le e.records fs fin.1 in
      let same : is_bad k i ≡ is_bad m i = bad_after m k i run.condition in
      ⊎_elim
      (λ (u : 512 * i < file_start l + 2048). sym same ∙ closed.header_good i (omega arith, omega arith, omega arith))
      (λ (u : file_start l + 2048 ≤ 512 * i). ⊎_elim
      (λ (v : 512 * i < file_start l + 2048 + length R). run.good i (omega arith, omega arith, omega arith))
      (λ (v : file_start l + 2048 + length R ≤ 512 * i). sym same ∙ closed.tables_good i (omega (arith, ts, records), omega (arith, position), omega (arith, ts, records, position)))
      (cases_lt (512 * i) (file_start l + 2048 + length R)))
      (cases_lt (512 * i) (file_start l + 2048))

  pub lawful : Lawful (finished_file j f) rs
  lawful = finish_after_adds_is_lawful k j e fs rs f (drafted s whole b w) fin

  pub not_refused_by_audit : (g : FileFault) → DraftAudited j f (Err g) → ⊥
  not_refused_by_audit g a =
      let x : Extent = a.extent in
      let start : x.start ≡ file_start l = a.start ∙ ap file_start live_f in
      let len : x.len ≡ made_length rs = a.len ∙ made in
      let s' = sized in
      let js : j.sectors ≡ l.sectors = kept.sectors ∙ sized in
      let area : file_start l + file_room l ≤ 512 * l.sectors = area_on l.sectors (other l.area) (omega (arith, room)) in
      let fine : (i : ℕ) → Touches x.start x.len i → is_bad j i ≡ false = λ i t. bad_after m j i kept.condition ∙ good i (omega (arith, t.0), omega (arith, t.1), omega (arith, t.2)) in
      let ok : Readable j x = record {
        on = omega (arith, room);
        power = power ∙ on;
        bytes = good_range j x.start x.len (λ u. power ∙ on) fine;
      } in
      let whole_file : file j x ≡ finished_file j f = ap (λ (q : ℕ). part j.bytes q x.len) a.start ∙ ap (λ (q : ℕ). part j.bytes (file_start (live_at_finished f)) q) a.len in
      let there : Lawful (file j x) rs = subst (λ (q : List ℕ). Lawful q rs) (sym whole_file) lawful in
      ⊎_elim (λ u. not_both j x g ok u) (λ v. not_refused (file j x) rs there _ v.1) a.audited
