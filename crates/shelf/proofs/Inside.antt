-- Calls on a draft change nothing outside its area.
use Rattle.std.proofs.Common.{◌≡◌, ℕ, ◌+◌, ◌*◌, ◌/◌, ◌<◌, ◌≤◌, List, length, Ok, Err, Result, sym, ap, ◌∙◌, inl, inr, ⊎_elim, arith}
use Rattle.std.proofs.lemmas.List.{length-take-le}
use Rattle.faults.specs.declared.device.DeviceFault.{DeviceFault}
use Rattle.faults.specs.declared.device.DeviceFault.TheVariants.{Range, Power, Bad}
use Rattle.faults.specs.declared.file.FileFault.{FileFault}
use Rattle.device.specs.Meanings.{Meaning}
use Rattle.cdb.specs.Records.{Record, record_bytes, size}
use Rattle.writing.specs.Runs.{Outside, Keeps, Interrupted}
use Rattle.writing.proofs.Keeping.{keeps_same, keeps_both, keeps_less, outside_part, completed_keeps}
use Rattle.building.specs.declared.entries.Entry.{Entry}
use Rattle.building.specs.Closes.{Closes}
use Rattle.areas.specs.declared.area.Area.{Area}
use Rattle.areas.specs.declared.area.Area.TheVariants.{Zero, One}
use Rattle.areas.specs.Geometry.{other, first_sector, sectors_in, area_start, area_size}
use Rattle.shelf.specs.declared.fault.ShelfFault.{ShelfFault}
use Rattle.shelf.specs.declared.fault.ShelfFault.TheVariants.{File, Size, NoRoot, Entries, Full, Small}
use Rattle.shelf.specs.declared.refusals.Refused.{Refused}
use Rattle.shelf.specs.declared.states.Draft.{Draft}
use Rattle.shelf.specs.declared.states.Finished.{Finished}
use Rattle.shelf.specs.States.{live_at_draft, file_start, file_room}
use Rattle.shelf.specs.Adds.{next_place, AddStopped, Adds}
use Rattle.shelf.specs.Finishes.{entries_of, FinishStopped, Finishes}
use Rattle.writing.proofs.Recorded.{record_long}

-- an area with sectors lies on the device
pub area_on : (n : ℕ) (a : Area) → 0 < area_size n a → area_start n a + area_size n a ≤ 512 * n
area_on n Zero h = omega arith
area_on n One h = omega arith

-- how long the bytes of a device are
abbrev pub Long : Meaning → Type 0
Long m = length m.bytes ≡ 512 * m.sectors

pub long_after : (m n : Meaning) (P : ℕ → Type 0) → Keeps m P n → Long m → Long n
long_after m n P k l = k.long ∙ l ∙ ap (λ (q : ℕ). 512 * q) (sym k.sectors)

-- a refused run changes nothing outside whole sectors around it
pub refused_inside : (m : Meaning) (p len : ℕ) (f : DeviceFault) (n : Meaning) (first count : ℕ) → 512 * first ≤ p → p + len ≤ 512 * first + 512 * count
    → Interrupted m p len f n → Keeps m (Outside (512 * first) (512 * count)) n
refused_inside m p len Range n first count a b v = absurd v
refused_inside m p len Power n first count a b (inl v) = keeps_same m n _ v.2
refused_inside m p len Power n first count a b (inr v) =
    let t : p / 512 ≤ v.sector = v.touched.1 in
    let u : 512 * v.sector < p + len = v.touched.2 in
    keeps_less m n _ _ v.keeps (λ k o.
    (outside_part (512 * first) (512 * count) p len k (omega arith) (omega arith) o, λ e. ⊎_elim (λ x. omega arith) (λ x. omega arith) o))
refused_inside m p len (Bad b') n first count a b v = keeps_less m n _ _ v.keeps (λ k o. outside_part (512 * first) (512 * count) p len k (omega arith) (omega arith) o)

-- nothing outside the draft's area changed
abbrev pub InArea : Meaning → Draft → Meaning → Type 0
InArea m d n = Keeps m (Outside (file_start (live_at_draft d)) (file_room (live_at_draft d))) n

module _ (m n : Meaning) (d : Draft) (long : Long m) where
  abbrev start : ℕ
  start = file_start (live_at_draft d)

  abbrev room : ℕ
  room = file_room (live_at_draft d)

  pub on_device : m.sectors ≡ d.live.sectors → start + room ≤ length m.bytes
  on_device s = omega (arith, area_on d.live.sectors (other d.live.root.area) (omega (arith, d.past, d.room)))

  add_stopped_inside : (k : ℕ) (r : Record) (x : ShelfFault) → AddStopped m d k r x n → InArea m d n
  add_stopped_inside k r Size h = keeps_same m n _ h.1
  add_stopped_inside k r Entries h = keeps_same m n _ h.2
  add_stopped_inside k r Full h = keeps_same m n _ h.3
  add_stopped_inside k r (File x) h =
      let fits = h.0.room in
      refused_inside m (next_place d) (size r) h.1 n (first_sector d.live.sectors (other d.live.root.area)) (sectors_in d.live.sectors (other d.live.root.area)) (omega arith) (omega arith) h.3
  add_stopped_inside k r NoRoot h = absurd h
  add_stopped_inside k r Small h = absurd h

  pub add_inside : (es fs : List Entry) (r : Record) (a : Result Draft (Refused Draft)) → Adds m d es r a n fs → InArea m d n
  add_inside es fs r (Ok e) h =
      let fits = h.0.room in
      let o = on_device h.0.same in
      let l = record_long r in
      keeps_less m n _ _ (completed_keeps m n (next_place d) (record_bytes r) (omega arith) h.1) (λ k out. outside_part start room (next_place d) (length (record_bytes r)) k (omega arith) (omega arith) out)
  add_inside es fs r (Err x) h = add_stopped_inside (length es) r x.fault h.0

  closes_inside : (es : List Entry) (r : Result (Unit {0}) FileFault) → d.position + 16 * length es ≤ room → Closes m start d.position es r n → InArea m d n
  closes_inside es (Ok u) l h =
      let past = d.past in
      keeps_less m n _ _ h.keeps (λ k out.
      (outside_part start room (start + d.position) (16 * length es) k (omega arith) (omega arith) out, outside_part start room start 2048 k (omega arith) (omega arith) out))
  closes_inside es (Err x) l (f, inl h) =
      refused_inside m (start + d.position) (16 * length es) f n (first_sector d.live.sectors (other d.live.root.area)) (sectors_in d.live.sectors (other d.live.root.area)) (omega arith) (omega arith) h.1
  closes_inside es (Err x) l (f, inr h) =
      let past = d.past in
      let k : Meaning = h.1.between in
      keeps_both m k n _ _ _ h.1.built.keeps
      (refused_inside k start 2048 f n (first_sector d.live.sectors (other d.live.root.area)) (sectors_in d.live.sectors (other d.live.root.area)) (omega arith) (omega arith) h.1.refused)
      (λ i out. outside_part start room (start + d.position) (16 * length es) i (omega arith) (omega arith) out) (λ i out. out)

  entries_fit : (es : List Entry) → d.records ≤ length es → d.position + 16 * length (entries_of d es) ≤ room
  entries_fit es l = omega (arith, length-take-le d.records es l, d.room)

  finish_stopped_inside : (es : List Entry) (x : ShelfFault) → FinishStopped m d es x n → InArea m d n
  finish_stopped_inside es Size h = keeps_same m n _ h.1
  finish_stopped_inside es Entries h = keeps_same m n _ h.2
  finish_stopped_inside es (File x) h = closes_inside (entries_of d es) (Err h.2.fault) (entries_fit es h.1) h.2.closes
  finish_stopped_inside es NoRoot h = absurd h
  finish_stopped_inside es Full h = absurd h
  finish_stopped_inside es Small h = absurd h

  pub finish_inside : (es : List Entry) (a : Result Finished (Refused Draft)) → Finishes m d es a n → InArea m d n
  finish_inside es (Ok f) h = closes_inside (entries_of d es) (Ok tt) (entries_fit es h.1) h.2
  finish_inside es (Err x) h = finish_stopped_inside es x.fault h.0
