-- What a finish leaves to be published, and what a publication makes live.
use Rattle.std.proofs.Common.{◌≡◌, ℕ, ◌+◌, ◌*◌, ◌≤◌, ◌⊎◌, List, length, Some, None, Ok, Err, Option, sym, ap, ◌∙◌, subst, inl, inr, ⊎_elim, arith}
use Rattle.std.proofs.lemmas.List.{length-take-le}
use Rattle.byte_lists.specs.Bytes.{part, laid}
use Rattle.faults.specs.declared.device.DeviceFault.{DeviceFault}
use Rattle.faults.specs.declared.device.DeviceFault.TheVariants.{Power}
use Rattle.device.specs.Meanings.{Meaning, Writes, spent, refusal, Spends, WritesBy, Written}
use Rattle.cdb.specs.Records.{Record, Records}
use Rattle.cdb.specs.Files.{position}
use Rattle.cdb.specs.Rules.{Lawful}
use Rattle.cdb.specs.Verdicts.{accepted, Judged}
use Rattle.cdb.proofs.Placement.{records_read}
use Rattle.cdb.proofs.FileLookup.{one_reading}
use Rattle.auditing.proofs.Answering.{kept}
use Rattle.writing.specs.Runs.{Completed}
use Rattle.writing.proofs.Running.{piece_runs}
use Rattle.building.specs.declared.entries.Entry.{Entry}
use Rattle.building.specs.Entries.{Tabled}
use Rattle.building.proofs.Counting.{below_none}
use Rattle.areas.specs.Geometry.{other, area_start, area_size}
use Rattle.areas.proofs.Rooted.{root_long}
use Rattle.shelf.specs.declared.fault.ShelfFault.{ShelfFault}
use Rattle.shelf.specs.declared.fault.ShelfFault.TheVariants.{File, Size, NoRoot, Entries, Full, Small}
use Rattle.shelf.specs.declared.refusals.Refused.{Refused as RefusedCall}
use Rattle.shelf.specs.declared.states.Draft.{Draft}
use Rattle.shelf.specs.declared.states.Finished.{Finished}
use Rattle.shelf.specs.Reports.{at_root}
use Rattle.shelf.specs.States.{Live, live_at_draft, live_at_finished, file_start}
use Rattle.shelf.specs.Finishes.{entries_of, Finishes}
use Rattle.shelf.specs.Publishes.{live_after, next_root, Accepted, PublishStopped, Publishes}
use Rattle.shelf.specs.Drafts.{finished_file}
use Rattle.shelf.proofs.Inside.{Long, area_on}
use Rattle.shelf.proofs.Standing.{end, Stands, finish_stands}
use Rattle.history.specs.Laws.{Rooted, live_file}
use Rattle.history.proofs.Living.{behind_root, relaid_root, relaid_part, relaid_long}

-- these records stand in the file of a finished draft, up to its first table
abbrev pub Reads : Meaning → Finished → List Record → Type 0
Reads m f rs = Records (finished_file m f) 2048 (position (finished_file m f) 0) rs

-- whatever entries a finish was given
pub finish_reads : (m n : Meaning) (d : Draft) (es : List Entry) (rs : List Record) (f : Finished) → Stands m d rs → Finishes m d es (Ok f) n → Reads n f rs
finish_reads m n d es rs f h a =
    let base : ℕ = file_start (live_at_draft d) in
    let ts : List Entry = entries_of d es in
    let L : ℕ = d.position + 16 * length ts in
    let file : List ℕ = part n.bytes base L in
    let tl : length ts ≡ d.records = length-take-le d.records es a.1 in
    let pos : d.position ≡ end rs = h.position in
    let room = d.room in
    let few = d.live.few in
    let tabled : Tabled file d.position ts = a.2.tabled in
    let p0 : position file 0 ≡ d.position = tabled.positions 0 (omega arith) ∙ omega (arith, below_none ts) in
    let read : Records file 2048 (position file 0) rs = records_read file 2048 (position file 0) rs (omega arith) (finish_stands m n d es rs f h a) (sym pos ∙ sym p0) in
    let made : L ≡ f.made = omega (arith, a.3.made) in
    let P : ℕ → Type 0 = λ q. Records (part n.bytes base q) 2048 (position (part n.bytes base q) 0) rs in
    let Q : Live → Type 0 = λ q. Records (part n.bytes (file_start q) f.made) 2048 (position (part n.bytes (file_start q) f.made) 0) rs in
    subst Q (sym a.3.live) (subst P made read)

-- an accepted file is lawful with the records that stand in it
pub accepted_lawful : (m : Meaning) (f : Finished) (rs : List Record) → Accepted m f → Reads m f rs → Lawful (finished_file m f) rs
accepted_lawful m f rs (c, a) r =
    let e = a.extent in
    let P : ℕ → Type 0 = λ q. Judged (part m.bytes q e.len) (accepted c.records c.slots c.probes) in
    let Q : ℕ → Type 0 = λ q. Judged (part m.bytes (file_start (live_at_finished f)) q) (accepted c.records c.slots c.probes) in
    let judged : Judged (finished_file m f) (accepted c.records c.slots c.probes) = subst Q a.len (subst P a.start a.audited.1) in
    let k = kept (finished_file m f) (accepted c.records c.slots c.probes) judged in
    subst (Lawful (finished_file m f)) (one_reading (finished_file m f) 2048 (position (finished_file m f) 0) k.0 rs k.1.reads r) k.1

-- the root is written: done
pub root_stored : (m n : Meaning) (f : Finished) → 1 ≤ m.sectors → Written m 0 (next_root f) (Ok tt) n → (n.sectors ≡ m.sectors) × (n.bytes ≡ laid m.bytes 0 (next_root f))
root_stored m n f few w =
    let l = root_long (other f.live.root.area) f.made in
    let r : Completed m 0 (next_root f) n = piece_runs m 0 (next_root f) (Ok tt) n (omega arith) (omega arith) (omega arith) w in
    (r.sectors, r.bytes)

-- or refused: nothing changed, or power went, and the root is the old one or the new one
abbrev pub Cut : Meaning → List ℕ → DeviceFault → Meaning → Type 0
Cut m ys g n = (g ≡ Power) × (n.sectors ≡ m.sectors) × ((n.bytes ≡ m.bytes) ⊎ (n.bytes ≡ laid m.bytes 0 ys))

module _ (m n : Meaning) (ys : List ℕ) (g : DeviceFault) where
  by_spent : (w : Option Writes) → Spends w m 0 ys (Err g) n → (n ≡ m) ⊎ Cut m ys g n
  by_spent None t = let e : g ≡ Power = (let z = t.0 in cc) in inr (e, t.1.sectors, t.1.bytes.root (omega arith))
  by_spent (Some w) t = let z = t.0 in let y : ◌≡◌ {A = ℕ} 0 1 = cc in absurd (omega arith)

  by_refusal : (o : Option DeviceFault) → WritesBy o m 0 ys (Err g) n → (n ≡ m) ⊎ Cut m ys g n
  by_refusal (Some x) t = inl t.1
  by_refusal None t = by_spent (spent m.left) t

  pub root_refused : Written m 0 ys (Err g) n → (n ≡ m) ⊎ Cut m ys g n
  root_refused t = by_refusal (refusal m 0 (length ys)) t

-- a publish that is refused has left the device as it was, or power went at the root of an accepted file
pub record CutAtRoot (m : Meaning) (f : Finished) (x : ShelfFault) (n : Meaning) : Type 0 where
  pub fault : x ≡ File (at_root Power)
  pub clear : Accepted m f
  pub sectors : n.sectors ≡ m.sectors
  pub bytes : (n.bytes ≡ m.bytes) ⊎ (n.bytes ≡ laid m.bytes 0 (next_root f))

publish_stopped : (m n : Meaning) (f : Finished) (x : ShelfFault) → PublishStopped m f x n → (n ≡ m) ⊎ CutAtRoot m f x n
publish_stopped m n f Size p = inl p.1
publish_stopped m n f (File x) (inl p) = inl p.3
publish_stopped m n f (File x) (inr (g, told, clear, w)) = ⊎_elim (λ e. inl e)
    (λ c. inr (record { fault = ap (λ q. File q) (told ∙ ap at_root c.0); clear = clear; sectors = c.1; bytes = c.2 })) (root_refused m n (next_root f) g w)
publish_stopped m n f NoRoot p = absurd p
publish_stopped m n f Entries p = absurd p
publish_stopped m n f Full p = absurd p
publish_stopped m n f Small p = absurd p

pub refused_publish : (m n : Meaning) (f : Finished) (x : RefusedCall (Option Finished)) → Publishes m f (Err x) n → (n ≡ m) ⊎ CutAtRoot m f x.fault n
refused_publish m n f x p = publish_stopped m n f x.fault p.0

-- once the new root stands, the draft's file is live
module _ (m n : Meaning) (f : Finished) (rs : List Record) (long : Long m) (clear : Accepted m f) (reads : Reads m f rs) (sectors : n.sectors ≡ m.sectors) (bytes : n.bytes ≡ laid m.bytes 0 (next_root f)) where
  some_sectors : 1 ≤ m.sectors
  some_sectors = omega (arith, clear.1.same, f.past, f.room)

  pub switched_rooted : Rooted n (live_after f)
  switched_rooted =
      let s : m.sectors ≡ f.live.sectors = clear.1.same in
      record {
        sectors = sym s ∙ sym sectors;
        names = record {
          is = relaid_root m n (other f.live.root.area) f.made some_sectors long sectors bytes;
          long = f.past;
          fits = subst (λ (q : ℕ). f.made ≤ area_size q (other f.live.root.area)) (sym s ∙ sym sectors) f.room;
        };
      }

  pub switched_long : Long n
  switched_long = relaid_long m n (other f.live.root.area) f.made some_sectors long sectors bytes ∙ long ∙ ap (λ (q : ℕ). 512 * q) (sym sectors)

  pub switched_lawful : Lawful (live_file n (live_after f)) rs
  switched_lawful =
      let s : m.sectors ≡ f.live.sectors = clear.1.same in
      let on = area_on f.live.sectors (other f.live.root.area) (omega (arith, f.past, f.room)) in
      let room = f.room in
      let same : live_file n (live_after f) ≡ finished_file m f =
      relaid_part m n (other f.live.root.area) f.made some_sectors long sectors bytes (area_start f.live.sectors (other f.live.root.area)) f.made (behind_root f.live.sectors (other f.live.root.area)) (omega (arith, long)) in
      subst (λ (q : List ℕ). Lawful q rs) (sym same) (accepted_lawful m f rs clear reads)
