-- The records of a draft stand in its file.
use Rattle.std.proofs.Common.{◌≡◌, ℕ, ◌+◌, ◌*◌, ◌≤◌, true, ◌⊎◌, List, [], ◌∷◌, ◌++◌, length, Ok, Err, sym, refl, ap, ◌∙◌, subst, inl, inr, ⊎_elim, arith}
use mathlib.Core.Bool.{false≢true}
use Rattle.std.proofs.lemmas.List.{length-take-le, length-append, append_assoc, append-nil}
use Rattle.std.specs.List.{flat_map}
use Rattle.byte_lists.specs.Bytes.{part}
use Rattle.byte_lists.proofs.Parts.{At, at_join, part_in}
use Rattle.faults.specs.declared.device.DeviceFault.{DeviceFault}
use Rattle.faults.specs.declared.device.DeviceFault.TheVariants.{Range, Power, Bad}
use Rattle.faults.specs.declared.file.FileFault.{FileFault}
use Rattle.device.specs.Meanings.{Meaning, Whole}
use Rattle.cdb.specs.Records.{Record, record_bytes, size}
use Rattle.writing.specs.Runs.{Outside, Keeps, Completed, Interrupted}
use Rattle.writing.proofs.Keeping.{completed_keeps}
use Rattle.building.specs.declared.entries.Entry.{Entry}
use Rattle.building.specs.Closes.{Built, Closed, Closes}
use Rattle.building.proofs.Slotted.{part_same, at_laid}
use Rattle.shelf.specs.declared.fault.ShelfFault.{ShelfFault}
use Rattle.shelf.specs.declared.fault.ShelfFault.TheVariants.{File, Size, NoRoot, Entries, Full, Small}
use Rattle.shelf.specs.declared.states.Shelf.{Shelf}
use Rattle.shelf.specs.declared.states.Draft.{Draft}
use Rattle.shelf.specs.declared.states.Finished.{Finished}
use Rattle.shelf.specs.States.{Live, live_at_draft, file_start, Begun}
use Rattle.shelf.specs.Adds.{next_place, AddStopped, Adds}
use Rattle.shelf.specs.Finishes.{entries_of, FinishStopped, Finishes}
use Rattle.shelf.specs.Drafts.{Between}
use Rattle.writing.proofs.Recorded.{record_long}
use Rattle.shelf.proofs.Inside.{Long, long_after, on_device}

-- where records end that start behind the header
abbrev pub end : List Record → ℕ
end rs = 2048 + length (flat_map record_bytes rs)

-- the draft's position is behind these records, which stand in its file
pub record Stands (m : Meaning) (d : Draft) (rs : List Record) : Type 0 where
  pub long : Long m
  pub position : d.position ≡ end rs
  pub stand : At m.bytes (file_start (live_at_draft d) + 2048) (flat_map record_bytes rs)

pub joined_push : (rs : List Record) (r : Record) → flat_map record_bytes (rs ++ r ∷ []) ≡ flat_map record_bytes rs ++ record_bytes r
joined_push [] r = append-nil (record_bytes r)
joined_push (a ∷ rs) r = ap (λ (q : List ℕ). record_bytes a ++ q) (joined_push rs r) ∙ sym (append_assoc (record_bytes a) (flat_map record_bytes rs) (record_bytes r))

pub end_push : (rs : List Record) (r : Record) → end (rs ++ r ∷ []) ≡ end rs + size r
end_push rs r = omega (arith, ap length (joined_push rs r), length-append (flat_map record_bytes rs) (record_bytes r), record_long r)

pub begun_stands : (m : Meaning) (s : Shelf) (d : Draft) → Whole m → Begun s d → Stands m d []
begun_stands m s d w b = record { long = w.long; position = b.position; stand = refl }

pub between_stands : (m n : Meaning) (d : Draft) (rs : List Record) → Between m n → Stands m d rs → Stands n d rs
between_stands m n d rs b h = record {
  long = ap length b.bytes ∙ h.long ∙ ap (λ (q : ℕ). 512 * q) (sym b.sectors);
  position = h.position;
  stand = subst (λ (q : List ℕ). At q (file_start (live_at_draft d) + 2048) (flat_map record_bytes rs)) (sym b.bytes) h.stand;
}

-- the draft's position, on the device
next_on : (m : Meaning) (d : Draft) → Long m → m.sectors ≡ d.live.sectors → next_place d ≤ length m.bytes
next_on m d long s = omega (arith, on_device m m d long s, d.room)

pub add_stands : (m n : Meaning) (d e : Draft) (es fs : List Entry) (rs : List Record) (r : Record) → Stands m d rs → Adds m d es r (Ok e) n fs → Stands n e (rs ++ r ∷ [])
add_stands m n d e es fs rs r h a =
    let R : List ℕ = flat_map record_bytes rs in
    let base : ℕ = file_start (live_at_draft d) in
    let put : Completed m (next_place d) (record_bytes r) n = a.1 in
    let pos : d.position ≡ end rs = h.position in
    let rl = record_long r in
    let room = a.0.room in
    let on = on_device m n d h.long a.0.same in
    let k : Keeps m (Outside (next_place d) (length (record_bytes r))) n = completed_keeps m n (next_place d) (record_bytes r) (omega arith) put in
    let ln : length n.bytes ≡ length m.bytes = k.long in
    let old : At n.bytes (base + 2048) R =
    part_same n.bytes m.bytes (base + 2048) (length R) (omega arith) (omega arith) (λ i u v. k.same i (inl (omega arith))) ∙ h.stand in
    let at : At n.bytes (next_place d) (record_bytes r) = subst (λ (q : List ℕ). At q (next_place d) (record_bytes r)) (sym put.bytes) (at_laid m.bytes (next_place d) (record_bytes r) (omega arith)) in
    let z : next_place d ≡ base + 2048 + length R = omega arith in
    let new : At n.bytes (base + 2048 + length R) (record_bytes r) = subst (λ (q : ℕ). At n.bytes q (record_bytes r)) z at in
    let all : At n.bytes (base + 2048) (flat_map record_bytes (rs ++ r ∷ [])) = subst (At n.bytes (base + 2048)) (sym (joined_push rs r)) (at_join n.bytes (base + 2048) R (record_bytes r) old new) in
    record {
      long = long_after m n _ k h.long;
      position = a.2.position ∙ omega (arith, end_push rs r);
      stand = subst (λ (q : Live). At n.bytes (file_start q + 2048) (flat_map record_bytes (rs ++ r ∷ []))) (sym a.2.live) all;
    }

-- records stand while nothing in them changes
module _ (m n : Meaning) (d : Draft) (rs : List Record) (h : Stands m d rs) where
  kept : (p len : ℕ) → m.sectors ≡ d.live.sectors → (next_place d ≤ p) ⊎ (p + len ≤ file_start (live_at_draft d) + 2048) → Keeps m (Outside p len) n → Stands n d rs
  kept p len s out k =
      let R : List ℕ = flat_map record_bytes rs in
      let on = next_on m d h.long s in
      let pos = h.position in
      let ln : length n.bytes ≡ length m.bytes = k.long in
      record {
        long = long_after m n _ k h.long;
        position = h.position;
        stand = part_same n.bytes m.bytes (file_start (live_at_draft d) + 2048) (length R) (omega arith) (omega arith)
            (λ i u v. k.same i (⊎_elim (λ a. inl (omega arith)) (λ a. inr (omega arith)) out)) ∙ h.stand;
      }

  pub same_stands : n ≡ m → Stands n d rs
  same_stands e = subst (λ (q : Meaning). Stands q d rs) (sym e) h

  -- a run that is refused with power on has met a bad sector
  interrupted_stands : (p len : ℕ) (f : DeviceFault) → m.sectors ≡ d.live.sectors → (next_place d ≤ p) ⊎ (p + len ≤ file_start (live_at_draft d) + 2048) → Interrupted m p len f n → n.power ≡ true → Stands n d rs
  interrupted_stands p len Range s out v on = absurd v
  interrupted_stands p len Power s out (inl v) on = absurd (false≢true (sym v.1 ∙ ap (λ (q : Meaning). q.power) (sym v.2) ∙ on))
  interrupted_stands p len Power s out (inr v) on = absurd (false≢true (sym v.off ∙ on))
  interrupted_stands p len (Bad b) s out v on = kept p len s out v.keeps

  pub add_stopped_stands : (k : ℕ) (r : Record) (x : ShelfFault) → AddStopped m d k r x n → n.power ≡ true → Stands n d rs
  add_stopped_stands k r Size a on = same_stands a.1
  add_stopped_stands k r Entries a on = same_stands a.2
  add_stopped_stands k r Full a on = same_stands a.3
  add_stopped_stands k r (File x) a on = interrupted_stands (next_place d) (size r) a.1 a.0.same (inl (omega arith)) a.3 on
  add_stopped_stands k r NoRoot a on = absurd a
  add_stopped_stands k r Small a on = absurd a

header_stands : (m k n : Meaning) (d : Draft) (es : List Entry) (rs : List Record) (f : DeviceFault) → Stands m d rs → m.sectors ≡ d.live.sectors → Built m (next_place d) es k → Interrupted k (file_start (live_at_draft d)) 2048 f n → n.power ≡ true → Stands n d rs
header_stands m k n d es rs f h s built v on =
    let hk : Stands k d rs = kept m k d rs h (next_place d) (16 * length es) s (inl (omega arith)) built.keeps in
    interrupted_stands k n d rs hk (file_start (live_at_draft d)) 2048 f (built.keeps.sectors ∙ s) (inr (omega arith)) v on

closes_stands : (m n : Meaning) (d : Draft) (es : List Entry) (rs : List Record) (x : FileFault) → Stands m d rs → m.sectors ≡ d.live.sectors → Closes m (file_start (live_at_draft d)) d.position es (Err x) n → n.power ≡ true → Stands n d rs
closes_stands m n d es rs x h s (f, inl a) on = interrupted_stands m n d rs h (next_place d) (16 * length es) f s (inl (omega arith)) a.1 on
closes_stands m n d es rs x h s (f, inr a) on = header_stands m a.1.between n d es rs f h s a.1.built a.1.refused on

pub finish_stopped_stands : (m n : Meaning) (d : Draft) (es : List Entry) (rs : List Record) (x : ShelfFault) → Stands m d rs → FinishStopped m d es x n → n.power ≡ true → Stands n d rs
finish_stopped_stands m n d es rs Size h a on = same_stands m n d rs h a.1
finish_stopped_stands m n d es rs Entries h a on = same_stands m n d rs h a.2
finish_stopped_stands m n d es rs (File x) h a on = closes_stands m n d (entries_of d es) rs a.2.fault h a.0 a.2.closes on
finish_stopped_stands m n d es rs NoRoot h a on = absurd a
finish_stopped_stands m n d es rs Full h a on = absurd a
finish_stopped_stands m n d es rs Small h a on = absurd a

-- they stand in the file of a finished draft
pub finish_stands : (m n : Meaning) (d : Draft) (es : List Entry) (rs : List Record) (f : Finished) → Stands m d rs → Finishes m d es (Ok f) n
    → part (part n.bytes (file_start (live_at_draft d)) (d.position + 16 * length (entries_of d es))) 2048 (length (flat_map record_bytes rs)) ≡ flat_map record_bytes rs
finish_stands m n d es rs f h a =
    let R : List ℕ = flat_map record_bytes rs in
    let base : ℕ = file_start (live_at_draft d) in
    let ts : List Entry = entries_of d es in
    let L : ℕ = d.position + 16 * length ts in
    let tl : length ts ≡ d.records = length-take-le d.records es a.1 in
    let pos : d.position ≡ end rs = h.position in
    let closed : Closed m base d.position ts n = a.2 in
    let on = on_device m n d h.long a.0 in
    let room = d.room in
    let ln : length n.bytes ≡ length m.bytes = closed.keeps.long in
    part_in n.bytes base L 2048 (length R) (omega arith)
    ∙ part_same n.bytes m.bytes (base + 2048) (length R) (omega arith) (omega arith) (λ i u v. closed.keeps.same i (inl (omega arith), inr (omega arith)))
    ∙ h.stand
