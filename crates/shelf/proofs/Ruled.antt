-- A draft that was finished after adds is lawful, so no rule refuses to publish it.
use Rattle.std.proofs.Common.{◌≡◌, ℕ, ◌+◌, ◌*◌, ◌/◌, ◌≤◌, Bool, true, false, cond, ◌⊎◌, List, length, Some, None, Err, Option, sym, refl, ap, ◌∙◌, subst, inl, inr, arith, rules}
use Rattle.byte_lists.specs.Bytes.{part}
use Rattle.faults.specs.declared.device.DeviceFault.{DeviceFault}
use Rattle.faults.specs.declared.device.DeviceFault.TheVariants.{Range, Power, Bad}
use Rattle.faults.specs.declared.file.FileFault.{FileFault}
use Rattle.faults.specs.Reports.{device_report, file_report}
use Rattle.device.specs.Meanings.{Meaning, Writes, is_bad, refuses, refusal, spent, Spends, WritesBy}
use Rattle.cdb.specs.Records.{Record, items}
use Rattle.cdb.specs.Rules.{Lawful}
use Rattle.cdb.specs.Verdicts.{slots_below, keeps_all}
use Rattle.file.specs.declared.extents.Extent.{Extent}
use Rattle.file.specs.Extents.{file, On, outside, no_power, bad_sector}
use Rattle.auditing.specs.Audits.{Audited}
use Rattle.auditing.proofs.Answering.{never, probes_exist}
use Rattle.areas.specs.Geometry.{other}
use Rattle.areas.proofs.Rooted.{root_long}
use Rattle.shelf.specs.declared.fault.ShelfFault.{ShelfFault}
use Rattle.shelf.specs.declared.fault.ShelfFault.TheVariants.{File, Size, NoRoot, Entries, Full, Small}
use Rattle.shelf.specs.declared.states.Finished.{Finished}
use Rattle.shelf.specs.Reports.{shelf_report}
use Rattle.shelf.specs.States.{Live, live_at_finished, file_start}
use Rattle.shelf.specs.Publishes.{next_root, DraftAudited, PublishStopped}
use Rattle.shelf.specs.Drafts.{finished_file, PublishAfterAddsBreaksNoRule}
use Rattle.shelf.proofs.Inside.{area_on}
use Rattle.shelf.proofs.Held.{finish_after_adds_is_lawful}

-- want of power, or a bad sector
abbrev pub OfDevice : ℕ → Type 0
OfDevice n = (n ≡ 21) ⊎ (n ≡ 22)

-- what refuses a sector of the device is one of the two
no_range : (p b : Bool) (s : ℕ) → cond p (cond b (Some (Bad (512 * s))) None) (Some Power) ≡ Some Range → ⊥
no_range true true s e = cc
no_range true false s e = cc
no_range false b s e = cc

sector_refused : (m : Meaning) (s : ℕ) (f : DeviceFault) → refuses m s ≡ Some f → OfDevice (device_report f).number
sector_refused m s Range e = absurd (no_range m.power (is_bad m s) s e)
sector_refused m s Power e = inl refl
sector_refused m s (Bad b) e = inr refl

-- so is what refuses the root of a device that has sectors
pub root_refused : (m : Meaning) (f : DeviceFault) → 1 ≤ m.sectors → refusal m 0 512 ≡ Some f → OfDevice (device_report f).number
root_refused m f few e =
    let i : refusal m 0 512 ≡ refuses m 0 = search rules in
    sector_refused m 0 f (sym i ∙ e)

module _ (m n : Meaning) (ys : List ℕ) (g : DeviceFault) (few : 1 ≤ m.sectors) where
  by_spent : (w : Option Writes) → Spends w m 0 ys (Err g) n → OfDevice (device_report g).number
  by_spent None t = let e : g ≡ Power = (let z = t.0 in cc) in subst (λ (f : DeviceFault). OfDevice (device_report f).number) (sym e) (inl refl)
  by_spent (Some w) t = let z = t.0 in let y : ◌≡◌ {A = ℕ} 0 1 = cc in absurd (omega arith)

  by_refusal : (o : Option DeviceFault) → refusal m 0 512 ≡ o → WritesBy o m 0 ys (Err g) n → OfDevice (device_report g).number
  by_refusal (Some f) q t = let e : f ≡ g = (let z = t.0 in cc) in root_refused m g few (q ∙ ap (λ (x : DeviceFault). Some x) e)
  by_refusal None q t = by_spent (spent m.left) t

-- what refuses the audit of a lawful file that lies on the device
unruled : (m : Meaning) (e : Extent) (rs : List Record) (g : FileFault) → Lawful (file m e) rs → On m e → Audited m e (Err g) → OfDevice (file_report g).number
unruled m e rs g law on (inl (outside a)) = absurd (a on)
unruled m e rs g law on (inl (no_power a b)) = inl refl
unruled m e rs g law on (inl (bad_sector {f = f} a b h)) = sector_refused m ((e.start + h.k) / 512) f h.refused
unruled m e rs g law on (inr j) =
    let p = probes_exist m e (items 2048 rs) law.placed in
    absurd (never (file m e) (length rs) (slots_below (file m e) 256) p.0 (file_report g) (keeps_all rs law p.1) j.1)

-- of a draft whose file is lawful
module _ (k p : Meaning) (f : Finished) (rs : List Record) (size : k.sectors ≡ f.live.sectors) (law : Lawful (finished_file k f) rs) where
  draft_unruled : (g : FileFault) → DraftAudited k f (Err g) → OfDevice (file_report g).number
  draft_unruled g a =
      let e : Extent = a.extent in
      let P : ℕ → Type 0 = λ q. Lawful (part k.bytes q f.made) rs in
      let Q : ℕ → Type 0 = λ q. Lawful (part k.bytes e.start q) rs in
      let area = area_on f.live.sectors (other f.live.root.area) (omega (arith, f.past, f.room)) in
      let there : Lawful (file k e) rs = subst Q (sym a.len) (subst P (sym a.start) law) in
      unruled k e rs g there (omega (arith, a.start, a.len, area, size, f.room)) a.audited

  stopped_unruled : (x : ShelfFault) → PublishStopped k f x p → OfDevice (shelf_report x).number
  stopped_unruled Size s = absurd (s.0 size)
  stopped_unruled (File x) (inl (g, told, a, same)) = subst (λ (y : _). OfDevice (shelf_report (File y)).number) (sym told) (draft_unruled g a)
  stopped_unruled (File x) (inr (g, told, clear, w)) =
      let long : length (next_root f) ≡ 512 = root_long (other f.live.root.area) f.made in
      subst (λ (y : _). OfDevice (shelf_report (File y)).number) (sym told)
      (by_refusal k p (next_root f) g (omega (arith, size, f.past, f.room)) (refusal k 0 (length (next_root f))) (ap (refusal k 0) (sym long)) w)
  stopped_unruled NoRoot s = absurd s
  stopped_unruled Entries s = absurd s
  stopped_unruled Full s = absurd s
  stopped_unruled Small s = absurd s

pub publish_after_adds_breaks_no_rule : PublishAfterAddsBreaksNoRule
publish_after_adds_breaks_no_rule m n k p d es rs f x t a between s =
    let live : f.live.sectors ≡ d.live.sectors = ap (λ (l : Live). l.sectors) a.3.live in
    let size : k.sectors ≡ f.live.sectors = between.sectors ∙ a.2.keeps.sectors ∙ a.0 ∙ sym live in
    let made : Lawful (finished_file n f) rs = finish_after_adds_is_lawful m n d es rs f t a in
    let law : Lawful (finished_file k f) rs = subst (λ (q : List ℕ). Lawful (part q (file_start (live_at_finished f)) f.made) rs) (sym between.bytes) made in
    stopped_unruled k p f rs size law x.fault s.0
