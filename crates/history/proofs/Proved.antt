-- The laws of histories, and of lookups along them.
use Rattle.std.proofs.Common.{◌≡◌, ℕ, ◌⊎◌, List, Err, sym, refl, ap, ◌∙◌, subst, arith}
use Rattle.byte_lists.specs.Bytes.{part}
use Rattle.device.specs.Meanings.{Meaning}
use Rattle.cdb.specs.Rules.{Lawful}
use Rattle.file.specs.declared.extents.Extent.{Extent}
use Rattle.file.specs.Extents.{file}
use Rattle.lookup.specs.declared.cursors.Cursor.{Cursor}
use Rattle.lookup_runs.specs.declared.calls.Call as calls
use Rattle.lookup_runs.specs.Runs as runs
use Rattle.lookup_runs.proofs.Giving.{start_done, law_of_lookups, run_wrote}
use Rattle.areas.specs.Geometry.{area_start}
use Rattle.shelf.specs.declared.fault.ShelfFault.{ShelfFault}
use Rattle.shelf.specs.declared.fault.ShelfFault.TheVariants.{File, Size, NoRoot, Entries, Full, Small}
use Rattle.shelf.specs.Reports.{shelf_report}
use Rattle.shelf.specs.States.{Live, LiveExtent}
use Rattle.shelf.specs.Opens.{Opens}
use Rattle.shelf.proofs.Ruled.{root_refused}
use Rattle.history.specs.declared.calls.State.{State}
use Rattle.history.specs.declared.calls.Answer.{Answer}
use Rattle.history.specs.Events.{Request, Event, event, Quiet}
use Rattle.history.specs.Histories.{Step, History, formatted, called, meanwhile, remounted}
use Rattle.history.specs.Laws.{Rooted, live_file, HistoriesKeepPublished, OnlyPublicationsChangeLive, OpenFindsTheShelf}
use Rattle.history.specs.Lookups as lookups
use Rattle.history.specs.Lookups.{Onward, still, moves, Along, none, onward, looks, LiveAt, GivesPublished, LookupsGivePublished}
use Rattle.history.proofs.Living.{Same, same_bytes, rooted_same}
use Rattle.history.proofs.Keeping.{one_live, stays, Sound, step, meanwhile_sound, remounted_sound}
use Rattle.history.proofs.Founded.{formatted_sound}

-- every history is sound
sound : {m n : Meaning} {h : List Event} {s : State} → History m h s n → Sound h s n
sound {m = m} (formatted {n = n} {s = s} w f) = formatted_sound m n s w f
sound (called t v) = step (sound t) v
sound (meanwhile t b) = meanwhile_sound (sound t) b
sound (remounted t r) = remounted_sound (sound t) r

pub histories_keep_published : HistoriesKeepPublished
histories_keep_published m n h s t =
    let f = sound t in
    record { draft = f.draft; records = f.records; published = f.published; live = f.good.live; rooted = f.good.rooted; told = f.good.told; lawful = f.good.lawful }

-- the one live file of a device after a history
same_live : {h : List Event} {s : State} {m : Meaning} (f : Sound h s m) (l : Live) → Rooted m l → l ≡ f.good.live
same_live {m = m} f l r = one_live m l f.good.live f.good.few r f.good.rooted

quiet_step : {m n k : Meaning} {h : List Event} {s t : State} {c : Request} {a : Answer} (l : Live) → History m h s n → Step n s c a t k → Quiet (event c a) → Rooted n l → Same l n k
quiet_step {n = n} {k = k} l hist v q r =
    let f = sound hist in
    subst (λ (z : Live). Same z n k) (sym (same_live f l r)) (stays f.good v q)

pub only_publications_change_live : OnlyPublicationsChangeLive
only_publications_change_live m n k h s t c a l hist v q r =
    let st : Same l n k = quiet_step l hist v q r in
    (rooted_same l n k st r, st.file)

-- a read of the root is refused by power or by its sector
by_refusal : (m : Meaning) (l : Live) (x : ShelfFault) → Rooted m l → Opens m (Err x) → ((shelf_report x).number ≡ 21) ⊎ ((shelf_report x).number ≡ 22)
by_refusal m l NoRoot r o = absurd (o.1 l.area l.len r.names)
by_refusal m l (File x) r (f, e, told) =
    let long = r.names.long in
    let fits = r.names.fits in
    subst (λ q. ((shelf_report (File q)).number ≡ 21) ⊎ ((shelf_report (File q)).number ≡ 22)) (sym told) (root_refused m f (omega arith) e)
by_refusal m l Size r o = absurd o
by_refusal m l Entries r o = absurd o
by_refusal m l Full r o = absurd o
by_refusal m l Small r o = absurd o

pub open_finds_the_shelf : OpenFindsTheShelf
open_finds_the_shelf m n k h s x hist re o =
    let g = (sound hist).good in
    by_refusal k g.live x (rooted_same g.live n k (same_bytes g.live n k re.sectors re.bytes) g.rooted) o

-- the file of the live extent
pub extent_file : (m : Meaning) (e : Extent) (l : Live) → LiveExtent l e → file m e ≡ live_file m l
extent_file m e l x = ap (λ (q : ℕ). part m.bytes q e.len) x.0 ∙ ap (λ (q : ℕ). part m.bytes (area_start l.sectors l.area) q) x.1

-- a history that went on from a device on which an extent is live: it is live still, with the same bytes
record Reached (m0 : Meaning) (e : Extent) (m n : Meaning) (t : State) : Type 0 where
  events : List Event
  history : History m0 events t n
  live : LiveAt n e
  bytes : file n e ≡ file m e

reached_same : {m0 m n k : Meaning} {e : Extent} {t u : State} {h : List Event} (r : Reached m0 e m n t) → History m0 h u k → Same r.live.live n k → Reached m0 e m k u
reached_same {n = n} {k = k} {e = e} {h = h} r hist s =
    let l = r.live.live in
    record {
      events = h;
      history = hist;
      live = record { live = l; rooted = rooted_same l n k s r.live.rooted; extent = r.live.extent };
      bytes = extent_file k e l r.live.extent ∙ s.file ∙ sym (extent_file n e l r.live.extent) ∙ r.bytes;
    }

reached_onward : {m0 m n : Meaning} {e : Extent} {t : State} {k : Meaning} {u : State} → Reached m0 e m n t → Onward n t k u → Reached m0 e m k u
reached_onward r still = r
reached_onward r (moves o v q) =
    let p = reached_onward r o in
    reached_same p (called p.history v) (quiet_step p.live.live p.history v q p.live.rooted)
reached_onward r (lookups.meanwhile {n = n} {k = k} o b) =
    let p = reached_onward r o in
    reached_same p (meanwhile p.history b) (same_bytes p.live.live n k b.sectors b.bytes)
reached_onward r (lookups.remounted {n = n} {k = k} o b) =
    let p = reached_onward r o in
    reached_same p (remounted p.history b) (same_bytes p.live.live n k b.sectors b.bytes)

-- a lookup along a history is a run of lookup calls, and it reaches where the history went
along_run : {m0 m : Meaning} {s : State} {e : Extent} {key : List ℕ} {c : Cursor} {b : List ℕ} {ks : List calls.Call} {es : List runs.Event} {c' : Cursor} {b' : List ℕ} {n : Meaning} {t : State}
    → Reached m0 e m m s → Along e key c b m s ks es c' b' n t → runs.Run m e key c b ks es c' b' × Reached m0 e m n t
along_run r none = (runs.none, r)
along_run r (onward a o) = let p = along_run r a in (p.0, reached_onward p.1 o)
along_run {e = e} r (looks {n = n} k ev a ok at) =
    let p = along_run r a in
    (runs.more p.0 n k ev (λ was. (ok, p.1.bytes)) at, p.1)

pub lookups_give_published : LookupsGivePublished
lookups_give_published m n h s e hist at ok =
    let f = sound hist in
    let g = f.good in
    let same : at.live ≡ g.live = same_live f at.live at.rooted in
    let whole : file n e ≡ live_file n g.live = extent_file n e at.live at.extent ∙ ap (live_file n) same in
    let law : Lawful (file n e) f.records = subst (λ (q : List ℕ). Lawful q f.records) (sym whole) g.lawful in
    let first : Reached m e n n s = record { events = h; history = hist; live = at; bytes = refl } in
    record {
      draft = f.draft;
      records = f.records;
      published = f.published;
      starts = λ key x st. let z = start_done n e f.records key (Err x) ok law st in let y : ◌≡◌ {A = ℕ} 0 1 = cc in omega arith;
      gives = λ key c c' b b' ks es k t st a.
          let p = along_run first a in
          (law_of_lookups n e f.records key c c' b b' ks es ok law st p.0, run_wrote n e key c b c' b' ks es p.0);
    }
