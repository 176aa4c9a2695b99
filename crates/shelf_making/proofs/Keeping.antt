-- A make leaves the former live file, or the new one.
use Rattle.std.proofs.Common.{◌≡◌, ℕ, ◌*◌, ◌<◌, ◌≤◌, Bool, true, false, cond, ◌⊎◌, List, length, Some, None, Ok, Err, Option, Result, sym, refl, ap, ◌∙◌, subst, inl, inr, ⊎_elim, arith}
use Rattle.std.proofs.lemmas.Bool.{eqb-true}
use Rattle.byte_lists.specs.Bytes.{part, laid}
use Rattle.faults.specs.declared.device.DeviceFault.{DeviceFault}
use Rattle.device.specs.Meanings.{Meaning, Whole, Written, is_bad}
use Rattle.cdb.specs.Records.{Record}
use Rattle.cdb.specs.Rules.{Lawful}
use Rattle.writing.specs.Runs.{Keeps, Completed}
use Rattle.writing.proofs.Keeping.{keeps_both, keeps_less}
use Rattle.writing.proofs.Running.{piece_runs, bad_after}
use Rattle.building.proofs.Slotted.{part_same}
use Rattle.building.specs.declared.entries.Entry.{Entry}
use Rattle.areas.specs.Geometry.{other}
use Rattle.areas.proofs.Rooted.{root_long}
use Rattle.shelf.specs.declared.fault.ShelfFault.{ShelfFault}
use Rattle.shelf.specs.declared.fault.ShelfFault.TheVariants.{File, Size, NoRoot, Entries, Full, Small}
use Rattle.shelf.specs.declared.refusals.Refused.{Refused}
use Rattle.shelf.specs.declared.states.Shelf as states
use Rattle.shelf.specs.declared.states.Draft.{Draft}
use Rattle.shelf.specs.declared.states.Finished.{Finished}
use Rattle.shelf.specs.Reports.{shelf_report}
use Rattle.shelf.specs.States.{Live, live_of, live_at_finished, file_room, Begun}
use Rattle.shelf.specs.Finishes.{Finishes}
use Rattle.shelf.specs.Publishes.{live_after, next_root, Accepted, PublishStopped, ends_draft, given_back, Publishes}
use Rattle.shelf.specs.Drafts.{finished_file}
use Rattle.history.specs.Laws.{live_file}
use Rattle.history.proofs.Living.{behind_root}
use Rattle.history.proofs.Switched as switched
use Rattle.history.proofs.Switched.{Reads, root_stored, refused_publish, switched_rooted, switched_lawful}
use Rattle.making.specs.Sizes.{made_length}
use Rattle.making.proofs.Backward.{gives_back}
use Rattle.shelf_making.specs.declared.fault.ShelfMakeFault.{ShelfMakeFault}
use Rattle.shelf_making.specs.declared.fault.MakeRefused.{MakeRefused}
use Rattle.shelf_making.specs.Reports.{make_report}
use Rattle.shelf_making.specs.Refusals.{ComesBack, AfterPublish, GivesFinishedBack}
use Rattle.shelf_making.specs.Adding.{AddedAll}
use Rattle.shelf_making.specs.Ending.{published, finish_refused, publish_refused}
use Rattle.shelf_making.specs.Makes.{Makes, add_refused, ended}
use Rattle.shelf_making.specs.Laws.{OutsideIdle, NewRoot, Renewed, Unchanged, CutAtRoot, KeepsLive}
use Rattle.shelf_making.proofs.Rooting.{root_keeps}
use Rattle.shelf_making.proofs.Staying.{add_unchanged, finish_unchanged}
use Rattle.shelf_making.proofs.Ready as ready

module _ (m : Meaning) (s : states.Shelf) (d : Draft) (es : List Entry) (rs : List Record) (e : Draft) (k : Meaning) (fs : List Entry) (f : Finished) (j : Meaning)
    (whole : Whole m) (b : Begun s d) (w : AddedAll m d es rs e k fs) (fin : Finishes k e fs (Ok f) j) where
  abbrev l : Live
  l = live_of s

  live : live_at_finished f ≡ l
  live = ready.live_f m s d es rs e k fs f j whole b w fin

  long : length j.bytes ≡ 512 * j.sectors
  long = ready.long m s d es rs e k fs f j whole b w fin

  kept : Keeps m (OutsideIdle l) j
  kept = ready.kept m s d es rs e k fs f j whole b w fin

  lawful : Lawful (finished_file j f) rs
  lawful = ready.lawful m s d es rs e k fs f j whole b w fin

  made : f.made ≡ made_length rs
  made = ready.made m s d es rs e k fs f j whole b w fin

  room : made_length rs ≤ file_room l
  room = ready.room m s d es rs e k fs f j whole b w fin

  sectors : j.sectors ≡ l.sectors
  sectors = kept.sectors ∙ ready.sized m s d es rs e k fs f j whole b w fin

  after_root : (n : Meaning) (r : Result (Unit {0}) DeviceFault) → Written j 0 (next_root f) r n → Keeps m (λ i. (512 ≤ i) × OutsideIdle l i) n
  after_root n r t =
      let o : Keeps j (λ i. 512 ≤ i) n = root_keeps j n (next_root f) r (root_long (other f.live.root.area) f.made) (omega (arith, long, sectors, room)) t in
      keeps_both m j n _ _ _ kept o (λ i out. out.1) (λ i out. out.0)

  -- the root was written, so its sector is good
  root_good : (n : Meaning) → Written j 0 (next_root f) (Ok tt) n → is_bad m 0 ≡ false
  root_good n t =
      let size = root_long (other f.live.root.area) f.made in
      let run : Completed j 0 (next_root f) n = piece_runs j 0 (next_root f) (Ok tt) n (omega (arith, size)) (omega (arith, size)) (omega (arith, size, long, sectors, room)) t in
      sym (bad_after m j 0 kept.condition) ∙ run.good 0 (omega (arith, size), omega arith, omega (arith, size))

  -- the new root stands
  module _ (n : Meaning) (clear : Accepted j f) (same : n.sectors ≡ j.sectors) (bytes : n.bytes ≡ laid j.bytes 0 (next_root f)) where
    new_root : NewRoot l rs n (live_after f)
    new_root = record {
      area = ap (λ (q : Live). other q.area) live;
      len = made;
      rooted = switched_rooted j n f rs long clear lawful.reads same bytes;
      lawful = switched_lawful j n f rs long clear lawful.reads same bytes;
    }

  pub renewed : (n : Meaning) (t : states.Shelf) → Publishes j f (Ok t) n → Renewed m l (length es) rs n t
  renewed n t p =
      let st = root_stored j n f (omega (arith, sectors, room)) p.1 in
      let root : NewRoot l rs n (live_of t) = subst (λ (q : Live). NewRoot l rs n q) (sym p.2) (new_root n p.0 st.0 st.1) in
      record {
        root = root;
        back = gives_back (live_file n (live_of t)) rs root.lawful;
        keeps = after_root n (Ok tt) p.1;
        same = ready.sized m s d es rs e k fs f j whole b w fin;
        enough = ready.enough m s d es rs e k fs f j whole b w fin;
        room = room;
        on = ready.on m s d es rs e k fs f j whole b w fin;
        good = ready.good m s d es rs e k fs f j whole b w fin;
        root_good = root_good n p.1;
      }

  root_outside : (i : ℕ) → i < 512 → OutsideIdle l i
  root_outside i v = let z = behind_root l.sectors (other l.area) in inl (omega arith)

  root_same : (n : Meaning) → Keeps m (OutsideIdle l) n → part n.bytes 0 512 ≡ part m.bytes 0 512
  root_same n o = part_same n.bytes m.bytes 0 512 (omega (arith, o.long, kept.long, long, sectors, room)) (omega (arith, kept.long, long, sectors, room)) (λ i u v. o.same i (root_outside i v))

  -- a refused publish that left the device as it was
  still : (n : Meaning) (x : Refused (Option Finished)) (y : MakeRefused) → n ≡ j → GivesFinishedBack x y → (o : Bool) → ends_draft x.fault ≡ o → x.draft ≡ cond o None (Some f)
      → Unchanged m l n y ⊎ CutAtRoot m l rs n y
  still n x y same back false z u =
      let a : AfterPublish (Some f) y.shelf = subst (λ (q : Option Finished). AfterPublish q y.shelf) u back.1 in
      inl (record {
        shelf = subst (λ (q : Live). ComesBack q y.shelf) live a;
        keeps = subst (λ (q : Meaning). Keeps m (OutsideIdle l) q) (sym same) kept;
      })
  still n x y same back true z u =
      let a : AfterPublish None y.shelf = subst (λ (q : Option Finished). AfterPublish q y.shelf) u back.1 in
      let number : (shelf_report x.fault).number ≡ 21 = eqb-true (shelf_report x.fault).number 21 z in
      let kept_n : Keeps m (OutsideIdle l) n = subst (λ (q : Meaning). Keeps m (OutsideIdle l) q) (sym same) kept in
      inr (record {
        fault = ap (λ (q : ShelfMakeFault). (make_report q).number) back.0 ∙ number;
        shelf = a;
        keeps = keeps_less m n _ _ kept_n (λ i out. out.1);
        root = inl (root_same n kept_n);
      })

  -- power went at the root
  cut : (n : Meaning) (x : Refused (Option Finished)) (y : MakeRefused) → switched.CutAtRoot j f x.fault n → GivesFinishedBack x y → x.draft ≡ given_back x.fault f
      → PublishStopped j f x.fault n → CutAtRoot m l rs n y
  cut n x y c back u p =
      let none' : x.draft ≡ None = u ∙ ap (λ q. given_back q f) c.fault in
      let a : AfterPublish None y.shelf = subst (λ (q : Option Finished). AfterPublish q y.shelf) none' back.1 in
      record {
        fault = ap (λ (q : ShelfMakeFault). (make_report q).number) back.0 ∙ ap (λ q. (shelf_report q).number) c.fault;
        shelf = a;
        keeps = stopped_keeps x.fault p;
        root = ⊎_elim (λ z. inl (ap (λ (q : List ℕ). part q 0 512) z ∙ root_same j kept)) (λ z. inr (live_after f, new_root n c.clear c.sectors z)) c.bytes;
      }
    where
      from_same : n ≡ j → Keeps m (λ i. (512 ≤ i) × OutsideIdle l i) n
      from_same z = subst (λ (q : Meaning). Keeps m (λ i. (512 ≤ i) × OutsideIdle l i) q) (sym z) (keeps_less m j _ _ kept (λ i out. out.1))

      stopped_keeps : (z : ShelfFault) → PublishStopped j f z n → Keeps m (λ i. (512 ≤ i) × OutsideIdle l i) n
      stopped_keeps Size q = from_same q.1
      stopped_keeps (File v) (inl q) = from_same q.3
      stopped_keeps (File v) (inr q) = after_root n (Err q.0) q.3
      stopped_keeps NoRoot q = absurd q
      stopped_keeps Entries q = absurd q
      stopped_keeps Full q = absurd q
      stopped_keeps Small q = absurd q

  pub publish_kept : (n : Meaning) (x : Refused (Option Finished)) (y : MakeRefused) → Publishes j f (Err x) n → GivesFinishedBack x y → Unchanged m l n y ⊎ CutAtRoot m l rs n y
  publish_kept n x y p back =
      ⊎_elim (λ z. still n x y z back (ends_draft x.fault) refl p.1) (λ c. inr (cut n x y c back p.1 p.0)) (refused_publish j n f x p)

pub keeps_live : (m n : Meaning) (s : states.Shelf) (es fs : List Entry) (rs : List Record) (r : Result states.Shelf MakeRefused) → Whole m → Makes m s es rs r n fs → KeepsLive m s (length es) rs r n
keeps_live m n s es fs rs (Err y) whole (add_refused {d = d} x b a back) = inl (add_unchanged m s d es rs whole.long b x y a back)
keeps_live m n s es fs rs (Ok t) whole (ended {k = k} {d = d} {e = e} b w (published {k = j} {f = f} fin p)) = renewed m s d es rs e k fs f j whole b w fin n t p
keeps_live m n s es fs rs (Err y) whole (ended {d = d} b w (finish_refused x fin back)) = inl (finish_unchanged m s d es rs whole.long b x y w fin back)
keeps_live m n s es fs rs (Err y) whole (ended {k = k} {d = d} {e = e} b w (publish_refused {k = j} {f = f} x fin p back)) = publish_kept m s d es rs e k fs f j whole b w fin n x y p back
