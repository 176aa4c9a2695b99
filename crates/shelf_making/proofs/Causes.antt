-- A refusal of a make has its cause.
use Rattle.std.proofs.Common.{◌≡◌, ℕ, ◌+◌, ◌*◌, ◌≤◌, List, ◌∷◌, ◌++◌, length, Ok, Err, Result, sym, ap, ◌∙◌, subst, inl, inr, arith, length-append}
use Rattle.std.specs.List.{flat_map}
use Rattle.std.proofs.lemmas.List.{length-take-le}
use Rattle.faults.specs.declared.device.DeviceFault.{DeviceFault}
use Rattle.faults.specs.declared.file.FileFault.{FileFault}
use Rattle.faults.specs.Reports.{located}
use Rattle.device.specs.Meanings.{Meaning, Whole, Written}
use Rattle.cdb.specs.Records.{Record, record_bytes, size}
use Rattle.writing.specs.Runs.{Completed, Interrupted, at_place}
use Rattle.writing.proofs.Keeping.{counted_before}
use Rattle.writing.proofs.Running.{piece_runs}
use Rattle.writing.proofs.Recorded.{record_long}
use Rattle.building.specs.declared.entries.Entry.{Entry}
use Rattle.building.specs.Closes.{Closes}
use Rattle.areas.specs.Geometry.{other}
use Rattle.areas.proofs.Rooted.{root_long}
use Rattle.shelf.specs.declared.fault.ShelfFault.{ShelfFault}
use Rattle.shelf.specs.declared.fault.ShelfFault.TheVariants.{File, Size, NoRoot, Entries, Full, Small}
use Rattle.shelf.specs.declared.states.Shelf as states
use Rattle.shelf.specs.declared.states.Draft.{Draft}
use Rattle.shelf.specs.declared.states.Finished.{Finished}
use Rattle.shelf.specs.States.{Live, live_of, live_at_draft, file_start, file_room, Begun}
use Rattle.shelf.specs.Adds as adds
use Rattle.shelf.specs.Adds.{next_place}
use Rattle.shelf.specs.Finishes.{entries_of, Finishes, FinishStopped}
use Rattle.shelf.specs.Publishes.{next_root, PublishStopped}
use Rattle.making.specs.Sizes.{end_of, made_length}
use Rattle.making.specs.Laws.{Cause}
use Rattle.making.proofs.Caused.{cause}
use Rattle.making.proofs.Written.{flat_append}
use Rattle.shelf_making.specs.declared.fault.ShelfMakeFault.{ShelfMakeFault}
use Rattle.shelf_making.specs.declared.fault.ShelfMakeFault.TheVariants.{Shelf}
use Rattle.shelf_making.specs.declared.fault.MakeRefused.{MakeRefused}
use Rattle.shelf_making.specs.Adding.{AddedAll}
use Rattle.shelf_making.specs.Ending.{finish_refused, publish_refused}
use Rattle.shelf_making.specs.Makes.{Makes, add_refused, ended}
use Rattle.shelf_making.specs.Laws.{ShelfCause, FaultCause, RefusedForCause}
use Rattle.shelf_making.proofs.Chains.{Chained, chained}
use Rattle.shelf_making.proofs.Ready as ready

module _ (m : Meaning) (s : states.Shelf) (d : Draft) (es : List Entry) (whole : Whole m) (b : Begun s d) where
  abbrev l : Live
  l = live_of s

  module _ (done : List Record) (e : Draft) (k : Meaning) (fs : List Entry) (w : AddedAll m d es done e k fs) where
    c : Chained m d es done e k fs
    c = chained w

    live : live_at_draft e ≡ l
    live = c.live ∙ b.live

    sized : k.sectors ≡ e.live.sectors → m.sectors ≡ l.sectors
    sized z = sym c.sectors ∙ z ∙ ap (λ (q : Live). q.sectors) live

    other_size : (k.sectors ≡ e.live.sectors → ⊥) → m.sectors ≡ l.sectors → ⊥
    other_size differ z = differ (c.sectors ∙ z ∙ ap (λ (q : Live). q.sectors) (sym live))

    run : m.sectors ≡ l.sectors → Completed m (next_place d) (flat_map record_bytes done) k
    run z = c.run whole.long (z ∙ ap (λ (q : Live). q.sectors) (sym b.live))

    start : file_start (live_at_draft e) ≡ file_start l
    start = ap file_start live

    position : e.position ≡ end_of done
    position = omega (arith, c.position, b.position)

    records : e.records ≡ length done
    records = omega (arith, c.records, b.records)

    -- an interrupted run in the file, after these adds
    in_file : (n : Meaning) (rs : List Record) (p len : ℕ) (f : DeviceFault) → m.sectors ≡ l.sectors → file_start l ≤ p → p + len ≤ file_start l + made_length rs → Interrupted k p len f n → Cause m (file_start l) (made_length rs) n f
    in_file n rs p len f z low high v =
        let r = run z in
        cause m k n p len (file_start l) (made_length rs) f r.condition r.power (counted_before m.left k.left _ r.left) low high v

    -- a record is refused
    module _ (rs : List Record) (next : Record) (after : List Record) (among : rs ≡ done ++ next ∷ after) (n : Meaning) where
      longer : end_of done + size next + 16 * (length done + 1) ≤ made_length rs
      longer =
          let j = flat_append done (next ∷ after) in
          omega (
            arith,
            ap length among,
            length-append done (next ∷ after),
            ap (λ (z : List Record). length (flat_map record_bytes z)) among,
            ap length j,
            length-append (flat_map record_bytes done) (flat_map record_bytes (next ∷ after)),
            length-append (record_bytes next) (flat_map record_bytes after),
            record_long next,
          )

      pub add_cause : (x : ShelfFault) → adds.AddStopped k e (length fs) next x n → ShelfCause m l (length es) rs x n
      add_cause Size a = other_size a.0
      add_cause Entries a = omega (arith, a.1, c.entries, records, ap length among, length-append done (next ∷ after))
      add_cause Full a = omega (arith, a.2, longer, position, records, ap file_room live)
      add_cause (File x) (fits, f, told, v) =
          let z : m.sectors ≡ l.sectors = sized fits.same in
          (z, (f, e.position, file_start (live_at_draft e), told, inl (in_file n rs (next_place e) (size next) f z (omega (arith, start)) (omega (arith, start, position, longer)) v)))
      add_cause NoRoot a = absurd a
      add_cause Small a = absurd a

    -- the finish is refused
    closes : (n : Meaning) (x : FileFault) → m.sectors ≡ l.sectors → e.records ≤ length fs → Closes k (file_start (live_at_draft e)) e.position (entries_of e fs) (Err x) n
        → (f : DeviceFault) × (p : ℕ) × (x ≡ at_place f p) × Cause m (file_start l) (made_length done) n f
    closes n x z enough (f, inl (told, v)) =
        let ts = length-take-le e.records fs enough in
        (f, e.position, told, in_file n done (file_start (live_at_draft e) + e.position) (16 * length (entries_of e fs)) f z (omega (arith, start)) (omega (arith, start, position, records, ts)) v)
    closes n x z enough (f, inr (told, v)) =
        let r = run z in
        let h = v.built in (
          f,
          0,
          told,
          cause m v.between n (file_start (live_at_draft e)) 2048 (file_start l) (made_length done) f (h.keeps.condition ∙ r.condition) (h.power ∙ r.power)
              (λ y. counted_before m.left k.left _ r.left (counted_before k.left v.between.left _ h.left y)) (omega (arith, start)) (omega (arith, start)) v.refused,
        )

    pub finish_cause : (n : Meaning) (x : ShelfFault) → FinishStopped k e fs x n → ShelfCause m l (length es) done x n
    finish_cause n Size a = other_size a.0
    finish_cause n Entries a = omega (arith, a.1, c.entries, records)
    finish_cause n (File x) a =
        let z : m.sectors ≡ l.sectors = sized a.0 in
        let h = closes n a.2.fault z a.1 a.2.closes in
        let told : x ≡ located (at_place h.0 h.1) 256 (file_start (live_at_draft e)) = a.2.is ∙ ap (λ (q : FileFault). located q 256 (file_start (live_at_draft e))) h.2 in
        (z, (h.0, h.1, file_start (live_at_draft e), told, inl h.3))
    finish_cause n Full a = absurd a
    finish_cause n NoRoot a = absurd a
    finish_cause n Small a = absurd a

    -- the publish is refused
    module _ (f : Finished) (j : Meaning) (fin : Finishes k e fs (Ok f) j) where
      same : m.sectors ≡ l.sectors
      same = ready.sized m s d es done e k fs f j whole b w fin

      root_cause : (n : Meaning) (g : DeviceFault) → Written j 0 (next_root f) (Err g) n → Cause m 0 512 n g
      root_cause n g t =
          let kept = ready.kept m s d es done e k fs f j whole b w fin in
          let long = root_long (other f.live.root.area) f.made in
          let room = ready.room m s d es done e k fs f j whole b w fin in
          let v : Interrupted j 0 (length (next_root f)) g n = piece_runs j 0 (next_root f) (Err g) n (omega (arith, long)) (omega (arith, long)) (omega (arith, long, kept.sectors, same, room)) t in
          cause m j n 0 (length (next_root f)) 0 512 g kept.condition (ready.power m s d es done e k fs f j whole b w fin) (ready.counted m s d es done e k fs f j whole b w fin) (omega arith) (omega (arith, long)) v

      pub publish_cause : (n : Meaning) (x : ShelfFault) → PublishStopped j f x n → ShelfCause m l (length es) done x n
      publish_cause n Size a =
          absurd (a.0 ((ready.kept m s d es done e k fs f j whole b w fin).sectors ∙ same ∙ ap (λ (q : Live). q.sectors) (sym (ready.live_f m s d es done e k fs f j whole b w fin))))
      publish_cause n (File x) (inl a) = absurd (ready.not_refused_by_audit m s d es done e k fs f j whole b w fin a.0 a.2)
      publish_cause n (File x) (inr a) = (same, (a.0, 0, 0, a.1, inr (root_cause n a.0 a.3)))
      publish_cause n NoRoot a = absurd a
      publish_cause n Entries a = absurd a
      publish_cause n Full a = absurd a
      publish_cause n Small a = absurd a

-- the refused call's fault is the make's
told : (m : Meaning) (l : Live) (entries : ℕ) (rs : List Record) (x : ShelfFault) (y : ShelfMakeFault) (n : Meaning) → y ≡ Shelf x → ShelfCause m l entries rs x n → FaultCause m l entries rs y n
told m l entries rs x y n e h = subst (λ (q : ShelfMakeFault). FaultCause m l entries rs q n) (sym e) h

pub refused_for_cause : (m n : Meaning) (s : states.Shelf) (es fs : List Entry) (rs : List Record) (r : Result states.Shelf MakeRefused) → Whole m → Makes m s es rs r n fs
    → RefusedForCause m s (length es) rs r n
refused_for_cause m n s es fs rs (Ok t) whole h = tt
refused_for_cause m n s es fs rs (Err y) whole (add_refused {d = d} x b a back) =
    told m (live_of s) (length es) rs x.fault y.fault n back.0 (add_cause m s d es whole b a.before a.draft a.between a.entries a.added rs a.next a.after a.among n x.fault a.refused.0)
refused_for_cause m n s es fs rs (Err y) whole (ended {k = k} {d = d} {e = e} b w (finish_refused x fin back)) =
    told m (live_of s) (length es) rs x.fault y.fault n back.0 (finish_cause m s d es whole b rs e k fs w n x.fault fin.0)
refused_for_cause m n s es fs rs (Err y) whole (ended {k = k} {d = d} {e = e} b w (publish_refused {k = j} {f = f} x fin p back)) =
    told m (live_of s) (length es) rs x.fault y.fault n back.0 (publish_cause m s d es whole b rs e k fs w f j fin n x.fault p.0)
