-- Every call of a history keeps what is published.
use Rattle.std.proofs.Common.{◌≡◌, ℕ, ◌≤◌, Bool, true, false, cond, List, [], ◌∷◌, ◌++◌, length, Some, None, Ok, Err, Option, sym, refl, ap, ◌∙◌, subst, inl, inr, ⊎_elim, arith}
use mathlib.Core.Bool.{false≢true}
use Rattle.faults.specs.declared.device.DeviceFault.{DeviceFault}
use Rattle.faults.specs.declared.device.DeviceFault.TheVariants.{Range, Power, Bad}
use Rattle.faults.specs.declared.file.FileFault.{FileFault}
use Rattle.device.specs.Meanings.{Meaning}
use Rattle.cdb.specs.Records.{Record}
use Rattle.cdb.specs.Rules.{Lawful}
use Rattle.writing.specs.Runs.{Outside, Keeps, Interrupted}
use Rattle.building.specs.declared.entries.Entry.{Entry}
use Rattle.building.specs.Closes.{Closes}
use Rattle.areas.specs.declared.area.Area.{Area}
use Rattle.areas.proofs.Rooted.{one_root}
use Rattle.shelf.specs.declared.fault.ShelfFault.{ShelfFault}
use Rattle.shelf.specs.declared.fault.ShelfFault.TheVariants.{File, Size, NoRoot, Entries, Full, Small}
use Rattle.shelf.specs.declared.refusals.Refused.{Refused as RefusedCall}
use Rattle.shelf.specs.declared.states.Shelf.{Shelf}
use Rattle.shelf.specs.declared.states.Draft.{Draft}
use Rattle.shelf.specs.declared.states.Finished.{Finished}
use Rattle.shelf.specs.States.{Live, live_of, file_start, file_room, Begun}
use Rattle.shelf.specs.Opens.{Opens}
use Rattle.shelf.specs.Adds.{AddStopped, Adds}
use Rattle.shelf.specs.Finishes.{FinishStopped, Finishes}
use Rattle.shelf.specs.Publishes.{live_after, ends_draft, given_back, Publishes}
use Rattle.shelf.specs.Drafts.{Between}
use Rattle.shelf.proofs.Inside.{Long, InArea, add_inside, finish_inside}
use Rattle.shelf.proofs.Standing.{Stands, between_stands, add_stands, add_stopped_stands, finish_stopped_stands}
use Rattle.history.specs.declared.calls.State.{State}
use Rattle.history.specs.declared.calls.State.TheVariants.{Idle, Adding, Ready, Ended}
use Rattle.history.specs.declared.calls.Answer.{Answer}
use Rattle.history.specs.declared.calls.Answer.TheVariants.{Unfit}
use Rattle.history.specs.Events.{Request, to_open, to_begin, to_add, to_finish, to_publish, to_abandon, Event, began, added, published, interrupted, other, event, Quiet, Published, begins, adds, publishes, new, former, others}
use Rattle.history.specs.Histories.{here, elsewhere, back_to, Step, made, opened, open_refused, begun, record_added, add_refused, finished, finish_refused, draft_published, publish_refused, draft_abandoned, finished_abandoned, unfit, Remounts}
use Rattle.history.specs.Laws.{Rooted, live_file, Tells}
use Rattle.history.proofs.Living.{Same, same_bytes, same_device, long_same, rooted_same, inside_same, lawful_same}
use Rattle.history.proofs.Switched.{Reads, finish_reads, root_stored, CutAtRoot, refused_publish, switched_rooted, switched_long, switched_lawful}

-- what a draft has on the device, while there is power
abbrev pub Prepared : State → Meaning → List Record → Type 0
Prepared (Idle s) m draft = Unit {0}
Prepared (Adding d) m draft = Stands m d draft
Prepared (Ready f) m draft = Reads m f draft
Prepared Ended m draft = Unit {0}

-- a state and a device, with the records of the draft and of the live file
pub record Good (s : State) (m : Meaning) (draft records : List Record) : Type 0 where
  pub live : Live
  pub rooted : Rooted m live
  pub told : Tells s live
  pub lawful : Lawful (live_file m live) records
  pub long : Long m
  pub few : m.sectors ≤ 8388607
  pub ready : m.power ≡ true → Prepared s m draft

-- the device's root names one live file
pub one_live : (m : Meaning) (k l : Live) → m.sectors ≤ 8388607 → Rooted m k → Rooted m l → k ≡ l
one_live m k l few a b =
    let fk = a.names.fits in
    let fl = b.names.fits in
    let e = one_root k.area l.area k.len l.len (omega arith) (omega arith) (sym a.names.is ∙ b.names.is) in
    ap (λ (q : ℕ). record { sectors = q; area = k.area; len = k.len }) (a.sectors ∙ sym b.sectors)
    ∙ ap (λ (q : Area). record { sectors = l.sectors; area = q; len = k.len }) e.0
    ∙ ap (λ (q : ℕ). record { sectors = l.sectors; area = l.area; len = q }) e.1

module _ {s : State} {m : Meaning} {draft records : List Record} (g : Good s m draft records) where
  -- the live file stays
  kept_good : (t : State) (n : Meaning) (draft' : List Record) → Same g.live m n → Tells t g.live → (n.power ≡ true → Prepared t n draft') → Good t n draft' records
  kept_good t n draft' same told ready = record {
    live = g.live;
    rooted = rooted_same g.live m n same g.rooted;
    told = told;
    lawful = lawful_same g.live m n records same g.lawful;
    long = long_same g.live m n same g.long;
    few = omega (arith, same.sectors, g.few);
    ready = ready;
  }

  -- the device stays
  still_good : (t : State) (draft' : List Record) → Tells t g.live → (m.power ≡ true → Prepared t m draft') → Good t m draft' records
  still_good t draft' told ready = kept_good t m draft' (same_device g.live m m refl) told ready

-- power that is on after a refused call was on before
interrupted_on : (m n : Meaning) (p len : ℕ) (f : DeviceFault) → Interrupted m p len f n → n.power ≡ true → m.power ≡ true
interrupted_on m n p len Range v on = absurd v
interrupted_on m n p len Power (inl v) on = ap (λ (q : Meaning). q.power) (sym v.2) ∙ on
interrupted_on m n p len Power (inr v) on = absurd (false≢true (sym v.off ∙ on))
interrupted_on m n p len (Bad b) v on = v.on

same_on : (m n : Meaning) → n ≡ m → n.power ≡ true → m.power ≡ true
same_on m n e on = ap (λ (q : Meaning). q.power) (sym e) ∙ on

add_on : (m n : Meaning) (d : Draft) (k : ℕ) (r : Record) (x : ShelfFault) → AddStopped m d k r x n → n.power ≡ true → m.power ≡ true
add_on m n d k r Size a on = same_on m n a.1 on
add_on m n d k r Entries a on = same_on m n a.2 on
add_on m n d k r Full a on = same_on m n a.3 on
add_on m n d k r (File x) a on = interrupted_on m n _ _ a.1 a.3 on
add_on m n d k r NoRoot a on = absurd a
add_on m n d k r Small a on = absurd a

closes_on : (m n : Meaning) (base end : ℕ) (es : List Entry) (x : FileFault) → Closes m base end es (Err x) n → n.power ≡ true → m.power ≡ true
closes_on m n base end es x (f, inl a) on = interrupted_on m n _ _ f a.1 on
closes_on m n base end es x (f, inr a) on = sym a.1.built.power ∙ interrupted_on a.1.between n _ _ f a.1.refused on

finish_on : (m n : Meaning) (d : Draft) (es : List Entry) (x : ShelfFault) → FinishStopped m d es x n → n.power ≡ true → m.power ≡ true
finish_on m n d es Size a on = same_on m n a.1 on
finish_on m n d es Entries a on = same_on m n a.2 on
finish_on m n d es (File x) a on = closes_on m n _ _ _ a.2.fault a.2.closes on
finish_on m n d es NoRoot a on = absurd a
finish_on m n d es Full a on = absurd a
finish_on m n d es Small a on = absurd a

-- nothing outside the draft's area changed, and the state tells the live file
draft_same : (d : Draft) (m n : Meaning) (draft records : List Record) (g : Good (Adding d) m draft records) → InArea m d n → Same g.live m n
draft_same d m n draft records g k = inside_same g.live m n g.long g.rooted (subst (λ (q : Live). Keeps m (Outside (file_start q) (file_room q)) n) g.told k)

draft_size : (d : Draft) (m : Meaning) (draft records : List Record) → Good (Adding d) m draft records → d.live.sectors ≡ m.sectors
draft_size d m draft records g = ap (λ (q : Live). q.sectors) g.told ∙ g.rooted.sectors

finished_size : (f : Finished) (m : Meaning) (draft records : List Record) → Good (Ready f) m draft records → f.live.sectors ≡ m.sectors
finished_size f m draft records g = ap (λ (q : Live). q.sectors) g.told ∙ g.rooted.sectors

-- outside publications the live file stays
pub stays : {s t : State} {m n : Meaning} {c : Request} {a : Answer} {draft records : List Record} (g : Good s m draft records) → Step m s c a t n → Quiet (event c a) → Same g.live m n
stays g (made (elsewhere op ne) v) q = same_device g.live _ _ refl
stays g (made here (opened o)) q = same_device g.live _ _ refl
stays g (made here (open_refused o)) q = same_device g.live _ _ refl
stays g (made here (begun b)) q = same_device g.live _ _ refl
stays {m = m} {n = n} g (made here (record_added {es = es} {fs = fs} {d = d} {e = e} {r = r} a)) q = draft_same d m n _ _ g (add_inside m n d g.long es fs r (Ok e) a)
stays {m = m} {n = n} g (made here (add_refused {es = es} {fs = fs} {d = d} {r = r} x a)) q = draft_same d m n _ _ g (add_inside m n d g.long es fs r (Err x) a)
stays {m = m} {n = n} g (made here (finished {es = es} {d = d} {f = f} a)) q = draft_same d m n _ _ g (finish_inside m n d g.long es (Ok f) a)
stays {m = m} {n = n} g (made here (finish_refused {es = es} {d = d} x a)) q = draft_same d m n _ _ g (finish_inside m n d g.long es (Err x) a)
stays g (made here (draft_published p)) q = absurd q
stays {m = m} {n = n} g (made here (publish_refused {f = f} x p)) q =
    ⊎_elim (λ e. same_device g.live m n e)
    (λ (k : CutAtRoot m f x.fault n). absurd (subst (λ (z : ShelfFault). Quiet (cond (ends_draft z) interrupted other)) k.fault q)) (refused_publish m n f x p)
stays g (made here (draft_abandoned e)) q = same_device g.live _ _ refl
stays g (made here (finished_abandoned e)) q = same_device g.live _ _ refl
stays g (made here (unfit e)) q = same_device g.live _ _ refl

-- what is published after these events, and a state and a device that have it
pub record Sound (h : List Event) (s : State) (m : Meaning) : Type 0 where
  pub draft : List Record
  pub records : List Record
  pub published : Published h draft records
  pub good : Good s m draft records

abbrev then : List Event → Event → List Event
then h e = h ++ e ∷ []

unfit_other : (c : Request) → event c Unfit ≡ other
unfit_other to_open = refl
unfit_other to_begin = refl
unfit_other (to_add r) = refl
unfit_other to_finish = refl
unfit_other to_publish = refl
unfit_other to_abandon = refl

module _ {h : List Event} where
  -- an open tells the live file
  at_open : {s : State} {m : Meaning} {t : Shelf} → Sound h s m → Opens m (Ok t) → Sound (then h other) (Idle t) m
  at_open {m = m} {t = t} f o =
      let g = f.good in
      let told : live_of t ≡ g.live = one_live m (live_of t) g.live g.few (record { sectors = o.1; names = o.2 }) g.rooted in
      record { draft = f.draft; records = f.records; published = others f.published; good = still_good g (Idle t) f.draft told (λ on. tt) }

  at_begin : {m : Meaning} {s : Shelf} {d : Draft} → Sound h (Idle s) m → Begun s d → Sound (then h began) (Adding d) m
  at_begin {m = m} {d = d} f b =
      let g = f.good in
      record { draft = []; records = f.records; published = begins f.published; good = still_good g (Adding d) [] (b.live ∙ g.told) (λ on. record { long = g.long; position = b.position; stand = refl }) }

  at_add : {m n : Meaning} {d e : Draft} {r : Record} (es fs : List Entry) → Sound h (Adding d) m → Adds m d es r (Ok e) n fs → Sound (then h (added r)) (Adding e) n
  at_add {m = m} {n = n} {d = d} {e = e} {r = r} es fs f a =
      let g = f.good in
      record {
        draft = f.draft ++ r ∷ [];
        records = f.records;
        published = adds r f.published;
        good = kept_good g (Adding e) n (f.draft ++ r ∷ []) (draft_same d m n _ _ g (add_inside m n d g.long es fs r (Ok e) a)) (a.2.live ∙ g.told)
            (λ on. add_stands m n d e es fs f.draft r (g.ready (sym a.1.power ∙ on)) a);
      }

  at_add_refused : {m n : Meaning} {d : Draft} (r : Record) (es fs : List Entry) (x : RefusedCall Draft) → Sound h (Adding d) m → Adds m d es r (Err x) n fs → Sound (then h other) (Adding x.draft) n
  at_add_refused {m = m} {n = n} {d = d} r es fs x f a =
      let g = f.good in
      let k : Good (Adding d) n f.draft f.records = kept_good g (Adding d) n f.draft (draft_same d m n _ _ g (add_inside m n d g.long es fs r (Err x) a)) g.told
      (λ on. add_stopped_stands m n d f.draft (g.ready (add_on m n d (length es) r x.fault a.0 on)) (length es) r x.fault a.0 on) in
      record { draft = f.draft; records = f.records; published = others f.published; good = subst (λ (q : Draft). Good (Adding q) n f.draft f.records) (sym a.1) k }

  at_finish : {m n : Meaning} {d : Draft} {k : Finished} (es : List Entry) → Sound h (Adding d) m → Finishes m d es (Ok k) n → Sound (then h other) (Ready k) n
  at_finish {m = m} {n = n} {d = d} {k = k} es f a =
      let g = f.good in
      record {
        draft = f.draft;
        records = f.records;
        published = others f.published;
        good = kept_good g (Ready k) n f.draft (draft_same d m n _ _ g (finish_inside m n d g.long es (Ok k) a)) (a.3.live ∙ g.told)
            (λ on. finish_reads m n d es f.draft k (g.ready a.2.on) a);
      }

  at_finish_refused : {m n : Meaning} {d : Draft} (es : List Entry) (x : RefusedCall Draft) → Sound h (Adding d) m → Finishes m d es (Err x) n → Sound (then h other) (Adding x.draft) n
  at_finish_refused {m = m} {n = n} {d = d} es x f a =
      let g = f.good in
      let k : Good (Adding d) n f.draft f.records = kept_good g (Adding d) n f.draft (draft_same d m n _ _ g (finish_inside m n d g.long es (Err x) a)) g.told
      (λ on. finish_stopped_stands m n d es f.draft x.fault (g.ready (finish_on m n d es x.fault a.0 on)) a.0 on) in
      record { draft = f.draft; records = f.records; published = others f.published; good = subst (λ (q : Draft). Good (Adding q) n f.draft f.records) (sym a.1) k }

  -- a refused call that leaves the draft and the device
  at_refused : {m : Meaning} {d e : Draft} → Sound h (Adding d) m → e ≡ d → Sound (then h other) (Adding e) m
  at_refused {m = m} {d = d} f e = record {
    draft = f.draft;
    records = f.records;
    published = others f.published;
    good = subst (λ (q : Draft). Good (Adding q) m f.draft f.records) (sym e) f.good;
  }

  -- the draft's file becomes live
  at_publish : {m n : Meaning} {k : Finished} {s : Shelf} → Sound h (Ready k) m → Publishes m k (Ok s) n → Sound (then h published) (Idle s) n
  at_publish {m = m} {n = n} {k = k} {s = s} f p =
      let g = f.good in
      let reads : Reads m k f.draft = g.ready p.0.1.audited.0.power in
      let few : 1 ≤ m.sectors = omega (arith, p.0.1.same, k.past, k.room) in
      let w = root_stored m n k few p.1 in
      record {
        draft = f.draft;
        records = f.draft;
        published = publishes f.published;
        good = record {
          live = live_after k;
          rooted = switched_rooted m n k f.draft g.long p.0 reads w.0 w.1;
          told = p.2;
          lawful = switched_lawful m n k f.draft g.long p.0 reads w.0 w.1;
          long = switched_long m n k f.draft g.long p.0 reads w.0 w.1;
          few = omega (arith, w.0, g.few);
          ready = λ on. tt;
        };
      }

  -- a refused publish that left the device
  refused_back : {m : Meaning} {k : Finished} (b : Bool) (o : Option Finished) → Sound h (Ready k) m → o ≡ cond b None (Some k) → Sound (then h (cond b interrupted other)) (back_to o) m
  refused_back {m = m} {k = k} true o f e = record {
    draft = f.draft;
    records = f.records;
    published = former f.published;
    good = subst (λ (q : Option Finished). Good (back_to q) m f.draft f.records) (sym e) (still_good f.good Ended f.draft tt (λ on. tt));
  }
  refused_back {m = m} {k = k} false o f e = record {
    draft = f.draft;
    records = f.records;
    published = others f.published;
    good = subst (λ (q : Option Finished). Good (back_to q) m f.draft f.records) (sym e) f.good;
  }

  -- one that was cut at the root
  cut_back : {m n : Meaning} {k : Finished} (x : ShelfFault) (o : Option Finished) → Sound h (Ready k) m → CutAtRoot m k x n → o ≡ given_back x k → Sound (then h (cond (ends_draft x) interrupted other)) (back_to o) n
  cut_back {m = m} {n = n} {k = k} x o f c e =
      let g = f.good in
      let reads : Reads m k f.draft = g.ready c.clear.1.audited.0.power in
      let P : ShelfFault → Type 0 = λ q. o ≡ given_back q k in
      let none' : o ≡ None = subst P c.fault e in
      let E : ShelfFault → Type 0 = λ q. Sound (then h (cond (ends_draft q) interrupted other)) (back_to o) n in
      let S : Option Finished → Type 0 = λ q. Sound (then h interrupted) (back_to q) n in
      let old : n.bytes ≡ m.bytes → Sound (then h interrupted) Ended n = λ b. record {
        draft = f.draft;
        records = f.records;
        published = former f.published;
        good = kept_good g Ended n f.draft (same_bytes g.live m n c.sectors b) tt (λ on. tt);
      } in
      subst E (sym c.fault) (subst S (sym none') (⊎_elim old (λ b. record {
        draft = f.draft;
        records = f.draft;
        published = new f.published;
        good = record {
          live = live_after k;
          rooted = switched_rooted m n k f.draft g.long c.clear reads c.sectors b;
          told = tt;
          lawful = switched_lawful m n k f.draft g.long c.clear reads c.sectors b;
          long = switched_long m n k f.draft g.long c.clear reads c.sectors b;
          few = omega (arith, c.sectors, g.few);
          ready = λ on. tt;
        };
      }) c.bytes))

  at_publish_refused : {m n : Meaning} {k : Finished} (x : RefusedCall (Option Finished)) → Sound h (Ready k) m → Publishes m k (Err x) n → Sound (then h (cond (ends_draft x.fault) interrupted other)) (back_to x.draft) n
  at_publish_refused {m = m} {n = n} {k = k} x f p =
      let P : Meaning → Type 0 = λ q. Sound (then h (cond (ends_draft x.fault) interrupted other)) (back_to x.draft) q in
      ⊎_elim (λ e. subst P (sym e) (refused_back (ends_draft x.fault) x.draft f p.1)) (λ c. cut_back x.fault x.draft f c p.1) (refused_publish m n k x p)

  at_ended : {s : State} {m : Meaning} → Sound h s m → Sound (then h other) Ended m
  at_ended f = record { draft = f.draft; records = f.records; published = others f.published; good = still_good f.good Ended f.draft tt (λ on. tt) }

  -- an abandoned draft
  at_abandon : {t : State} {m : Meaning} {s : Shelf} (f : Sound h t m) → live_of s ≡ f.good.live → Sound (then h other) (Idle s) m
  at_abandon {s = s} f e = record { draft = f.draft; records = f.records; published = others f.published; good = still_good f.good (Idle s) f.draft e (λ on. tt) }

  still_sound : {s : State} {m : Meaning} → Sound h s m → Sound (then h other) s m
  still_sound f = record { draft = f.draft; records = f.records; published = others f.published; good = f.good }

  at_unfit : {s : State} {m : Meaning} (c : Request) → Sound h s m → Sound (then h (event c Unfit)) s m
  at_unfit {s = s} {m = m} c f = subst (λ (q : Event). Sound (then h q) s m) (sym (unfit_other c)) (still_sound f)

  pub step : {s t : State} {m n : Meaning} {c : Request} {a : Answer} → Sound h s m → Step m s c a t n → Sound (then h (event c a)) t n
  step f (made here (opened o)) = at_open f o
  step f (made (elsewhere op ne) (opened o)) = absurd (op refl)
  step f (made here (open_refused o)) = at_ended f
  step f (made (elsewhere op ne) (open_refused o)) = absurd (op refl)
  step f (made here (begun b)) = at_begin f b
  step f (made (elsewhere op ne) (begun b)) = at_begin f b
  step f (made here (record_added {es = es} {fs = fs} a)) = at_add es fs f a
  step {m = m} f (made (elsewhere op ne) (record_added {d = d} a)) = absurd (ne (a.0.same ∙ draft_size d m _ _ f.good))
  step f (made here (add_refused {es = es} {fs = fs} {r = r} x a)) = at_add_refused r es fs x f a
  step f (made (elsewhere op ne) (add_refused x a)) = at_refused f a.1
  step f (made here (finished {es = es} a)) = at_finish es f a
  step {m = m} f (made (elsewhere op ne) (finished {d = d} a)) = absurd (ne (a.0 ∙ draft_size d m _ _ f.good))
  step f (made here (finish_refused {es = es} x a)) = at_finish_refused es x f a
  step f (made (elsewhere op ne) (finish_refused x a)) = at_refused f a.1
  step f (made here (draft_published p)) = at_publish f p
  step {m = m} f (made (elsewhere op ne) (draft_published {f = k} p)) = absurd (ne (p.0.1.same ∙ finished_size k m _ _ f.good))
  step f (made here (publish_refused x p)) = at_publish_refused x f p
  step f (made (elsewhere op ne) (publish_refused x p)) = refused_back (ends_draft x.fault) x.draft f p.1
  step f (made here (draft_abandoned e)) = at_abandon f (e ∙ f.good.told)
  step f (made (elsewhere op ne) (draft_abandoned e)) = at_abandon f (e ∙ f.good.told)
  step f (made here (finished_abandoned e)) = at_abandon f (e ∙ f.good.told)
  step f (made (elsewhere op ne) (finished_abandoned e)) = at_abandon f (e ∙ f.good.told)
  step f (made here (unfit {c = c} e)) = at_unfit c f
  step f (made (elsewhere op ne) (unfit {c = c} e)) = at_unfit c f

-- between calls
between_prepared : (s : State) (m n : Meaning) (draft : List Record) → Between m n → Prepared s m draft → Prepared s n draft
between_prepared (Idle s) m n draft b p = tt
between_prepared (Adding d) m n draft b p = between_stands m n d draft b p
between_prepared (Ready f) m n draft b p = subst (λ (q : List ℕ). Reads (record { sectors = m.sectors; bytes = q; condition = m.condition; power = m.power; left = m.left }) f draft) (sym b.bytes) p
between_prepared Ended m n draft b p = tt

pub meanwhile_sound : {h : List Event} {s : State} {m n : Meaning} → Sound h s m → Between m n → Sound h s n
meanwhile_sound {s = s} {m = m} {n = n} f b =
    let g = f.good in
    record { draft = f.draft; records = f.records; published = f.published; good = kept_good g s n f.draft (same_bytes g.live m n b.sectors b.bytes) g.told (λ on. between_prepared s m n f.draft b (g.ready (b.power on))) }

pub remounted_sound : {h : List Event} {s : State} {m n : Meaning} → Sound h s m → Remounts m n → Sound h Ended n
remounted_sound {m = m} {n = n} f r =
    let g = f.good in
    record { draft = f.draft; records = f.records; published = f.published; good = kept_good g Ended n f.draft (same_bytes g.live m n r.sectors r.bytes) tt (λ on. tt) }
