-- In a lawful file the data of a key are gathered whole and in order.
use Rattle.std.proofs.Common.{◌≡◌, ℕ, ◌+◌, ◌-◌, ◌<◌, ◌≤◌, true, false, List, [], ◌∷◌, ◌++◌, map, filter, length, Some, None, Ok, Err, Option, Result, sym, refl, ap, ◌∙◌, subst, ⊎_elim, arith}
use Rattle.std.proofs.lemmas.List.{append-nil, append_assoc}
use Rattle.std.proofs.lemmas.Bool.{cond-true, cond-false, cases_Bool}
use Rattle.std.specs.Global.{Vec}
use Rattle.std.specs.Str.{bytes_eq}
use Rattle.byte_lists.specs.Bytes.{part}
use Rattle.faults.specs.declared.file.FileFault.{FileFault}
use Rattle.device.specs.Meanings.{Meaning}
use Rattle.cdb.specs.Records.{Record, Records, Item, size}
use Rattle.cdb.specs.Files.{position}
use Rattle.cdb.specs.Rules.{Lawful}
use Rattle.cdb.proofs.TableLaw.{LawfulFile}
use Rattle.cdb.proofs.ByTable.{by_table}
use Rattle.file.specs.declared.extents.Extent.{Extent}
use Rattle.file.specs.Extents.{file, Readable}
use Rattle.lookup.specs.declared.cursors.Cursor.{Cursor}
use Rattle.lookup.specs.declared.cursors.Found.{Found}
use Rattle.lookup.specs.Nexts as nexts
use Rattle.lookup.specs.Nexts.{Next, Walk}
use Rattle.lookup.specs.Starts.{Start, fresh}
use Rattle.lookup.specs.Fetches as takes
use Rattle.lookup.specs.Fetches.{Takes, Fetch}
use Rattle.lookup_runs.specs.Datas.{data_at, datas}
use Rattle.lookup_runs.proofs.Held.{Holding, short, not_bad}
use Rattle.lookup_runs.proofs.Walking.{data_of_item, State}
use Rattle.lookup_runs.proofs.Giving.{next_step, first, first_found, start_state, start_done}
use Rattle.gathering.specs.declared.gather.GatherFault.{GatherFault}
use Rattle.gathering.specs.declared.gather.GatherFault.TheVariants.{File, Memory}
use Rattle.gathering.specs.Gathers.{data_with, FetchedWhole, FetchRefused, Sofar, started, another, Gathered, ended, start_refused, next_refused, fetch_refused, bytes_of, GatherRefused, Gathers, GathersRecords, FetchStopped}

abbrev Answers : Type 0
Answers = Result (Option Found) FileFault

-- each of these data stands before a place of the file, and they hold these bytes, in turn
abbrev Hold : List ℕ → ℕ → List Found → List (List ℕ) → Type 0
Hold whole end [] [] = Unit {0}
Hold whole end [] (v ∷ vs) = ⊥
Hold whole end (x ∷ xs) [] = ⊥
Hold whole end (x ∷ xs) (v ∷ vs) = (x.place + x.len ≤ end) × (part whole x.place x.len ≡ v) × Hold whole end xs vs

datas_hold : (whole : List ℕ) (p end : ℕ) (rs : List Record) (key : List ℕ) → Records whole p end rs → Hold whole end (datas p rs key) (data_with key rs)
datas_hold whole p end [] key h = tt
datas_hold whole p end (r ∷ rs) key h =
    let t : Record → _ = λ (q : Record). bytes_eq q.key key in
    let rest = datas_hold whole (p + size r) end rs key h.5 in
    ⊎_elim
    (λ (b : bytes_eq r.key key ≡ true).
    rw (cond-true (bytes_eq r.key key) (data_at p r ∷ datas (p + size r) rs key) (datas (p + size r) rs key) b, cond-true (bytes_eq r.key key) (r ∷ filter t rs) (filter t rs) b)
    (omega (arith, h.4), h.3, rest))
    (λ (b : bytes_eq r.key key ≡ false).
    rw (cond-false (bytes_eq r.key key) (data_at p r ∷ datas (p + size r) rs key) (datas (p + size r) rs key) b, cond-false (bytes_eq r.key key) (r ∷ filter t rs) (filter t rs) b) rest)
    (cases_Bool (bytes_eq r.key key))

some_err : (x : Option Found) (f : FileFault) → ◌≡◌ {A = Answers} (Err f) (Ok x) → ⊥
some_err x f e = let z : ◌≡◌ {A = ℕ} 0 1 = cc in omega arith

none_some : (x : Found) → ◌≡◌ {A = Answers} (Ok (Some x)) (Ok None) → ⊥
none_some x e = let z : ◌≡◌ {A = ℕ} 0 1 = cc in omega arith

module _ (m : Meaning) (e : Extent) (key : List ℕ) (rs : List Record) (rd : Readable m e) (lawful : Lawful (file m e) rs) where
  abbrev F : List ℕ
  F = file m e

  law : LawfulFile F rs
  law = by_table F rs lawful

  abbrev found : List Item → List Found
  found ys = map (data_of_item F) ys

  holds : Holding F e m
  holds = record { readable = rd; bytes = refl }

  -- the items that are still to come at a cursor, and the bytes of their data, which with those that were gathered are those of the key
  record Left (c : Cursor) (ds : List (List ℕ)) : Type 0 where
    items : List Item
    data' : List (List ℕ)
    state : State F rs law e key c items
    hold : Hold F (position F 0) (found items) data'
    all : ds ++ data' ≡ data_with key rs

  at_start : (c : Cursor) → Start m e key (Ok c) → Left c []
  at_start c st =
      let q : Ok c ≡ Ok (fresh m e key) = start_done m e rs key (Ok c) rd lawful st in
      let z : fresh m e key ≡ c = cc in
      record {
        items = first F rs law e key;
        data' = data_with key rs;
        state = subst (λ (u : Cursor). State F rs law e key u (first F rs law e key)) z (start_state F rs law e key m holds);
        hold = subst (λ (xs : List Found). Hold F (position F 0) xs (data_with key rs)) (sym (first_found F rs law e key)) (datas_hold F 2048 (position F 0) rs key law.read);
        all = refl;
      }

  -- data that a next found are fetched whole
  fetch_gives : (x : Found) (v : List ℕ) → x.place + x.len ≤ position F 0 → part F x.place x.len ≡ v → (new : List ℕ) → FetchedWhole m e x new → new ≡ v
  fetch_gives x v fits is new (old, long, takes.filled i a) =
      let z : x.place + 0 ≡ x.place = omega arith in
      ap (λ (p : ℕ). part F p (length old)) z ∙ ap (part F x.place) long ∙ is

  fetch_done : (x : Found) → x.place + x.len ≤ position F 0 → (f : FileFault) → FetchRefused m e x f → ⊥
  fetch_done x fits f (old, new, long, takes.outside a) =
      let whole = short F e m holds in
      let inside = law.within in
      a (record { on_device = rd.on; in_file = omega arith; in_data = omega arith })
  fetch_done x fits f (old, new, long, takes.stopped {f = g} i b) = not_bad F e m holds (x.place + 0) (length old) g i.in_file b

  -- a next finds the first of the data to come
  after : (c c' : Cursor) (x : Found) (ds : List (List ℕ)) (new : List ℕ) → Left c ds → Next m c key (Ok (Some x)) c' → FetchedWhole m e x new → Left c' (ds ++ new ∷ [])
  after c c' x ds new l n f = by l.items l.data' l.state l.hold l.all
    where
      by : (ys : List Item) (vs : List (List ℕ)) → State F rs law e key c ys → Hold F (position F 0) (found ys) vs → ds ++ vs ≡ data_with key rs → Left c' (ds ++ new ∷ [])
      by [] vs s h all = absurd (none_some x (next_step F rs law e key m holds c [] s (Ok (Some x)) c' n).0)
      by (y ∷ ys) [] s h all = absurd h
      by (y ∷ ys) (v ∷ vs) s h all =
          let k = next_step F rs law e key m holds c (y ∷ ys) s (Ok (Some x)) c' n in
          let q : Ok (Some x) ≡ Ok (Some (data_of_item F y)) = k.0 in
          let z : data_of_item F y ≡ x = cc in
          let is : new ≡ v = fetch_gives x v (subst (λ (u : Found). u.place + u.len ≤ position F 0) z h.0) (subst (λ (u : Found). part F u.place u.len ≡ v) z h.1) new f in
          record {
            items = ys;
            data' = vs;
            state = k.1;
            hold = h.2;
            all = ap (λ (w : List ℕ). (ds ++ w ∷ []) ++ vs) is ∙ append_assoc ds (v ∷ []) vs ∙ all;
          }

  left : (c : Cursor) (ds : List (List ℕ)) → Sofar m e key c ds → Left c ds
  left c ds (started st) = at_start c st
  left c ds (another {c = b} {x = x} {ds = fs} {new = new} s n f) = after b c x fs new (left b fs s) n f

  -- a next that answers none comes after the last
  at_end : (c c' : Cursor) (ds : List (List ℕ)) → Left c ds → Next m c key (Ok None) c' → ds ≡ data_with key rs
  at_end c c' ds l n = by l.items l.data' l.state l.hold l.all
    where
      by : (ys : List Item) (vs : List (List ℕ)) → State F rs law e key c ys → Hold F (position F 0) (found ys) vs → ds ++ vs ≡ data_with key rs → ds ≡ data_with key rs
      by [] [] s h all = sym (append-nil ds) ∙ all
      by [] (v ∷ vs) s h all = absurd h
      by (y ∷ ys) vs s h all = absurd (none_some (data_of_item F y) (sym (next_step F rs law e key m holds c (y ∷ ys) s (Ok None) c' n).0))

  next_done : (c c' : Cursor) (ds : List (List ℕ)) (f : FileFault) → Left c ds → Next m c key (Err f) c' → ⊥
  next_done c c' ds f l n = some_err _ f (next_step F rs law e key m holds c l.items l.state (Err f) c' n).0

  fetches_done : (c c' : Cursor) (x : Found) (ds : List (List ℕ)) (f : FileFault) → Left c ds → Next m c key (Ok (Some x)) c' → FetchRefused m e x f → ⊥
  fetches_done c c' x ds f l n r = by l.items l.data' l.state l.hold
    where
      by : (ys : List Item) (vs : List (List ℕ)) → State F rs law e key c ys → Hold F (position F 0) (found ys) vs → ⊥
      by [] vs s h = none_some x (next_step F rs law e key m holds c [] s (Ok (Some x)) c' n).0
      by (y ∷ ys) [] s h = h
      by (y ∷ ys) (v ∷ vs) s h =
          let q : Ok (Some x) ≡ Ok (Some (data_of_item F y)) = (next_step F rs law e key m holds c (y ∷ ys) s (Ok (Some x)) c' n).0 in
          let z : data_of_item F y ≡ x = cc in
          fetch_done x (subst (λ (u : Found). u.place + u.len ≤ position F 0) z h.0) f r

  start_goes : (f : FileFault) → Start m e key (Err f) → ⊥
  start_goes f st = let q = start_done m e rs key (Err f) rd lawful st in let z : ◌≡◌ {A = ℕ} 0 1 = cc in omega arith

  gives : (ds : List (List ℕ)) → Gathered m e key (Ok ds) → ds ≡ data_with key rs
  gives ds (ended {c = c} {c' = c'} s n) = at_end c c' ds (left c ds s) n

  refuses : (f : FileFault) → Gathered m e key (Err f) → ⊥
  refuses f (start_refused st) = start_goes f st
  refuses f (next_refused {c = c} {c' = c'} {ds = ds} s n) = next_done c c' ds f (left c ds s) n
  refuses f (fetch_refused {c = c} {c' = c'} {x = x} {ds = ds} s n r) = fetches_done c c' x ds f (left c ds s) n r

pub gathers_records : (m : Meaning) (e : Extent) (key : List ℕ) (r : Result (Vec (Vec ℕ)) GatherFault) → Gathers m e key r → GathersRecords m e key r
gathers_records m e key (Ok all) g = λ rs rd law. gives m e key rs rd law (bytes_of all.items) g
gathers_records m e key (Err (File f)) g = λ rs rd law. refuses m e key rs rd law f g
gathers_records m e key (Err (Memory a)) g = tt

-- a next that finds data has probed one slot more at least, and not more than there are
pub next_smaller : (m : Meaning) (c c' : Cursor) (key : List ℕ) (x : Found) → Next m c key (Ok (Some x)) c' → c'.slots - c'.probed < c.slots - c.probed
next_smaller m c c' key x (nexts.walked a b (nexts.found l p q)) = omega (arith, p.from)

-- a fetch that has no bytes to give ends a lookup
pub fetch_stops : (m : Meaning) (e : Extent) (key : List ℕ) (c c' : Cursor) (x : Found) (ds : List (List ℕ)) (f : GatherFault)
    → Sofar m e key c ds → Next m c key (Ok (Some x)) c' → FetchStopped m e x f → GatherRefused m e key f
fetch_stops m e key c c' x ds (File f) s n r = fetch_refused s n r
fetch_stops m e key c c' x ds (Memory a) s n r = tt

-- the bytes of one more
pub bytes_more : (vs : List (Vec ℕ)) (v : Vec ℕ) → bytes_of (vs ++ v ∷ []) ≡ bytes_of vs ++ v.items ∷ []
bytes_more [] v = refl
bytes_more (w ∷ vs) v = ap (λ (xs : List (List ℕ)). w.items ∷ xs) (bytes_more vs v)

-- what a next found, on the device as it was
pub found_then : (m n : Meaning) → n ≡ m → (c : Cursor) (key : List ℕ) (c' : Cursor) (o : Option Found) (x : Found) → o ≡ Some x → Next n c key (Ok o) c' → Next m c key (Ok (Some x)) c'
found_then m n same c key c' o x is a = subst (λ (k : Meaning). Next k c key (Ok (Some x)) c') same (subst (λ (q : Option Found). Next n c key (Ok q) c') is a)
