-- The law of lookups.
use Rattle.std.proofs.Common.{◌≡◌, ℕ, zero, suc, ◌+◌, ◌*◌, ◌<◌, ◌≤◌, Bool, true, false, List, [], ◌∷◌, ◌++◌, map, length, Some, None, Ok, Err, filter, Option, Result, sym, refl, ap, ◌∙◌, subst, inl, inr, ⊎_elim, mod-lt, arith}
use Rattle.std.proofs.lemmas.List.{length-append, append-nil, append_assoc}
use Rattle.std.proofs.lemmas.Slice.Eq.{bytes_eq-Decides}
use Rattle.std.proofs.lemmas.Bool.{cond-true, cond-false, cases_Bool}
use Rattle.std.specs.List.{ContainsAt as Has, AllByRecursion}
use Rattle.std.proofs.ByRecursion.{All-push}
use Rattle.std.specs.Str.{bytes_eq}
use Rattle.byte_lists.specs.Bytes.{part, laid}
use Rattle.byte_lists.proofs.Parts.{part_in}
use Rattle.faults.specs.declared.file.FileFault.{FileFault}
use Rattle.faults.specs.declared.file.FileFault.TheVariants.{Range, OtherKey}
use Rattle.device.specs.Meanings.{Meaning}
use Rattle.cdb.specs.Records.{Record, Records, Item, items, size, hash_of, table_of}
use Rattle.cdb.specs.Files.{position}
use Rattle.cdb.specs.Rules.{Lawful}
use Rattle.cdb.proofs.Pigeon.{has_nil, has_head, has_tail, has_cons_cases}
use Rattle.cdb.proofs.TableLaw.{LawfulFile}
use Rattle.cdb.proofs.ByTable.{by_table}
use Rattle.cdb.proofs.FileLookup.{file_lookup}
use Rattle.file.specs.declared.extents.Extent.{Extent}
use Rattle.file.specs.Extents.{On, Readable, file}
use Rattle.lookup.specs.declared.cursors.Cursor.{Cursor}
use Rattle.lookup.specs.declared.cursors.Found.{Found}
use Rattle.lookup.specs.Nexts as nexts
use Rattle.lookup.specs.Nexts.{Next, Walk}
use Rattle.lookup.specs.Starts as starts
use Rattle.lookup.specs.Starts.{Start, fresh}
use Rattle.lookup.specs.Fetches as takes
use Rattle.lookup.specs.Fetches.{Takes, Fetch}
use Rattle.lookup_runs.specs.declared.calls.Wanted.{Wanted}
use Rattle.lookup_runs.specs.declared.calls.Call as calls
use Rattle.lookup_runs.specs.declared.calls.Call.TheVariants as call
use Rattle.lookup_runs.specs.declared.calls.Answer.{Answer}
use Rattle.lookup_runs.specs.Datas.{data_at, datas, StandsAt}
use Rattle.lookup_runs.specs.Runs as runs
use Rattle.lookup_runs.specs.Runs.{Event, asked, strayed, fetched, skipped, told, log, found_by, AtNext, AtFetch, AtCall, Run, more}
use Rattle.lookup_runs.specs.Laws.{nexts_of, in_turn, OfRecord, Lawfully, TiedNext, TiedFetch, Tied, AllTied, wrote, Gives}
use Rattle.lookup_runs.proofs.Held.{Holding, short, word_is, not_bad}
use Rattle.lookup_runs.proofs.Walking.{Of, data_of_item, head_of, tail_of, State, walk_none, walk_next}

abbrev Answered : Type 0
Answered = Result (Option Found) FileFault

-- what is left after n answers
left : ℕ → List Item → List Item
left zero ys = ys
left (suc n) [] = []
left (suc n) (y ∷ ys) = left n ys

nexts_more : (es : List Event) (ev : Event) → nexts_of (es ++ ev ∷ []) ≡ nexts_of es ++ nexts_of (ev ∷ [])
nexts_more [] ev = refl
nexts_more (asked r ∷ es) ev = ap (λ (rs : List Answered). r ∷ rs) (nexts_more es ev)
nexts_more (strayed r ∷ es) ev = nexts_more es ev
nexts_more (fetched w x old r new ∷ es) ev = nexts_more es ev
nexts_more (skipped ∷ es) ev = nexts_more es ev

wrote_more : (es : List Event) (ev : Event) (b : List ℕ) → wrote (es ++ ev ∷ []) b ≡ wrote (ev ∷ []) (wrote es b)
wrote_more [] ev b = refl
wrote_more (asked r ∷ es) ev b = wrote_more es ev b
wrote_more (strayed r ∷ es) ev b = wrote_more es ev b
wrote_more (fetched w x old r new ∷ es) ev b = wrote_more es ev (laid b w.place new)
wrote_more (skipped ∷ es) ev b = wrote_more es ev b

-- what one event wrote, and that it is tied to its call
next_wrote : (m : Meaning) (key : List ℕ) (c c' : Cursor) (k : List ℕ) (ev : Event) (b : List ℕ) → AtNext m key c k ev c' → wrote (ev ∷ []) b ≡ b
next_wrote m key c c' k ev b (runs.asks q n) = refl
next_wrote m key c c' k ev b (runs.strays q n) = refl
next_wrote m key c c' k ev b (runs.equal_hash q n) = refl

fetch_wrote : (m : Meaning) (e : Extent) (ans : List Answer) (b b' : List ℕ) (w : Wanted) (ev : Event) → AtFetch m e ans b w ev b' → wrote (ev ∷ []) b ≡ b'
fetch_wrote m e ans b b' w ev (runs.fetches fo fit f) = refl
fetch_wrote m e ans b b' w ev (runs.not_found fo) = refl
fetch_wrote m e ans b b' w ev (runs.no_part fo l) = refl

call_wrote : (m : Meaning) (e : Extent) (key : List ℕ) (ans : List Answer) (c c' : Cursor) (b b' : List ℕ) (k : calls.Call) (ev : Event) → AtCall m e key ans c b k ev c' b' → wrote (ev ∷ []) b ≡ b'
call_wrote m e key ans c c' b b' (call.Next k) ev a = next_wrote m key c c' k.now ev b a.0 ∙ sym a.1
call_wrote m e key ans c c' b b' (call.Fetch w) ev a = fetch_wrote m e ans b b' w ev a.0

wrote_first : (ev : Event) (es : List Event) (b : List ℕ) → wrote es (wrote (ev ∷ []) b) ≡ wrote (ev ∷ es) b
wrote_first (asked r) es b = refl
wrote_first (strayed r) es b = refl
wrote_first (fetched w x old r new) es b = refl
wrote_first skipped es b = refl

tied_more : (key b : List ℕ) (done : List Answer) (ks : List calls.Call) (es : List Event) (k : calls.Call) (ev : Event) → AllTied key b done ks es
    → Tied key (wrote es b) (done ++ log es) k ev → AllTied key b done (ks ++ k ∷ []) (es ++ ev ∷ [])
tied_more key b done [] [] k ev a t = (subst (λ (xs : List Answer). Tied key b xs k ev) (append-nil done) t, tt)
tied_more key b done [] (x ∷ es) k ev a t = absurd a
tied_more key b done (j ∷ ks) [] k ev a t = absurd a
tied_more key b done (j ∷ ks) (x ∷ es) k ev a t =
    let t1 : Tied key (wrote es (wrote (x ∷ []) b)) (done ++ told x ∷ log es) k ev =
    subst (λ (c : List ℕ). Tied key c (done ++ told x ∷ log es) k ev) (sym (wrote_first x es b)) t in
    let t2 : Tied key (wrote es (wrote (x ∷ []) b)) ((done ++ told x ∷ []) ++ log es) k ev =
    subst (λ (xs : List Answer). Tied key (wrote es (wrote (x ∷ []) b)) xs k ev) (sym (append_assoc done (told x ∷ []) (log es))) t1 in
    (a.0, tied_more key (wrote (x ∷ []) b) (done ++ told x ∷ []) ks es k ev a.1 t2)

next_ties : (m : Meaning) (key : List ℕ) (c c' : Cursor) (k : List ℕ) (ev : Event) → AtNext m key c k ev c' → TiedNext key k ev
next_ties m key c c' k ev (runs.asks q n) = q
next_ties m key c c' k ev (runs.strays q n) = q
next_ties m key c c' k ev (runs.equal_hash q n) = (q, n)

fetch_ties : (m : Meaning) (e : Extent) (ans : List Answer) (b b' : List ℕ) (w : Wanted) (ev : Event) → AtFetch m e ans b w ev b' → TiedFetch b ans w ev
fetch_ties m e ans b b' w ev (runs.fetches fo fit f) = (refl, fo, fit, refl)
fetch_ties m e ans b b' w ev (runs.not_found fo) = inl fo
fetch_ties m e ans b b' w ev (runs.no_part fo l) = inr l

call_tied : (m : Meaning) (e : Extent) (key : List ℕ) (ans : List Answer) (c c' : Cursor) (b b' : List ℕ) (k : calls.Call) (ev : Event)
    → AtCall m e key ans c b k ev c' b' → Tied key b ans k ev
call_tied m e key ans c c' b b' (call.Next k) ev a = next_ties m key c c' k.now ev a.0
call_tied m e key ans c c' b b' (call.Fetch w) ev a = fetch_ties m e ans b b' w ev a.0

pub run_wrote : (m : Meaning) (e : Extent) (key : List ℕ) (c : Cursor) (b : List ℕ) (c' : Cursor) (b' : List ℕ) (ks : List calls.Call) (es : List Event) → Run m e key c b ks es c' b' → b' ≡ wrote es b
run_wrote m e key c b c' b' ks es runs.none = refl
run_wrote m e key c b c' b' ks es (more {ks = js} {es = fs} {c1 = c1} {b1 = b1} run n k ev keeps does) =
    sym (call_wrote n e key (log fs) c1 c' b1 b' k ev does) ∙ ap (wrote (ev ∷ [])) (run_wrote m e key c b c1 b1 js fs run) ∙ sym (wrote_more fs ev b)

pub run_tied : (m : Meaning) (e : Extent) (key : List ℕ) (c : Cursor) (b : List ℕ) (c' : Cursor) (b' : List ℕ) (ks : List calls.Call) (es : List Event) → Run m e key c b ks es c' b' → AllTied key b [] ks es
run_tied m e key c b c' b' ks es runs.none = tt
run_tied m e key c b c' b' ks es (more {ks = js} {es = fs} {c1 = c1} {b1 = b1} run n k ev keeps does) =
    tied_more key b [] js fs k ev (run_tied m e key c b c1 b1 js fs run)
    (subst (λ (d : List ℕ). Tied key d (log fs) k ev) (run_wrote m e key c b c1 b1 js fs run) (call_tied n e key (log fs) c1 c' b1 b' k ev does))

-- data that an answer tells of is told by a next with the key
found_told : (rs : List Record) (key : List ℕ) (es : List Event) (n : ℕ) (x : Found) → AllByRecursion (Lawfully rs key) es → found_by (log es) n ≡ Some x → Has (nexts_of es) (Ok (Some x))
found_told rs key [] n x a q = let y : ◌≡◌ {A = ℕ} 0 1 = cc in absurd (omega arith)
found_told rs key (asked (Ok o) ∷ es) zero x a q = subst (λ (v : Option Found). Has (Ok o ∷ nexts_of es) (Ok v)) q (has_head (Ok o) (nexts_of es))
found_told rs key (asked (Err f) ∷ es) zero x a q = let y : ◌≡◌ {A = ℕ} 0 1 = cc in absurd (omega arith)
found_told rs key (asked r ∷ es) (suc n) x a q = has_tail r (nexts_of es) (Ok (Some x)) (found_told rs key es n x a.1 q)
found_told rs key (strayed (Ok o) ∷ es) zero x a q = let w : Ok o ≡ Err OtherKey = a.0 in let y : ◌≡◌ {A = ℕ} 0 1 = cc in absurd (omega arith)
found_told rs key (strayed (Err f) ∷ es) zero x a q = let y : ◌≡◌ {A = ℕ} 0 1 = cc in absurd (omega arith)
found_told rs key (strayed r ∷ es) (suc n) x a q = found_told rs key es n x a.1 q
found_told rs key (fetched w z old r new ∷ es) zero x a q = let y : ◌≡◌ {A = ℕ} 0 1 = cc in absurd (omega arith)
found_told rs key (fetched w z old r new ∷ es) (suc n) x a q = found_told rs key es n x a.1 q
found_told rs key (skipped ∷ es) zero x a q = let y : ◌≡◌ {A = ℕ} 0 1 = cc in absurd (omega arith)
found_told rs key (skipped ∷ es) (suc n) x a q = found_told rs key es n x a.1 q

turn_has : (n : ℕ) (xs : List Found) (x : Found) → Has (in_turn n xs) (Ok (Some x)) → Has xs x
turn_has zero xs x h = absurd (has_nil (Ok (Some x)) h)
turn_has (suc n) [] x h =
    ⊎_elim
    (λ (q : Ok None ≡ Ok (Some x)). let y : ◌≡◌ {A = ℕ} 0 1 = cc in absurd (omega arith))
    (λ t. turn_has n [] x t)
    (has_cons_cases (Ok None) (in_turn n []) (Ok (Some x)) h)
turn_has (suc n) (z ∷ xs) x h =
    ⊎_elim
    (λ (q : Ok (Some z) ≡ Ok (Some x)). let s : z ≡ x = cc in subst (Has (z ∷ xs)) s (has_head z xs))
    (λ t. has_tail z xs x (turn_has n xs x t))
    (has_cons_cases (Ok (Some z)) (in_turn n xs) (Ok (Some x)) h)

-- the record whose data x is
record Source (whole : List ℕ) (p end : ℕ) (rs : List Record) (key : List ℕ) (x : Found) : Type 0 where
  at : ℕ
  of : Record
  stands : StandsAt p rs at of
  keyed : of.key ≡ key
  found : x ≡ data_at at of
  holds : part whole (at + 8 + length of.key) (length of.data') ≡ of.data'
  fits : at + size of ≤ end

source : (whole : List ℕ) (p end : ℕ) (rs : List Record) (key : List ℕ) (x : Found) → Records whole p end rs → Has (datas p rs key) x → Source whole p end rs key x
source whole p end [] key x h i = absurd (has_nil x i)
source whole p end (r ∷ rs) key x h i =
    let later : Source whole (p + size r) end rs key x → Source whole p end (r ∷ rs) key x =
    λ s. record { at = s.at; of = s.of; stands = inr s.stands; keyed = s.keyed; found = s.found; holds = s.holds; fits = s.fits } in
    ⊎_elim
    (λ (b : bytes_eq r.key key ≡ true).
    let j : Has (data_at p r ∷ datas (p + size r) rs key) x =
    subst (λ (xs : List Found). Has xs x) (cond-true (bytes_eq r.key key) (data_at p r ∷ datas (p + size r) rs key) (datas (p + size r) rs key) b) i in
    ⊎_elim
    (λ (q : data_at p r ≡ x). record { at = p; of = r; stands = inl (refl, refl); keyed = (bytes_eq-Decides r.key key).0 b; found = sym q; holds = h.3; fits = h.4 })
    (λ t. later (source whole (p + size r) end rs key x h.5 t))
    (has_cons_cases (data_at p r) (datas (p + size r) rs key) x j))
    (λ (b : bytes_eq r.key key ≡ false).
    let j : Has (datas (p + size r) rs key) x =
    subst (λ (xs : List Found). Has xs x) (cond-false (bytes_eq r.key key) (data_at p r ∷ datas (p + size r) rs key) (datas (p + size r) rs key) b) i in
    later (source whole (p + size r) end rs key x h.5 j))
    (cases_Bool (bytes_eq r.key key))

module _ (whole : List ℕ) (rs : List Record) (law : LawfulFile whole rs) (e : Extent) (key : List ℕ) where
  abbrev found : List Item → List Found
  found ys = map (data_of_item whole) ys

  abbrev answer : List Item → Answered
  answer ys = Ok (head_of whole rs law e key ys)

  tail_left : (n : ℕ) (ys : List Item) → tail_of whole rs law e key (left n ys) ≡ left (suc n) ys
  unfolding left
  tail_left zero [] = refl
  tail_left zero (y ∷ ys) = refl
  tail_left (suc n) [] = refl
  tail_left (suc n) (y ∷ ys) = tail_left n ys

  in_turn_more : (n : ℕ) (ys : List Item) → in_turn (suc n) (found ys) ≡ in_turn n (found ys) ++ answer (left n ys) ∷ []
  unfolding left
  in_turn_more zero [] = refl
  in_turn_more zero (y ∷ ys) = refl
  in_turn_more (suc n) [] = ap (λ (rs : List Answered). Ok None ∷ rs) (in_turn_nil n)
    where
      in_turn_nil : (k : ℕ) → in_turn (suc k) [] ≡ in_turn k [] ++ Ok None ∷ []
      in_turn_nil zero = refl
      in_turn_nil (suc k) = ap (λ (rs : List Answered). Ok None ∷ rs) (in_turn_nil k)
  in_turn_more (suc n) (y ∷ ys) = ap (λ (rs : List Answered). Ok (Some (data_of_item whole y)) ∷ rs) (in_turn_more n ys)

  -- a next with the key
  pub next_step : (m : Meaning) → Holding whole e m → (c : Cursor) (ys : List Item) → State whole rs law e key c ys → (r : Answered) (c' : Cursor) → Next m c key r c' →
      (r ≡ answer ys) × State whole rs law e key c' (tail_of whole rs law e key ys)
  next_step m h c ys s r c' (nexts.outside a) = absurd (a (subst (On m) (sym s.of.extent) h.readable.on))
  next_step m h c ys s r c' (nexts.other_key a b) = absurd (b (sym s.of.hash))
  next_step m h c [] s r c' (nexts.walked a b w) = walk_none whole rs law e key m h c s.of refl s.gives r c' w
  next_step m h c (y ∷ ys) s r c' (nexts.walked a b w) = walk_next whole rs law e key m h c s.of y ys refl s.gives r c' w

  -- a next with a key of another hash
  stray_step : (m : Meaning) → Holding whole e m → (c : Cursor) (ys : List Item) → State whole rs law e key c ys → (k : List ℕ) → (hash_of k ≡ hash_of key → ⊥)
      → (r : Answered) (c' : Cursor) → Next m c k r c' → (r ≡ Err OtherKey) × (c' ≡ c)
  stray_step m h c ys s k ne r c' (nexts.outside a) = absurd (a (subst (On m) (sym s.of.extent) h.readable.on))
  stray_step m h c ys s k ne r c' (nexts.other_key a b) = (refl, refl)
  stray_step m h c ys s k ne r c' (nexts.walked a b w) = absurd (ne (b ∙ s.of.hash))

  -- a fetch of the data of a record
  module _ (m : Meaning) (h : Holding whole e m) (q : ℕ) (of : Record) (stands : StandsAt 2048 rs q of) (keyed : of.key ≡ key)
      (holds : part whole (q + 8 + length of.key) (length of.data') ≡ of.data') (fits : q + size of ≤ position whole 0) where
    abbrev place : ℕ
    place = q + 8 + length of.key

    in_extent : place + length of.data' ≤ e.len
    in_extent = omega (arith, fits, law.within, short whole e m h)

    part_of : (o n : ℕ) → o + n ≤ length of.data' → part (file m e) (place + o) n ≡ part of.data' o n
    part_of o n l =
        ap (λ (xs : List ℕ). part xs (place + o) n) h.bytes ∙ sym (part_in whole place (length of.data') o n l) ∙ ap (λ (xs : List ℕ). part xs o n) holds

    takes_inside : (o : ℕ) (old new : List ℕ) (r : Result (Unit {0}) FileFault) → Takes m e (place + o) (place + length of.data') old r new
        → o + length old ≤ length of.data' → (r ≡ Ok tt) × (new ≡ part of.data' o (length old))
    takes_inside o old new r (takes.outside a) l = absurd (a (record { on_device = h.readable.on; in_file = omega (arith, in_extent); in_data = omega arith }))
    takes_inside o old new r (takes.filled i a) l = (refl, part_of o (length old) l)
    takes_inside o old new r (takes.stopped {f = f} i b) l = absurd (not_bad whole e m h (place + o) (length old) f i.in_file b)

    takes_outside : (o : ℕ) (old new : List ℕ) (r : Result (Unit {0}) FileFault) → Takes m e (place + o) (place + length of.data') old r new
        → length of.data' < o + length old → (r ≡ Err Range) × (new ≡ old)
    takes_outside o old new r (takes.outside a) l = (refl, refl)
    takes_outside o old new r (takes.filled i a) l = absurd (omega (arith, i.in_data))
    takes_outside o old new r (takes.stopped i b) l = absurd (omega (arith, i.in_data))

    of_record : (o : ℕ) (old new : List ℕ) (r : Result (Unit {0}) FileFault) → Fetch m e (data_at q of) o old r new → OfRecord rs key (data_at q of) o old r new
    of_record o old new r t =
        record { place = q; of = of; stands = stands; keyed = keyed; found = refl; inside = takes_inside o old new r t; outside = takes_outside o old new r t }

  fetch_step : (m : Meaning) → Holding whole e m → (x : Found) → Source whole 2048 (position whole 0) rs key x
      → (o : ℕ) (old new : List ℕ) (r : Result (Unit {0}) FileFault) → Fetch m e x o old r new → OfRecord rs key x o old r new
  fetch_step m h x s o old new r t =
      subst (λ (z : Found). OfRecord rs key z o old r new) (sym s.found)
      (of_record m h s.at s.of s.stands s.keyed s.holds s.fits o old new r (subst (λ (z : Found). Fetch m e z o old r new) s.found t))

  -- the items of the key, as data
  datas_are : (p end : ℕ) (ss : List Record) → Records whole p end ss → found (filter (λ x. bytes_eq x.key key) (items p ss)) ≡ datas p ss key
  datas_are p end [] h = refl
  datas_are p end (r ∷ ss) h =
      let x : Item = record { key = r.key; place = p } in
      let t : Item → Bool = λ x. bytes_eq x.key key in
      let rest = datas_are (p + size r) end ss h.5 in
      let here : data_of_item whole x ≡ data_at p r = ap (λ (n : ℕ). record { place = p + 8 + length r.key; len = n }) h.1 in
      ⊎_elim
      (λ (b : bytes_eq r.key key ≡ true).
      rw (cond-true (bytes_eq r.key key) (x ∷ filter t (items (p + size r) ss)) (filter t (items (p + size r) ss)) b, cond-true (bytes_eq r.key key) (data_at p r ∷ datas (p + size r) ss key) (datas (p + size r) ss key) b)
      (ap (λ (v : Found). v ∷ found (filter t (items (p + size r) ss))) here ∙ ap (λ (vs : List Found). data_at p r ∷ vs) rest))
      (λ (b : bytes_eq r.key key ≡ false).
      rw (cond-false (bytes_eq r.key key) (x ∷ filter t (items (p + size r) ss)) (filter t (items (p + size r) ss)) b, cond-false (bytes_eq r.key key) (data_at p r ∷ datas (p + size r) ss key) (datas (p + size r) ss key) b) rest)
      (cases_Bool (bytes_eq r.key key))

  pub first : List Item
  first = filter (λ x. bytes_eq x.key key) (items 2048 rs)

  pub first_found : found first ≡ datas 2048 rs key
  unfolding first
  first_found = datas_are 2048 (position whole 0) rs law.read

  -- what has happened after some calls
  record Sofar (es : List Event) (c : Cursor) : Type 0 where
    answers : nexts_of es ≡ in_turn (length (nexts_of es)) (found first)
    each : AllByRecursion (Lawfully rs key) es
    state : State whole rs law e key c (left (length (nexts_of es)) first)

  -- an event that is not a next with the key
  sofar_same : (es : List Event) (ev : Event) (c c' : Cursor) → Sofar es c → nexts_of (ev ∷ []) ≡ [] → Lawfully rs key ev → c' ≡ c → Sofar (es ++ ev ∷ []) c'
  sofar_same es ev c c' s t f q =
      let u : nexts_of (es ++ ev ∷ []) ≡ nexts_of es = nexts_more es ev ∙ ap (λ (rs : List Answered). nexts_of es ++ rs) t ∙ append-nil (nexts_of es) in
      record {
        answers = u ∙ s.answers ∙ ap (λ (rs : List Answered). in_turn (length rs) (found first)) (sym u);
        each = All-push (Lawfully rs key) es ev s.each f;
        state = subst (λ (d : Cursor). State whole rs law e key d (left (length (nexts_of (es ++ ev ∷ []))) first)) (sym q) (subst (λ (vs : List Answered). State whole rs law e key c (left (length vs) first)) (sym u) s.state);
      }

  sofar_asked : (m : Meaning) → Holding whole e m → (es : List Event) (r : Answered) (c c' : Cursor) → Sofar es c → Next m c key r c' → Sofar (es ++ asked r ∷ []) c'
  sofar_asked m h es r c c' s n =
      let k = next_step m h c (left (length (nexts_of es)) first) s.state r c' n in
      let t : nexts_of (es ++ asked r ∷ []) ≡ nexts_of es ++ r ∷ [] = nexts_more es (asked r) in
      let l : length (nexts_of (es ++ asked r ∷ [])) ≡ suc (length (nexts_of es)) = ap length t ∙ simp length-append (omega arith) in
      record {
        answers = t ∙ ap (λ (rs : List Answered). rs ++ r ∷ []) s.answers
            ∙ ap (λ (v : Answered). in_turn (length (nexts_of es)) (found first) ++ v ∷ []) k.0
            ∙ sym (in_turn_more (length (nexts_of es)) first) ∙ ap (λ (i : ℕ). in_turn i (found first)) (sym l);
        each = All-push (Lawfully rs key) es (asked r) s.each tt;
        state = subst (λ (i : ℕ). State whole rs law e key c' (left i first)) (sym l) (subst (State whole rs law e key c') (tail_left (length (nexts_of es)) first) k.1);
      }

  sofar_next : (m : Meaning) → Holding whole e m → (es : List Event) (ev : Event) (c c' : Cursor) (k : List ℕ) → Sofar es c → AtNext m key c k ev c' → Sofar (es ++ ev ∷ []) c'
  sofar_next m h es ev c c' k s (runs.asks {r = r} q n) = sofar_asked m h es r c c' s n
  sofar_next m h es ev c c' k s (runs.strays {r = r} ne n) =
      let z = stray_step m h c (left (length (nexts_of es)) first) s.state k ne r c' n in
      sofar_same es (strayed r) c c' s refl z.0 z.1
  sofar_next m h es ev c c' k s (runs.equal_hash q ne) = sofar_same es skipped c c s refl tt refl

  sofar_source : (es : List Event) (c : Cursor) (n : ℕ) (x : Found) → Sofar es c → found_by (log es) n ≡ Some x → Source whole 2048 (position whole 0) rs key x
  sofar_source es c n x s q =
      let a : Has (nexts_of es) (Ok (Some x)) = found_told rs key es n x s.each q in
      let b : Has (in_turn (length (nexts_of es)) (found first)) (Ok (Some x)) = subst (λ (rs : List Answered). Has rs (Ok (Some x))) s.answers a in
      let d : Has (datas 2048 rs key) x = subst (λ (xs : List Found). Has xs x) first_found (turn_has (length (nexts_of es)) (found first) x b) in
      source whole 2048 (position whole 0) rs key x law.read d

  sofar_fetch : (m : Meaning) → Holding whole e m → (es : List Event) (ev : Event) (c : Cursor) (b b' : List ℕ) (w : Wanted) → Sofar es c → AtFetch m e (log es) b w ev b' → Sofar (es ++ ev ∷ []) c
  sofar_fetch m h es ev c b b' w s (runs.fetches {x = x} {r = r} {new = new} fo fit f) =
      sofar_same es (fetched w x (part b w.place w.len) r new) c c s refl
      (fetch_step m h x (sofar_source es c w.call x s fo) w.offset (part b w.place w.len) new r f) refl
  sofar_fetch m h es ev c b b' w s (runs.not_found fo) = sofar_same es skipped c c s refl tt refl
  sofar_fetch m h es ev c b b' w s (runs.no_part fo l) = sofar_same es skipped c c s refl tt refl

  sofar_more : (m : Meaning) → Holding whole e m → (es : List Event) (ev : Event) (c c' : Cursor) (b b' : List ℕ) (k : calls.Call) → Sofar es c
      → AtCall m e key (log es) c b k ev c' b' → Sofar (es ++ ev ∷ []) c'
  sofar_more m h es ev c c' b b' (call.Next k) s a = sofar_next m h es ev c c' k.now s a.0
  sofar_more m h es ev c c' b b' (call.Fetch w) s a = subst (Sofar (es ++ ev ∷ [])) (sym a.1) (sofar_fetch m h es ev c b b' w s a.0)

  start_of : (m : Meaning) → Holding whole e m → Of whole e key (fresh m e key)
  start_of m h = record { extent = refl; hash = refl; position = word_is whole e m h (8 * table_of key); slots = word_is whole e m h (8 * table_of key + 4) }

  -- at a start all items of the key are to come
  pub start_state : (m : Meaning) → Holding whole e m → State whole rs law e key (fresh m e key) first
  unfolding first
  start_state m h = record { of = start_of m h; gives = file_lookup whole rs law key }

  sofar_start : (m : Meaning) → Holding whole e m → Sofar [] (fresh m e key)
  unfolding left
  sofar_start m h = record { answers = refl; each = tt; state = start_state m h }

  -- a start is done
  pub starts_fresh : (m : Meaning) (r : Result Cursor FileFault) → Holding whole e m → Start m e key r → r ≡ Ok (fresh m e key)
  starts_fresh m r h (starts.outside a) = absurd (a h.readable.on)
  starts_fresh m r h (starts.short a l) = absurd (omega (arith, law.long, short whole e m h))
  starts_fresh m r h (starts.entry_bad {f = f} a l b) =
      let t : table_of key < 256 = mod-lt (hash_of key) (omega arith) in
      absurd (not_bad whole e m h (8 * table_of key) 8 f (omega arith) b)
  starts_fresh m r h (starts.started a l b) = refl

  run_law : (m : Meaning) (c : Cursor) (b : List ℕ) → Holding whole e m → Sofar [] c → (c' : Cursor) (b' : List ℕ) (ks : List calls.Call) (es : List Event) → Run m e key c b ks es c' b' → Sofar es c'
  run_law m c b h s c' b' ks es runs.none = s
  run_law m c b h s c' b' ks es (more {ks = js} {es = fs} {c1 = c1} {b1 = b1} run n k ev keeps does) =
      let z = keeps h.readable in
      sofar_more n (record { readable = z.0; bytes = z.1 ∙ h.bytes }) fs ev c1 c' b1 b' k (run_law m c b h s c1 b1 js fs run) does

  run_gives : (m : Meaning) (c c' : Cursor) (b b' : List ℕ) (ks : List calls.Call) (es : List Event) → Holding whole e m → Start m e key (Ok c) → Run m e key c b ks es c' b' → Gives rs key es
  run_gives m c c' b b' ks es h st run =
      let w : Ok c ≡ Ok (fresh m e key) = starts_fresh m (Ok c) h st in
      let q : fresh m e key ≡ c = cc in
      let f = run_law m c b h (subst (Sofar []) q (sofar_start m h)) c' b' ks es run in
      record { nexts = f.answers ∙ ap (in_turn (length (nexts_of es))) first_found; each = f.each }

-- in a lawful file that can be read a start is done, and a run after it keeps the law
pub start_done : (m : Meaning) (e : Extent) (rs : List Record) (key : List ℕ) (r : Result Cursor FileFault) → Readable m e → Lawful (file m e) rs → Start m e key r → r ≡ Ok (fresh m e key)
start_done m e rs key r ok law st = starts_fresh (file m e) rs (by_table (file m e) rs law) e key m r (record { readable = ok; bytes = refl }) st

pub law_of_lookups : (m : Meaning) (e : Extent) (rs : List Record) (key : List ℕ) (c c' : Cursor) (b b' : List ℕ) (ks : List calls.Call) (es : List Event)
    → Readable m e → Lawful (file m e) rs → Start m e key (Ok c) → Run m e key c b ks es c' b' → Gives rs key es
law_of_lookups m e rs key c c' b b' ks es ok law st run =
    run_gives (file m e) rs (by_table (file m e) rs law) e key m c c' b b' ks es (record { readable = ok; bytes = refl }) st run
