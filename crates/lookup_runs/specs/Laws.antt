-- The law of lookups: in a lawful file a run of lookup calls gives the data of exactly the records of its key, in file order.
use Rattle.std.specs.Prelude.{◌≡◌, ℕ, zero, suc, ◌+◌, ◌<◌, ◌≤◌, true, ◌⊎◌, List, [], ◌∷◌, ◌++◌, length, is_ok, Some, None, Ok, Err, Option, Result, ◌≢◌}
use Rattle.std.specs.List.{AllByRecursion}
use Rattle.byte_lists.specs.Bytes.{part, laid}
use Rattle.faults.specs.declared.file.FileFault.{FileFault}
use Rattle.faults.specs.declared.file.FileFault.TheVariants.{Range, OtherKey}
use Rattle.device.specs.Meanings.{Meaning}
use Rattle.cdb.specs.Records.{Record, hash_of}
use Rattle.cdb.specs.Rules.{Lawful}
use Rattle.file.specs.declared.extents.Extent.{Extent}
use Rattle.file.specs.Extents.{Readable, file}
use Rattle.lookup.specs.declared.cursors.Found.{Found}
use Rattle.lookup_runs.specs.declared.calls.Wanted.{Wanted}
use Rattle.lookup_runs.specs.declared.calls.Call as calls
use Rattle.lookup_runs.specs.declared.calls.Call.TheVariants as call
use Rattle.lookup_runs.specs.declared.calls.Answer.{Answer}
use Rattle.lookup_runs.specs.declared.calls.RunFault.{RunFault}
use Rattle.lookup_runs.specs.Datas.{data_at, datas, StandsAt}
use Rattle.lookup_runs.specs.Runs.{Event, asked, strayed, fetched, skipped, told, log, found_by}

-- the answers of the nexts with the key
abbrev pub nexts_of : List Event → List (Result (Option Found) FileFault)
nexts_of [] = []
nexts_of (asked r ∷ es) = r ∷ nexts_of es
nexts_of (strayed r ∷ es) = nexts_of es
nexts_of (fetched w x old r new ∷ es) = nexts_of es
nexts_of (skipped ∷ es) = nexts_of es

-- n answers: these data in turn, and none after the last
abbrev pub in_turn : ℕ → List Found → List (Result (Option Found) FileFault)
in_turn zero xs = []
in_turn (suc n) [] = Ok None ∷ in_turn n []
in_turn (suc n) (x ∷ xs) = Ok (Some x) ∷ in_turn n xs

-- a fetch is of the data of a record with the key: inside the data it fills its part of the buffer with the part asked for, otherwise it is
-- refused with 11 and leaves the buffer
pub record OfRecord (rs : List Record) (key : List ℕ) (x : Found) (offset : ℕ) (old : List ℕ) (r : Result (Unit {0}) FileFault) (new : List ℕ) : Type 0 where
  pub place : ℕ
  pub of : Record
  pub stands : StandsAt 2048 rs place of
  pub keyed : of.key ≡ key
  pub found : x ≡ data_at place of
  pub inside : offset + length old ≤ length of.data' → (r ≡ Ok tt) × (new ≡ part of.data' offset (length old))
  pub outside : length of.data' < offset + length old → (r ≡ Err Range) × (new ≡ old)

-- what the law says of one event: a next with a key of another hash is refused with 26, a fetch is of the data of a record
abbrev pub Lawfully : List Record → List ℕ → Event → Type 0
Lawfully rs key (asked r) = Unit {0}
Lawfully rs key (strayed r) = r ≡ Err OtherKey
Lawfully rs key (fetched w x old r new) = OfRecord rs key x w.offset old r new
Lawfully rs key skipped = Unit {0}

-- the buffer after these events: each fetch lays what it wrote over its part
abbrev pub wrote : List Event → List ℕ → List ℕ
wrote [] b = b
wrote (asked r ∷ es) b = wrote es b
wrote (strayed r ∷ es) b = wrote es b
wrote (fetched w x old r new ∷ es) b = wrote es (laid b w.place new)
wrote (skipped ∷ es) b = wrote es b

-- what may happen at a next with a key k: with the key of the run it is made, with a key of another hash it strays, with any other key of equal hash
-- it is not made
abbrev pub TiedNext : List ℕ → List ℕ → Event → Type 0
TiedNext key k (asked r) = k ≡ key
TiedNext key k (strayed r) = hash_of k ≡ hash_of key → ⊥
TiedNext key k (fetched w x old r new) = ⊥
TiedNext key k skipped = (hash_of k ≡ hash_of key) × (k ≢ key)

-- what may happen at a fetch, with the buffer b and after the answers done: it is made of the data that the call it names has found, into the part
-- of the buffer that it names; it is not made only if that call found none, or the buffer has no such part
abbrev pub TiedFetch : List ℕ → List Answer → Wanted → Event → Type 0
TiedFetch b done v (asked r) = ⊥
TiedFetch b done v (strayed r) = ⊥
TiedFetch b done v (fetched w x old r new) = (w ≡ v) × (found_by done v.call ≡ Some x) × (v.place + v.len ≤ length b) × (old ≡ part b v.place v.len)
TiedFetch b done v skipped = (found_by done v.call ≡ None) ⊎ (length b < v.place + v.len)

-- a call and what happened at it belong together
abbrev pub Tied : List ℕ → List ℕ → List Answer → calls.Call → Event → Type 0
Tied key b done (call.Next k) ev = TiedNext key k.now ev
Tied key b done (call.Fetch w) ev = TiedFetch b done w ev

-- and so for lists of them, one to one
abbrev pub AllTied : List ℕ → List ℕ → List Answer → List calls.Call → List Event → Type 0
AllTied key b done [] [] = Unit {0}
AllTied key b done [] (ev ∷ es) = ⊥
AllTied key b done (k ∷ ks) [] = ⊥
AllTied key b done (k ∷ ks) (ev ∷ es) = Tied key b done k ev × AllTied key (wrote (ev ∷ []) b) (done ++ told ev ∷ []) ks es

-- the law: what the nexts with the key answer is the data of its records in turn; each other event is as said above
pub record Gives (rs : List Record) (key : List ℕ) (es : List Event) : Type 0 where
  pub nexts : nexts_of es ≡ in_turn (length (nexts_of es)) (datas 2048 rs key)
  pub each : AllByRecursion (Lawfully rs key) es

-- calls, their answers and the buffer, before and after, in a lawful file with these records
pub record Looks (rs : List Record) (key : List ℕ) (ks : List calls.Call) (ans : List Answer) (b b' : List ℕ) : Type 0 where
  pub events : List Event
  pub tied : AllTied key b [] ks events
  pub answers : ans ≡ log events
  pub gives : Gives rs key events
  pub buffer : b' ≡ wrote events b

-- the law of lookups, on what a run answers: if the file can be read and is lawful, with these records, and there are as many answers as calls, the
-- run is not refused, and gives the records of the key
abbrev pub LookupsGiveRecords : Meaning → Extent → List ℕ → List calls.Call → List Answer → List ℕ → Result (Unit {0}) RunFault → List Answer → List ℕ → Type 0
LookupsGiveRecords m e key ks old b r ans b' =
    (rs : List Record) → Readable m e → Lawful (file m e) rs → length old ≡ length ks → (is_ok r ≡ true) × Looks rs key ks ans b b'
