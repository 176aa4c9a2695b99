-- Runs of lookup calls: what each call does to the cursor and the buffer, on devices that change between the calls.
use Rattle.std.specs.Prelude.{◌≡◌, ℕ, zero, suc, ◌+◌, ◌<◌, ◌≤◌, List, [], ◌∷◌, ◌++◌, length, Some, None, Ok, Err, Option, Result, ◌≢◌}
use Rattle.byte_lists.specs.Bytes.{part, laid}
use Rattle.faults.specs.declared.file.FileFault.{FileFault}
use Rattle.device.specs.Meanings.{Meaning}
use Rattle.cdb.specs.Records.{hash_of}
use Rattle.file.specs.declared.extents.Extent.{Extent}
use Rattle.file.specs.Extents.{Readable, file}
use Rattle.lookup.specs.declared.cursors.Cursor.{Cursor}
use Rattle.lookup.specs.declared.cursors.Found.{Found}
use Rattle.lookup.specs.Starts as starts
use Rattle.lookup.specs.Nexts.{Next}
use Rattle.lookup.specs.Fetches.{Fetch}
use Rattle.lookup_runs.specs.declared.calls.Wanted.{Wanted}
use Rattle.lookup_runs.specs.declared.calls.Call as calls
use Rattle.lookup_runs.specs.declared.calls.Call.TheVariants as call
use Rattle.lookup_runs.specs.declared.calls.Answer.{Answer}
use Rattle.lookup_runs.specs.declared.calls.Answer.TheVariants as answer
use Rattle.lookup_runs.specs.declared.calls.RunFault.{RunFault}
use Rattle.lookup_runs.specs.declared.calls.RunFault.TheVariants.{Room, Start}

-- a file that can be read stays so, with its bytes
abbrev pub Keeps : Extent → Meaning → Meaning → Type 0
Keeps e m m' = Readable m e → Readable m' e × (file m' e ≡ file m e)

-- what happened at a call of a run: a next with the key of the run, one with a key of another hash, a fetch of data found, which turned a part
-- of the buffer from old into new bytes, or no call
pub data Event : Type 0 where
  asked : Result (Option Found) FileFault → Event
  strayed : Result (Option Found) FileFault → Event
  fetched : Wanted → Found → (old : List ℕ) → Result (Unit {0}) FileFault → (new : List ℕ) → Event
  skipped : Event

-- the answer that tells of it
abbrev pub told : Event → Answer
told (asked r) = answer.Next r
told (strayed r) = answer.Next r
told (fetched w x old r new) = answer.Fetch r
told skipped = answer.Skipped

abbrev pub log : List Event → List Answer
log [] = []
log (ev ∷ es) = told ev ∷ log es

-- the data that an answer tells of, and that the answer number n of some tells of
abbrev pub found_in : Answer → Option Found
found_in (answer.Next (Ok o)) = o
found_in (answer.Next (Err f)) = None
found_in (answer.Fetch r) = None
found_in answer.Skipped = None

abbrev pub found_by : List Answer → ℕ → Option Found
found_by [] n = None
found_by (a ∷ ans) zero = found_in a
found_by (a ∷ ans) (suc n) = found_by ans n

-- what happens at a next with a key k, on a device m, with the cursor c, and the cursor then; a key of equal hash that is not the key of the run
-- could move the cursor past records, so no call is made
pub data AtNext (m : Meaning) (key : List ℕ) (c : Cursor) (k : List ℕ) : Event → Cursor → Type 0 where
  asks : {r : Result (Option Found) FileFault} {c' : Cursor} → k ≡ key → Next m c key r c' → AtNext m key c k (asked r) c'
  strays : {r : Result (Option Found) FileFault} {c' : Cursor} → (hash_of k ≢ hash_of key) → Next m c k r c' → AtNext m key c k (strayed r) c'
  equal_hash : hash_of k ≡ hash_of key → (k ≢ key) → AtNext m key c k skipped c

-- what happens at a fetch, after the answers ans, with the buffer b, and the buffer then: only data that one of these answers tells of is fetched
pub data AtFetch (m : Meaning) (e : Extent) (ans : List Answer) (b : List ℕ) (w : Wanted) : Event → List ℕ → Type 0 where
  fetches : {x : Found} {r : Result (Unit {0}) FileFault} {new : List ℕ} → found_by ans w.call ≡ Some x → w.place + w.len ≤ length b
      → Fetch m e x w.offset (part b w.place w.len) r new
      → AtFetch m e ans b w (fetched w x (part b w.place w.len) r new) (laid b w.place new)
  not_found : found_by ans w.call ≡ None → AtFetch m e ans b w skipped b
  no_part : {x : Found} → found_by ans w.call ≡ Some x → length b < w.place + w.len → AtFetch m e ans b w skipped b

-- what happens at a call, and the cursor and the buffer then
abbrev pub AtCall : Meaning → Extent → List ℕ → List Answer → Cursor → List ℕ → calls.Call → Event → Cursor → List ℕ → Type 0
AtCall m e key ans c b (call.Next k) ev c' b' = AtNext m key c k.now ev c' × (b' ≡ b)
AtCall m e key ans c b (call.Fetch w) ev c' b' = AtFetch m e ans b w ev b' × (c' ≡ c)

-- the calls of a run, from a cursor and a buffer on, one by one, each on a device that kept the file of the device m
pub data Run (m : Meaning) (e : Extent) (key : List ℕ) (c : Cursor) (b : List ℕ) : List calls.Call → List Event → Cursor → List ℕ → Type 0 where
  none : Run m e key c b [] [] c b
  more : {ks : List calls.Call} {es : List Event} {c1 c2 : Cursor} {b1 b2 : List ℕ}
      → Run m e key c b ks es c1 b1 → (m' : Meaning) (k : calls.Call) (ev : Event) → Keeps e m m' → AtCall m' e key (log es) c1 b1 k ev c2 b2
      → Run m e key c b (ks ++ k ∷ []) (es ++ ev ∷ []) c2 b2

-- calls were made from a cursor and a buffer on, and these were the answers
pub record RanTo (m : Meaning) (e : Extent) (key : List ℕ) (c : Cursor) (b : List ℕ) (ks : List calls.Call) (ans : List Answer) (c' : Cursor) (b' : List ℕ) : Type 0 where
  pub events : List Event
  pub run : Run m e key c b ks events c' b'
  pub answers : ans ≡ log events

-- so, whatever the last cursor is
abbrev pub RanLast : Meaning → Extent → List ℕ → Cursor → List ℕ → List calls.Call → List Answer → List ℕ → Type 0
RanLast m e key c b ks ans b' = (last : Cursor) × RanTo m e key c b ks ans last b'

-- a call was made, and this was its answer
pub record Stepped (m : Meaning) (e : Extent) (key : List ℕ) (ans : List Answer) (c : Cursor) (b : List ℕ) (k : calls.Call) (a : Answer) (c' : Cursor) (b' : List ℕ) : Type 0 where
  pub event : Event
  pub does : AtCall m e key ans c b k event c' b'
  pub answer : a ≡ told event

-- so for a next and for a fetch
abbrev pub NextMade : Meaning → List ℕ → Cursor → List ℕ → Answer → Cursor → Type 0
NextMade m key c k a c' = (ev : Event) × AtNext m key c k ev c' × (a ≡ told ev)

abbrev pub FetchMade : Meaning → Extent → List Answer → List ℕ → Wanted → Answer → List ℕ → Type 0
FetchMade m e ans b w a b' = (ev : Event) × AtFetch m e ans b w ev b' × (a ≡ told ev)

-- a lookup of a key was started and the calls made
pub record Ran (m : Meaning) (e : Extent) (key : List ℕ) (b : List ℕ) (ks : List calls.Call) (ans : List Answer) (b' : List ℕ) : Type 0 where
  pub first : Cursor
  pub last : Cursor
  pub started : starts.Start m e key (Ok first)
  pub ran : RanTo m e key first b ks ans last b'

-- what a run answers, with the answers and the buffer before and after; where it makes no calls it leaves both
abbrev pub Runs : Meaning → Extent → List ℕ → List calls.Call → List Answer → List ℕ → Result (Unit {0}) RunFault → List Answer → List ℕ → Type 0
Runs m e key ks old b (Ok u) ans b' = (length old ≡ length ks) × Ran m e key b ks ans b'
Runs m e key ks old b (Err Room) ans b' = (length old ≢ length ks) × (ans ≡ old) × (b' ≡ b)
Runs m e key ks old b (Err (Start f)) ans b' = (length old ≡ length ks) × starts.Start m e key (Err f) × (ans ≡ old) × (b' ≡ b)
