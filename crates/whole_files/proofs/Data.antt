-- What a lookup finds lies in the file, and is the data of a record.
use Rattle.std.proofs.Common.{◌≡◌, ℕ, zero, suc, ◌+◌, ◌≤◌, Bool, true, false, cond, List, [], ◌∷◌, map, filter, take, Some, None, Ok, Err, Option, Result, sym, refl, ap, ◌∙◌, subst}
use Rattle.std.specs.Str.{bytes_eq}
use Rattle.byte_lists.specs.Bytes.{part}
use Rattle.faults.specs.declared.file.FileFault.{FileFault}
use Rattle.device.specs.Meanings.{Meaning, endless}
use Rattle.memory.specs.Memories.{memory}
use Rattle.cdb.specs.Records.{Record, Records, size}
use Rattle.cdb.specs.Files.{position}
use Rattle.cdb.specs.Rules.{Lawful}
use Rattle.file.specs.declared.extents.Extent.{Extent}
use Rattle.lookup.specs.declared.cursors.Cursor.{Cursor}
use Rattle.lookup.specs.declared.cursors.Found.{Found}
use Rattle.lookup.specs.declared.cursors.Probe.{Probe}
use Rattle.lookup.specs.declared.cursors.Probe.TheVariants.{Empty, Other, Match}
use Rattle.lookup.specs.Probes as probes
use Rattle.lookup.specs.Probes.{SlotProbe, RecordProbe}
use Rattle.lookup.specs.Nexts as nexts
use Rattle.lookup.specs.Nexts.{Walk, Next}
use Rattle.lookup.specs.Starts as starts
use Rattle.lookup.specs.Starts.{Start}
use Rattle.lookup_runs.specs.Datas.{data_at, datas}
use Rattle.lookup_nth.specs.Nths as nths
use Rattle.lookup_nth.specs.Nths.{NthFrom, Nth}
use Rattle.gathering.specs.Gathers.{data_with}
use Rattle.c_calls.specs.InMemory.{Fits, FindsInMemory, FindGivesRecord}
use Rattle.whole_files.specs.Wholes.{numbered}

-- what is found lies in a file of this length
abbrev Inside : ℕ → Result (Option Found) FileFault → Type 0
Inside len (Ok (Some x)) = x.place + x.len ≤ len
Inside len (Ok None) = Unit {0}
Inside len (Err f) = Unit {0}

abbrev MatchInside : ℕ → Result Probe FileFault → Type 0
MatchInside len (Ok (Match x)) = x.place + x.len ≤ len
MatchInside len (Ok Other) = Unit {0}
MatchInside len (Ok Empty) = Unit {0}
MatchInside len (Err f) = Unit {0}

module _ (m : Meaning) (key : List ℕ) where
  record_inside : (e : Extent) (t p : ℕ) (r : Result Probe FileFault) → RecordProbe m e t key p r → MatchInside e.len r
  record_inside e t p r (probes.words_past a) = tt
  record_inside e t p r (probes.words_bad a b) = tt
  record_inside e t p r (probes.end_past a b) = tt
  record_inside e t p r (probes.other_length a b d) = tt
  record_inside e t p r (probes.other_key a b d h) = tt
  record_inside e t p r (probes.key_bad a b d h) = tt
  record_inside e t p r (probes.same_key a b d h) = b

  slot_inside : (c : Cursor) (i : ℕ) (r : Result Probe FileFault) → SlotProbe m c key i r → MatchInside c.extent.len r
  slot_inside c i r (probes.slot_past a) = tt
  slot_inside c i r (probes.slot_bad a b) = tt
  slot_inside c i r (probes.slot_empty a b) = tt
  slot_inside c i r (probes.other_hash a b d) = tt
  slot_inside c i r (probes.same_hash a b d h) = record_inside c.extent _ _ r h

  walk_inside : (c c' : Cursor) (r : Result (Option Found) FileFault) → Walk m c key r c' → Inside c.extent.len r × (c'.extent ≡ c.extent)
  walk_inside c c' r (nexts.ended a) = (tt, refl)
  walk_inside c c' r (nexts.all_others a b) = (tt, refl)
  walk_inside c c' r (nexts.empty a b d) = (tt, refl)
  walk_inside c c' r (nexts.found {x = x} a b d) = (slot_inside c _ (Ok (Match x)) d, refl)
  walk_inside c c' r (nexts.refused a b d) = (tt, refl)

  next_inside : (c c' : Cursor) (r : Result (Option Found) FileFault) → Next m c key r c' → Inside c.extent.len r × (c'.extent ≡ c.extent)
  next_inside c c' r (nexts.outside a) = (tt, refl)
  next_inside c c' r (nexts.other_key a b) = (tt, refl)
  next_inside c c' r (nexts.walked a b d) = walk_inside c c' r d

  from_inside : (c : Cursor) (n : ℕ) (r : Result (Option Found) FileFault) → NthFrom m key c n r → Inside c.extent.len r
  from_inside c n r (nths.refused a) = tt
  from_inside c n r (nths.ended a) = tt
  from_inside c n r (nths.here {c' = c'} {x = x} a) = (next_inside c c' (Ok (Some x)) a).0
  from_inside c n r (nths.later {c' = c'} {n = k} {x = x} a b) =
      let e : c'.extent.len ≡ c.extent.len = ap (λ (u : Extent). u.len) (next_inside c c' (Ok (Some x)) a).1 in
      subst (λ (l : ℕ). Inside l r) e (from_inside c' k r b)

  start_inside : (e : Extent) (c : Cursor) → Start m e key (Ok c) → c.extent ≡ e
  start_inside e c (starts.started a b d) = refl

  nth_inside : (e : Extent) (n : ℕ) (r : Result (Option Found) FileFault) → Nth m e key n r → Inside e.len r
  nth_inside e n r (nths.no_start a) = tt
  nth_inside e n r (nths.started {c = c} a b) =
      subst (λ (l : ℕ). Inside l r) (ap (λ (u : Extent). u.len) (start_inside e c a)) (from_inside c n r b)

-- what is found in memory lies in the file
pub inside : (xs : List ℕ) (len : ℕ) (key : List ℕ) (n : ℕ) (x : Found) → Fits xs len → FindsInMemory xs len key n (Ok (Some x)) → x.place + x.len ≤ len
inside xs len key n x fits h =
    let k = h.0 fits in
    subst (λ (l : ℕ). x.place + x.len ≤ l) k.2 (nth_inside (memory xs true endless) key k.0 n (Ok (Some x)) k.3)

-- what is found, as bytes of the file
abbrev pub found_in : List ℕ → Option Found → Option (List ℕ)
found_in f (Some x) = Some (part f x.place x.len)
found_in f None = None

-- the records with a key
abbrev with_key : List Record → List ℕ → List Record
with_key rs key = filter (λ (r : Record). bytes_eq r.key key) rs

-- the places and lengths of the data of a key are those of the data of its records
same_data : (f : List ℕ) (p end : ℕ) (rs : List Record) → Records f p end rs → (key : List ℕ) (n : ℕ) → found_in f (nths.numbered n (datas p rs key)) ≡ numbered n (data_with key rs)
same_data f p end [] h key n = ends n
  where
    ends : (n : ℕ) → found_in f (nths.numbered n []) ≡ numbered n []
    ends zero = refl
    ends (suc n) = refl
same_data f p end (r ∷ rs) h key n = step (bytes_eq r.key key) n (same_data f (p + size r) end rs h.5 key)
  where
    step : (b : Bool) (n : ℕ) → ((k : ℕ) → found_in f (nths.numbered k (datas (p + size r) rs key)) ≡ numbered k (data_with key rs))
        → found_in f (nths.numbered n (cond b (data_at p r ∷ datas (p + size r) rs key) (datas (p + size r) rs key)))
        ≡ numbered n (map (λ (q : Record). q.data') (cond b (r ∷ with_key rs key) (with_key rs key)))
    step true zero later = ap (λ (x : List ℕ). Some x) h.3
    step true (suc n) later = later n
    step false n later = later n

-- so for what the lookup by number finds
pub given : (xs : List ℕ) (len : ℕ) (key : List ℕ) (n : ℕ) (o : Option Found) → Fits xs len → FindGivesRecord xs len key n (Ok o) → (rs : List Record) → Lawful (take len xs) rs
    → numbered n (data_with key rs) ≡ found_in (take len xs) o
given xs len key n o fits h rs law =
    let e : ◌≡◌ {A = Result (Option Found) FileFault} (Ok o) (Ok (nths.numbered n (datas 2048 rs key))) = h rs fits law in
    let q : nths.numbered n (datas 2048 rs key) ≡ o = cc in
    sym (same_data (take len xs) 2048 (position (take len xs) 0) rs law.reads key n) ∙ ap (found_in (take len xs)) q

pub refused : (xs : List ℕ) (len : ℕ) (key : List ℕ) (n : ℕ) (x : FileFault) → Fits xs len → FindGivesRecord xs len key n (Err x) → (rs : List Record) → Lawful (take len xs) rs → ⊥
refused xs len key n x fits h rs law =
    let e : ◌≡◌ {A = Result (Option Found) FileFault} (Err x) (Ok (nths.numbered n (datas 2048 rs key))) = h rs fits law in
    cc
