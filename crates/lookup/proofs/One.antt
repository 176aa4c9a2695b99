-- Each call has one answer: its definition's cases are told apart by tests, and each case has one answer.
use Rattle.std.proofs.Common.{◌≡◌, ℕ, ◌+◌, ◌/◌, ◌<◌, ◌≤◌, ◌⊎◌, List, ◌++◌, length, drop, Some, None, Ok, Err, Option, Result, sym, refl, ap, ◌∙◌, subst, inl, inr, ⊎_elim, arith}
use Rattle.std.proofs.lemmas.Bool.{cases_lt, cases_eq}
use Rattle.byte_lists.specs.Bytes.{part}
use Rattle.faults.specs.declared.device.DeviceFault.{DeviceFault}
use Rattle.faults.specs.declared.file.FileFault.{FileFault}
use Rattle.faults.specs.declared.file.FileFault.TheVariants.{Range, Short, Past, OtherKey, Device}
use Rattle.faults.specs.Reports.{located}
use Rattle.device.specs.Meanings.{Meaning, refuses}
use Rattle.cdb.specs.Records.{hash_of, table_of}
use Rattle.file.specs.declared.extents.Extent.{Extent}
use Rattle.file.specs.Ranges.{AllRead, FirstBad}
use Rattle.file.specs.Extents.{On, file}
use Rattle.file.proofs.Readying.{some_none}
use Rattle.lookup.specs.declared.cursors.Cursor.{Cursor}
use Rattle.lookup.specs.declared.cursors.Found.{Found}
use Rattle.lookup.specs.declared.cursors.Step.{Step}
use Rattle.lookup.specs.declared.cursors.Probe.{Probe}
use Rattle.lookup.specs.declared.cursors.Probe.TheVariants.{Empty, Other, Match}
use Rattle.lookup.specs.Keys.{Agrees, Differs, Unread}
use Rattle.lookup.specs.Probes as probes
use Rattle.lookup.specs.Probes.{RecordProbe, SlotProbe, key_length, record_end, data_of, table_in, slot_place, slot_hash, slot_record}
use Rattle.lookup.specs.Nexts as nexts
use Rattle.lookup.specs.Nexts.{ProbeAt, Passes, Walk, Next, Advances, probed_to}
use Rattle.lookup.specs.Starts as starts
use Rattle.lookup.specs.Starts.{Start, entry_place, fresh}
use Rattle.lookup.specs.Fetches as fetches
use Rattle.lookup.specs.Fetches.{Inside, Takes}
use Rattle.lookup.specs.OneAnswer.{OnlyStart, OnlyNext, OnlyAdvances, OnlyTakes}

-- a test passes and one thing holds, or it fails and another does
abbrev Choice : Type 0 → Type 0 → Type 0 → Type 0
Choice P A B = (P × A) ⊎ ((P → ⊥) × B)

-- two choices by one test went the same way
same_way : {X : Type 0} (P A B C D : Type 0) → (A → C → X) → (B → D → X) → Choice P A B → Choice P C D → X
same_way P A B C D f g (inl a) (inl c) = f a.1 c.1
same_way P A B C D f g (inl a) (inr d) = absurd (d.0 a.0)
same_way P A B C D f g (inr b) (inl c) = absurd (b.0 c.0)
same_way P A B C D f g (inr b) (inr d) = g b.1 d.1

-- bytes are all read, or one is the first that cannot be
not_all : (m : Meaning) (p n : ℕ) (f : DeviceFault) → FirstBad m p n f → AllRead m p n → ⊥
not_all m p n f b a = some_none _ f (a b.k b.within) b.refused

first_place : (m : Meaning) (p n : ℕ) (f g : DeviceFault) (a : FirstBad m p n f) (b : FirstBad m p n g) → a.k ≡ b.k
first_place m p n f g a b =
    ⊎_elim
    (λ (l : a.k < b.k). absurd (some_none _ f (b.before a.k l) a.refused))
    (λ (l : b.k ≤ a.k).
    ⊎_elim (λ (q : a.k ≡ b.k). q) (λ ne. absurd (some_none _ g (a.before b.k (omega arith)) b.refused)) (cases_eq a.k b.k))
    (cases_lt a.k b.k)

some_same : (f g : DeviceFault) → Some f ≡ Some g → f ≡ g
some_same f g e = cc

pub first_fault : (m : Meaning) (p n : ℕ) (f g : DeviceFault) → FirstBad m p n f → FirstBad m p n g → f ≡ g
first_fault m p n f g a b =
    some_same f g (sym a.refused ∙ ap (λ (k : ℕ). refuses m ((p + k) / 512)) (first_place m p n f g a b) ∙ b.refused)

-- a refusal by the first byte that cannot be read
abbrev Refused : {A : Type 0} → Meaning → ℕ → ℕ → ℕ → ℕ → Result A FileFault → Type 0
Refused m p n t q r = (f : DeviceFault) × FirstBad m p n f × (r ≡ Err (Device (located f t q)))

refused_one : {A : Type 0} (m : Meaning) (p n t q : ℕ) (r s : Result A FileFault) → Refused m p n t q r → Refused m p n t q s → r ≡ s
refused_one m p n t q r s a b =
    a.2 ∙ ap (λ (f : DeviceFault). Err (Device (located f t q))) (first_fault m p n a.0 b.0 a.1 b.1) ∙ sym b.2

both : {A : Type 0} (x y z : A) → x ≡ z → y ≡ z → x ≡ y
both x y z a b = a ∙ sym b

-- the comparison of a key
module _ (m : Meaning) (e : Extent) (p : ℕ) (key : List ℕ) where
  agrees_differs : Agrees m e p key (length key) → Differs m e p key → ⊥
  agrees_differs a d = d.differs (a.same d.k d.within)

  unread_agrees : (f : DeviceFault) → Unread m e p key f → Agrees m e p key (length key) → ⊥
  unread_agrees f u a = some_none _ f (a.reads u.k u.within) u.refused

  unread_differs : (f : DeviceFault) → Unread m e p key f → Differs m e p key → ⊥
  unread_differs f u d =
      ⊎_elim
      (λ (l : d.k < u.k). d.differs (u.before.same d.k l))
      (λ (l : u.k ≤ d.k). some_none _ f (d.reads u.k (omega arith)) u.refused)
      (cases_lt d.k u.k)

  unread_first : (f : DeviceFault) → Unread m e p key f → FirstBad m (e.start + p) (length key) f
  unread_first f u = record { k = u.k; within = u.within; before = u.before.reads; refused = u.refused }

module _ (m : Meaning) (e : Extent) (t : ℕ) (key : List ℕ) (p : ℕ) where
  abbrev KeyView : Result Probe FileFault → Type 0
  KeyView r =
      Choice (Agrees m e (p + 8) key (length key)) (r ≡ Ok (Match (data_of (file m e) p)))
      (Choice (Differs m e (p + 8) key) (r ≡ Ok Other) (Refused m (e.start + (p + 8)) (length key) t p r))

  abbrev WordsView : Result Probe FileFault → Type 0
  WordsView r =
      Choice (e.len < record_end (file m e) p) (r ≡ Err (Past t p)) (Choice (key_length (file m e) p ≡ length key) (KeyView r) (r ≡ Ok Other))

  abbrev RecordView : Result Probe FileFault → Type 0
  RecordView r =
      Choice (e.len < p + 8) (r ≡ Err (Past t p)) (Choice (AllRead m (e.start + p) 8) (WordsView r) (Refused m (e.start + p) 8 t p r))

  record_view : (r : Result Probe FileFault) → RecordProbe m e t key p r → RecordView r
  record_view r (probes.words_past a) = inl (a, refl)
  record_view r (probes.words_bad {f = f} a b) = inr ((λ h. omega arith), inr (not_all m _ 8 f b, (f, b, refl)))
  record_view r (probes.end_past w a) = inr ((λ h. omega (arith, w.0)), inl (w.1, inl (a, refl)))
  record_view r (probes.other_length w a n) = inr ((λ h. omega (arith, w.0)), inl (w.1, inr ((λ h. omega arith), inr (n, refl))))
  record_view r (probes.other_key w a q d) =
      inr ((λ h. omega (arith, w.0)), inl (w.1, inr ((λ h. omega arith), inl (q, inr ((λ h. agrees_differs m e (p + 8) key h d), inl (d, refl))))))
  record_view r (probes.key_bad {f = f} w a q u) =
      inr ((λ h. omega (arith, w.0)), inl (w.1, inr ((λ h. omega arith), inl (q, inr (unread_agrees m e (p + 8) key f u, inr (unread_differs m e (p + 8) key f u, (f, unread_first m e (p + 8) key f u, refl)))))))
  record_view r (probes.same_key w a q s) =
      inr ((λ h. omega (arith, w.0)), inl (w.1, inr ((λ h. omega arith), inl (q, inl (s, refl)))))

  record_one : (r s : Result Probe FileFault) → RecordProbe m e t key p r → RecordProbe m e t key p s → r ≡ s
  record_one r s a b =
      same_way _ _ _ _ _ (both r s _)
      (same_way _ _ _ _ _
      (same_way _ _ _ _ _ (both r s _)
      (same_way _ _ _ _ _
      (same_way _ _ _ _ _ (both r s _) (same_way _ _ _ _ _ (both r s _) (refused_one m _ (length key) t p r s)))
      (both r s _)))
      (refused_one m _ 8 t p r s))
      (record_view r a) (record_view s b)

module _ (m : Meaning) (c : Cursor) (key : List ℕ) where
  abbrev HeldView : ℕ → Result Probe FileFault → Type 0
  HeldView i r =
      Choice (slot_record m c i ≡ 0) (r ≡ Ok Empty)
      (Choice (slot_hash m c i ≡ c.hash) (RecordProbe m c.extent (table_in c) key (slot_record m c i) r) (r ≡ Ok Other))

  abbrev SlotView : ℕ → Result Probe FileFault → Type 0
  SlotView i r =
      Choice (c.extent.len < slot_place c i + 8) (r ≡ Err (Past (table_in c) (slot_place c i)))
      (Choice (AllRead m (c.extent.start + slot_place c i) 8) (HeldView i r) (Refused m (c.extent.start + slot_place c i) 8 (table_in c) (slot_place c i) r))

  slot_view : (i : ℕ) (r : Result Probe FileFault) → SlotProbe m c key i r → SlotView i r
  slot_view i r (probes.slot_past a) = inl (a, refl)
  slot_view i r (probes.slot_bad {f = f} a b) = inr ((λ h. omega arith), inr (not_all m _ 8 f b, (f, b, refl)))
  slot_view i r (probes.slot_empty w z) = inr ((λ h. omega (arith, w.0)), inl (w.1, inl (z, refl)))
  slot_view i r (probes.other_hash w f n) = inr ((λ h. omega (arith, w.0)), inl (w.1, inr ((λ h. omega arith), inr (n, refl))))
  slot_view i r (probes.same_hash w f q h) = inr ((λ h. omega (arith, w.0)), inl (w.1, inr ((λ h. omega arith), inl (q, h))))

  pub slot_one : (i : ℕ) (r s : Result Probe FileFault) → SlotProbe m c key i r → SlotProbe m c key i s → r ≡ s
  slot_one i r s a b =
      same_way _ _ _ _ _ (both r s _)
      (same_way _ _ _ _ _
      (same_way _ _ _ _ _ (both r s _) (same_way _ _ _ _ _ (record_one m c.extent (table_in c) key (slot_record m c i) r s) (both r s _)))
      (refused_one m _ 8 (table_in c) (slot_place c i) r s))
      (slot_view i r a) (slot_view i s b)

  -- what a walk answers that ends at distance n, where the probe answered q
  abbrev Ends : ℕ → Result Probe FileFault → Result (Option Found) FileFault → Cursor → Type 0
  Ends n (Ok Empty) r d = (r ≡ Ok None) × (d ≡ probed_to c c.slots)
  Ends n (Ok Other) r d = ⊥
  Ends n (Ok (Match x)) r d = (r ≡ Ok (Some x)) × (d ≡ probed_to c (n + 1))
  Ends n (Err f) r d = (r ≡ Err f) × (d ≡ c)

  record Stop (r : Result (Option Found) FileFault) (d : Cursor) : Type 0 where
    n : ℕ
    q : Result Probe FileFault
    within : n < c.slots
    passes : Passes m c key n
    probe : ProbeAt m c key n q
    ends : Ends n q r d

  ends_other : (n : ℕ) (q : Result Probe FileFault) (r : Result (Option Found) FileFault) (d : Cursor) → q ≡ Ok Other → Ends n q r d → ⊥
  ends_other n q r d z e = let f = subst (λ (x : Result Probe FileFault). Ends n x r d) z e in f

  ends_one : (n : ℕ) (q : Result Probe FileFault) (r s : Result (Option Found) FileFault) (d b : Cursor) → Ends n q r d → Ends n q s b → (s ≡ r) × (b ≡ d)
  ends_one n (Ok Empty) r s d b x y = (y.0 ∙ sym x.0, y.1 ∙ sym x.1)
  ends_one n (Ok Other) r s d b x y = absurd x
  ends_one n (Ok (Match f)) r s d b x y = (y.0 ∙ sym x.0, y.1 ∙ sym x.1)
  ends_one n (Err f) r s d b x y = (y.0 ∙ sym x.0, y.1 ∙ sym x.1)

  -- slots up to n hold records of other keys: the walk does not end before
  not_before : (r : Result (Option Found) FileFault) (d : Cursor) (n : ℕ) → Passes m c key n → (s : Stop r d) → s.n < n → ⊥
  not_before r d n p s l =
      ends_other s.n s.q r d (slot_one _ s.q (Ok Other) s.probe (p.others s.n s.passes.from l)) s.ends

  stop_one : (r s : Result (Option Found) FileFault) (d b : Cursor) → Stop r d → Stop s b → (s ≡ r) × (b ≡ d)
  stop_one r s d b x y =
      ⊎_elim
      (λ (l : x.n < y.n). absurd (not_before r d y.n y.passes x l))
      (λ (l : y.n ≤ x.n).
      ⊎_elim
      (λ (z : y.n ≡ x.n).
      let p : ProbeAt m c key x.n y.q = subst (λ (k : ℕ). ProbeAt m c key k y.q) z y.probe in
      let q : y.q ≡ x.q = slot_one _ y.q x.q p x.probe in
      ends_one x.n x.q r s d b x.ends (subst (λ (k : ℕ). Ends k x.q s b) z (subst (λ (v : Result Probe FileFault). Ends y.n v s b) q y.ends)))
      (λ ne. absurd (not_before s b x.n x.passes y (omega arith)))
      (cases_eq y.n x.n))
      (cases_lt x.n y.n)

  abbrev None' : Result (Option Found) FileFault → Cursor → Cursor → Type 0
  None' r d b = (r ≡ Ok None) × (d ≡ b)

  abbrev WalkView : Result (Option Found) FileFault → Cursor → Type 0
  WalkView r d = Choice (c.slots ≤ c.probed) (None' r d c) (Choice (Passes m c key c.slots) (None' r d (probed_to c c.slots)) (Stop r d))

  stop_view : (r : Result (Option Found) FileFault) (d : Cursor) → (s : Stop r d) → WalkView r d
  stop_view r d s = inr ((λ h. omega (arith, s.passes.from, s.within)), inr ((λ p. not_before r d c.slots p s s.within), s))

  walk_view : (r : Result (Option Found) FileFault) (d : Cursor) → Walk m c key r d → WalkView r d
  walk_view r d (nexts.ended a) = inl (a, (refl, refl))
  walk_view r d (nexts.all_others a p) = inr ((λ h. omega arith), inl (p, (refl, refl)))
  walk_view r d (nexts.empty {n = n} l p s) = stop_view r d (record { n = n; q = Ok Empty; within = l; passes = p; probe = s; ends = (refl, refl) })
  walk_view r d (nexts.found {n = n} {x = x} l p s) = stop_view r d (record { n = n; q = Ok (Match x); within = l; passes = p; probe = s; ends = (refl, refl) })
  walk_view r d (nexts.refused {n = n} {f = f} l p s) = stop_view r d (record { n = n; q = Err f; within = l; passes = p; probe = s; ends = (refl, refl) })

  none_one : (z : Cursor) (r s : Result (Option Found) FileFault) (d b : Cursor) → None' r d z → None' s b z → (s ≡ r) × (b ≡ d)
  none_one z r s d b x y = (y.0 ∙ sym x.0, y.1 ∙ sym x.1)

  walk_one : (r s : Result (Option Found) FileFault) (d b : Cursor) → Walk m c key r d → Walk m c key s b → (s ≡ r) × (b ≡ d)
  walk_one r s d b x y =
      same_way _ _ _ _ _ (none_one c r s d b)
      (same_way _ _ _ _ _ (none_one (probed_to c c.slots) r s d b) (stop_one r s d b)) (walk_view r d x) (walk_view s b y)

  abbrev NextView : Result (Option Found) FileFault → Cursor → Type 0
  NextView r d =
      Choice (On m c.extent) (Choice (hash_of key ≡ c.hash) (Walk m c key r d) ((r ≡ Err OtherKey) × (d ≡ c))) ((r ≡ Err Range) × (d ≡ c))

  next_view : (r : Result (Option Found) FileFault) (d : Cursor) → Next m c key r d → NextView r d
  next_view r d (nexts.outside a) = inr (a, (refl, refl))
  next_view r d (nexts.other_key a b) = inl (a, inr (b, (refl, refl)))
  next_view r d (nexts.walked a b w) = inl (a, inl (b, w))

  err_one : (f : FileFault) (r s : Result (Option Found) FileFault) (d b : Cursor) → (r ≡ Err f) × (d ≡ c) → (s ≡ Err f) × (b ≡ c) → (s ≡ r) × (b ≡ d)
  err_one f r s d b x y = (y.0 ∙ sym x.0, y.1 ∙ sym x.1)

  pub next_one : (r : Result (Option Found) FileFault) (d : Cursor) → Next m c key r d → OnlyNext m c key r d
  next_one r d x s b y =
      same_way _ _ _ _ _ (same_way _ _ _ _ _ (walk_one r s d b) (err_one OtherKey r s d b)) (err_one Range r s d b) (next_view r d x) (next_view s b y)

  step_one : (r : Result Step FileFault) → Advances m c key r → OnlyAdvances m c key r
  step_one (Ok s) a = next_one _ _ a
  step_one (Err f) a = next_one _ _ a

  -- all that is owed for a step, from its answer
  pub step_alone : {n : Meaning} (r : Result Step FileFault) → Advances m c key r → n ≡ m
      → record { answer : Advances m c key r; only : OnlyAdvances m c key r; same : n ≡ m }
  step_alone r a same = record { answer = a; only = step_one r a; same = same }

module _ (m : Meaning) (e : Extent) (key : List ℕ) where
  abbrev StartView : Result Cursor FileFault → Type 0
  StartView r =
      Choice (On m e)
      (Choice (e.len < 2048) (r ≡ Err (Short e.len))
      (Choice (AllRead m (e.start + entry_place key) 8) (r ≡ Ok (fresh m e key)) (Refused m (e.start + entry_place key) 8 (table_of key) (entry_place key) r)))
      (r ≡ Err Range)

  start_view : (r : Result Cursor FileFault) → Start m e key r → StartView r
  start_view r (starts.outside a) = inr (a, refl)
  start_view r (starts.short a l) = inl (a, inl (l, refl))
  start_view r (starts.entry_bad {f = f} a l b) = inl (a, inr ((λ h. omega arith), inr (not_all m _ 8 f b, (f, b, refl))))
  start_view r (starts.started a l b) = inl (a, inr ((λ h. omega arith), inl (b, refl)))

  pub start_one : (r : Result Cursor FileFault) → Start m e key r → OnlyStart m e key r
  start_one r x s y =
      same_way _ _ _ _ _
      (same_way _ _ _ _ _ (both s r _) (same_way _ _ _ _ _ (both s r _) (refused_one m _ 8 (table_of key) (entry_place key) s r)))
      (both s r _) (start_view s y) (start_view r x)

  -- all that is owed for a start, from its answer
  pub start_alone : {n : Meaning} (r : Result Cursor FileFault) → Start m e key r → n ≡ m
      → record { answer : Start m e key r; only : OnlyStart m e key r; same : n ≡ m }
  start_alone r a same = record { answer = a; only = start_one r a; same = same }

module _ (m : Meaning) (e : Extent) (from end : ℕ) (old : List ℕ) where
  abbrev n : ℕ
  n = length old

  abbrev Stopped : Result (Unit {0}) FileFault → List ℕ → Type 0
  Stopped r new =
      (f : DeviceFault) × (b : FirstBad m (e.start + from) n f) × (r ≡ Err (Device (located f 256 from))) × (new ≡ part (file m e) from b.k ++ drop b.k old)

  abbrev TakesView : Result (Unit {0}) FileFault → List ℕ → Type 0
  TakesView r new =
      Choice (Inside m e from end n) (Choice (AllRead m (e.start + from) n) ((r ≡ Ok tt) × (new ≡ part (file m e) from n)) (Stopped r new))
      ((r ≡ Err Range) × (new ≡ old))

  takes_view : (r : Result (Unit {0}) FileFault) (new : List ℕ) → Takes m e from end old r new → TakesView r new
  takes_view r new (fetches.outside a) = inr (a, (refl, refl))
  takes_view r new (fetches.filled i a) = inl (i, inl (a, (refl, refl)))
  takes_view r new (fetches.stopped {f = f} i b) = inl (i, inr (not_all m _ n f b, (f, b, refl, refl)))

  two : {A B : Type 0} (x y z : A) (u v w : B) → (x ≡ z) × (u ≡ w) → (y ≡ z) × (v ≡ w) → (x ≡ y) × (u ≡ v)
  two x y z u v w a b = (a.0 ∙ sym b.0, a.1 ∙ sym b.1)

  stopped_one : (r s : Result (Unit {0}) FileFault) (x y : List ℕ) → Stopped r x → Stopped s y → (r ≡ s) × (x ≡ y)
  stopped_one r s x y a b =
      let k = first_place m (e.start + from) n a.0 b.0 a.1 b.1 in
      let f = first_fault m (e.start + from) n a.0 b.0 a.1 b.1 in (
        a.2 ∙ ap (λ (g : DeviceFault). Err (Device (located g 256 from))) f ∙ sym b.2,
        a.3 ∙ ap (λ (i : ℕ). part (file m e) from i ++ drop i old) k ∙ sym b.3,
      )

  pub takes_one : (r : Result (Unit {0}) FileFault) (new : List ℕ) → Takes m e from end old r new → OnlyTakes m e from end old r new
  takes_one r new x s b y =
      same_way _ _ _ _ _ (same_way _ _ _ _ _ (two s r _ b new _) (stopped_one s r b new)) (two s r _ b new _) (takes_view s b y) (takes_view r new x)

  -- all that is owed for a part of the data, from the answer
  pub takes_alone : {m' : Meaning} (r : Result (Unit {0}) FileFault) (new : List ℕ) → Takes m e from end old r new → m' ≡ m
      → record { answer : Takes m e from end old r new; only : OnlyTakes m e from end old r new; same : m' ≡ m }
  takes_alone r new a same = record { answer = a; only = takes_one r new a; same = same }
