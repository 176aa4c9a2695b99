-- The records of a text that are written so far.
use Rattle.std.proofs.Common.{◌≡◌, ℕ, ◌+◌, ◌*◌, ◌<◌, ◌≤◌, List, [], ◌∷◌, ◌++◌, length, drop, set, Some, Ok, Err, Option, Result, sym, refl, ap, ◌∙◌, subst, arith, length-append, append_assoc}
use Rattle.std.proofs.lemmas.List.{append-nil}
use Rattle.std.proofs.Math.ListN.{drop_of_length-le}
use Rattle.std.specs.List.{flat_map}
use Rattle.faults.specs.declared.file.FileFault.{FileFault}
use Rattle.device.specs.Meanings.{Meaning, Whole}
use Rattle.cdb.specs.Records.{Record, record_bytes, size, hash_of}
use Rattle.writing.specs.Runs.{Completed, Interrupted, at_place}
use Rattle.writing.specs.Records.{WritesRecord}
use Rattle.writing.proofs.Running.{completed_none, runs_both}
use Rattle.writing.proofs.Recorded.{record_long}
use Rattle.building.specs.declared.entries.Entry.{Entry}
use Rattle.text.specs.declared.fault.TextFault.{TextFault}
use Rattle.text.specs.declared.lent.LentRecord.{LentRecord}
use Rattle.text.specs.Texts.{TextOf}
use Rattle.text.specs.Readings.{lent, Hands}
use Rattle.making.specs.Sizes.{end_of}
use Rattle.making.specs.Makes.{entries_from, Noted}
use Rattle.making.specs.Steps.{RecordsFit, PutsRecords}
use Rattle.making.proofs.Walking.{Handed, handed}
use Rattle.making.proofs.Noting.{push_long, note_more}

pub joined_push : (rs : List Record) (r : Record) → flat_map record_bytes (rs ++ r ∷ []) ≡ flat_map record_bytes rs ++ record_bytes r
joined_push [] r = append-nil (record_bytes r)
joined_push (a ∷ rs) r = ap (λ (q : List ℕ). record_bytes a ++ q) (joined_push rs r) ∙ sym (append_assoc (record_bytes a) (flat_map record_bytes rs) (record_bytes r))

pub end_push : (rs : List Record) (r : Record) → end_of (rs ++ r ∷ []) ≡ end_of rs + size r
end_push rs r = omega (arith, ap length (joined_push rs r), length-append (flat_map record_bytes rs) (record_bytes r), record_long r)

pub flat_append : (rs ss : List Record) → flat_map record_bytes (rs ++ ss) ≡ flat_map record_bytes rs ++ flat_map record_bytes ss
flat_append [] ss = refl
flat_append (r ∷ rs) ss = ap (λ (z : List ℕ). record_bytes r ++ z) (flat_append rs ss) ∙ sym (append_assoc (record_bytes r) (flat_map record_bytes rs) (flat_map record_bytes ss))

-- of a text's records, those before the reader's place are written and noted
pub record Writing (m n : Meaning) (t : List ℕ) (q place i : ℕ) (es fs : List Entry) : Type 0 where
  pub list : List Record
  pub text : TextOf t list
  pub count : length es ≡ length list
  pub room : end_of list ≤ 512 * m.sectors
  pub done : List Record
  pub todo : List Record
  pub among : list ≡ done ++ todo
  pub ahead : TextOf (drop q t) todo
  pub index : i ≡ length done
  pub reached : place ≡ end_of done
  pub written : Completed m 2048 (flat_map record_bytes done) n
  pub noted : Noted es done fs

pub begun : (m : Meaning) (t : List ℕ) (es : List Entry) → Whole m → RecordsFit m (length es) t → Writing m m t 0 2048 0 es es
begun m t es w (rs, h, c, r) = record {
  list = rs;
  text = h;
  count = c;
  room = r;
  done = [];
  todo = rs;
  among = refl;
  ahead = h;
  index = refl;
  reached = refl;
  written = completed_none m 2048 (omega (arith, w.long));
  noted = refl;
}

module _ (m n : Meaning) (t : List ℕ) (q place i : ℕ) (es fs : List Entry) (whole : Whole m) (w : Writing m n t q place i es fs) where
  pub counted : length w.done + length w.todo ≡ length es
  counted = omega (arith, length-append w.done w.todo, ap length w.among, w.count)

  pub next : (u : ℕ) (r : Result (Option LentRecord) TextFault) (v : List ℕ) → v ≡ t → i < length es → Hands v q r u → Handed t u w.todo r
  next u r v e l h = handed t q u w.todo r w.ahead (omega (arith, counted, w.index)) (subst (λ (z : List ℕ). Hands z q r u) e h)

  -- a call that hands out a record hands out the next one
  pub met : (u : ℕ) (r : Result (Option LentRecord) TextFault) (x : LentRecord) (v : List ℕ) → v ≡ t → i < length es → Hands v q r u → r ≡ Ok (Some x)
      → (rest : List Record) × (w.todo ≡ lent x ∷ rest) × TextOf (drop u t) rest
  met u r x v e l h is =
      let k = next u r v e l h in
      let y : k.handed ≡ x = let z : Ok (Some k.handed) ≡ Ok (Some x) = sym k.is ∙ is in cc in
      (k.rest, k.begins ∙ ap (λ (z : LentRecord). lent z ∷ k.rest) y, k.ahead)

  module _ (u : ℕ) (x : LentRecord) (rest : List Record) (begins : w.todo ≡ lent x ∷ rest) where
    abbrev more : List Record
    more = w.done ++ lent x ∷ []

    split : w.list ≡ w.done ++ lent x ∷ rest
    split = w.among ∙ ap (λ (z : List Record). w.done ++ z) begins

    split_more : w.list ≡ more ++ rest
    split_more = split ∙ sym (append_assoc w.done (lent x ∷ []) rest)

    -- the record lies on the device
    pub inside : place + size (lent x) ≤ 512 * m.sectors
    inside =
        let j = flat_append more rest in
        omega (arith, w.reached, w.room, end_push w.done (lent x), ap end_of split_more, ap length j, length-append (flat_map record_bytes more) (flat_map record_bytes rest))

    pub one_more : (o : Meaning) → i < length es → TextOf (drop u t) rest → WritesRecord n 0 place (lent x) (Ok tt) o
        → Writing m o t u (place + size (lent x)) (i + 1) es (set fs i (record { hash = hash_of x.key.now; place = place }))
    one_more o l a v =
        let R : List ℕ = flat_map record_bytes w.done in
        let at : 0 + place ≡ 2048 + length R = omega (arith, w.reached) in
        let v' : Completed n (2048 + length R) (record_bytes (lent x)) o = subst (λ (z : ℕ). Completed n z (record_bytes (lent x)) o) at v in
        let c : Completed m 2048 (R ++ record_bytes (lent x)) o = runs_both m n o 2048 R (record_bytes (lent x)) (Ok tt) (omega (arith, inside, w.reached, record_long (lent x), whole.long)) w.written v' in
        record {
          list = w.list;
          text = w.text;
          count = w.count;
          room = w.room;
          done = more;
          todo = rest;
          among = split_more;
          ahead = a;
          index = omega (arith, w.index, push_long w.done (lent x));
          reached = omega (arith, w.reached, end_push w.done (lent x));
          written = subst (λ (z : List ℕ). Completed m 2048 z o) (sym (joined_push w.done (lent x))) c;
          noted = note_more es fs w.done (lent x) i place w.index l w.reached w.noted;
        }

    pub stopped : (o : Meaning) (y : FileFault) → WritesRecord n 0 place (lent x) (Err y) o → PutsRecords m t (Err y) o es fs
    stopped o y (f, told, v) =
        let at : 0 + place ≡ end_of w.done = omega (arith, w.reached) in (
          w.list,
          w.text,
          record {
            before = w.done;
            next = lent x;
            after = rest;
            among = split;
            between = n;
            written = w.written;
            fault = f;
            told = told ∙ ap (λ (z : ℕ). at_place f z) w.reached;
            refused = subst (λ (z : ℕ). Interrupted n z (size (lent x)) f o) at v;
            noted = w.noted;
          },
        )

  pub all : length es ≤ i → PutsRecords m t (Ok place) n es fs
  all l = all_of w.todo refl
    where
      all_of : (todo : List Record) → w.todo ≡ todo → PutsRecords m t (Ok place) n es fs
      all_of [] e =
          let same : w.done ≡ w.list = sym (append-nil w.done) ∙ ap (λ (z : List Record). w.done ++ z) (sym e) ∙ sym w.among in
          let gone : drop (length w.done) es ≡ [] = drop_of_length-le es (omega (arith, w.index)) in
          let note : fs ≡ entries_from 2048 w.done = w.noted ∙ ap (λ (z : List Entry). entries_from 2048 w.done ++ z) gone ∙ append-nil (entries_from 2048 w.done) in
          (w.list, w.text, w.reached ∙ ap end_of same, subst (λ (z : List Record). Completed m 2048 (flat_map record_bytes z) n) same w.written, note ∙ ap (entries_from 2048) same)
      all_of (r ∷ rest) e = absurd (omega (arith, counted, ap length e, w.index))
