-- The records of a text that are added so far.
use Rattle.std.proofs.Common.{◌≡◌, ℕ, ◌+◌, ◌<◌, ◌≤◌, List, [], ◌∷◌, ◌++◌, map, length, get_or, take, drop, Some, None, Ok, Err, Option, Result, sym, refl, ap, ◌∙◌, subst, arith, append_assoc}
use Rattle.std.proofs.lemmas.List.{append-nil, take-append-drop, map-append, map_push}
use Rattle.std.proofs.lemmas.Grind.{take_at_read}
use Rattle.std.proofs.lemmas.List.{take_all}
use Rattle.device.specs.Meanings.{Meaning}
use Rattle.cdb.specs.Records.{Record}
use Rattle.building.specs.declared.entries.Entry.{Entry}
use Rattle.text.specs.declared.fault.TextFault.{TextFault}
use Rattle.text.specs.declared.fault.TextFault.TheVariants.{Malformed, Short, Long}
use Rattle.text.specs.declared.lent.LentRecord.{LentRecord}
use Rattle.text.specs.Texts.{Text, TextOf}
use Rattle.text.specs.Readings.{lent, Hands}
use Rattle.text.proofs.Rests.{different}
use Rattle.shelf.specs.declared.refusals.Refused.{Refused}
use Rattle.shelf.specs.declared.states.Draft.{Draft}
use Rattle.shelf.specs.Adds.{Adds}
use Rattle.making.proofs.Walking.{Handed, handed, ended}
use Rattle.shelf_making.specs.Adding.{AddedAll, none, more, AddsAll, AddsText}

pub record Adding (m : Meaning) (d : Draft) (es : List Entry) (t : List ℕ) (q : ℕ) (e : Draft) (n : Meaning) (fs : List Entry) : Type 0 where
  pub list : List Record
  pub text : TextOf t list
  pub done : List Record
  pub todo : List Record
  pub among : list ≡ done ++ todo
  pub ahead : TextOf (drop q t) todo
  pub added : AddedAll m d es done e n fs

pub begun : (m : Meaning) (d : Draft) (es : List Entry) (t : List ℕ) → Text t → Adding m d es t 0 d m es
begun m d es t (rs, h) = record { list = rs; text = h; done = []; todo = rs; among = refl; ahead = h; added = none }

module _ (m : Meaning) (d : Draft) (es : List Entry) (t : List ℕ) (q : ℕ) (e : Draft) (n : Meaning) (fs : List Entry) (w : Adding m d es t q e n fs) (u : ℕ) where
  taken_of : (r : Result (Option LentRecord) TextFault) → Hands t q r u → (o : Option LentRecord) × (r ≡ Ok o)
  taken_of (Ok o) h = (o, refl)
  taken_of (Err (Malformed z)) h = absurd (h.0.1.refused (w.todo, w.ahead))
  taken_of (Err (Short z)) h = absurd h
  taken_of (Err Long) h = absurd h

  -- no call is refused
  pub taken : (r : Result (Option LentRecord) TextFault) (v : List ℕ) → v ≡ t → Hands v q r u → (o : Option LentRecord) × (r ≡ Ok o)
  taken r v z h = taken_of r (subst (λ (x : List ℕ). Hands x q r u) z h)

  -- a record that is handed out
  module _ (x : LentRecord) (hands : Hands t q (Ok (Some x)) u) where
    next_of : (todo : List Record) → TextOf (drop q t) todo → Handed t u todo (Ok (Some x))
    next_of [] a = absurd (not_one a hands)
      where
        not_one : TextOf (drop q t) [] → Hands t q (Ok (Some x)) u → ⊥
        not_one b h = different [] (lent x) (drop u t) (sym b.1 ∙ h.0)
    next_of (r ∷ rest) a = handed t q u (r ∷ rest) (Ok (Some x)) a (omega arith) hands

    next : Handed t u w.todo (Ok (Some x))
    next = next_of w.todo w.ahead

    begins : w.todo ≡ lent x ∷ next.rest
    begins =
        let y : next.handed ≡ x = let z : Ok (Some next.handed) ≡ Ok (Some x) = sym next.is in cc in
        next.begins ∙ ap (λ (z : LentRecord). lent z ∷ next.rest) y

    pub one_more : (g : Draft) (o : Meaning) (gs : List Entry) → Adds n e fs (lent x) (Ok g) o gs → Adding m d es t u g o gs
    one_more g o gs a = record {
      list = w.list;
      text = w.text;
      done = w.done ++ lent x ∷ [];
      todo = next.rest;
      among = w.among ∙ ap (λ (z : List Record). w.done ++ z) begins ∙ sym (append_assoc w.done (lent x ∷ []) next.rest);
      ahead = next.ahead;
      added = more (lent x) w.added a;
    }

    pub stopped : (y : Refused Draft) (o : Meaning) (gs : List Entry) → Adds n e fs (lent x) (Err y) o gs → AddsText m d es t (Err y) o gs
    stopped y o gs a = (
      w.list,
      w.text,
      record {
        before = w.done;
        next = lent x;
        after = next.rest;
        among = w.among ∙ ap (λ (z : List Record). w.done ++ z) begins;
        draft = e;
        between = n;
        entries = fs;
        added = w.added;
        refused = a;
      },
    )

  pub all : Hands t q (Ok None) u → AddsText m d es t (Ok e) n fs
  all h =
      let none_left : w.todo ≡ [] = ended t q u w.todo w.ahead h in
      let same : w.done ≡ w.list = sym (append-nil w.done) ∙ ap (λ (z : List Record). w.done ++ z) (sym none_left) ∙ sym w.among in
      (w.list, w.text, subst (λ (z : List Record). AddedAll m d es z e n fs) same w.added)

-- so for a list of records
module _ (m : Meaning) (d : Draft) (es : List Entry) (xs : List LentRecord) (i : ℕ) (e : Draft) (n : Meaning) (fs : List Entry) (w : AddedAll m d es (map lent (take i xs)) e n fs) where
  module _ (z : LentRecord) (l : i < length xs) where
    abbrev x : LentRecord
    x = get_or xs i z

    front : map lent (take (i + 1) xs) ≡ map lent (take i xs) ++ lent x ∷ []
    front = ap (map lent) (take_at_read xs i z l).1 ∙ map_push lent (take i xs) x

    pub listed_more : (g : Draft) (o : Meaning) (gs : List Entry) → Adds n e fs (lent x) (Ok g) o gs → AddedAll m d es (map lent (take (i + 1) xs)) g o gs
    listed_more g o gs a = subst (λ (q : List Record). AddedAll m d es q g o gs) (sym front) (more (lent x) w a)

    split : map lent xs ≡ map lent (take i xs) ++ lent x ∷ map lent (drop (i + 1) xs)
    split =
        ap (map lent) (sym (take-append-drop (i + 1) xs))
        ∙ map-append lent (take (i + 1) xs) (drop (i + 1) xs)
        ∙ ap (λ (q : List Record). q ++ map lent (drop (i + 1) xs)) front
        ∙ append_assoc (map lent (take i xs)) (lent x ∷ []) (map lent (drop (i + 1) xs))

    pub listed_stopped : (y : Refused Draft) (o : Meaning) (gs : List Entry) → Adds n e fs (lent x) (Err y) o gs → AddsAll m d es (map lent xs) (Err y) o gs
    listed_stopped y o gs a = record {
      before = map lent (take i xs);
      next = lent x;
      after = map lent (drop (i + 1) xs);
      among = split;
      draft = e;
      between = n;
      entries = fs;
      added = w;
      refused = a;
    }

  pub listed_all : length xs ≤ i → AddsAll m d es (map lent xs) (Ok e) n fs
  listed_all l = subst (λ (q : List LentRecord). AddedAll m d es (map lent q) e n fs) (take_all i xs l) w
