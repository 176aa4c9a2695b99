-- The rules on a file are the rules table by table.
use Rattle.std.proofs.Common.{◌≡◌, ℕ, zero, suc, ◌+◌, ◌-◌, ◌<◌, ◌≤◌, Bool, eqb, List, length, sym, refl, ap, ◌∙◌, subst, mod-lt, arith}
use Rattle.std.specs.List.{ContainsAt as Has}
use Rattle.std.proofs.ByRecursion.{all-has, All-weaker, all_has_itself}
use Rattle.std.proofs.lemmas.Bool.{eqb-true, eq-eqb}
use Rattle.cdb.specs.Records.{Record, Item, items, belonging, hash_of, table_of}
use Rattle.cdb.specs.Tables.{Distance}
use Rattle.cdb.specs.Files.{position, slot_count, ends, slots_in}
use Rattle.cdb.specs.Rules.{Each, Rule2, Rule4, Rule8, Lawful}
use Rattle.cdb.proofs.TableLaw.{LawfulTable, LawfulFile}
use Rattle.cdb.proofs.Placement.{length_slots_at}
use Rattle.cdb.proofs.Members.{has_kept, kept_has}

abbrev belongs : ℕ → Item → Bool
belongs t x = eqb (table_of x.key) t

pub of_table : (rs : List Record) (t : ℕ) (x : Item) → Has (belonging t rs) x → Has (items 2048 rs) x × (table_of x.key ≡ t)
of_table rs t x h = let r = has_kept (belongs t) (items 2048 rs) x h in (r.0, eqb-true (table_of x.key) t r.1)

in_table : (rs : List Record) (x : Item) → Has (items 2048 rs) x → Has (belonging (table_of x.key) rs) x
in_table rs x h = kept_has (belongs (table_of x.key)) (items 2048 rs) x h (eq-eqb (table_of x.key) (table_of x.key) refl)

table_below : (x : Item) → table_of x.key < 256
table_below x = mod-lt (hash_of x.key) (omega arith)

module _ (f : List ℕ) (rs : List Record) where
  long_in : (t : ℕ) → length (slots_in f t) ≡ slot_count f t
  long_in t = length_slots_at f (position f t) (slot_count f t)

  table_lawful : Lawful f rs → (t : ℕ) → t < 256 → LawfulTable (belonging t rs) (slots_in f t)
  table_lawful p t l =
      record {
        placed = λ x h. let r = of_table rs t x h in
            let d = all-has (Rule4 f) (items 2048 rs) x p.placed r.0 in
            (d.0, subst (λ (u : ℕ). Distance (slots_in f u) x d.0) r.1 d.1);
        counted = p.counted t l;
        room = λ some.
            let r = p.room t l (subst (λ (n : ℕ). 0 < n) (long_in t) some) in
            (r.0, subst (λ (n : ℕ). r.0 < n) (sym (long_in t)) r.1, r.2);
        clear = λ i b e. p.clear t l i (subst (λ (n : ℕ). i < n) (long_in t) b) e;
        ordered = λ x y j k hx hy ke pl dx dy.
            let rx = of_table rs t x hx in
            let ry = of_table rs t y hy in
            all-has (Rule8 f rs) (items 2048 rs) x p.ordered rx.0 y j k ry.0 ke pl
            (subst (λ (u : ℕ). Distance (slots_in f u) x j) (sym rx.1) dx) (subst (λ (u : ℕ). Distance (slots_in f u) y k) (sym ry.1) dy);
      }

  pub by_table : Lawful f rs → LawfulFile f rs
  by_table p =
      let H = p.entries in
      let h0 = (H 0 (omega arith)).first refl in
      record {
        long = p.long;
        first = h0.0;
        within = h0.1;
        abut = λ t l. let z : t + 1 - 1 ≡ t = omega arith in (H (t + 1) (omega arith)).abuts (omega arith) ∙ ap (ends f) z;
        last = (H 255 (omega arith)).last refl;
        read = p.reads;
        tables = table_lawful p;
      }

  module _ (q : LawfulFile f rs) where
    -- every table ends where the last does or before
    ends_below : (n t : ℕ) → t + n ≡ 255 → ends f t ≤ length f
    ends_below zero t e = let z : t ≡ 255 = omega arith in rw z (omega (arith, q.last))
    ends_below (suc n) t e =
        let r = ends_below n (t + 1) (omega arith) in
        let a = q.abut t (omega arith) in
        omega arith

    rule2 : Each (Rule2 f)
    rule2 t l = record {
      first = λ z. rw z (q.first, q.within);
      abuts = λ s. let z : t - 1 + 1 ≡ t = omega arith in
          let a : position f (t - 1 + 1) ≡ ends f (t - 1) = q.abut (t - 1) (omega arith) in
          ap (position f) (sym z) ∙ a;
      within = ends_below (255 - t) t (omega arith);
      last = λ z. rw z q.last;
    }

    pub all_tables : Lawful f rs
    all_tables = record {
      long = q.long;
      entries = rule2;
      reads = q.read;
      placed = All-weaker (Has (items 2048 rs)) (Rule4 f)
          (λ x h. (q.tables (table_of x.key) (table_below x)).placed x (in_table rs x h)) (items 2048 rs) (all_has_itself (items 2048 rs));
      counted = λ t l. (q.tables t l).counted;
      room = λ t l some.
          let r = (q.tables t l).room (subst (λ (n : ℕ). 0 < n) (sym (long_in t)) some) in
          (r.0, subst (λ (n : ℕ). r.0 < n) (long_in t) r.1, r.2);
      clear = λ t l i b e. (q.tables t l).clear i (subst (λ (n : ℕ). i < n) (sym (long_in t)) b) e;
      ordered = All-weaker (Has (items 2048 rs)) (Rule8 f rs)
          (λ x hx y j k hy ke pl dx dy.
          let same : table_of y.key ≡ table_of x.key = ap table_of ke in
          (q.tables (table_of x.key) (table_below x)).ordered x y j k (in_table rs x hx)
          (subst (λ (t : ℕ). Has (belonging t rs) y) same (in_table rs y hy)) ke pl dx
          (subst (λ (t : ℕ). Distance (slots_in f t) y k) same dy)) (items 2048 rs) (all_has_itself (items 2048 rs));
    }
