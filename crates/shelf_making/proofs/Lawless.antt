-- A lawful file is not refused.
use Rattle.std.proofs.Common.{◌≡◌, ℕ, List, [], ◌∷◌, ◌++◌, refl, subst, arith}
use Rattle.std.specs.List.{AllByRecursion}
use Rattle.faults.specs.declared.report.Report.{Report}
use Rattle.faults.specs.declared.file.FileFault.TheVariants as fault
use Rattle.cdb.specs.Records.{Record, Item, items}
use Rattle.cdb.specs.Files.{position}
use Rattle.cdb.specs.Rules.{FirstOf, Each, Rule3, Rule4, Rule5, Rule8, Lawful}
use Rattle.cdb.specs.Verdicts.{refused, Judged, broken_1, broken_2, broken_3, broken_4, broken_5, broken_6, broken_7, broken_8}
use Rattle.cdb.proofs.FileLookup.{one_reading}
use Rattle.records.proofs.Filling.{agree}
use Rattle.records.proofs.Proved.{no_passing}

-- none of a list that keeps a rule is the first to break it
all_keep : (Keeps : Item → Type 0) (before after : List Item) (x : Item) → AllByRecursion Keeps (before ++ x ∷ after) → Keeps x
all_keep Keeps [] after x h = h.0
all_keep Keeps (y ∷ before) after x h = all_keep Keeps before after x h.1

none_first : (Keeps : Item → Type 0) (xs : List Item) (x : Item) → AllByRecursion Keeps xs → FirstOf xs Keeps x → ⊥
none_first Keeps xs x h f = f.broken (all_keep Keeps f.before f.after x (subst (AllByRecursion Keeps) f.among h))

module _ (f : List ℕ) (rs : List Record) (law : Lawful f rs) where
  same : (ss : List Record) → Rule3 f ss → rs ≡ ss
  same ss h = one_reading f 2048 (position f 0) rs ss law.reads h

  placed : (ss : List Record) → Rule3 f ss → AllByRecursion (Rule4 f) (items 2048 ss)
  placed ss h = subst (λ (z : List Record). AllByRecursion (Rule4 f) (items 2048 z)) (same ss h) law.placed

  ordered : (ss : List Record) → Rule3 f ss → AllByRecursion (Rule8 f ss) (items 2048 ss)
  ordered ss h = subst (λ (z : List Record). AllByRecursion (Rule8 f z) (items 2048 z)) (same ss h) law.ordered

  pub not_refused : (r : Report) → Judged f (refused r) → ⊥
  not_refused r (broken_1 h) = let l = law.long in omega arith
  not_refused r (broken_2 r1 h) = h.broken (law.entries _ h.within)
  not_refused r (broken_3 {p} r1 r2 (ss, stand, before, past)) =
      let a = agree f 2048 p (position f 0) ss rs stand law.reads (omega arith) in
      no_passing f p a.0 (fault.Record p) a.2 (before, past, refl)
  not_refused r (broken_4 ss r1 r2 r3 h) = none_first _ _ _ (placed ss r3) h
  not_refused r (broken_5 ss r1 r2 r3 r4 h) = let e = same ss r3 in h.broken (subst (λ (z : List Record). Each (Rule5 f z)) e law.counted _ h.within)
  not_refused r (broken_6 ss r1 r2 r3 r4 r5 h) = h.broken (law.room _ h.within)
  not_refused r (broken_7 ss r1 r2 r3 r4 r5 r6 h k) = h.broken (law.clear _ h.within)
  not_refused r (broken_8 ss r1 r2 r3 r4 r5 r6 r7 h) = none_first _ _ _ (ordered ss r3) h
