use Rattle.std.proofs.Common.{ℕ, ◌*◌, ◌<◌, List, length, ◌∙◌, subst, arith}
use Rattle.std.proofs.lemmas.List.{length-set, length-replicate, take_all}
use Rattle.building.specs.declared.layout.Table.{Table}
use Rattle.building.specs.declared.entries.Entry.{Entry}
use Rattle.building.specs.Entries.{count_before}
use Rattle.building.proofs.Counting.{Counted, counted_none, moved_slots, moved_offsets, below_none, below_more, count_fits}
use Rattle.building.proofs.layout.tables_of.Goals as goal

pub loop-entry-init : goal.loop-entry-init
loop-entry-init c = (length-replicate {A = Table} 256 (record { offset = 0; slots = 0 }), counted_none)

pub loop-table-init : goal.loop-table-init
loop-table-init c = record {
  long = c.loop-entry.invariant.0;
  next = omega (arith, below_none c.args.entries.now);
  offsets = λ t l. absurd (omega arith);
  slots = subst (λ (es : List Entry). Counted c.loop-entry.tables es) (take_all c.loop-entry.entry-index c.args.entries.now c.loop-entry-test.false) c.loop-entry.invariant.1;
}

pub overflow_add-next : goal.overflow_add-next
overflow_add-next c =
    let es : List Entry = c.args.entries.now in
    let t : ℕ = c.loop-table.table-index in
    let l : t < 256 = omega (arith, c.loop-table.invariant.long) in
    omega (arith, c.requires, c.loop-table.invariant.next, c.loop-table.invariant.slots t l, count_fits es t l)

pub loop-table-preserved : goal.loop-table-preserved
loop-table-preserved c =
    let es : List Entry = c.args.entries.now in
    let t : ℕ = c.loop-table.table-index in
    let l : t < 256 = omega (arith, c.loop-table.invariant.long) in
    let inside : t < length c.loop-table.table-items = omega (arith, c.loop-table.invariant.long) in
    let F : ℕ → ℕ = λ k. 16 * count_before k es in
    record {
      long = length-set c.loop-table.table-items t _ ∙ c.loop-table.invariant.long;
      next = omega (arith, c.loop-table.invariant.next, c.loop-table.invariant.slots t l, below_more t es);
      offsets = moved_offsets c.loop-table.table-items t c.loop-table.next inside F c.loop-table.invariant.next c.loop-table.invariant.offsets;
      slots = moved_slots c.loop-table.table-items t c.loop-table.next inside es c.loop-table.invariant.slots;
    }
