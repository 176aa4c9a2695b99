use Rattle.std.proofs.lemmas.Result.{err_from_is_err_and}
use Rattle.building.proofs.Grown.{put_within, put_reads, put_room, put_more, put_lost}
use Rattle.building.proofs.filling.fill.Goals as goal

pub put_entry-requires : goal.put_entry-requires
put_entry-requires g c =
    let l = c.loop-entry-test.true in
    record {
      within = put_within _ _ c.args.from c.args.entries.now c.loop-entry.entry-index l c.args.tables.now c.table.result c.table.ensures c.requires.tables c.loop-entry.invariant c.requires.within;
      reads = put_reads _ _ c.args.from c.args.entries.now c.loop-entry.entry-index l c.args.tables.now c.table.result c.table.ensures c.requires.tables c.loop-entry.invariant;
      room = put_room _ _ c.args.from c.args.entries.now c.loop-entry.entry-index l c.args.tables.now c.table.result c.table.ensures c.requires.tables c.loop-entry.invariant;
    }

pub returns-in_err-put_entry : goal.returns-in_err-put_entry
returns-in_err-put_entry g c =
    let q = err_from_is_err_and c.from_residual.result c.from_residual.ensures.1 in
    let h = c.in_err-put_entry.ensures.puts in
    record {
      fills = rw (q.1, q.2) (
        h.0,
        put_lost _ _ c.args.from c.args.entries.now c.loop-entry.entry-index c.loop-entry-test.true c.args.tables.now c.table.result c.table.ensures c.requires.tables c.loop-entry.invariant _ h.1,
      );
    }

pub loop-entry-preserved : goal.loop-entry-preserved
loop-entry-preserved g c =
    put_more _ _ c.args.from c.args.entries.now c.loop-entry.entry-index c.loop-entry-test.true c.args.tables.now c.table.result c.table.ensures c.requires.tables c.loop-entry.invariant _
    c.in_ok-put_entry.ensures.puts
