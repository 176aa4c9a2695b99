use Rattle.std.proofs.lemmas.Result.{err_from_is_err_and}
use Rattle.device.specs.Meanings.{Meaning}
use Rattle.lookup.specs.declared.cursors.Cursor.{Cursor}
use Rattle.lookup.specs.Probes.{past, bad, table_in}
use Rattle.lookup.proofs.Placed.{words_read, words_refused}
use Rattle.lookup.proofs.searching.Search.words.Goals as goal

pub returns-then-place-extent-clause-probe : goal.returns-then-place-extent-clause-probe
returns-then-place-extent-clause-probe g c = past c.if-place-extent.true

pub returns-in_err-words-clause-probe : goal.returns-in_err-words-clause-probe
returns-in_err-words-clause-probe g c =
    let m : Meaning = g.D.Device.meaning c.args.self.now.device.now in
    let u : Cursor = c.args.self.now.cursor in
    let r = err_from_is_err_and c.from_residual.result c.from_residual.ensures.1 in
    let b = words_refused m u.extent (table_in u) c.args.place c.read_words.result c.add_place.result c.read_words.ensures.read c.add_place.ensures c.in_err-words.field-0.0 c.in_err-words.was in
    rw (r.1, r.2, b.2) (bad c.if-place-extent.false b.1)

pub returns-clause-probe : goal.returns-clause-probe
returns-clause-probe g c =
    let m : Meaning = g.D.Device.meaning c.args.self.now.device.now in
    let u : Cursor = c.args.self.now.cursor in
    let w = words_read m u.extent (table_in u) c.args.place c.read_words.result c.add_place.result c.read_words.ensures.read c.add_place.ensures c.in_ok-words.words c.if-place-extent.false c.in_ok-words.was in
    (w.0, w.1, w.2)
