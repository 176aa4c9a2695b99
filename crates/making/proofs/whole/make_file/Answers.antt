use Rattle.std.proofs.Common.{ℕ, ◌++◌, ◌≤◌, List, length, drop, Ok, Err, refl, arith}
use Rattle.std.proofs.lemmas.Result.{err_from_is_err_and}
use Rattle.device.specs.Meanings.{Meaning}
use Rattle.building.specs.declared.entries.Entry.{Entry}
use Rattle.making.specs.declared.fault.MakeFault.TheVariants.{Text, File}
use Rattle.making.specs.Makes.{MakesFile}
use Rattle.making.proofs.Backward.{gives_the_text_back}
use Rattle.making.proofs.Caused.{refused_for_cause}
use Rattle.making.proofs.Answering.{too_long, records_fit, record_refused, close_within, close_refused, made}
use Rattle.making.proofs.whole.make_file.Goals as goal

pub returns-in_err-counts : goal.returns-in_err-counts
returns-in_err-counts g c =
    let q = err_from_is_err_and c.from_residual.result c.from_residual.ensures.1 in
    let m : Meaning = g.D.Device.meaning c.args.d.now in
    let es : List Entry = c.args.entries.now in
    let t : List ℕ = c.args.text.now in
    let k : MakesFile m es t (Err (Text c.in_err-counts.field-0.0)) m es = (c.in_err-counts.ensures, refl, refl) in
    rw (q.1, q.2) (record { makes = k; back = tt; cause = tt })

pub returns-then-entries-records : goal.returns-then-entries-records
returns-then-entries-records g c =
    let k = c.in_ok-counts.ensures in
    record { makes = (k.0, k.1, omega (arith, k.2), refl, refl); back = tt; cause = tt }

pub returns-in_err-len : goal.returns-in_err-len
returns-in_err-len g c =
    let q = err_from_is_err_and c.from_residual-in_err-len.result c.from_residual-in_err-len.ensures.1 in
    let m : Meaning = g.D.Device.meaning c.args.d.now in
    let es : List Entry = c.args.entries.now in
    let t : List ℕ = c.args.text.now in
    let enough : c.in_ok-counts.counts.records ≤ length es = omega arith in
    let k : MakesFile m es t (Err c.in_err-len.field-0.0) m es = too_long m es t c.in_ok-counts.counts c.size.result c.in_ok-counts.ensures enough c.size.ensures _ c.in_err-len.ensures in
    rw (q.1, q.2) (record { makes = k; back = gives_the_text_back m m es es t (Err c.in_err-len.field-0.0) k; cause = refused_for_cause m m es es t (Err c.in_err-len.field-0.0) k })

pub write_records-requires : goal.write_records-requires
write_records-requires g c =
    let m : Meaning = g.D.Device.meaning c.args.d.now in
    let es : List Entry = c.args.entries.now in
    let t : List ℕ = c.args.text.now in
    let enough : c.in_ok-counts.counts.records ≤ length es = omega arith in
    record { fit = records_fit m es t c.in_ok-counts.counts c.size.result c.in_ok-counts.ensures enough c.size.ensures c.in_ok-len.len c.in_ok-len.ensures }

pub returns-in_err-end : goal.returns-in_err-end
returns-in_err-end g c =
    let q = err_from_is_err_and c.from_residual-in_err-end.result c.from_residual-in_err-end.ensures.1 in
    let m : Meaning = g.D.Device.meaning c.args.d.now in
    let n : Meaning = g.D.Device.meaning c.write_records.new.d in
    let es : List Entry = c.args.entries.now in
    let t : List ℕ = c.args.text.now in
    let fs : List Entry = c.write_records.new.entries ++ drop c.in_ok-counts.counts.records es in
    let enough : c.in_ok-counts.counts.records ≤ length es = omega arith in
    let k : MakesFile m es t (Err (File c.in_err-end.field-0.0)) n fs =
    record_refused m es t c.in_ok-counts.counts c.size.result c.in_ok-counts.ensures enough c.size.ensures c.in_ok-len.len c.in_ok-len.ensures n c.write_records.new.entries _ c.in_err-end.ensures.puts in
    rw (q.1, q.2) (record { makes = k; back = gives_the_text_back m n es fs t (Err (File c.in_err-end.field-0.0)) k; cause = refused_for_cause m n es fs t (Err (File c.in_err-end.field-0.0)) k })

pub close-requires-clause-within : goal.close-requires-clause-within
close-requires-clause-within g c =
    let m : Meaning = g.D.Device.meaning c.args.d.now in
    let n : Meaning = g.D.Device.meaning c.write_records.new.d in
    let es : List Entry = c.args.entries.now in
    let t : List ℕ = c.args.text.now in
    let enough : c.in_ok-counts.counts.records ≤ length es = omega arith in
    close_within m es t c.in_ok-counts.counts c.size.result c.in_ok-counts.ensures enough c.size.ensures c.in_ok-len.len c.in_ok-len.ensures n c.write_records.new.entries c.in_ok-end.end c.in_ok-end.ensures.puts

pub returns-in_err-close : goal.returns-in_err-close
returns-in_err-close g c =
    let q = err_from_is_err_and c.from_residual-in_err-close.result c.from_residual-in_err-close.ensures.1 in
    let m : Meaning = g.D.Device.meaning c.args.d.now in
    let o : Meaning = g.D.Device.meaning c.write_records.new.d in
    let n : Meaning = g.D.Device.meaning c.close.new.d in
    let es : List Entry = c.args.entries.now in
    let t : List ℕ = c.args.text.now in
    let fs : List Entry = c.write_records.new.entries ++ drop c.in_ok-counts.counts.records es in
    let enough : c.in_ok-counts.counts.records ≤ length es = omega arith in
    let k : MakesFile m es t (Err (File c.in_err-close.field-0.0)) n fs =
    close_refused m es t c.in_ok-counts.counts c.size.result c.in_ok-counts.ensures enough c.size.ensures c.in_ok-len.len c.in_ok-len.ensures o c.write_records.new.entries c.in_ok-end.end c.in_ok-end.ensures.puts n _ c.in_err-close.ensures.closes in
    rw (q.1, q.2) (record { makes = k; back = gives_the_text_back m n es fs t (Err (File c.in_err-close.field-0.0)) k; cause = refused_for_cause m n es fs t (Err (File c.in_err-close.field-0.0)) k })

pub returns : goal.returns
returns g c =
    let m : Meaning = g.D.Device.meaning c.args.d.now in
    let o : Meaning = g.D.Device.meaning c.write_records.new.d in
    let n : Meaning = g.D.Device.meaning c.close.new.d in
    let es : List Entry = c.args.entries.now in
    let t : List ℕ = c.args.text.now in
    let fs : List Entry = c.write_records.new.entries ++ drop c.in_ok-counts.counts.records es in
    let enough : c.in_ok-counts.counts.records ≤ length es = omega arith in
    let k : MakesFile m es t (Ok c.in_ok-len.len) n fs =
    made m es t c.in_ok-counts.counts c.size.result c.in_ok-counts.ensures enough c.size.ensures c.in_ok-len.len c.in_ok-len.ensures o c.write_records.new.entries c.in_ok-end.end c.in_ok-end.ensures.puts n (g.met.D.Device.whole c.args.d.now) c.in_ok-close.ensures.closes in
    record { makes = k; back = gives_the_text_back m n es fs t (Ok c.in_ok-len.len) k; cause = refused_for_cause m n es fs t (Ok c.in_ok-len.len) k }
