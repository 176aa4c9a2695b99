use Rattle.std.proofs.Common.{◌≡◌, Ok, refl, subst, rules}
use Rattle.device.specs.Meanings.{Meaning}
use Rattle.lookup.specs.declared.cursors.Cursor.{Cursor}
use Rattle.lookup.specs.Starts.{Start}
use Rattle.lookup_runs.specs.Runs.{RanLast}
use Rattle.lookup_runs.proofs.Giving.{start_done, law_of_lookups, run_tied, run_wrote}
use Rattle.lookup_runs.proofs.run.run.Goals as goal

pub returns-in_err-cursor-clause-law : goal.returns-in_err-cursor-clause-law
returns-in_err-cursor-clause-law g c = λ rs ok law long.
    let answered : Start (g.D.Device.meaning c.args.d.now) c.args.extent c.args.key.now c.start.result = search rules in
    let done = start_done _ c.args.extent rs c.args.key.now c.start.result ok law answered in
    absurd (search rules)

pub returns : goal.returns
returns g c =
    let m : Meaning = g.D.Device.meaning c.args.d.now in
    let e = c.args.extent in
    let key = c.args.key.now in
    let b = c.args.buffer.now in
    let ks = c.args.calls.now in
    let first : Cursor = c.in_ok-cursor.cursor in
    let made : c.start.result ≡ Ok first = search rules in
    let answered : Start m e key c.start.result = search rules in
    let started : Start m e key (Ok first) = rw made at answered in
    let R : Meaning → Type 0 = λ n. RanLast n e key first b ks c.run_from.new.answers c.run_from.new.buffer in
    let after : R (g.D.Device.meaning c.start.new.d) = search rules in
    let ran = subst R c.start.ensures.same after in
    let to = ran.1 in
    record {
      runs = (c.if-answers-calls.false, record { first = first; last = ran.0; started = started; ran = to });
      law = λ rs ok law long. (
        refl,
        record {
          events = to.events;
          tied = run_tied m e key first b ran.0 c.run_from.new.buffer ks to.events to.run;
          answers = to.answers;
          gives = law_of_lookups m e rs key first ran.0 b c.run_from.new.buffer ks to.events ok law started to.run;
          buffer = run_wrote m e key first b ran.0 c.run_from.new.buffer ks to.events to.run;
        },
      );
      kept = search rules;
      refused = tt;
    }
