use Rattle.std.proofs.Common.{◌≡◌, ℕ, ◌<◌, get_or, replicate, Ok, Err, refl, arith, rules}
use Rattle.std.proofs.lemmas.List.{get_or-replicate}
use Rattle.std.proofs.lemmas.Result.{err_from_is_err_and}
use Rattle.file.specs.ReadableFiles.{contents}
use Rattle.file.proofs.SameFiles.{same_file_then}
use Rattle.scanning.specs.Searches.{Located}
use Rattle.scanning.specs.Sweeps.{Steps}
use Rattle.scanning.proofs.Meets.{met_none, met_more, met_lost, counts_more}
use Rattle.scanning.proofs.Sweeping.{swept_none, swept_more}
use Rattle.scanning.proofs.placing.place_records.Goals as goal

pub loop-place-init : goal.loop-place-init
loop-place-init g c =
    let f = contents c.args.file.now in
    let none : (t : ℕ) → t < 256 → ◌≡◌ {A = ℕ} (get_or (replicate 256 0) t 0) 0 = λ t l. get_or-replicate 256 t 0 0 l in
    record {
      after = omega arith;
      within = c.requires.within.0;
      ahead = c.requires.records;
      met = met_none f (replicate 256 0) none;
      few = omega arith;
      tables = refl;
      counts = λ t l. omega (arith, none t l);
      swept = swept_none f c.args.end;
      same = search rules;
    }

pub returns-in_err-found-clause-answer : goal.returns-in_err-found-clause-answer
returns-in_err-found-clause-answer g c =
    let f = contents c.args.file.now in
    let p = c.loop-place.place in
    let y = c.in_err-found.field-0.0 in
    let inv = c.loop-place.invariant in
    let s2 = same_file_then inv.same c.record_at-step.ensures.same in
    let r = err_from_is_err_and c.from_residual.result c.from_residual.ensures.1 in
    let lost : Located f p c.loop-place.low (Err y) = rw s2.contents at c.in_err-found.ensures.located in
    rw (r.1, r.2) (met_lost f p c.args.end c.loop-place.probes c.loop-place.low c.loop-place.counts y inv.met inv.ahead (search rules) lost)

pub loop-place-preserved : goal.loop-place-preserved
loop-place-preserved g c =
    let f = contents c.args.file.now in
    let p = c.loop-place.place in
    let step = c.record_at-step.result in
    let x = c.in_ok-found.found in
    let inv = c.loop-place.invariant in
    let s2 = same_file_then inv.same c.record_at-step.ensures.same in
    let next : Steps f p c.args.end step = rw inv.same.contents at c.record_at-step.ensures.found in
    let found : Located f p c.loop-place.low (Ok x) = rw s2.contents at c.in_ok-found.ensures.located in
    let lt : x.table < 256 = omega (arith, found.0) in
    let s = next.next in
    let w = next.within in
    let up : p < step.next = omega arith in
    record {
      after = omega arith;
      within = omega arith;
      ahead = next.ahead;
      met = met_more f p step.next c.loop-place.probes x.distance x.table c.loop-place.counts inv.met s (omega arith) inv.tables lt found.0 found.1;
      few = omega arith;
      tables = search rules;
      counts = counts_more c.loop-place.counts x.table p step.next inv.counts inv.tables lt inv.after up;
      swept = swept_more f p step.next c.args.end c.loop-place.low x.low inv.swept s (omega arith) found.2;
      same = same_file_then s2 c.locate.ensures.same;
    }
