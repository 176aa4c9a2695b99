use Rattle.std.proofs.Common.{◌+◌, ◌<◌, length, sym, refl, ◌∙◌, arith}
use Rattle.lookup_runs.specs.Runs.{skipped, not_found, no_part}
use Rattle.lookup_runs.proofs.Stepping.{fetched_into}
use Rattle.lookup_runs.proofs.step.fetch_found.Goals as goal
use Rattle.lookup_runs.proofs.step.fetch_found.Goals.{then-from-buffer-via-then-from-buffer, then-from-buffer-via-else-from-buffer+then-wanted-buffer}

pub returns-in_default-clause-made : goal.returns-in_default-clause-made
returns-in_default-clause-made g c = (skipped, not_found (sym c.found_by.ensures ∙ c.in_default.is), refl)

pub returns-then-from-buffer-clause-made : goal.returns-then-from-buffer-clause-made
returns-then-from-buffer-clause-made g c =
    let past : length c.args.buffer.now < c.args.wanted.place + c.args.wanted.len =
    elim c.then-from-buffer.branch [
      | then-from-buffer-via-then-from-buffer w ↦ omega (arith, w.if-from-buffer.true)
      | then-from-buffer-via-else-from-buffer+then-wanted-buffer w ↦ omega (arith, w.if-from-buffer.false, w.if-wanted-buffer.true)
    ] in
    (skipped, no_part (sym c.found_by.ensures ∙ c.in-Some.is) past, refl)

pub returns-clause-made : goal.returns-clause-made
returns-clause-made g c =
    fetched_into (g.D.Device.meaning c.args.d.now) c.args.extent _ c.args.buffer.now c.args.wanted c.in-Some.found c.fetch.result c.fetch.new.buffer _ refl (omega arith)
    (sym c.found_by.ensures ∙ c.in-Some.is) c.fetch.ensures.answer c.fetch.auto.buffer
