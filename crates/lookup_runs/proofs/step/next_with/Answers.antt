use Rattle.std.proofs.Common.{◌≡◌, sym, refl, ◌∙◌, rules}
use Rattle.lookup_runs.specs.Runs.{asked, strayed, skipped, asks, strays, equal_hash}
use Rattle.lookup_runs.proofs.step.next_with.Goals as goal

pub returns-then-eq-clause-made : goal.returns-then-eq-clause-made
returns-then-eq-clause-made g c =
    let same : c.args.other.now ≡ c.args.key.now = search rules in (asked c.next.result, asks same c.next.ensures.answer, refl)

pub returns-then-hash-clause-made : goal.returns-then-hash-clause-made
returns-then-hash-clause-made g c =
    let other : c.args.other.now ≡ c.args.key.now → ⊥ = λ h. search rules in
    (skipped, equal_hash (sym c.hash.ensures ∙ c.if-hash.true ∙ c.hash-2.ensures) other, refl)

pub returns-clause-made : goal.returns-clause-made
returns-clause-made g c = (strayed c.next-2.result, strays (λ q. c.if-hash.false (c.hash.ensures ∙ q ∙ sym c.hash-2.ensures)) c.next-2.ensures.answer, refl)
