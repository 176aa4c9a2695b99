use Rattle.std.proofs.Common.{rules}
use Rattle.std.proofs.lemmas.Iterator.{cases_from_all, YieldsList-from_slice}
use Rattle.text.specs.Texts.{Proper}
use Rattle.text.specs.Readings.{lent}
use Rattle.text_writer.proofs.Back.{all_proper_decided}
use Rattle.text_writer.proofs.writing.all_proper.Goals as goal

pub returns : goal.returns
returns c =
    all_proper_decided c.all.result c.args.records.now
    (cases_from_all _ _ c.all.result (λ x. Proper (lent x)) (λ x. Proper (lent x) → ⊥) c.all.ensures.ran (YieldsList-from_slice c.args.records.now cc)
    (λ x q k. search rules) (λ x q k. search rules))
