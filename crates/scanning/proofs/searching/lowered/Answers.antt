use Rattle.std.proofs.Common.{◌≡◌, sym, refl, ◌∙◌, inr, arith}
use Rattle.byte_lists.specs.Bytes.{word_at}
use Rattle.file.specs.ReadableFiles.{contents}
use Rattle.scanning.proofs.Ranks.{key_lengths}
use Rattle.scanning.proofs.searching.lowered.Goals as goal

pub returns-then-place-sought-2-clause-answer : goal.returns-then-place-sought-2-clause-answer
returns-then-place-sought-2-clause-answer g c =
    let f = contents c.args.file.now in
    let q = c.args.slot.second in
    let p = c.args.sought.place in
    inr ((λ a. let k : word_at f q ≡ word_at f p = key_lengths f p q (omega (arith, c.requires.key)) a.2 a.3 in omega (arith, a.2, c.requires.key)), refl)

pub returns-then-words-sought-clause-answer : goal.returns-then-words-sought-clause-answer
returns-then-words-sought-clause-answer g c =
    let f = contents c.args.file.now in
    inr ((λ a. c.if-words-sought.true (c.words-words.ensures.words.0 ∙ key_lengths f c.args.sought.place c.args.slot.second (omega (arith, c.requires.key)) a.2 a.3 ∙ sym c.requires.key)), refl)
