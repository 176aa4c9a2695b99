use Rattle.std.proofs.Common.{◌≡◌, ℕ, ◌+◌, List, true, is_ok, refl, ap, ◌∙◌, subst, arith, rules}
use Rattle.byte_lists.proofs.Words.{word_in}
use Rattle.device.specs.Meanings.{Meaning, within}
use Rattle.file.specs.Extents.{WordsAt}
use Rattle.file.proofs.Turns.{read_ok, piece_readable}
use Rattle.file.proofs.reading.read_words.Goals as goal
use Rattle.file.proofs.reading.read_words.Goals.{then-place-le504+in_ok-read, else-place-le504+in_ok-read_part}

pub returns-clause-read : goal.returns-clause-read
returns-clause-read g c =
    let m : Meaning = g.D.Device.meaning c.args.d.now in
    let p : ℕ = c.args.place in
    let words : WordsAt c.if-place-le504.bytes 0 c.from.result = search rules in
    elim c.if-place-le504.branch [
      | then-place-le504+in_ok-read w ↦
          let i : within m.sectors p 8 ≡ true = search rules in
          let r = read_ok m p 8 w.read.result _ w.read.new.piece i w.read.ensures.answer (ap is_ok w.in_ok-read.was) w.read.ensures.piece in
          let own : WordsAt w.read.new.piece 0 c.from.result = subst (λ (x : List ℕ). WordsAt x 0 c.from.result) w.bytes-is words in (
            (λ j l. piece_readable m p 8 j (omega arith) l r.0),
            own.0 ∙ word_in m.bytes w.read.new.piece p 8 0 p r.1 (omega arith) (omega arith),
            own.1 ∙ word_in m.bytes w.read.new.piece p 8 4 (p + 4) r.1 (omega arith) refl,
          )
      | else-place-le504+in_ok-read_part w ↦ search rules
    ]
