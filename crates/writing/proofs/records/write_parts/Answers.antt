use Rattle.std.proofs.Common.{ℕ, List, ◌++◌, length, subst, arith}
use Rattle.std.proofs.lemmas.List.{length-append}
use Rattle.device.specs.Meanings.{Meaning}
use Rattle.byte_lists.specs.Bytes.{word}
use Rattle.writing.specs.Runs.{Completed}
use Rattle.writing.proofs.Running.{runs_both}
use Rattle.writing.proofs.records.write_parts.Goals as goal

pub returns : goal.returns
returns g c =
    let m : Meaning = g.D.Device.meaning c.args.d.now in
    let n : Meaning = g.D.Device.meaning c.write_all.new.d in
    let us : List ℕ = word (length c.args.key.now) ++ word (length c.args.value.now) in
    let P : List ℕ → Type 0 = λ q. Completed m c.args.place q n in
    let w : Completed m c.args.place us n = subst P c.two_words.ensures c.in_ok-write_all.ensures.runs in
    let l = length-append c.args.key.now c.args.value.now in
    record {
      runs = runs_both m n _ c.args.place us (c.args.key.now ++ c.args.value.now) c.write_both.result (omega (arith, c.requires.within, (g.met.D.Device.whole c.args.d.now).long)) w c.write_both.ensures.runs;
    }
