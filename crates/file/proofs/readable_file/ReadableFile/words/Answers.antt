use Rattle.std.proofs.Common.{refl, ◌∙◌, arith}
use Rattle.file.specs.ReadableFiles.{contents}
use Rattle.byte_lists.proofs.Words.{word_in}
use Rattle.file.proofs.readable_file.ReadableFile.words.Goals as goal

pub returns-clause-words : goal.returns-clause-words
returns-clause-words g c =
    let f = contents c.args.self.now in
    let p = c.args.p in
    let e = c.part.ensures.piece in
    (c.from.ensures.0 ∙ word_in f c.part.new.piece p 8 0 p e (omega arith) (omega arith), c.from.ensures.1 ∙ word_in f c.part.new.piece p 8 4 _ e (omega arith) refl)
