use Rattle.std.proofs.Common.{◌≡◌, ℕ, ◌+◌, ◌*◌, ◌%◌, ap, ◌∙◌, rules}
use Rattle.byte_lists.specs.Bytes.{part}
use Rattle.cdb.specs.Records.{hash_of}
use Rattle.file.specs.Extents.{WordsAt}
use Rattle.file.specs.ReadableFiles.{contents}
use Rattle.file.proofs.SameFiles.{same_file_then}
use Rattle.scanning.specs.Searches.{item_at, Searched}
use Rattle.scanning.proofs.Ranks.{at_table, located}
use Rattle.scanning.proofs.searching.locate.Goals as goal

pub returns-clause-located : goal.returns-clause-located
returns-clause-located g c =
    let f = contents c.args.file.now in
    let p = c.args.place in
    let h = c.hash-hash.result in
    let r = c.words-head.result in
    let x = c.search.result in
    let s2 = same_file_then c.hash-hash.ensures.same c.words-head.ensures.same in
    let q : h ≡ hash_of (item_at f p).key = c.hash-hash.ensures.hash ∙ ap (λ (n : ℕ). hash_of (part f (p + 8) n)) c.requires.key in
    let pair : WordsAt f (8 * (h % 256)) r = rw c.hash-hash.ensures.same.contents at c.words-head.ensures.words in
    let found : Searched f r.first r.second h p c.args.best x = rw s2.contents at c.search.ensures.answer in
    located f p c.args.best x (search rules) (at_table f p h r q pair (λ u v w. Searched f u v w p c.args.best x) found)
