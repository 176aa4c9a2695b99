use Rattle.std.proofs.Common.{◌≡◌, ℕ, ◌+◌, sym, subst, arith, rules}
use Rattle.byte_lists.specs.Bytes.{word_at}
use Rattle.file.specs.ReadableFiles.{contents}
use Rattle.scanning.specs.Sweeps.{Ahead}
use Rattle.scanning.proofs.Walks.{ahead_next}
use Rattle.scanning.proofs.walk.record_at.Goals as goal

pub words-words-requires : goal.words-words-requires
words-words-requires g c =
    let a = ahead_next (contents c.args.file.now) c.args.place c.args.end c.requires.records (search rules) in omega (arith, a.0)

pub overflow_add-result-2 : goal.overflow_add-result-2
overflow_add-result-2 g c =
    let a = ahead_next (contents c.args.file.now) c.args.place c.args.end c.requires.records (search rules) in omega (arith, a.0)

pub overflow_add-result-3 : goal.overflow_add-result-3
overflow_add-result-3 g c =
    let a = ahead_next (contents c.args.file.now) c.args.place c.args.end c.requires.records (search rules) in omega (arith, a.0)

pub returns-clause-found : goal.returns-clause-found
returns-clause-found g c =
    let f = contents c.args.file.now in
    let p = c.args.place in
    let r = c.words-words.result in
    let a = ahead_next f p c.args.end c.requires.records (search rules) in
    let z : p + 8 + r.first + r.second ≡ p + (8 + (word_at f p + word_at f (p + 4))) = omega arith in
    record { key = c.words-words.ensures.words.0; next = z; within = omega (arith, a.0); ahead = subst (λ (q : ℕ). Ahead f q c.args.end) (sym z) a.1 }
