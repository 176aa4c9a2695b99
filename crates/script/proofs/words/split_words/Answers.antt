use Rattle.std.proofs.Common.{◌≡◌, ◌==◌, length, rules, tests, arith}
use Rattle.std.proofs.lemmas.Iterator.Consumers.{YieldsList-turn, YieldsList-end}
use Rattle.std.proofs.lemmas.Iterator.Splits.{YieldsList-from_slice_split}
use Rattle.std.proofs.lemmas.List.{length_push, length-map}
use Rattle.script.proofs.Reading.{pushed, read_start, read_comment, read_end, read_gap, read_word, refuse_gap, refuse_many}
use Rattle.script.proofs.words.split_words.Goals as goal
use Rattle.script.proofs.words.split_words.Goals.{in-None, in-Some+then-starts_comment}

pub loop-piece-init : goal.loop-piece-init
loop-piece-init c = rw c.new-words.ensures (read_start c.args.line.now)

pub loop-piece-preserved-then-is_empty : goal.loop-piece-preserved-then-is_empty
loop-piece-preserved-then-is_empty c =
    let t = YieldsList-turn (YieldsList-from_slice_split _ (λ b. b == 32) c.args.line.now (cc) (cc) (cc) (λ x b q k. search (rules, tests))) c.loop-piece.yielded _ c.loop-piece.yielded_by _ _ c.in-Some.piece c.in-Some.is c.next.ensures.steps in
    read_gap _ _ _ _ _ c.in-Some.piece.now c.loop-piece.invariant t (search rules) (search (rules, tests)) (length_push c.loop-piece.yielded c.in-Some.piece)

pub returns-then-gap : goal.returns-then-gap
returns-then-gap c =
    let t = YieldsList-turn (YieldsList-from_slice_split _ (λ b. b == 32) c.args.line.now (cc) (cc) (cc) (λ x b q k. search (rules, tests))) c.loop-piece.yielded _ c.loop-piece.yielded_by _ _ c.in-Some.piece c.in-Some.is c.next.ensures.steps in
    refuse_gap _ _ _ _ c.in-Some.piece.now c.loop-piece.invariant c.if-gap.true t (search (rules, tests)) (search rules)

pub returns-then-is_full : goal.returns-then-is_full
returns-then-is_full c =
    let t = YieldsList-turn (YieldsList-from_slice_split _ (λ b. b == 32) c.args.line.now (cc) (cc) (cc) (λ x b q k. search (rules, tests))) c.loop-piece.yielded _ c.loop-piece.yielded_by _ _ c.in-Some.piece c.in-Some.is c.next.ensures.steps in
    refuse_many _ _ _ _ c.in-Some.piece.now c.loop-piece.invariant c.if-gap.false t (search (rules, tests)) (search rules) (let e : length c.loop-piece.words.items ≡ 4 = search (rules, tests) in rw length-map (omega arith))

pub loop-piece-preserved : goal.loop-piece-preserved
loop-piece-preserved c =
    let t = YieldsList-turn (YieldsList-from_slice_split _ (λ b. b == 32) c.args.line.now (cc) (cc) (cc) (λ x b q k. search (rules, tests))) c.loop-piece.yielded _ c.loop-piece.yielded_by _ _ c.in-Some.piece c.in-Some.is c.next.ensures.steps in
    read_word _ _ _ _ _ _ c.in-Some.piece.now c.loop-piece.invariant c.if-gap.false t (search (rules, tests)) (search rules) (pushed _ _ _ c.push.ensures.items) (length_push c.loop-piece.yielded c.in-Some.piece)

pub returns : goal.returns
returns c = elim c.match-next.branch [
  | in-None w ↦
      let t = YieldsList-end (YieldsList-from_slice_split _ (λ b. b == 32) c.args.line.now (cc) (cc) (cc) (λ x b q k. search (rules, tests))) c.loop-piece.yielded _ c.loop-piece.yielded_by _ _ w.in-None.is c.next.ensures.steps in
      (read_end _ _ _ _ c.loop-piece.invariant t.1, c.loop-piece.invariant.full)
  | in-Some+then-starts_comment w ↦
      let t = YieldsList-turn (YieldsList-from_slice_split _ (λ b. b == 32) c.args.line.now (cc) (cc) (cc) (λ x b q k. search (rules, tests))) c.loop-piece.yielded _ c.loop-piece.yielded_by _ _ w.in-Some.piece w.in-Some.is c.next.ensures.steps in
      (read_comment _ _ _ _ w.in-Some.piece.now c.loop-piece.invariant t (search rules), c.loop-piece.invariant.full)
]
