use Rattle.std.proofs.Common.{◌≡◌, ℕ, ◌-◌, List, length, sym, ap, ◌∙◌}
use Rattle.std.proofs.lemmas.Bool.{eqb-true, eq-eqb}
use Rattle.byte_lists.specs.Bytes.{word_at}
use Rattle.lookup.proofs.Pieces.{words_same, bytes_all}
use Rattle.lookup.proofs.searching.comparing.same_bytes.Goals as goal

pub returns : goal.returns
returns c =
    let a : List ℕ = c.args.a.now in
    let b : List ℕ = c.args.b.now in
    let n : ℕ = length a in
    let i : ℕ = c.loop-i.i in (
      (λ e.
          let w : word_at a (n - 4) ≡ word_at b (n - 4) = sym c.word_at-2.ensures ∙ eqb-true c.word_at-2.result c.word_at-3.result e ∙ c.word_at-3.ensures in
          bytes_all a b i c.requires c.if-n-lt4.false c.loop-i-test.false c.loop-i.invariant.1 (words_same a b (n - 4) c.type_inv.a c.type_inv.b w)),
      (λ e. eq-eqb c.word_at-2.result c.word_at-3.result (c.word_at-2.ensures ∙ ap (λ (xs : List ℕ). word_at xs (n - 4)) e ∙ sym c.word_at-3.ensures)),
    )
