-- Roots that are not lawful.
use Rattle.std.proofs.Common.{◌≡◌, ℕ, ◌≤◌, Bool, true, false, List, sym, refl, ◌∙◌, subst, arith}
use mathlib.Core.Bool.{false≢true}
use Rattle.std.specs.Bool.{Decides, then_some}
use Rattle.byte_lists.specs.Bytes.{word_at}
use Rattle.areas.specs.declared.area.Area.{Area}
use Rattle.areas.specs.Geometry.{number}
use Rattle.areas.specs.Roots.{LawfulRoot}
use Rattle.areas.specs.Steps.{RootIn}
use Rattle.areas.proofs.Rooted.{root_words, same_area}

module _ (bytes : List ℕ) (sectors : ℕ) (few : sectors ≤ 8388607) where
  -- a lawful root has the area and the length of its words
  pub lawful_words : (a : Area) (len : ℕ) → LawfulRoot bytes sectors a len → (word_at bytes 0 ≡ number a) × (word_at bytes 4 ≡ len)
  lawful_words a len h = root_words bytes a len (omega (arith, h.fits)) h.is

  -- bytes whose first word is no area's number are no root
  pub no_area : (n : ℕ) → n ≡ word_at bytes 0 → ((a : Area) → n ≡ number a → ⊥) → (a : Area) (len : ℕ) → LawfulRoot bytes sectors a len → ⊥
  no_area n w h a len l = h a (w ∙ (lawful_words a len l).0)

  module _ (b : Area) (n w : ℕ) (first : n ≡ word_at bytes 0) (area : n ≡ number b) (second : w ≡ word_at bytes 4) where
    -- a lawful root would be the one of these words
    only_root : (a : Area) (len : ℕ) → LawfulRoot bytes sectors a len → LawfulRoot bytes sectors b w
    only_root a len l =
        let r = lawful_words a len l in
        let x : a ≡ b = same_area a b (sym r.0 ∙ sym first ∙ area) in
        let y : len ≡ w = sym r.1 ∙ sym second in
        subst (λ (q : ℕ). LawfulRoot bytes sectors b q) y (subst (λ (q : Area). LawfulRoot bytes sectors q len) x l)

    pub no_root : (LawfulRoot bytes sectors b w → ⊥) → (a : Area) (len : ℕ) → LawfulRoot bytes sectors a len → ⊥
    no_root h a len l = h (only_root a len l)

    -- the root of these words is the one that the bytes are, if it is lawful
    pub root_if : (yes : Bool) → Decides yes (LawfulRoot bytes sectors b w) → RootIn bytes sectors (then_some yes (record { area = b; len = w }))
    root_if true d = d.0 refl
    root_if false d = no_root (λ l. false≢true (d.1 l))
