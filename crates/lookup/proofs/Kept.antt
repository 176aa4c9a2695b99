-- What a call of a lookup under way leaves.
use Rattle.std.proofs.Common.{◌≡◌, ℕ, List, length, ap, ◌∙◌, subst}
use Rattle.device.specs.Meanings.{Meaning}
use Rattle.lookup.specs.declared.cursors.Cursor.{Cursor}
use Rattle.lookup.specs.declared.searching.Search.{Search}
use Rattle.lookup.specs.Searches.{Kept}

module _ {D B : _} {s t : Search D B} (kept : Kept s t) where
  -- a fact after the call is one of the lookup before it
  pub moved : (F : Meaning → Cursor → List ℕ → Type 0) → F (B.meaning t.device.now) t.cursor t.key.now → F (B.meaning s.device.now) s.cursor s.key.now
  moved F h =
      subst (λ (m : Meaning). F m s.cursor s.key.now) kept.same
      (subst (λ (u : Cursor). F (B.meaning t.device.now) u s.key.now) kept.cursor
      (subst (λ k. F (B.meaning t.device.now) t.cursor k.now) kept.key h))

  -- a call after another
  pub kept_twice : {u : Search D B} → Kept t u → Kept s u
  kept_twice more =
      record { same = more.same ∙ kept.same; lent = more.lent ∙ kept.lent; cursor = more.cursor ∙ kept.cursor; key = more.key ∙ kept.key }

  -- the key stays as long as it was
  pub key_long : length t.key.now ≡ length s.key.now
  key_long = ap (λ k. length k.now) kept.key
