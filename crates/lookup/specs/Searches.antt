-- A lookup under way.
use Rattle.std.specs.Prelude.{◌≡◌}
use Rattle.lookup.specs.declared.searching.Search.{Search}

-- a call left what the device means, and which device is lent, the cursor and the key
pub record Kept {D B : _} (old new : Search D B) : Type 0 where
  pub same : B.meaning new.device.now ≡ B.meaning old.device.now
  pub lent : new.device.ghost_name ≡ old.device.ghost_name
  pub cursor : new.cursor ≡ old.cursor
  pub key : new.key ≡ old.key
