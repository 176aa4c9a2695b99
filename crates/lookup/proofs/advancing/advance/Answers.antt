use Rattle.std.proofs.Common.{◌≡◌, List, Ok, Err, Result, sym, refl, ◌∙◌, arith, rules}
use Rattle.faults.specs.declared.file.FileFault.{FileFault}
use Rattle.faults.specs.declared.file.FileFault.TheVariants.{Range, OtherKey}
use Rattle.device.specs.Meanings.{Meaning}
use Rattle.cdb.specs.Records.{hash_of}
use Rattle.file.specs.Extents.{On}
use Rattle.lookup.specs.declared.cursors.Cursor.{Cursor}
use Rattle.lookup.specs.declared.cursors.Step.{Step}
use Rattle.lookup.specs.Nexts.{outside, other_key, walked, Walked, Advances}
use Rattle.lookup.proofs.One.{step_alone}
use Rattle.lookup.proofs.advancing.advance.Goals as goal

pub returns-then-not-is_on : goal.returns-then-not-is_on
returns-then-not-is_on g c = step_alone _ _ _ (Err Range) (outside (λ h. grind arith)) refl

pub returns-then-key-cursor : goal.returns-then-key-cursor
returns-then-key-cursor g c = step_alone _ _ _ (Err OtherKey) (other_key (search rules) (λ h. c.if-key-cursor.true (c.args.key.hashed ∙ h))) refl

advanced : (m : Meaning) (u : Cursor) (key : List _) (r : Result Step FileFault) → On m u.extent → hash_of key ≡ u.hash → Walked m u key r → Advances m u key r
advanced m u key (Ok s) on q w = walked on q w
advanced m u key (Err f) on q w = walked on q w

pub returns : goal.returns
returns g c =
    let on : On (g.D.Device.meaning c.args.d.now) c.args.cursor.extent = search rules in
    step_alone _ _ _ _ (advanced _ c.args.cursor c.args.key.bytes.now c.walk.result on (sym c.args.key.hashed ∙ c.if-key-cursor.false) c.walk.ensures.walk) (search rules)
