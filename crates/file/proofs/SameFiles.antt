-- The same file, from call to call.
use Rattle.std.proofs.Common.{◌∙◌}
use Rattle.device.specs.declared.device.Device.{Ghosts}
use Rattle.file.specs.declared.readable_file.ReadableFile.{ReadableFile}
use Rattle.file.specs.ReadableFiles.{SameFile}

pub same_file_then : {D : Type 0} {means : Ghosts D} {x y z : ReadableFile D means} → SameFile x y → SameFile y z → SameFile x z
same_file_then a b = record { contents = b.contents ∙ a.contents; device = b.device ∙ a.device; extent = b.extent ∙ a.extent; lent = b.lent ∙ a.lent }
