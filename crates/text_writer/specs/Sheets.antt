-- What is written on a sheet.
use Rattle.std.specs.Prelude.{◌≡◌, ℕ, ◌+◌, List, length}
use Rattle.byte_lists.specs.Bytes.{laid}
use Rattle.text_writer.specs.declared.sheet.Sheet.{Sheet}

-- the bytes x are written behind what is written on the sheet s, which turns it into t
pub record Adds (x : List ℕ) (s t : Sheet) : Type 0 where
  pub same_reference : t.buffer.ghost_name ≡ s.buffer.ghost_name
  pub written : t.written ≡ s.written + length x
  pub after : t.buffer.now ≡ laid s.buffer.now s.written x
  pub long : length t.buffer.now ≡ length s.buffer.now
