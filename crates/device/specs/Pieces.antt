-- The pieces of a run of bytes: what one call of the iterator gives, and what it leaves.
use Rattle.std.specs.Prelude.{◌≡◌, ◌+◌, Option, Some, None}
use Rattle.device.specs.declared.pieces.Piece.{Piece}
use Rattle.device.specs.declared.pieces.Pieces.{Pieces}

-- the piece p comes next in the run: it begins where s is, and t goes on where it ends
pub record IsNext (s : Pieces) (p : Piece) (t : Pieces) : Type 0 where
  pub start : t.start ≡ s.start
  pub len : t.len ≡ s.len
  pub place : p.place ≡ s.start + s.done
  pub from : p.from ≡ s.done
  pub to : p.to ≡ t.done

-- the next piece, or none at the end of the run
abbrev pub GivesPiece : Pieces → Option Piece → Pieces → Type 0
GivesPiece s None t = (s.done ≡ s.len) × (t ≡ s)
GivesPiece s (Some p) t = IsNext s p t
