-- A header entry that was read.
use Rattle.std.proofs.Common.{◌≡◌, ℕ, ◌+◌, ◌-◌, ◌*◌, ◌<◌, List, length, sym, ◌∙◌, arith}
use Rattle.cdb.specs.Files.{ends}
use Rattle.cdb.specs.Rules.{Rule2}
use Rattle.file.specs.declared.words.Words.{Words}
use Rattle.file.specs.Extents.{WordsAt}
use Rattle.scanning.specs.Headers.{Stands}

module _ (f : List ℕ) (len t due : ℕ) (r : Words) (long : length f ≡ len) (pair : WordsAt f (8 * t) r) (before : 0 < t → due ≡ ends f (t - 1)) where
  pub entry_stands : Stands t due r.first r.second len → Rule2 f t
  entry_stands s = record {
    first = λ z. let h = s.first z in (omega (arith, pair.0), omega (arith, pair.0));
    abuts = λ z. sym pair.0 ∙ s.abuts z ∙ before z;
    within = omega (arith, pair, s.within);
    last = λ z. omega (arith, pair, s.last z);
  }

  pub next_due : r.first + 8 * r.second ≡ ends f t
  next_due = omega (arith, pair)
