-- A file is lawful exactly when it is made.
use Rattle.cdb.specs.Theorems.{LawfulExactlyWhenMade}
use Rattle.cdb.proofs.ByTable.{by_table, all_tables}
use Rattle.cdb.proofs.FileProof.{file_sound}

pub lawful_exactly : LawfulExactlyWhenMade
lawful_exactly f rs bytes short = let s = file_sound f rs bytes short in ((λ law. s.0 (by_table f rs law)), λ m. all_tables f rs (s.1 m))
