-- How the counts of a file are printed.
use Rattle.std.specs.Prelude.{ℕ, List, ◌++◌, codes, decimal}
use Rattle.auditing.specs.declared.audits.Counts.{Counts}

-- the records, the slots and the probes in decimal, with commas between them
abbrev pub counts_text : Counts → List ℕ
counts_text c = decimal c.records ++ (codes "," ++ (decimal c.slots ++ (codes "," ++ decimal c.probes)))
