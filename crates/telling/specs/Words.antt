-- The words in which a refusal is told to people.
use Rattle.std.specs.Prelude.{ℕ, ◌==◌, cond, List, ◌++◌, codes, decimal}
use Rattle.faults.specs.declared.report.Report.{Report}

-- what the refusals of a number have in common: by the input, then by the state
abbrev pub words : ℕ → List ℕ
words n =
    cond (n == 1) (codes "not a lawful file: it is shorter than its header")
    (cond (n == 2) (codes "not a lawful file: a header entry is wrong")
    (cond (n == 3) (codes "not a lawful file: a record passes the end of the records")
    (cond (n == 4) (codes "not a lawful file: a search for a record does not meet it")
    (cond (n == 5) (codes "not a lawful file: a table has not as many filled slots as records")
    (cond (n == 6) (codes "not a lawful file: a table with slots has no empty one")
    (cond (n == 7) (codes "not a lawful file: an empty slot has a hash")
    (cond (n == 8) (codes "not a lawful file: a search meets a record before an earlier one of its key")
    (cond (n == 9) (codes "a slot or a record passes the end of the file")
    (cond (n == 10) (codes "malformed text")
    (cond (n == 11) (codes "outside the device, the file or the data")
    (cond (n == 21) (codes "no power")
    (cond (n == 22) (codes "a bad sector")
    (cond (n == 23) (codes "no lawful root")
    (cond (n == 24) (codes "not enough entry memory")
    (cond (n == 25) (codes "the draft is full")
    (cond (n == 26) (codes "the cursor belongs to another key")
    (cond (n == 27) (codes "the output is too short, or the input too long")
    (cond (n == 28) (codes "a device of fewer than 9 sectors")
    (cond (n == 29) (codes "16 other sectors are marked")
    (codes "refused"))))))))))))))))))))

-- the words, then the number, the table and the place
abbrev pub refusal_text : Report → List ℕ
refusal_text r =
    words r.number ++ (codes ": number " ++ (decimal r.number ++ (codes ", table " ++ (decimal r.table ++ (codes ", place " ++ decimal r.place)))))
