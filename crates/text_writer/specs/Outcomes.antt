-- The line that tells the outcome of a check.
use Rattle.std.specs.Prelude.{◌≡◌, ℕ, ◌<◌, ◌≤◌, ◌⊎◌, List, [], ◌∷◌, ◌++◌, length, Ok, Err, codes, decimal, Result}
use Rattle.byte_lists.specs.Bytes.{laid}
use Rattle.faults.specs.declared.report.Report.{Report}
use Rattle.cdb.specs.Records.{Record}
use Rattle.text.specs.declared.fault.TextFault.{TextFault}
use Rattle.text.specs.declared.fault.TextFault.TheVariants.{Malformed, Short, Long}
use Rattle.text.specs.Texts.{TextOf, Refused}
use Rattle.text.specs.Reports.{text_report}
use Rattle.text.specs.Wholes.{bytes_in}

-- ok, the number of records, the number of bytes
abbrev pub ok_line : ℕ → ℕ → List ℕ
ok_line records bytes = codes "ok," ++ (decimal records ++ (44 ∷ (decimal bytes ++ (10 ∷ []))))

-- no, the number of the refusal, its table, its place
abbrev pub no_line : Report → List ℕ
no_line r = codes "no," ++ (decimal r.number ++ (44 ∷ (decimal r.table ++ (44 ∷ (decimal r.place ++ (10 ∷ []))))))

-- this is the line of the text t
abbrev pub LineOf : List ℕ → List ℕ → Type 0
LineOf t x =
    ((rs : List Record) × TextOf t rs × (x ≡ ok_line (length rs) (bytes_in rs)))
    ⊎ ((e : ℕ) × Refused t e × (x ≡ no_line (text_report (Malformed e))))

-- the bytes x are laid over the start of a buffer b that has room for so many bytes, which turns it into c; or it is too short, and nothing changes
abbrev pub Lays : List ℕ → ℕ → List ℕ → Result ℕ TextFault → List ℕ → Type 0
Lays x room b (Ok n) c = (n ≡ length x) × (n ≤ room) × (c ≡ laid b 0 x)
Lays x room b (Err (Malformed e)) c = ⊥
Lays x room b (Err (Short n)) c = (room < length x) × (n ≡ room) × (c ≡ b)
Lays x room b (Err Long) c = ⊥

abbrev pub Checks : List ℕ → ℕ → List ℕ → Result ℕ TextFault → List ℕ → Type 0
Checks t room b r c = (x : List ℕ) × LineOf t x × Lays x room b r c
