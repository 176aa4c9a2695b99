-- How answers are told to C: the number that a call returns, and the numbers that it is lent, before and after.
use Rattle.std.specs.Prelude.{◌≡◌, ℕ, List, Some, None, Ok, Err, Option, Result}
use Rattle.faults.specs.declared.file.FileFault.{FileFault}
use Rattle.faults.specs.Reports.{file_report}
use Rattle.auditing.specs.declared.audits.Counts.{Counts}
use Rattle.lookup.specs.declared.cursors.Found.{Found}
use Rattle.c_calls.specs.InMemory.{AuditsMemory, FindsInMemory, FindGivesRecord}

-- an audit: 0 and the counts, or the refusal's number, table and place; the numbers of the other case stay
abbrev pub TellsAudit : Result Counts FileFault → ℕ → ℕ → ℕ → ℕ → ℕ → ℕ → ℕ → ℕ → ℕ → ℕ → ℕ → Type 0
TellsAudit (Ok c) r records records' slots slots' probes probes' table table' place place' =
    (r ≡ 0) × (records' ≡ c.records) × (slots' ≡ c.slots) × (probes' ≡ c.probes) × (table' ≡ table) × (place' ≡ place)
TellsAudit (Err f) r records records' slots slots' probes probes' table table' place place' =
    (r ≡ (file_report f).number) × (records' ≡ records) × (slots' ≡ slots) × (probes' ≡ probes) × (table' ≡ (file_report f).table) × (place' ≡ (file_report f).place)

abbrev pub AuditTold : List ℕ → ℕ → ℕ → ℕ → ℕ → ℕ → ℕ → ℕ → ℕ → ℕ → ℕ → ℕ → ℕ → Type 0
AuditTold xs len r records records' slots slots' probes probes' table table' place place' =
    (a : Result Counts FileFault) × AuditsMemory xs len a × TellsAudit a r records records' slots slots' probes probes' table table' place place'

-- a lookup: 0 and the place and the length of the data, both 0 where there are none, or the refusal's number, with both as they were
abbrev pub TellsFind : Result (Option Found) FileFault → ℕ → ℕ → ℕ → ℕ → ℕ → Type 0
TellsFind (Ok (Some x)) r place place' len len' = (r ≡ 0) × (place' ≡ x.place) × (len' ≡ x.len)
TellsFind (Ok None) r place place' len len' = (r ≡ 0) × (place' ≡ 0) × (len' ≡ 0)
TellsFind (Err f) r place place' len len' = (r ≡ (file_report f).number) × (place' ≡ place) × (len' ≡ len)

abbrev pub FindTold : List ℕ → ℕ → List ℕ → ℕ → ℕ → ℕ → ℕ → ℕ → ℕ → Type 0
FindTold xs file key n r place place' len len' =
    (a : Result (Option Found) FileFault) × FindsInMemory xs file key n a × FindGivesRecord xs file key n a × TellsFind a r place place' len len'
