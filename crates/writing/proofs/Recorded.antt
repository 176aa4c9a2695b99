-- The bytes of a record.
use Rattle.std.proofs.Common.{◌≡◌, length, arith}
use Rattle.std.proofs.lemmas.List.{length-append}
use Rattle.cdb.specs.Records.{Record, record_bytes, size}

pub record_long : (r : Record) → length (record_bytes r) ≡ size r
record_long r = omega (arith, length-append r.key r.data')
