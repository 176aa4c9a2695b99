use Rattle.std.proofs.Common.{◌≡◌, ℕ, true, List, Ok, Err, Result, sym, ap, subst}
use Rattle.std.proofs.lemmas.Result.{err_from_is_err_and}
use Rattle.device.specs.Meanings.{Meaning, endless}
use Rattle.memory.specs.Memories.{memory}
use Rattle.memory.specs.Writing.{writes}
use Rattle.building.specs.declared.entries.Entry.{Entry}
use Rattle.making.specs.declared.fault.MakeFault.{MakeFault}
use Rattle.making.specs.Makes.{MakesFile}
use Rattle.making.specs.Laws.{RefusedForCause}
use Rattle.making.proofs.Lent.{memory_refused, file_made}
use Rattle.making.proofs.in_memory.make_in_memory.Goals as goal

pub returns-in_err-len : goal.returns-in_err-len
returns-in_err-len c =
    let q = err_from_is_err_and c.from_residual.result c.from_residual.ensures.1 in
    let es : List Entry = c.args.entries.now in
    let t : List ℕ = c.args.text.now in
    let fs : List Entry = c.make_file.new.entries in
    let n : Meaning = memory c.make_file.new.d.bytes.now c.make_file.new.d.power (writes c.make_file.new.d.left) in
    let r : Result ℕ MakeFault = Err c.in_err-len.field-0.0 in
    let h : MakesFile (memory c.args.memory.now true endless) es t r n fs = subst (λ (z : Meaning). MakesFile z es t r n fs) c.new-device.ensures.meaning c.in_err-len.ensures.makes in
    let k : RefusedForCause (memory c.args.memory.now true endless) t r n = subst (λ (z : Meaning). RefusedForCause z t r n) c.new-device.ensures.meaning c.in_err-len.ensures.cause in
    record { makes = rw (q.1, q.2) (memory_refused c.args.memory.now es t n fs c.in_err-len.field-0.0 h k) }

pub returns : goal.returns
returns c =
    let es : List Entry = c.args.entries.now in
    let t : List ℕ = c.args.text.now in
    let fs : List Entry = c.make_file.new.entries in
    let n : Meaning = memory c.make_file.new.d.bytes.now c.make_file.new.d.power (writes c.make_file.new.d.left) in
    let r : Result ℕ MakeFault = Ok c.in_ok-len.len in
    let h : MakesFile (memory c.args.memory.now true endless) es t r n fs = subst (λ (z : Meaning). MakesFile z es t r n fs) c.new-device.ensures.meaning c.in_ok-len.ensures.makes in
    let e : n ≡ memory c.into_bytes.result.now c.make_file.new.d.power (writes c.make_file.new.d.left) = sym c.into_bytes.ensures.bytes in
    record {
      makes = file_made c.args.memory.now es t n fs c.in_ok-len.len c.into_bytes.result.now h c.in_ok-len.ensures.back (ap (λ (z : Meaning). z.sectors) e) (ap (λ (z : Meaning). z.bytes) e);
    }
