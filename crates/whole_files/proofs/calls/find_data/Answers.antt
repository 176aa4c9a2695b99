use Rattle.std.proofs.Common.{◌≡◌, Some, None, Ok, Option, Result, ◌∙◌, ap, subst, arith}
use Rattle.std.proofs.lemmas.List.{length-take-le}
use Rattle.std.proofs.lemmas.Result.{err_from_is_err_and}
use Rattle.faults.specs.declared.file.FileFault.{FileFault}
use Rattle.lookup.specs.declared.cursors.Found.{Found}
use Rattle.c_calls.specs.InMemory.{FindsInMemory, FindGivesRecord}
use Rattle.whole_files.proofs.Data.{inside, given}
use Rattle.whole_files.proofs.calls.find_data.Goals as goal

pub returns-in_err-find_in_memory-clause-answer : goal.returns-in_err-find_in_memory-clause-answer
returns-in_err-find_in_memory-clause-answer c =
    let r = err_from_is_err_and c.from_residual.result c.from_residual.ensures.1 in
    rw (r.1, r.2) c.in_err-find_in_memory.ensures.answer

pub found_part-requires : goal.found_part-requires
found_part-requires c =
    let e : c.find_in_memory.result ≡ Ok (Some c.in-Some.data) = c.in_ok-find_in_memory.was ∙ ap Ok c.in-Some.is in
    let a = subst (λ (r : Result (Option Found) FileFault). FindsInMemory c.args.memory.now c.args.len c.args.key.now c.args.n r) e c.find_in_memory.ensures.answer in
    let i = inside c.args.memory.now c.args.len c.args.key.now c.args.n c.in-Some.data c.requires a in
    let l = length-take-le c.args.len c.args.memory.now (omega (arith, c.requires)) in
    omega (arith, i, l)

pub returns-in-None : goal.returns-in-None
returns-in-None c =
    let e : c.find_in_memory.result ≡ Ok None = c.in_ok-find_in_memory.was ∙ ap Ok c.in-None.is in
    let a = subst (λ (r : Result (Option Found) FileFault). FindsInMemory c.args.memory.now c.args.len c.args.key.now c.args.n r) e c.find_in_memory.ensures.answer in
    let g = subst (λ (r : Result (Option Found) FileFault). FindGivesRecord c.args.memory.now c.args.len c.args.key.now c.args.n r) e c.find_in_memory.ensures.law in
    record { answer = a; law = given c.args.memory.now c.args.len c.args.key.now c.args.n None c.requires g }

pub returns-in-Some : goal.returns-in-Some
returns-in-Some c =
    let e : c.find_in_memory.result ≡ Ok (Some c.in-Some.data) = c.in_ok-find_in_memory.was ∙ ap Ok c.in-Some.is in
    let a = subst (λ (r : Result (Option Found) FileFault). FindsInMemory c.args.memory.now c.args.len c.args.key.now c.args.n r) e c.find_in_memory.ensures.answer in
    let g = subst (λ (r : Result (Option Found) FileFault). FindGivesRecord c.args.memory.now c.args.len c.args.key.now c.args.n r) e c.find_in_memory.ensures.law in
    record {
      answer = (c.in-Some.data, a, c.found_part.ensures);
      law = λ rs law. rw c.found_part.ensures (given c.args.memory.now c.args.len c.args.key.now c.args.n (Some c.in-Some.data) c.requires g rs law);
    }
