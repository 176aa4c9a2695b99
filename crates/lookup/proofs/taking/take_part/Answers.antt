use Rattle.std.proofs.Common.{◌≡◌, ℕ, ◌+◌, ◌<◌, List, ◌++◌, length, drop, Ok, Err, sym, refl, ap, ◌∙◌, subst, arith, rules}
use Rattle.std.proofs.lemmas.Result.{err_from_is_err_and}
use Rattle.byte_lists.specs.Bytes.{part}
use Rattle.byte_lists.proofs.Parts.{part_in}
use Rattle.faults.specs.declared.device.DeviceFault.{DeviceFault}
use Rattle.faults.specs.declared.file.FileFault.TheVariants.{Device}
use Rattle.faults.specs.Reports.{located}
use Rattle.device.specs.Meanings.{Meaning, Whole}
use Rattle.file.specs.declared.extents.Extent.{Extent}
use Rattle.file.specs.Ranges.{FirstBad, Fetched}
use Rattle.file.specs.Extents.{On, file}
use Rattle.file.proofs.Turns.{holds_list, holds_all}
use Rattle.lookup.specs.Fetches.{Inside, Takes, outside, filled, stopped}
use Rattle.lookup.proofs.One.{takes_alone}
use Rattle.faults.proofs.Places.{placed_ok}
use Rattle.lookup.proofs.Placed.{placed_fault}
use Rattle.lookup.proofs.taking.take_part.Goals as goal
use Rattle.lookup.proofs.taking.take_part.Goals.{then-past-end-via-then-past-end, then-past-end-via-else-past-end+then-past-extent}

module _ (m : Meaning) (e : Extent) (from end : ℕ) (old new : List ℕ) (w : Whole m) (i : Inside m e from end (length old)) where
  took : Fetched m (e.start + from) old (Ok tt) new → Takes m e from end old (Ok tt) new
  took g =
      let z : new ≡ part (file m e) from (length old) =
      holds_all m (e.start + from) old new (omega (arith, w.long, i.on_device, i.in_file)) g.1 ∙ sym (part_in m.bytes e.start e.len from (length old) i.in_file) in
      subst (λ (ys : List ℕ). Takes m e from end old (Ok tt) ys) (sym z) (filled i g.0)

  halted : (f : DeviceFault) → Fetched m (e.start + from) old (Err f) new → Takes m e from end old (Err (Device (located f 256 from))) new
  halted f g =
      let b : FirstBad m (e.start + from) (length old) f = g.0 in
      let l : b.k < length old = b.within in
      let z : new ≡ part (file m e) from b.k ++ drop b.k old =
      holds_list m (e.start + from) b.k old new (omega arith) (omega (arith, w.long, i.on_device, i.in_file)) g.1
      ∙ ap (λ (ys : List ℕ). ys ++ drop b.k old) (sym (part_in m.bytes e.start e.len from b.k (omega (arith, i.in_file)))) in
      subst (λ (ys : List ℕ). Takes m e from end old (Err (Device (located f 256 from))) ys) (sym z) (stopped i b)

pub returns-then-not-is_on : goal.returns-then-not-is_on
returns-then-not-is_on g c =
    let no : On (g.D.Device.meaning c.args.d.now) c.args.extent → ⊥ = λ h. grind arith in
    takes_alone _ _ _ _ _ _ _ (outside (λ h. no h.on_device)) refl

pub returns-then-past-end : goal.returns-then-past-end
returns-then-past-end g c =
    takes_alone _ _ _ _ _ _ _
    (outside (λ h.
    elim c.then-past-end.branch [
      | then-past-end-via-then-past-end w ↦ omega (arith, w.if-past-end.true, h.in_data)
      | then-past-end-via-else-past-end+then-past-extent w ↦ omega (arith, w.if-past-extent.true, h.in_file)
    ]))
    refl

pub returns-in_err-add_place : goal.returns-in_err-add_place
returns-in_err-add_place g c =
    let m : Meaning = g.D.Device.meaning c.args.d.now in
    let e : Extent = c.args.extent in
    let from : ℕ = c.args.from in
    let on : On m e = search rules in
    let i : Inside m e from c.args.end (length c.args.buffer.now) = record { on_device = on; in_file = omega arith; in_data = omega arith } in
    let r = err_from_is_err_and c.from_residual.result c.from_residual.ensures.1 in
    let b = placed_fault (λ x. Fetched m (e.start + from) c.args.buffer.now x c.read_part.new.buffer) 256 from c.add_place.ensures c.in_err-add_place.was c.read_part.ensures.filled in
    let a : Takes m e from c.args.end c.args.buffer.now c.from_residual.result c.read_part.new.buffer =
    rw (r.1, r.2, b.2) (halted m e from c.args.end c.args.buffer.now c.read_part.new.buffer (g.met.D.Device.whole c.args.d.now) i b.0 b.1) in
    takes_alone m e from c.args.end c.args.buffer.now _ _ a c.read_part.ensures.same

pub returns : goal.returns
returns g c =
    let m : Meaning = g.D.Device.meaning c.args.d.now in
    let e : Extent = c.args.extent in
    let from : ℕ = c.args.from in
    let on : On m e = search rules in
    let i : Inside m e from c.args.end (length c.args.buffer.now) = record { on_device = on; in_file = omega arith; in_data = omega arith } in
    let h = placed_ok (λ x. Fetched m (e.start + from) c.args.buffer.now x c.read_part.new.buffer) 256 from c.add_place.ensures c.in_ok-add_place.was c.read_part.ensures.filled in
    takes_alone m e from c.args.end c.args.buffer.now _ _ (took m e from c.args.end c.args.buffer.now c.read_part.new.buffer (g.met.D.Device.whole c.args.d.now) i h) c.read_part.ensures.same
