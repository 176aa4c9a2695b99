use Rattle.std.proofs.Common.{◌≡◌, ◌+◌, ◌-◌, ◌*◌, length, sym, refl, ap, ◌∙◌, arith, below_more}
use Rattle.cdb.specs.Files.{position, ends}
use Rattle.cdb.specs.Rules.{Rule2, Each}
use Rattle.file.specs.Extents.{WordsAt}
use Rattle.file.specs.ReadableFiles.{contents}
use Rattle.file.proofs.SameFiles.{same_file_then}
use Rattle.scanning.proofs.Entries.{entry_stands, next_due}
use Rattle.scanning.proofs.header.check_header.Goals as goal

pub loop-t-preserved : goal.loop-t-preserved
loop-t-preserved g c =
    let f = contents c.args.file.now in
    let t = c.loop-t.t in
    let r = c.words-entry.result in
    let inv = c.loop-t.invariant in
    let pair : WordsAt f (8 * t) r = rw inv.same.contents at c.words-entry.ensures.words in
    let long : length f ≡ c.len-len.result = sym c.len-len.ensures in
    let z : t + 1 - 1 ≡ t = omega arith in
    record {
      kept = below_more _ _ inv.kept (entry_stands f c.len-len.result t c.loop-t.due r long pair inv.due (c.stands.ensures.0 c.if-not-stands.false));
      due = λ _. next_due f c.len-len.result t c.loop-t.due r long pair inv.due ∙ ap (ends f) (sym z);
      same = same_file_then inv.same c.words-entry.ensures.same;
    }

pub returns-clause-answer : goal.returns-clause-answer
returns-clause-answer g c =
    let f = contents c.args.file.now in
    let inv = c.loop-t.invariant in
    let entries : Each (Rule2 f) = λ t l. inv.kept t (omega arith) in
    let zero = (entries 0 (omega arith)).first refl in
    let first : c.words.result.first ≡ position f 0 = (rw inv.same.contents at c.words.ensures.words).0 in
    record {
      entries = entries;
      first = first;
      after = omega (arith, zero);
      within = omega (arith, zero);
      tables = record { header = c.requires; tables = λ t l. omega (arith, (entries t l).within) };
    }
