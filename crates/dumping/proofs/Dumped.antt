-- A lawful file in memory has one text, and what is answered of it is the only answer.
use Rattle.std.proofs.Common.{◌≡◌, ℕ, ◌*◌, ◌+◌, ◌^◌, ◌<◌, ◌≤◌, List, [], ◌∷◌, length, take, drop, Ok, Err, Result, sym, refl, ap, ◌∙◌, subst, ⊎_elim, arith}
use Rattle.std.specs.List.{AllByRecursion}
use Rattle.std.proofs.lemmas.List.{take_at, length-take-le}
use Rattle.std.proofs.lemmas.Bool.{cases_lt}
use Rattle.std.proofs.ByRecursion.{All-take}
use Rattle.byte_lists.specs.Bytes.{Bytes, laid}
use Rattle.faults.specs.declared.report.Report.{Report}
use Rattle.faults.specs.declared.file.FileFault.{FileFault}
use Rattle.faults.specs.declared.file.FileFault.TheVariants.{Range}
use Rattle.memory.specs.Memories.{fitting}
use Rattle.cdb.specs.Records.{Record, Item, items}
use Rattle.cdb.specs.Rules.{Rule4, Lawful}
use Rattle.cdb.specs.Verdicts.{accepted, refused, slots_below, Probes, Judged, keeps_all}
use Rattle.cdb.proofs.OneVerdict.{one_verdict}
use Rattle.cdb.proofs.FileLookup.{one_reading}
use Rattle.cdb.specs.Files.{position}
use Rattle.faults.specs.Reports.{file_report}
use Rattle.auditing.specs.declared.audits.Counts.{Counts}
use Rattle.auditing.specs.Audits.{verdict}
use Rattle.auditing.proofs.Answering.{kept}
use Rattle.records.proofs.Proved.{keeps}
use Rattle.text.specs.Texts.{text}
use Rattle.text_writer.specs.Sheets.{Adds}
use Rattle.text_writer.specs.declared.sheet.Sheet.{Sheet}
use Rattle.c_calls.specs.InMemory.{Fits, AuditsMemory}
use Rattle.c_calls.proofs.Fitting.{one_audit}
use Rattle.dumping.specs.declared.fault.DumpFault.{DumpFault}
use Rattle.dumping.specs.declared.fault.DumpFault.TheVariants.{File, Short}
use Rattle.dumping.specs.Dumps.{TextInMemory, Measures, OnlyMeasure, Dumps, OnlyDump, GivesTheText}
use Rattle.dumping.specs.Walks.{Standing}
use Rattle.dumping.proofs.Walked.{one_standing, all_proper}

probes : (f : List ℕ) (xs : List Item) → AllByRecursion (Rule4 f) xs → (n : ℕ) × Probes f xs n
probes f [] h = (0, refl)
probes f (x ∷ xs) h = let r = probes f xs h.1 in (h.0.0 + 1 + r.0, (h.0.0, r.0, h.0.1, r.1, refl))

-- a lawful file is not refused
not_refused : (f : List ℕ) (rs : List Record) (r : Report) → Lawful f rs → Judged f (refused r) → ⊥
not_refused f rs r law j =
    let p = probes f (items 2048 rs) law.placed in
    let e : accepted (length rs) (slots_below f 256) p.0 ≡ refused r = one_verdict f (accepted (length rs) (slots_below f 256) p.0) (refused r) (keeps_all rs law p.1) j in
    cc

-- a file that the audit accepts fits, and its records stand in it
pub record Accepted (xs : List ℕ) (len n : ℕ) : Type 0 where
  pub fits : Fits xs len
  pub rs : List Record
  pub law : Lawful (take len xs) rs
  pub standing : Standing (take len xs) rs
  pub count : n ≡ length rs

pub accepts : (xs : List ℕ) (len : ℕ) (c : Counts) → Bytes xs → len < 2 ^ 32 → AuditsMemory xs len (Ok c) → Accepted xs len c.records
accepts xs len c b small a = ⊎_elim (λ (over : 512 * fitting xs < len). absurd (never over)) within (cases_lt (512 * fitting xs) len)
  where
    never : 512 * fitting xs < len → ⊥
    never over = let e : ◌≡◌ {A = Result Counts FileFault} (Ok c) (Err Range) = a.1 (λ (fits : Fits xs len). omega (arith, over, fits)) in cc

    within : len ≤ 512 * fitting xs → Accepted xs len c.records
    within fits =
        let k = kept (take len xs) (verdict (Ok c)) (a.0 fits) in
        let h = keeps (take len xs) k.0 k.1 in
        record {
          fits = fits;
          rs = k.0;
          law = k.1;
          standing = record {
            bytes = All-take (λ x. x < 256) len xs b;
            small = omega (arith, length-take-le len xs (omega (arith, fits)));
            long = h.0;
            inside = h.1;
            reads = k.1.reads;
          };
          count = k.2;
        }

-- the text of its records is its text
pub text_is : (xs : List ℕ) (len n : ℕ) (a : Accepted xs len n) (rs : List Record) → Standing (take len xs) rs → TextInMemory xs len (text rs)
text_is xs len n a rs s =
    let e = one_standing (take len xs) rs a.rs s a.standing in
    (a.fits, (rs, subst (Lawful (take len xs)) (sym e) a.law, (all_proper (take len xs) rs s, refl)))

pub one_text : (xs : List ℕ) (len : ℕ) (t u : List ℕ) → TextInMemory xs len t → TextInMemory xs len u → t ≡ u
one_text xs len t u a b =
    let e : a.1.0 ≡ b.1.0 = one_reading' a.1.0 b.1.0 a.1.1 b.1.1 in
    a.1.2.1 ∙ ap text e ∙ sym b.1.2.1
  where
    one_reading' : (rs ss : List Record) → Lawful (take len xs) rs → Lawful (take len xs) ss → rs ≡ ss
    one_reading' rs ss x y = one_reading (take len xs) 2048 (position (take len xs) 0) rs ss x.reads y.reads

-- a file with a text is not refused
no_text : (xs : List ℕ) (len : ℕ) (t : List ℕ) (f : FileFault) → TextInMemory xs len t → AuditsMemory xs len (Err f) → ⊥
no_text xs len t f a b = not_refused (take len xs) a.1.0 (file_report f) a.1.1 (b.0 a.0)

one_fault : (xs : List ℕ) (len : ℕ) (f g : FileFault) → AuditsMemory xs len (Err f) → AuditsMemory xs len (Err g) → g ≡ f
one_fault xs len f g a b = let e : ◌≡◌ {A = Result Counts FileFault} (Err g) (Err f) = one_audit xs len (Err f) (Err g) a b in cc

pub only_measure : (xs : List ℕ) (len : ℕ) (r : Result ℕ FileFault) → Measures xs len r → OnlyMeasure xs len r
only_measure xs len (Ok n) a (Ok m) b = ap Ok (b.2 ∙ ap length (one_text xs len b.0 a.0 b.1 a.1) ∙ sym a.2)
only_measure xs len (Ok n) a (Err g) b = absurd (no_text xs len a.0 g a.1 b)
only_measure xs len (Err f) a (Ok m) b = absurd (no_text xs len b.0 f b.1 a)
only_measure xs len (Err f) a (Err g) b = ap Err (one_fault xs len f g a b)

pub only_dump : (xs : List ℕ) (len room : ℕ) (old : List ℕ) (r : Result ℕ DumpFault) (new : List ℕ) → Dumps xs len room old r new → OnlyDump xs len room old r new
only_dump xs len room old (Ok n) new a (Ok m) d b =
    let e = one_text xs len b.0 a.0 b.1 a.1 in
    (ap Ok (b.2 ∙ ap length e ∙ sym a.2), b.4 ∙ ap (laid old 0) e ∙ sym a.4)
only_dump xs len room old (Ok n) new a (Err (File g)) d b = absurd (no_text xs len a.0 g a.1 b.0)
only_dump xs len room old (Ok n) new a (Err (Short m)) d b = absurd (omega (arith, a.2, a.3, b.0.2, ap length (one_text xs len b.0.0 a.0 b.0.1 a.1)))
only_dump xs len room old (Err (File f)) new a (Ok m) d b = absurd (no_text xs len b.0 f b.1 a.0)
only_dump xs len room old (Err (File f)) new a (Err (File g)) d b = (ap (λ (x : FileFault). Err (File x)) (one_fault xs len f g a.0 b.0), b.1 ∙ sym a.1)
only_dump xs len room old (Err (File f)) new a (Err (Short m)) d b = absurd (no_text xs len b.0.0 f b.0.1 a.0)
only_dump xs len room old (Err (Short n)) new a (Ok m) d b = absurd (omega (arith, b.2, b.3, a.0.2, ap length (one_text xs len b.0 a.0.0 b.1 a.0.1)))
only_dump xs len room old (Err (Short n)) new a (Err (File g)) d b = absurd (no_text xs len a.0.0 g a.0.1 b.0)
only_dump xs len room old (Err (Short n)) new a (Err (Short m)) d b = (ap (λ (x : ℕ). Err (Short x)) (b.1 ∙ sym a.1), b.2 ∙ sym a.2)

-- the start of a buffer that a text was laid over
laid_start : (b t : List ℕ) → take (length t) (laid b 0 t) ≡ t
laid_start b t = take_at t (drop (length t) b) (length t) refl

pub gives_the_text : (xs : List ℕ) (len room : ℕ) (old : List ℕ) (r : Result ℕ DumpFault) (new : List ℕ) → Dumps xs len room old r new → GivesTheText xs len room r new
gives_the_text xs len room old (Ok n) new a t rs of fits law l =
    let e = one_text xs len a.0 t a.1 (fits, (rs, law, of)) in
    (ap Ok (a.2 ∙ ap length e), ap (take (length t)) (a.4 ∙ ap (laid old 0) e) ∙ laid_start old t)
gives_the_text xs len room old (Err (File f)) new a t rs of fits law l = absurd (no_text xs len t f (fits, (rs, law, of)) a.0)
gives_the_text xs len room old (Err (Short n)) new a t rs of fits law l =
    absurd (omega (arith, l, a.0.2, ap length (one_text xs len a.0.0 t a.0.1 (fits, (rs, law, of)))))

-- a sheet with the whole text, on a buffer that has room for it
pub dumped : (xs : List ℕ) (len n room : ℕ) (old : List ℕ) (a : Accepted xs len n) (s t : Sheet) → s.written ≡ 0 → s.buffer.now ≡ old
    → (rs : List Record) × Standing (take len xs) rs × Adds (text rs) s t → room ≡ length old → (ss : List Record) → Standing (take len xs) ss → length (text ss) ≤ room
    → Dumps xs len room old (Ok t.written) t.buffer.now
dumped xs len n room old a s t w o k r ss h l =
    let adds = k.2 in
    let long = adds.written in
    let e : length (text k.0) ≡ length (text ss) = ap (λ (x : List Record). length (text x)) (one_standing (take len xs) k.0 ss k.1 h) in (
      text k.0,
      text_is xs len n a k.0 k.1,
      omega arith,
      omega arith,
      adds.after ∙ ap (λ (m : ℕ). laid s.buffer.now m (text k.0)) w ∙ ap (λ (c : List ℕ). laid c 0 (text k.0)) o,
    )
