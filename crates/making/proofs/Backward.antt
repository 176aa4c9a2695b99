-- What a lawful file gives back.
use Rattle.std.proofs.Common.{◌≡◌, ℕ, List, Ok, Err, Result, sym, ap, ◌∙◌, subst, arith}
use Rattle.byte_lists.specs.Bytes.{part}
use Rattle.device.specs.Meanings.{Meaning}
use Rattle.cdb.specs.Records.{Record}
use Rattle.cdb.specs.Files.{position}
use Rattle.cdb.specs.Rules.{Lawful}
use Rattle.cdb.proofs.FileLookup.{one_reading}
use Rattle.file.specs.Extents.{file}
use Rattle.lookup_runs.proofs.Giving.{start_done, law_of_lookups, run_wrote}
use Rattle.records.proofs.Proved.{in_order}
use Rattle.building.specs.declared.entries.Entry.{Entry}
use Rattle.text.specs.Texts.{text, TextOf}
use Rattle.text.proofs.Filling.{one_text}
use Rattle.making.specs.declared.fault.MakeFault.{MakeFault}
use Rattle.making.specs.Makes.{MakesFile}
use Rattle.dumping.proofs.Dumped.{gives_the_text}
use Rattle.making.specs.Laws.{GivesBack, GivesText, GivesTheTextBack}

pub gives_back : (f : List ℕ) (rs : List Record) → Lawful f rs → GivesBack f rs
gives_back f rs law = record {
  only = λ ss other. one_reading f 2048 (position f 0) ss rs other.reads law.reads;
  reader = in_order f rs law;
  starts = λ m e key x ok is st.
      let there : Lawful (file m e) rs = subst (λ (q : List ℕ). Lawful q rs) (sym is) law in
      let z = start_done m e rs key (Err x) ok there st in
      let y : ◌≡◌ {A = ℕ} 0 1 = cc in
      omega arith;
  lookups = λ m e key c c' b b' ks es ok is st run.
      let there : Lawful (file m e) rs = subst (λ (q : List ℕ). Lawful q rs) (sym is) law in
      (law_of_lookups m e rs key c c' b b' ks es ok there st run, run_wrote m e key c b c' b' ks es run);
}

pub gives_text : (t f : List ℕ) (rs : List Record) → TextOf t rs → Lawful f rs → GivesBack f rs → GivesText t f
gives_text t f rs of law back = record {
  text = λ ss other. ap text (back.only ss other) ∙ sym of.1;
  dump = λ xs len room b r c fits is l dumps. gives_the_text xs len room b r c dumps t rs of fits (subst (λ (q : List ℕ). Lawful q rs) (sym is) law) l;
}

pub gives_the_text_back : (m n : Meaning) (es fs : List Entry) (t : List ℕ) (r : Result ℕ MakeFault) → MakesFile m es t r n fs → GivesTheTextBack t r n
gives_the_text_back m n es fs t (Err x) h = tt
gives_the_text_back m n es fs t (Ok len) (rs, fit, long, made, noted) =
    let law : Lawful (part n.bytes 0 len) rs = subst (λ (q : ℕ). Lawful (part n.bytes 0 q) rs) (sym long) made.lawful in
    let back = gives_back (part n.bytes 0 len) rs law in (
      λ ss other. subst (GivesBack (part n.bytes 0 len)) (one_text t rs ss fit.text other) back,
      gives_text t (part n.bytes 0 len) rs fit.text law back,
    )
