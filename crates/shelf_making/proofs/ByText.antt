-- The laws of a make, for the records of a text.
use Rattle.std.proofs.Common.{ℕ, List, length, Ok, Err, Result, subst, inl, inr}
use Rattle.device.specs.Meanings.{Meaning, Whole}
use Rattle.cdb.specs.Records.{Record}
use Rattle.building.specs.declared.entries.Entry.{Entry}
use Rattle.text.specs.declared.fault.TextFault.{TextFault}
use Rattle.text.specs.declared.fault.TextFault.TheVariants.{Malformed, Short, Long}
use Rattle.text.specs.Texts.{TextOf}
use Rattle.text.specs.Wholes.{Tallies}
use Rattle.text.proofs.Filling.{one_text}
use Rattle.shelf.specs.declared.states.Shelf as states
use Rattle.making.proofs.Backward.{gives_text}
use Rattle.shelf_making.specs.declared.fault.MakeRefused.{MakeRefused}
use Rattle.shelf_making.specs.Makes.{MakesText}
use Rattle.shelf_making.specs.Laws.{KeepsLive, KeepsLiveByText, GivesTheTextBack, RefusedForCause, RefusedForCauseByText}
use Rattle.shelf_making.proofs.Keeping.{keeps_live}
use Rattle.shelf_making.proofs.Causes.{refused_for_cause}

-- a text is not refused
no_text : (t : List ℕ) (rs : List Record) (f : TextFault) → TextOf t rs → Tallies t (Err f) → ⊥
no_text t rs (Malformed e) h r = r.refused (rs, h)
no_text t rs (Short n) h r = r
no_text t rs Long h r = r

module _ (m n : Meaning) (s : states.Shelf) (es fs : List Entry) (t : List ℕ) (r : Result states.Shelf MakeRefused) (whole : Whole m) where
  pub keeps_live_by_text : MakesText m s es t r n fs → KeepsLiveByText m s (length es) t r n
  keeps_live_by_text (inl k) rs h = absurd (no_text t rs k.fault h k.refused)
  keeps_live_by_text (inr (ss, a, k)) rs h = subst (λ (q : List Record). KeepsLive m s (length es) q r n) (one_text t ss rs a h) (keeps_live m n s es fs ss r whole k)

  pub refused_for_cause_by_text : MakesText m s es t r n fs → RefusedForCauseByText m s (length es) t r n
  refused_for_cause_by_text (inl k) rs h = absurd (no_text t rs k.fault h k.refused)
  refused_for_cause_by_text (inr (ss, a, k)) rs h = subst (λ (q : List Record). RefusedForCause m s (length es) q r n) (one_text t ss rs a h) (refused_for_cause m n s es fs ss r whole k)

pub gives_the_text_back : (m n : Meaning) (s : states.Shelf) (es fs : List Entry) (t : List ℕ) (r : Result states.Shelf MakeRefused) → Whole m → MakesText m s es t r n fs → GivesTheTextBack t r n
gives_the_text_back m n s es fs t (Err x) whole k = tt
gives_the_text_back m n s es fs t (Ok z) whole (inl k) = absurd (let e = k.is in cc)
gives_the_text_back m n s es fs t (Ok z) whole (inr (rs, a, k)) =
    let made = keeps_live m n s es fs rs (Ok z) whole k in
    gives_text t _ rs a made.root.lawful made.back
