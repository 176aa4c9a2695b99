-- What stays through several runs, and the writes that they take.
use Rattle.std.proofs.Common.{◌≡◌, ℕ, ◌+◌, ◌≤◌, List, length, get_or, sym, refl, ap, ◌∙◌, subst, inl, inr, ⊎_elim, arith}
use Rattle.byte_lists.proofs.Laid.{length_laid, before_laid, past_laid}
use Rattle.device.specs.Meanings.{Meaning, Writes, endless, some}
use Rattle.writing.specs.Runs.{Outside, Used, Counted, Keeps, Completed}

pub used_none : (w : Writes) → Used 0 w w
used_none endless = tt
used_none (some n) = omega arith

pub used_both : (u v w : Writes) (a b c : ℕ) → c ≤ a + b → Used a u v → Used b v w → Used c u w
used_both endless endless w a b c l x y = used_less w c y
  where
    used_less : (w : Writes) (c : ℕ) → Used b endless w → Used c endless w
    used_less endless c y = tt
    used_less (some k) c y = absurd y
used_both endless (some k) w a b c l x y = absurd x
used_both (some n) endless w a b c l x y = absurd x
used_both (some n) (some k) endless a b c l x y = absurd y
used_both (some n) (some k) (some j) a b c l x y = omega arith

pub used_less : (u v : Writes) (a b : ℕ) → b ≤ a → Used a u v → Used b u v
used_less u v a b l x = used_both u v v a 0 b (omega arith) x (used_none v)

pub counted_before : (u v : Writes) (a : ℕ) → Used a u v → Counted v → Counted u
counted_before endless endless a x c = c
counted_before endless (some k) a x c = absurd x
counted_before (some n) v a x c = tt

-- a place outside a range is outside a part of it
pub outside_part : (p n q k i : ℕ) → p ≤ q → q + k ≤ p + n → Outside p n i → Outside q k i
outside_part p n q k i a b o = ⊎_elim (λ l. inl (omega arith)) (λ l. inr (omega arith)) o

pub keeps_all : (m : Meaning) (P : ℕ → Type 0) → Keeps m P m
keeps_all m P = record { sectors = refl; condition = refl; long = refl; same = λ k h. refl }

pub keeps_same : (m n : Meaning) (P : ℕ → Type 0) → n ≡ m → Keeps m P n
keeps_same m n P e = subst (Keeps m P) (sym e) (keeps_all m P)

pub keeps_both : (m n o : Meaning) (P Q R : ℕ → Type 0) → Keeps m P n → Keeps n Q o → ((k : ℕ) → R k → P k) → ((k : ℕ) → R k → Q k) → Keeps m R o
keeps_both m n o P Q R f g a b = record {
  sectors = g.sectors ∙ f.sectors;
  condition = g.condition ∙ f.condition;
  long = g.long ∙ f.long;
  same = λ k h. g.same k (b k h) ∙ f.same k (a k h);
}

pub keeps_less : (m n : Meaning) (P R : ℕ → Type 0) → Keeps m P n → ((k : ℕ) → R k → P k) → Keeps m R n
keeps_less m n P R f a = keeps_both m n n P R R f (keeps_all n R) a (λ k h. h)

pub completed_keeps : (m n : Meaning) (p : ℕ) (ys : List ℕ) → p + length ys ≤ length m.bytes → Completed m p ys n → Keeps m (Outside p (length ys)) n
completed_keeps m n p ys h w = record {
  sectors = w.sectors;
  condition = w.condition;
  long = ap length w.bytes ∙ length_laid m.bytes p ys h;
  same = λ k out. ap (λ (q : List ℕ). get_or q k 0) w.bytes ∙ ⊎_elim (λ l. before_laid m.bytes p ys k h l) (λ l. past_laid m.bytes p ys k h l) out;
}
