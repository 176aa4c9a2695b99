-- What a write leaves of memory.
use Rattle.std.proofs.Common.{◌≡◌, ℕ, ◌+◌, ◌*◌, ◌/◌, ◌%◌, ◌<◌, ◌≤◌, min, Bool, true, false, cond, ltb, leb, ◌≢◌, ◌⊎◌, List, length, take, drop, Some, None, sym, refl, ap, ◌∙◌, subst, inl, inr, ⊎_elim, arith, rules}
use Rattle.std.proofs.lemmas.Slice.{overwrites}
use Rattle.std.proofs.lemmas.Bool.{cond-true, cond_both, lt-ltb, and_parts, ltb-true, leb-true, cases_lt}
use Rattle.std.proofs.lemmas.List.{length-take-le, take-append-drop, take_all}
use Rattle.std.proofs.ByRecursion.{All-take}
use Rattle.faults.specs.declared.device.DeviceFault.{DeviceFault}
use Rattle.byte_lists.specs.Bytes.{Bytes, laid}
use Rattle.byte_lists.proofs.Laid.{length_laid, before_laid, past_laid, take_laid, laid_bytes}
use Rattle.device.specs.Meanings.{Meaning, Writes, Whole, good, within, is_bad, refusal, stored, Torn, Cut}
use Rattle.memory.specs.Memories.{memory, fitting, tail}
use Rattle.memory.specs.declared.writing.RootTear.{RootTear}
use Rattle.memory.specs.declared.writing.RootTear.TheVariants.{All, Nothing}
use Rattle.memory.specs.Writing.{root_stored, torn_stored, torn}

pub fits_in : (n p k : ℕ) → within n p k ≡ true → (0 < k) × (p % 512 + k ≤ 512) × (p + k ≤ 512 * n)
fits_in n p k h =
    let a = and_parts (ltb 0 k) _ h in
    let b = and_parts (leb (p % 512 + k) 512) _ a.1 in
    (ltb-true 0 k a.0, leb-true _ _ b.0, leb-true _ _ b.1)

free_by : (w on bad : Bool) (f g h : DeviceFault) → cond w (cond on (cond bad (Some f) None) (Some g)) (Some h) ≡ None → (w ≡ true) × (on ≡ true)
free_by true true b f g h e = (refl, refl)
free_by true false b f g h e = absurd (let z : ◌≡◌ {A = ℕ} 0 1 = cc in omega arith)
free_by false on b f g h e = absurd (let z : ◌≡◌ {A = ℕ} 0 1 = cc in omega arith)

-- what nothing refuses lies inside a sector of the device, and power is on
pub free_within : (m : Meaning) (p n : ℕ) → refusal m p n ≡ None → (within m.sectors p n ≡ true) × (m.power ≡ true)
free_within m p n e = free_by (within m.sectors p n) m.power (is_bad m (p / 512)) _ _ _ e

-- memory with a piece laid over it
pub memory_laid :
    (xs : List ℕ) (p : ℕ) (ys : List ℕ) (on : Bool) (w v : Writes) → p + length ys ≤ 512 * fitting xs
    → memory (laid xs p ys) on v ≡ stored (memory xs on w) p ys v
memory_laid xs p ys on w v a =
    let i : 512 * fitting xs ≤ length xs = omega arith in
    let f : fitting (laid xs p ys) ≡ fitting xs = ap (λ (n : ℕ). min (n / 512) 8388607) (length_laid xs p ys (omega arith)) in
    let F : ℕ → Meaning = λ n. record { sectors = n; bytes = take (512 * n) (laid xs p ys); condition = λ _. good; power = on; left = v } in
    let G : List ℕ → Meaning = λ bs. record { sectors = fitting xs; bytes = bs; condition = λ _. good; power = on; left = v } in
    ap F f ∙ ap G (take_laid xs p ys (512 * fitting xs) i a)

-- a whole device with a piece laid over it is whole
pub stored_whole :
    (m : Meaning) (p : ℕ) (ys : List ℕ) (w : Writes) → Whole m → p + length ys ≤ 512 * m.sectors → Bytes ys → Whole (stored m p ys w)
stored_whole m p ys w whole a b =
    record {
      few = whole.few;
      long = length_laid m.bytes p ys (omega (arith, whole.long)) ∙ whole.long;
      bytes = laid_bytes m.bytes p ys whole.bytes b;
      on = whole.on;
    }

drop_laid : (xs : List ℕ) (p : ℕ) (ys : List ℕ) (m : ℕ) → p + length ys ≤ m → m ≤ length xs → drop m (laid xs p ys) ≡ drop m xs
drop_laid xs p ys m a h = search (rules, overwrites)

-- a piece laid over the device's bytes leaves the tail
tail_laid : (xs xs' ys : List ℕ) (p : ℕ) → p + length ys ≤ 512 * fitting xs → xs' ≡ laid xs p ys → tail xs' ≡ tail xs
tail_laid xs xs' ys p a e =
    let i : 512 * fitting xs ≤ length xs = omega arith in
    let f : fitting (laid xs p ys) ≡ fitting xs = ap (λ (n : ℕ). min (n / 512) 8388607) (length_laid xs p ys (omega arith)) in
    ap tail e ∙ ap (λ (n : ℕ). drop (512 * n) (laid xs p ys)) f ∙ drop_laid xs p ys (512 * fitting xs) a i

-- memory after a piece was laid over it: what it means, that it is whole, and that sectors and tail are as they were
pub record LaidOver (xs xs' ys : List ℕ) (p : ℕ) (on : Bool) (w v : Writes) : Type 0 where
  pub meaning : memory xs' on v ≡ stored (memory xs on w) p ys v
  pub whole : Whole (memory xs' on v)
  pub sectors : fitting xs ≡ fitting xs'
  pub tail : tail xs' ≡ tail xs

pub laid_over :
    (xs xs' ys : List ℕ) (p : ℕ) (on : Bool) (w v : Writes) → Whole (memory xs on w) → refusal (memory xs on w) p (length ys) ≡ None → Bytes ys
    → xs' ≡ laid xs p ys → LaidOver xs xs' ys p on w v
laid_over xs xs' ys p on w v whole free b e =
    let a : p + length ys ≤ 512 * fitting xs = (fits_in (fitting xs) p (length ys) (free_within (memory xs on w) p (length ys) free).0).2 in
    let m : memory xs' on v ≡ stored (memory xs on w) p ys v = ap (λ (q : List ℕ). memory q on v) e ∙ memory_laid xs p ys on w v a in
    record {
      meaning = m;
      whole = subst Whole (sym m) (stored_whole (memory xs on w) p ys v whole a b);
      sectors = sym (ap (λ (n : Meaning). n.sectors) m);
      tail = tail_laid xs xs' ys p a e;
    }

-- a piece whose front is laid over a device's bytes: in sector 0 all of it or nothing
torn_laid :
    (fs : List ℕ) (p : ℕ) (ys : List ℕ) (k : ℕ) → p % 512 + length ys ≤ 512 → p + length ys ≤ length fs → Bytes fs → Bytes ys
    → k ≤ length ys → (p < 512 → (k ≡ 0) ⊎ (k ≡ length ys)) → Torn fs p ys (laid fs p (take k ys))
torn_laid fs p ys k inner fit bf by b root =
    let zs : List ℕ = take k ys in
    let z : length zs ≡ k = length-take-le k ys b in
    let c : p + length zs ≤ length fs = omega arith in
    record {
      long = length_laid fs p zs c;
      bytes = laid_bytes fs p zs bf (All-take (λ n. n < 256) k ys by);
      apart = λ j ne.
          let n : j / 512 ≢ p / 512 = ne in
          ⊎_elim (λ lt. before_laid fs p zs j c lt) (λ ge. let g : p + length zs ≤ j = omega arith in past_laid fs p zs j c g) (cases_lt j p);
      root = λ r. ⊎_elim
          (λ e. inl (ap (λ (q : ℕ). laid fs p (take q ys)) e ∙ take-append-drop p fs))
          (λ e. inr (ap (λ (q : List ℕ). laid fs p q) (ap (λ (q : ℕ). take q ys) e ∙ take_all (length ys) ys (omega arith))))
          (root r);
    }

root_all : (t : RootTear) (n : ℕ) → (root_stored t n ≡ 0) ⊎ (root_stored t n ≡ n)
root_all All n = inr refl
root_all Nothing n = inl refl

torn_root : (t : RootTear) (p n : ℕ) → p < 512 → (torn_stored t p n ≡ 0) ⊎ (torn_stored t p n ≡ n)
torn_root t p n h =
    let e = cond-true (ltb p 512) (root_stored t n) (n / 2) (lt-ltb p 512 h) in
    ⊎_elim (λ z. inl (e ∙ z)) (λ z. inr (e ∙ z)) (root_all t n)

pub torn_most : (t : RootTear) (p n : ℕ) → torn_stored t p n ≤ n
torn_most All p n = cond_both (ltb p 512) n (n / 2) (λ k. k ≤ n) (λ _. omega arith) (λ _. omega arith)
torn_most Nothing p n = cond_both (ltb p 512) 0 (n / 2) (λ k. k ≤ n) (λ _. omega arith) (λ _. omega arith)

-- memory after a torn write
pub record TornOver (t : RootTear) (xs xs' ys : List ℕ) (p : ℕ) (on : Bool) (w : Writes) : Type 0 where
  pub meaning : memory xs' false w ≡ torn t (memory xs on w) p ys
  pub cut : Cut (memory xs on w) p ys (memory xs' false w)
  pub whole : Whole (memory xs' false w)
  pub sectors : fitting xs ≡ fitting xs'
  pub tail : tail xs' ≡ tail xs

pub torn_over :
    (t : RootTear) (xs xs' ys : List ℕ) (p : ℕ) (on : Bool) (w : Writes) → Whole (memory xs on w) → refusal (memory xs on w) p (length ys) ≡ None → Bytes ys
    → xs' ≡ laid xs p (take (torn_stored t p (length ys)) ys) → TornOver t xs xs' ys p on w
torn_over t xs xs' ys p on w whole free b e =
    let k : ℕ = torn_stored t p (length ys) in
    let f = fits_in (fitting xs) p (length ys) (free_within (memory xs on w) p (length ys) free).0 in
    let most : k ≤ length ys = torn_most t p (length ys) in
    let z : length (take k ys) ≡ k = length-take-le k ys most in
    let a : p + length (take k ys) ≤ 512 * fitting xs = omega (arith, f.2) in
    let off : Whole (memory xs false w) = record { few = whole.few; long = whole.long; bytes = whole.bytes; on = λ none. absurd (omega (arith, f.0, f.2)) } in
    let m : memory xs' false w ≡ torn t (memory xs on w) p ys = ap (λ (q : List ℕ). memory q false w) e ∙ memory_laid xs p (take k ys) false w w a in
    let C : Meaning → Type 0 = λ n. Cut (memory xs on w) p ys n in
    record {
      meaning = m;
      cut = subst C (sym m) (record {
        sectors = refl;
        bytes = torn_laid (memory xs on w).bytes p ys k f.1 (omega (arith, f.2, whole.long)) whole.bytes b most (torn_root t p (length ys));
        condition = refl;
        power = refl;
        left = refl;
      });
      whole = subst Whole (sym m) (stored_whole (memory xs false w) p (take k ys) w off a (All-take (λ n. n < 256) k ys b));
      sectors = sym (ap (λ (n : Meaning). n.sectors) m);
      tail = tail_laid xs xs' (take k ys) p a e;
    }

-- the same, where so many bytes of the piece as a torn write stores were laid over
pub torn_from :
    (t : RootTear) (xs xs' ys : List ℕ) (p n : ℕ) (on : Bool) (w : Writes) → Whole (memory xs on w) → refusal (memory xs on w) p (length ys) ≡ None → Bytes ys
    → n ≡ torn_stored t p (length ys) → xs' ≡ laid xs p (take n ys) → TornOver t xs xs' ys p on w
torn_from t xs xs' ys p n on w whole free b e f =
    torn_over t xs xs' ys p on w whole free b (subst (λ (k : ℕ). xs' ≡ laid xs p (take k ys)) e f)
