-- One call, and one more call of a run.
use Rattle.std.proofs.Common.{◌≡◌, ℕ, zero, suc, ◌+◌, ◌-◌, ◌<◌, ◌≤◌, List, [], ◌∷◌, ◌++◌, length, get_or, take, drop, set, Some, None, Result, sym, refl, ap, ◌∙◌, subst, arith, length-drop}
use Rattle.std.proofs.lemmas.List.{take_more, take_more_set, take_all, length-take-le}
use Rattle.byte_lists.specs.Bytes.{part, laid}
use Rattle.faults.specs.declared.file.FileFault.{FileFault}
use Rattle.device.specs.Meanings.{Meaning}
use Rattle.file.specs.declared.extents.Extent.{Extent}
use Rattle.lookup.specs.declared.cursors.Cursor.{Cursor}
use Rattle.lookup.specs.declared.cursors.Found.{Found}
use Rattle.lookup.specs.Fetches.{Fetch}
use Rattle.lookup_runs.specs.declared.calls.Wanted.{Wanted}
use Rattle.lookup_runs.specs.declared.calls.Call as calls
use Rattle.lookup_runs.specs.declared.calls.Answer.{Answer}
use Rattle.lookup_runs.specs.declared.calls.Answer.TheVariants as answer
use Rattle.lookup_runs.specs.Runs as runs
use Rattle.lookup_runs.specs.Runs.{Keeps, Event, fetched, told, log, found_in, found_by, FetchMade, Run, more, RanTo, Stepped}

-- the data that the answer number n tells of, if there is one
pub found_past : (ans : List Answer) (n : ℕ) → length ans ≤ n → found_by ans n ≡ None
found_past [] n l = refl
found_past (a ∷ ans) zero l = absurd (omega arith)
found_past (a ∷ ans) (suc n) l = found_past ans n (omega arith)

pub found_at : (ans : List Answer) (n : ℕ) (d : Answer) → n < length ans → found_by ans n ≡ found_in (get_or ans n d)
found_at [] n d l = absurd (omega arith)
found_at (a ∷ ans) zero d l = refl
found_at (a ∷ ans) (suc n) d l = found_at ans n d (omega arith)

-- a fetch into a part of the buffer
pub fetched_into : (m : Meaning) (e : Extent) (ans : List Answer) (b : List ℕ) (w : Wanted) (x : Found) (r : Result (Unit {0}) FileFault) (new : List ℕ) (end : ℕ)
    → end ≡ w.place + w.len → w.place + w.len ≤ length b → found_by ans w.call ≡ Some x
    → Fetch m e x w.offset (take (end - w.place) (drop w.place b)) r new
    → length new ≡ length (take (end - w.place) (drop w.place b))
    → FetchMade m e ans b w (answer.Fetch r) (take w.place b ++ (new ++ drop (end - w.place) (drop w.place b)))
fetched_into m e ans b w x r new end q fit fo f kept =
    let z : end - w.place ≡ w.len = omega arith in
    let ld : length (drop w.place b) ≡ length b - w.place = length-drop w.place b in
    let lt : length (take (end - w.place) (drop w.place b)) ≡ end - w.place = length-take-le (end - w.place) (drop w.place b) (omega arith) in
    let ln : end - w.place ≡ length new = sym (kept ∙ lt) in
    let same : take w.place b ++ (new ++ drop (end - w.place) (drop w.place b)) ≡ laid b w.place new =
    ap (λ (n : ℕ). take w.place b ++ (new ++ drop n (drop w.place b))) ln in
    let f2 : Fetch m e x w.offset (part b w.place w.len) r new = subst (λ (n : ℕ). Fetch m e x w.offset (take n (drop w.place b)) r new) z f in
    subst (λ (ys : List ℕ). FetchMade m e ans b w (answer.Fetch r) ys) (sym same) (fetched w x (part b w.place w.len) r new, runs.fetches fo fit f2, refl)

-- a file kept twice
pub keeps_twice : (e : Extent) (m n k : Meaning) → Keeps e m n → Keeps e n k → Keeps e m k
keeps_twice e m n k a b = λ r. let s = a r in let t = b s.0 in (t.0, t.1 ∙ s.1)

log_more : (es : List Event) (ev : Event) → log (es ++ ev ∷ []) ≡ log es ++ told ev ∷ []
log_more [] ev = refl
log_more (x ∷ es) ev = ap (λ (rs : List Answer). told x ∷ rs) (log_more es ev)

module _ (m : Meaning) (e : Extent) (key : List ℕ) (c : Cursor) (b : List ℕ) where
  pub ran_none : RanTo m e key c b [] [] c b
  ran_none = record { events = []; run = runs.none; answers = refl }

  pub ran_more : (c1 c2 : Cursor) (b1 b2 : List ℕ) (ks : List calls.Call) (ans : List Answer) (i : ℕ) (d : calls.Call) (a : Answer) (m' : Meaning)
      → length ans ≡ length ks → i < length ks → Keeps e m m'
      → RanTo m e key c b (take i ks) (take i ans) c1 b1 → Stepped m' e key (take i ans) c1 b1 (get_or ks i d) a c2 b2
      → RanTo m e key c b (take (i + 1) ks) (take (i + 1) (set ans i a)) c2 b2
  ran_more c1 c2 b1 b2 ks ans i d a m' q l keeps r s =
      let does = subst (λ (as1 : List Answer). runs.AtCall m' e key as1 c1 b1 (get_or ks i d) s.event c2 b2) r.answers s.does in
      record {
        events = r.events ++ s.event ∷ [];
        run = subst (λ (ys : List calls.Call). Run m e key c b ys (r.events ++ s.event ∷ []) c2 b2) (sym (take_more ks i d l)) (more r.run m' (get_or ks i d) s.event keeps does);
        answers = take_more_set ans i a (omega arith) ∙ ap (λ (ys : List Answer). ys ++ a ∷ []) r.answers ∙ ap (λ (y : Answer). log r.events ++ y ∷ []) s.answer ∙ sym (log_more r.events s.event);
      }

  pub ran_all : (c1 : Cursor) (b1 : List ℕ) (ks : List calls.Call) (ans : List Answer) (i : ℕ) → length ans ≡ length ks → length ks ≤ i
      → RanTo m e key c b (take i ks) (take i ans) c1 b1 → RanTo m e key c b ks ans c1 b1
  ran_all c1 b1 ks ans i q l r =
      subst (λ (ys : List Answer). RanTo m e key c b ks ys c1 b1) (take_all i ans (omega arith))
      (subst (λ (ys : List calls.Call). RanTo m e key c b ys (take i ans) c1 b1) (take_all i ks l) r)
