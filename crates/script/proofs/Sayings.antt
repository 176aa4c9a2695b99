-- A line says one thing at most, and what it says is readable.
use Rattle.std.proofs.Common.{◌≡◌, ◌≢◌, inl, inr, ℕ, ◌<◌, ◌≤◌, Some, Option, if◌then◌else◌, List, [], ◌∷◌, length, refl, sym, ap, ◌∙◌, subst, arith, codes}
use Rattle.std.proofs.lemmas.Fmt.{decimal_injective, decimal_is_IsNumeral}
use Rattle.std.specs.List.{AllByRecursion}
use Rattle.std.specs.Str.{bytes_eq}
use Rattle.script.specs.declared.command.Tear.{Tear}
use Rattle.script.specs.declared.command.Tear.TheVariants as tear
use Rattle.script.specs.declared.verb.Verb.{Verb}
use Rattle.script.specs.declared.verb.Verb.TheVariants as verb
use Rattle.script.specs.declared.reason.Reason.{Reason}
use Rattle.script.specs.declared.reason.Reason.TheVariants as reason
use Rattle.script.specs.Words.{words, HasByte, Unreadable}
use Rattle.script.specs.Sayings.{Behind, Blank, Numeral, OneSaying, Said, Says, SizeWords, Writes, name, quotes, tear_word, to_do, to_have, to_add, to_get, to_mark, to_cut, to_scribble, written}

-- the verb of a name
named : List ℕ → Option Verb
named w =
    if bytes_eq w (codes "device") then Some verb.Device else
    if bytes_eq w (codes "format") then Some verb.Format else
    if bytes_eq w (codes "open") then Some verb.Open else
    if bytes_eq w (codes "begin") then Some verb.Begin else
    if bytes_eq w (codes "add") then Some verb.Add else
    if bytes_eq w (codes "finish") then Some verb.Finish else
    if bytes_eq w (codes "publish") then Some verb.Publish else
    if bytes_eq w (codes "abandon") then Some verb.Abandon else
    if bytes_eq w (codes "get") then Some verb.Get else
    if bytes_eq w (codes "mark") then Some verb.Mark else
    if bytes_eq w (codes "cut") then Some verb.Cut else
    if bytes_eq w (codes "power") then Some verb.Power else Some verb.Scribble

named_name : (v : Verb) → named (name v) ≡ Some v
unfolding named
named_name verb.Device = refl
named_name verb.Format = refl
named_name verb.Open = refl
named_name verb.Begin = refl
named_name verb.Add = refl
named_name verb.Finish = refl
named_name verb.Publish = refl
named_name verb.Abandon = refl
named_name verb.Get = refl
named_name verb.Mark = refl
named_name verb.Cut = refl
named_name verb.Power = refl
named_name verb.Scribble = refl

pub name_injective : (v w : Verb) → name v ≡ name w → v ≡ w
name_injective v w e = let q : Some v ≡ Some w = sym (named_name v) ∙ ap named e ∙ named_name w in cc

numeral_same : (u w : List ℕ) (m n : ℕ) → Numeral u m → Numeral w n → u ≡ w → m ≡ n
numeral_same u w m n h k e = decimal_injective m n (omega (arith, h.0)) (omega (arith, k.0)) (sym h.1 ∙ e ∙ k.1)

written_same : (k l : List ℕ) → k ≢ quotes → l ≢ quotes → written k ≡ written l → k ≡ l
written_same [] [] h i e = refl
written_same [] (y ∷ l) h i e = absurd (i (sym e))
written_same (x ∷ k) [] h i e = absurd (h e)
written_same (x ∷ k) (y ∷ l) h i e = e

writes_same : (u w k l : List ℕ) → Writes u k → Writes w l → u ≡ w → k ≡ l
writes_same u w k l h i e = written_same k l h.0 i.0 (sym h.1 ∙ e ∙ i.1)

tear_same : (s t : Tear) → tear_word s ≡ tear_word t → s ≡ t
tear_same tear.All tear.All e = refl
tear_same tear.All tear.Nothing e = absurd (cc)
tear_same tear.Nothing tear.All e = absurd (cc)
tear_same tear.Nothing tear.Nothing e = refl

numeral_byte : (u : List ℕ) (n : ℕ) → Numeral u n → HasByte u
numeral_byte u n h = subst HasByte (sym h.1) ((decimal_is_IsNumeral n (omega (arith, h.0))).0.0)

written_byte : (k : List ℕ) → HasByte (written k)
written_byte [] = omega arith
written_byte (x ∷ k) = omega arith

writes_byte : (u k : List ℕ) → Writes u k → HasByte u
writes_byte u k h = subst HasByte (sym h.1) (written_byte k)

tear_byte : (t : Tear) → HasByte (tear_word t)
tear_byte tear.All = omega arith
tear_byte tear.Nothing = omega arith

Short : List (List ℕ) → Type 0
Short ws = AllByRecursion HasByte ws × (length ws ≤ 3)

none_short : (ws : List (List ℕ)) → ws ≡ [] → Short ws
unfolding Short
none_short ws e = rw e (tt, omega arith)

one_short : (ws : List (List ℕ)) (u : List ℕ) → ws ≡ u ∷ [] → HasByte u → Short ws
unfolding Short
one_short ws u e h = rw e ((h, tt), omega arith)

two_short : (ws : List (List ℕ)) (u v : List ℕ) → ws ≡ u ∷ v ∷ [] → HasByte u → HasByte v → Short ws
unfolding Short
two_short ws u v e h i = rw e ((h, (i, tt)), omega arith)

three_short : (ws : List (List ℕ)) (u v w : List ℕ) → ws ≡ u ∷ v ∷ w ∷ [] → HasByte u → HasByte v → HasByte w → Short ws
unfolding Short
three_short ws u v w e h i j = rw e ((h, (i, (j, tt))), omega arith)

short : (v : Verb) (ws : List (List ℕ)) (o : Said) → Behind v ws o → Short ws
short verb.Device ws o h = elim h.2 as (λ x. Short ws) [
  | inl x ↦ one_short ws x.0 x.1 (numeral_byte x.0 h.0 x.2)
  | inr x ↦ two_short ws x.0 x.1 x.2 (numeral_byte x.0 h.0 x.3) (numeral_byte x.1 h.1 x.4)
]
short verb.Format ws o h = none_short ws h.0
short verb.Open ws o h = none_short ws h.0
short verb.Begin ws o h = none_short ws h.0
short verb.Add ws o h = two_short ws h.0 h.1 h.4 (writes_byte h.0 h.2 h.5) (writes_byte h.1 h.3 h.6)
short verb.Finish ws o h = none_short ws h.0
short verb.Publish ws o h = none_short ws h.0
short verb.Abandon ws o h = none_short ws h.0
short verb.Get ws o h = one_short ws h.0 h.2 (writes_byte h.0 h.1 h.3)
short verb.Mark ws o h = one_short ws h.0 h.2 (numeral_byte h.0 h.1 h.3)
short verb.Cut ws o h = two_short ws h.0 (tear_word h.2) h.3 (numeral_byte h.0 h.1 h.4) (tear_byte h.2)
short verb.Power ws o h = none_short ws h.0
short verb.Scribble ws o h = three_short ws h.0 h.1 h.2 h.6 (numeral_byte h.0 h.3 h.7) (numeral_byte h.1 h.4 h.8) (numeral_byte h.2 h.5 h.9)

name_byte : (v : Verb) → HasByte (name v)
name_byte verb.Device = omega arith
name_byte verb.Format = omega arith
name_byte verb.Open = omega arith
name_byte verb.Begin = omega arith
name_byte verb.Add = omega arith
name_byte verb.Finish = omega arith
name_byte verb.Publish = omega arith
name_byte verb.Abandon = omega arith
name_byte verb.Get = omega arith
name_byte verb.Mark = omega arith
name_byte verb.Cut = omega arith
name_byte verb.Power = omega arith
name_byte verb.Scribble = omega arith

-- words that say something are readable
readable : (line : List ℕ) (o : Said) → Says line o → AllByRecursion HasByte (words line) × (length (words line) ≤ 4)
unfolding Short
readable line o s =
    let h : Short s.1 = short s.0 s.1 o s.3 in
    rw s.2 ((name_byte s.0, h.0), omega (arith, h.1))

pub unreadable_says : (line : List ℕ) (r : Reason) → Unreadable (words line) r → (o : Said) → Says line o → ⊥
unreadable_says line reason.SpaceTooMany u o s = u ((readable line o s).0)
unreadable_says line reason.TooManyWords u o s = omega (arith, u, (readable line o s).1)
unreadable_says line _ u o s = absurd u

pub unreadable_blank : (line : List ℕ) (r : Reason) → Unreadable (words line) r → Blank line → ⊥
unreadable_blank line reason.SpaceTooMany u b = u (rw b tt)
unreadable_blank line reason.TooManyWords u b = let l : 4 < length (words line) = u in omega (arith, ap length b)
unreadable_blank line _ u b = absurd u

pub not_both : (line : List ℕ) (o : Said) → Says line o → Blank line → ⊥
not_both line o s b = let e : (name s.0 ∷ s.1) ≡ [] = sym s.2 ∙ b in cc

sizes_same : (ws : List (List ℕ)) (m e n f : ℕ) → SizeWords ws m e → SizeWords ws n f → (m ≡ n) × (e ≡ f)
sizes_same ws m e n f h k = elim h as (λ x. (m ≡ n) × (e ≡ f)) [
  | inl x ↦ elim k as (λ x. (m ≡ n) × (e ≡ f)) [
    | inl y ↦ let q : (x.0 ∷ []) ≡ (y.0 ∷ []) = sym x.1 ∙ y.1 in (numeral_same x.0 y.0 m n x.2 y.2 (cc), x.3 ∙ sym y.3)
    | inr y ↦ let q : (x.0 ∷ []) ≡ (y.0 ∷ y.1 ∷ []) = sym x.1 ∙ y.2 in absurd (cc)
  ]
  | inr x ↦ elim k as (λ x. (m ≡ n) × (e ≡ f)) [
    | inl y ↦ let q : (x.0 ∷ x.1 ∷ []) ≡ (y.0 ∷ []) = sym x.2 ∙ y.1 in absurd (cc)
    | inr y ↦ let q : (x.0 ∷ x.1 ∷ []) ≡ (y.0 ∷ y.1 ∷ []) = sym x.2 ∙ y.2 in (numeral_same x.0 y.0 m n x.3 y.3 (cc), numeral_same x.1 y.1 e f x.4 y.4 (cc))
  ]
]

behind_same : (v : Verb) (ws : List (List ℕ)) (o p : Said) → Behind v ws o → Behind v ws p → o ≡ p
behind_same verb.Device ws o p h k =
    let s : (h.0 ≡ k.0) × (h.1 ≡ k.1) = sizes_same ws h.0 h.1 k.0 k.1 h.2 k.2 in
    h.4 ∙ ap (λ n. to_have n h.1) s.0 ∙ ap (to_have k.0) s.1 ∙ sym k.4
behind_same verb.Format ws o p h k = h.1 ∙ sym k.1
behind_same verb.Open ws o p h k = h.1 ∙ sym k.1
behind_same verb.Begin ws o p h k = h.1 ∙ sym k.1
behind_same verb.Add ws o p h k =
    let q : (h.0 ∷ h.1 ∷ []) ≡ (k.0 ∷ k.1 ∷ []) = sym h.4 ∙ k.4 in
    let a : h.2 ≡ k.2 = writes_same h.0 k.0 h.2 k.2 h.5 k.5 (cc) in
    let b : h.3 ≡ k.3 = writes_same h.1 k.1 h.3 k.3 h.6 k.6 (cc) in
    h.7 ∙ ap (λ n. to_do (to_add n h.3)) a ∙ ap (λ n. to_do (to_add k.2 n)) b ∙ sym k.7
behind_same verb.Finish ws o p h k = h.1 ∙ sym k.1
behind_same verb.Publish ws o p h k = h.1 ∙ sym k.1
behind_same verb.Abandon ws o p h k = h.1 ∙ sym k.1
behind_same verb.Get ws o p h k =
    let q : (h.0 ∷ []) ≡ (k.0 ∷ []) = sym h.2 ∙ k.2 in
    let a : h.1 ≡ k.1 = writes_same h.0 k.0 h.1 k.1 h.3 k.3 (cc) in
    h.4 ∙ ap (λ n. to_do (to_get n)) a ∙ sym k.4
behind_same verb.Mark ws o p h k =
    let q : (h.0 ∷ []) ≡ (k.0 ∷ []) = sym h.2 ∙ k.2 in
    let a : h.1 ≡ k.1 = numeral_same h.0 k.0 h.1 k.1 h.3 k.3 (cc) in
    h.4 ∙ ap (λ n. to_do (to_mark n)) a ∙ sym k.4
behind_same verb.Cut ws o p h k =
    let q : (h.0 ∷ tear_word h.2 ∷ []) ≡ (k.0 ∷ tear_word k.2 ∷ []) = sym h.3 ∙ k.3 in
    let a : h.1 ≡ k.1 = numeral_same h.0 k.0 h.1 k.1 h.4 k.4 (cc) in
    let b : h.2 ≡ k.2 = tear_same h.2 k.2 (cc) in
    h.5 ∙ ap (λ n. to_do (to_cut n h.2)) a ∙ ap (λ n. to_do (to_cut k.1 n)) b ∙ sym k.5
behind_same verb.Power ws o p h k = h.1 ∙ sym k.1
behind_same verb.Scribble ws o p h k =
    let q : (h.0 ∷ h.1 ∷ h.2 ∷ []) ≡ (k.0 ∷ k.1 ∷ k.2 ∷ []) = sym h.6 ∙ k.6 in
    let a : h.3 ≡ k.3 = numeral_same h.0 k.0 h.3 k.3 h.7 k.7 (cc) in
    let b : h.4 ≡ k.4 = numeral_same h.1 k.1 h.4 k.4 h.8 k.8 (cc) in
    let c : h.5 ≡ k.5 = numeral_same h.2 k.2 h.5 k.5 h.9 k.9 (cc) in
    h.10 ∙ ap (λ n. to_do (to_scribble n h.4 h.5)) a ∙ ap (λ n. to_do (to_scribble k.3 n h.5)) b ∙ ap (λ n. to_do (to_scribble k.3 k.4 n)) c ∙ sym k.10

pub same : (line : List ℕ) (o p : Said) → Says line o → Says line p → o ≡ p
same line o p h k =
    let q : (name h.0 ∷ h.1) ≡ (name k.0 ∷ k.1) = sym h.2 ∙ k.2 in
    let e : h.0 ≡ k.0 = name_injective h.0 k.0 (cc) in
    let f : h.1 ≡ k.1 = cc in
    let b : Behind k.0 k.1 o = subst (λ (ws : List (List ℕ)). Behind k.0 ws o) f (subst (λ (v : Verb). Behind v h.1 o) e h.3) in
    behind_same k.0 k.1 o p b k.3

pub one_saying : (line : List ℕ) → OneSaying line
one_saying line = record { same = same line; not_both = not_both line }
