-- What parse has read of the lines so far.
use Rattle.std.proofs.Common.{◌≡◌, ◌==◌, inl, inr, ℕ, ◌+◌, ◌-◌, ◌<◌, ◌≤◌, zero, suc, ◌⊎◌, Some, None, Ok, Option, Result, is_some, true, false, List, [], ◌∷◌, ◌++◌, length, get_or, take, length-take-le, map, refl, sym, ap, ◌∙◌, subst, arith}
use Rattle.std.proofs.lemmas.List.{take_more, take_all, map-append}
use Rattle.std.proofs.lemmas.List.Splits.{length-slice_split}
use Rattle.std.proofs.lemmas.List.Sums.{count_by-le-length}
use Rattle.std.specs.List.{AllByRecursion}
use Rattle.script.specs.declared.command.Sizes.{Sizes}
use Rattle.script.specs.declared.command.Command.{Command}
use Rattle.script.specs.declared.command.Statement.{Statement}
use Rattle.script.specs.declared.reason.Reason.{Reason}
use Rattle.script.specs.declared.reason.Reason.TheVariants as reason
use Rattle.script.specs.declared.whole.Line.{Line}
use Rattle.script.specs.Sayings.{Act, Answers, Blank, Said, Says, act, said, to_do, to_have}
use Rattle.script.specs.Scripts.{Commands, IsScript, MayBegin, OneScript, Refuses, ScriptFrom, StopsAt, lines_of, numbered}
use Rattle.script.proofs.Sayings.{not_both, same}

-- what these lines say, as far as they do
abbrev pub Stands : List (List ℕ) → Option Sizes → List (ℕ × Act) → Type 0
Stands ls None xs = AllByRecursion Blank ls × (xs ≡ [])
Stands ls (Some s) xs = IsScript ls s.sectors s.entries xs

-- the sayings of one line: something, or nothing
Tells : List ℕ → Type 0
Tells l = Blank l ⊎ ((o : Said) × Says l o)

pub count_lines : (text : List ℕ) → length (lines_of text) ≤ length text + 1
count_lines text = omega (arith, length-slice_split (λ b. b == 10) text, count_by-le-length (λ b. b == 10) text)

blank_more : (ls : List (List ℕ)) (l : List ℕ) → AllByRecursion Blank ls → Blank l → AllByRecursion Blank (ls ++ l ∷ [])
blank_more [] l all b = (b, tt)
blank_more (k ∷ ls) l all b = (all.0, blank_more ls l all.1 b)

commands_blank : (n : ℕ) (ls : List (List ℕ)) (l : List ℕ) (xs : List (ℕ × Act)) → Commands n ls xs → Blank l → Commands n (ls ++ l ∷ []) xs
commands_blank n [] l xs h b = inl (b, h)
commands_blank n (k ∷ ls) l xs h b = elim h as (λ x. Commands n (k ∷ (ls ++ l ∷ [])) xs) [
  | inl x ↦ inl (x.0, commands_blank (n + 1) ls l xs x.1 b)
  | inr x ↦ inr (x.0, x.1, x.2, x.3, commands_blank (n + 1) ls l x.1 x.4 b)
]

commands_more : (n : ℕ) (ls : List (List ℕ)) (l : List ℕ) (a : Act) (xs : List (ℕ × Act)) (m : ℕ) → Commands n ls xs → Says l (to_do a) → m ≡ n + length ls → Commands n (ls ++ l ∷ []) (xs ++ (m, a) ∷ [])
commands_more n [] l a xs m h s e = inr (a, [], s, rw h (ap (λ k. (k, a) ∷ []) (omega arith)), refl)
commands_more n (k ∷ ls) l a xs m h s e = elim h as (λ x. Commands n (k ∷ (ls ++ l ∷ [])) (xs ++ (m, a) ∷ [])) [
  | inl x ↦ inl (x.0, commands_more (n + 1) ls l a xs m x.1 s (omega arith))
  | inr x ↦ inr (x.0, x.1 ++ (m, a) ∷ [], x.2, ap (λ v. v ++ (m, a) ∷ []) x.3, commands_more (n + 1) ls l a x.1 m x.4 s (omega arith))
]

script_blank : (n : ℕ) (ls : List (List ℕ)) (l : List ℕ) (s e : ℕ) (xs : List (ℕ × Act)) → ScriptFrom n ls s e xs → Blank l → ScriptFrom n (ls ++ l ∷ []) s e xs
script_blank n [] l s e xs h b = absurd h
script_blank n (k ∷ ls) l s e xs h b = elim h as (λ x. ScriptFrom n (k ∷ (ls ++ l ∷ [])) s e xs) [
  | inl x ↦ inl (x.0, script_blank (n + 1) ls l s e xs x.1 b)
  | inr x ↦ inr (x.0, commands_blank (n + 1) ls l xs x.1 b)
]

script_more : (n : ℕ) (ls : List (List ℕ)) (l : List ℕ) (s e : ℕ) (a : Act) (xs : List (ℕ × Act)) (m : ℕ) → ScriptFrom n ls s e xs → Says l (to_do a) → m ≡ n + length ls → ScriptFrom n (ls ++ l ∷ []) s e (xs ++ (m, a) ∷ [])
script_more n [] l s e a xs m h t q = absurd h
script_more n (k ∷ ls) l s e a xs m h t q = elim h as (λ x. ScriptFrom n (k ∷ (ls ++ l ∷ [])) s e (xs ++ (m, a) ∷ [])) [
  | inl x ↦ inl (x.0, script_more (n + 1) ls l s e a xs m x.1 t (omega arith))
  | inr x ↦ inr (x.0, commands_more (n + 1) ls l a xs m x.1 t (omega arith))
]

script_start : (n : ℕ) (ls : List (List ℕ)) (l : List ℕ) (s e : ℕ) → AllByRecursion Blank ls → Says l (to_have s e) → ScriptFrom n (ls ++ l ∷ []) s e []
script_start n [] l s e all t = inr (t, refl)
script_start n (k ∷ ls) l s e all t = inl (all.0, script_start (n + 1) ls l s e all.1 t)

-- the last of lines that begin a script tells something
commands_tell : (n : ℕ) (ls : List (List ℕ)) (l : List ℕ) (xs : List (ℕ × Act)) → Commands n (ls ++ l ∷ []) xs → Blank l ⊎ ((a : Act) × Says l (to_do a))
commands_tell n [] l xs h = elim h as (λ x. Blank l ⊎ ((a : Act) × Says l (to_do a))) [
  | inl x ↦ inl x.0
  | inr x ↦ inr (x.0, x.2)
]
commands_tell n (k ∷ ls) l xs h = elim h as (λ x. Blank l ⊎ ((a : Act) × Says l (to_do a))) [
  | inl x ↦ commands_tell (n + 1) ls l xs x.1
  | inr x ↦ commands_tell (n + 1) ls l x.1 x.4
]

script_tells : (n : ℕ) (ls : List (List ℕ)) (l : List ℕ) (s e : ℕ) (xs : List (ℕ × Act)) → ScriptFrom n (ls ++ l ∷ []) s e xs → Tells l
unfolding Tells
script_tells n [] l s e xs h = elim h as (λ x. Tells l) [
  | inl x ↦ inl x.0
  | inr x ↦ inr (to_have s e, x.0)
]
script_tells n (k ∷ ls) l s e xs h = elim h as (λ x. Tells l) [
  | inl x ↦ script_tells (n + 1) ls l s e xs x.1
  | inr x ↦ elim (commands_tell (n + 1) ls l xs x.1) as (λ y. Tells l) [
    | inl y ↦ inl y
    | inr y ↦ inr (to_do y.0, y.1)
  ]
]

blank_tells : (ls : List (List ℕ)) (l : List ℕ) → AllByRecursion Blank (ls ++ l ∷ []) → Blank l
blank_tells [] l all = all.0
blank_tells (k ∷ ls) l all = blank_tells ls l all.1

begins_tells : (ls : List (List ℕ)) (l : List ℕ) → MayBegin (ls ++ l ∷ []) → Tells l
unfolding Tells
begins_tells ls l h = elim h as (λ x. Tells l) [
  | inl x ↦ inl (blank_tells ls l x)
  | inr x ↦ script_tells 1 ls l x.0 x.1 x.2 x.3
]

-- a second device
device_no_command : (l : List ℕ) (s e : ℕ) → Says l (to_have s e) → (Blank l ⊎ ((a : Act) × Says l (to_do a))) → ⊥
device_no_command l s e t h = elim h as (λ x. ⊥) [
  | inl x ↦ not_both l (to_have s e) t x
  | inr x ↦ let q : to_have s e ≡ to_do x.0 = same l (to_have s e) (to_do x.0) t x.1 in cc
]

second_device : (n : ℕ) (ls : List (List ℕ)) (l : List ℕ) (s e p q t f : ℕ) (xs ys : List (ℕ × Act)) → ScriptFrom n ls s e xs → Says l (to_have p q) → ScriptFrom n (ls ++ l ∷ []) t f ys → ⊥
second_device n [] l s e p q t f xs ys h d g = h
second_device n (k ∷ ls) l s e p q t f xs ys h d g = elim h as (λ x. ⊥) [
  | inl x ↦ elim g as (λ y. ⊥) [
    | inl y ↦ second_device (n + 1) ls l s e p q t f xs ys x.1 d y.1
    | inr y ↦ not_both k (to_have t f) y.0 x.0
  ]
  | inr x ↦ elim g as (λ y. ⊥) [
    | inl y ↦ not_both k (to_have s e) x.0 y.0
    | inr y ↦ device_no_command l p q d (commands_tell (n + 1) ls l ys y.1)
  ]
]

-- a script is not all blank
script_not_blank : (n : ℕ) (ls : List (List ℕ)) (s e : ℕ) (xs : List (ℕ × Act)) → ScriptFrom n ls s e xs → AllByRecursion Blank ls → ⊥
script_not_blank n [] s e xs h all = h
script_not_blank n (k ∷ ls) s e xs h all = elim h as (λ x. ⊥) [
  | inl x ↦ script_not_blank (n + 1) ls s e xs x.1 all.1
  | inr x ↦ not_both k (to_have s e) x.0 all.0
]

-- a command before the device
early : (n : ℕ) (ls : List (List ℕ)) (l : List ℕ) (a : Act) (s e : ℕ) (xs : List (ℕ × Act)) → AllByRecursion Blank ls → Says l (to_do a) → ScriptFrom n (ls ++ l ∷ []) s e xs → ⊥
early n [] l a s e xs all t h = elim h as (λ x. ⊥) [
  | inl x ↦ not_both l (to_do a) t x.0
  | inr x ↦ let q : to_have s e ≡ to_do a = same l (to_have s e) (to_do a) x.0 t in cc
]
early n (k ∷ ls) l a s e xs all t h = elim h as (λ x. ⊥) [
  | inl x ↦ early (n + 1) ls l a s e xs all.1 t x.1
  | inr x ↦ not_both k (to_have s e) x.0 all.0
]

-- lines that begin no script do so with more behind them
commands_front : (n k : ℕ) (ls : List (List ℕ)) (xs : List (ℕ × Act)) → Commands n ls xs → (ys : List (ℕ × Act)) × Commands n (take k ls) ys
commands_front n zero ls xs h = ([], refl)
commands_front n (suc k) [] xs h = ([], refl)
commands_front n (suc k) (l ∷ ls) xs h = elim h as (λ x. (ys : List (ℕ × Act)) × Commands n (l ∷ take k ls) ys) [
  | inl x ↦ let r : (ys : List (ℕ × Act)) × Commands (n + 1) (take k ls) ys = commands_front (n + 1) k ls xs x.1 in (r.0, inl (x.0, r.1))
  | inr x ↦ let r : (ys : List (ℕ × Act)) × Commands (n + 1) (take k ls) ys = commands_front (n + 1) k ls x.1 x.4 in ((n, x.0) ∷ r.0, inr (x.0, r.0, x.2, refl, r.1))
]

script_front : (n k : ℕ) (ls : List (List ℕ)) (s e : ℕ) (xs : List (ℕ × Act)) → ScriptFrom n ls s e xs → AllByRecursion Blank (take k ls) ⊎ ((ys : List (ℕ × Act)) × ScriptFrom n (take k ls) s e ys)
script_front n zero ls s e xs h = inl tt
script_front n (suc k) [] s e xs h = absurd h
script_front n (suc k) (l ∷ ls) s e xs h = elim h as (λ x. AllByRecursion Blank (l ∷ take k ls) ⊎ ((ys : List (ℕ × Act)) × ScriptFrom n (l ∷ take k ls) s e ys)) [
  | inl x ↦ elim (script_front (n + 1) k ls s e xs x.1) as (λ y. AllByRecursion Blank (l ∷ take k ls) ⊎ ((ys : List (ℕ × Act)) × ScriptFrom n (l ∷ take k ls) s e ys)) [
    | inl y ↦ inl (x.0, y)
    | inr y ↦ inr (y.0, inl (x.0, y.1))
  ]
  | inr x ↦ let r : (ys : List (ℕ × Act)) × Commands (n + 1) (take k ls) ys = commands_front (n + 1) k ls xs x.1 in inr (r.0, inr (x.0, r.1))
]

pub front_begins : (k : ℕ) (ls : List (List ℕ)) (s e : ℕ) (xs : List (ℕ × Act)) → IsScript ls s e xs → MayBegin (take k ls)
front_begins k ls s e xs h = elim (script_front 1 k ls s e xs h) as (λ x. MayBegin (take k ls)) [
  | inl x ↦ inl x
  | inr x ↦ inr (s, e, x.0, x.1)
]

-- one script at most
commands_same : (n : ℕ) (ls : List (List ℕ)) (xs ys : List (ℕ × Act)) → Commands n ls xs → Commands n ls ys → xs ≡ ys
commands_same n [] xs ys h k = h ∙ sym k
commands_same n (l ∷ ls) xs ys h k = elim h as (λ x. xs ≡ ys) [
  | inl x ↦ elim k as (λ y. xs ≡ ys) [
    | inl y ↦ commands_same (n + 1) ls xs ys x.1 y.1
    | inr y ↦ absurd (not_both l (to_do y.0) y.2 x.0)
  ]
  | inr x ↦ elim k as (λ y. xs ≡ ys) [
    | inl y ↦ absurd (not_both l (to_do x.0) x.2 y.0)
    | inr y ↦
        let q : to_do x.0 ≡ to_do y.0 = same l (to_do x.0) (to_do y.0) x.2 y.2 in
        let a : x.0 ≡ y.0 = cc in
        x.3 ∙ ap (λ b. (n, b) ∷ x.1) a ∙ ap (λ v. (n, y.0) ∷ v) (commands_same (n + 1) ls x.1 y.1 x.4 y.4) ∙ sym y.3
  ]
]

script_same : (n : ℕ) (ls : List (List ℕ)) (s t d e : ℕ) (xs ys : List (ℕ × Act)) → ScriptFrom n ls s d xs → ScriptFrom n ls t e ys → (s ≡ t) × (d ≡ e) × (xs ≡ ys)
script_same n [] s t d e xs ys h k = absurd h
script_same n (l ∷ ls) s t d e xs ys h k = elim h as (λ x. (s ≡ t) × (d ≡ e) × (xs ≡ ys)) [
  | inl x ↦ elim k as (λ y. (s ≡ t) × (d ≡ e) × (xs ≡ ys)) [
    | inl y ↦ script_same (n + 1) ls s t d e xs ys x.1 y.1
    | inr y ↦ absurd (not_both l (to_have t e) y.0 x.0)
  ]
  | inr x ↦ elim k as (λ y. (s ≡ t) × (d ≡ e) × (xs ≡ ys)) [
    | inl y ↦ absurd (not_both l (to_have s d) x.0 y.0)
    | inr y ↦ let q : to_have s d ≡ to_have t e = same l (to_have s d) (to_have t e) x.0 y.0 in ((cc), (cc), commands_same (n + 1) ls xs ys x.1 y.1)
  ]
]

pub one_script : (ls : List (List ℕ)) → OneScript ls
one_script ls = record { same = script_same 1 ls }

-- the line with number n, counted from 0
abbrev pub At : List (List ℕ) → ℕ → List ℕ → Type 0
At ls n l = (n < length ls) × (l ≡ get_or ls n l)

pub front_more : (ls : List (List ℕ)) (n : ℕ) (l : List ℕ) → At ls n l → take (n + 1) ls ≡ take n ls ++ l ∷ []
front_more ls n l h = take_more ls n l h.0 ∙ ap (λ x. take n ls ++ x ∷ []) (sym h.1)

stands_begins : (ls : List (List ℕ)) (o : Option Sizes) (xs : List (ℕ × Act)) → Stands ls o xs → MayBegin ls
stands_begins ls None xs h = inl h.0
stands_begins ls (Some s) xs h = inr (s.sectors, s.entries, xs, h)

-- what is said of a refusal
abbrev pub Refused : List (List ℕ) → ℕ → Reason → Type 0
Refused ls n r = Refuses ls n r × ((s : ℕ) (e : ℕ) (xs : List (ℕ × Act)) → IsScript ls s e xs → ⊥)

refused : (ls : List (List ℕ)) (n : ℕ) (r : Reason) → StopsAt ls n × ((s e : ℕ) (xs : List (ℕ × Act)) → IsScript ls s e xs → ⊥) → Refused ls n r
refused ls n r h = (inl h.0, h.1)

stops : (ls : List (List ℕ)) (o : Option Sizes) (xs : List (ℕ × Act)) (n m : ℕ) (l : List ℕ) → Stands (take n ls) o xs → At ls n l → m ≡ n + 1 → (MayBegin (take n ls ++ l ∷ []) → ⊥) → StopsAt ls m × ((s e : ℕ) (ys : List (ℕ × Act)) → IsScript ls s e ys → ⊥)
stops ls o xs n m l h at e bad =
    let no_more : MayBegin (take m ls) → ⊥ = λ (b : MayBegin (take m ls)). bad (subst MayBegin (front_more ls n l at) (subst (λ (k : ℕ). MayBegin (take k ls)) e b)) in
    let less : m - 1 ≡ n = omega arith in (
      record { within = (omega arith, omega arith); begins = rw less (stands_begins (take n ls) o xs h); stops = no_more },
      λ s d ys g. no_more (front_begins m ls s d ys g),
    )

tells_no : (l : List ℕ) → (Blank l → ⊥) × ((o : Said) → Says l o → ⊥) → Tells l → ⊥
unfolding Tells
tells_no l h t = elim t as (λ x. ⊥) [
  | inl x ↦ h.0 x
  | inr x ↦ h.1 x.0 x.1
]

pub refuse_line : (ls : List (List ℕ)) (o : Option Sizes) (xs : List (ℕ × Act)) (n m : ℕ) (l : List ℕ) (r : Reason) → Stands (take n ls) o xs → At ls n l → m ≡ n + 1 → (Blank l → ⊥) × ((p : Said) → Says l p → ⊥) → Refused ls m r
refuse_line ls o xs n m l r h at e bad = refused ls m r (stops ls o xs n m l h at e (λ b. tells_no l bad (begins_tells (take n ls) l b)))

pub refuse_second : (ls : List (List ℕ)) (o : Option Sizes) (xs : List (ℕ × Act)) (n m : ℕ) (l : List ℕ) (s e : ℕ) (r : Reason) → is_some o ≡ true → Stands (take n ls) o xs → At ls n l → m ≡ n + 1 → Says l (to_have s e) → Refused ls m r
refuse_second ls None xs n m l s e r i h at q t = absurd (cc)
refuse_second ls (Some z) xs n m l s e r i h at q t = refused ls m r (stops ls (Some z) xs n m l h at q (λ b. elim b as (λ x. ⊥) [
  | inl x ↦ not_both l (to_have s e) t (blank_tells (take n ls) l x)
  | inr x ↦ second_device 1 (take n ls) l z.sectors z.entries s e x.0 x.1 xs x.2 h t x.3
]))

pub refuse_early : (ls : List (List ℕ)) (o : Option Sizes) (xs : List (ℕ × Act)) (n m : ℕ) (l : List ℕ) (a : Act) (r : Reason) → is_some o ≡ false → Stands (take n ls) o xs → At ls n l → m ≡ n + 1 → Says l (to_do a) → Refused ls m r
refuse_early ls (Some z) xs n m l a r i h at q t = absurd (cc)
refuse_early ls None xs n m l a r i h at q t = refused ls m r (stops ls None xs n m l h at q (λ b. elim b as (λ x. ⊥) [
  | inl x ↦ not_both l (to_do a) t (blank_tells (take n ls) l x)
  | inr x ↦ early 1 (take n ls) l a x.0 x.1 x.2 h.0 t x.3
]))

pub refuse_missing : (ls : List (List ℕ)) (o : Option Sizes) (xs : List (ℕ × Act)) (n : ℕ) → o ≡ None → Stands (take n ls) o xs → n ≡ length ls → Refused ls n reason.DeviceMissing
refuse_missing ls (Some z) xs n i h e = absurd (cc)
refuse_missing ls None xs n i h e =
    let all : AllByRecursion Blank ls = subst (AllByRecursion Blank) (take_all n ls (omega arith)) h.0 in
    (inr (refl, all, e), λ s d ys g. script_not_blank 1 ls s d ys g all)

pub is_script : (ls : List (List ℕ)) (o : Option Sizes) (s : Sizes) (xs : List (ℕ × Act)) (n : ℕ) → o ≡ Some s → Stands (take n ls) o xs → n ≡ length ls → IsScript ls s.sectors s.entries xs
is_script ls o s xs n i h e =
    let g : Stands (take n ls) (Some s) xs = subst (λ (p : Option Sizes). Stands (take n ls) p xs) i h in
    subst (λ (ks : List (List ℕ)). IsScript ks s.sectors s.entries xs) (take_all n ls (omega arith)) g

pub at_number : (ls : List (List ℕ)) (n m : ℕ) (l : List ℕ) → m ≡ n → At ls n l → At ls m l
at_number ls n m l e h = rw e h

stands_blank : (ls : List (List ℕ)) (o : Option Sizes) (xs : List (ℕ × Act)) (l : List ℕ) → Stands ls o xs → Blank l → Stands (ls ++ l ∷ []) o xs
stands_blank ls None xs l h b = (blank_more ls l h.0 b, h.1)
stands_blank ls (Some s) xs l h b = script_blank 1 ls l s.sectors s.entries xs h b

pub next_blank : (ls : List (List ℕ)) (o : Option Sizes) (xs : List (ℕ × Act)) (n m : ℕ) (l : List ℕ) → Stands (take n ls) o xs → At ls n l → m ≡ n + 1 → Blank l → Stands (take m ls) o xs
next_blank ls o xs n m l h at e b = rw (e, front_more ls n l at) (stands_blank (take n ls) o xs l h b)

pub next_device : (ls : List (List ℕ)) (o : Option Sizes) (xs : List (ℕ × Act)) (n m : ℕ) (l : List ℕ) (s : Sizes) → is_some o ≡ false → Stands (take n ls) o xs → At ls n l → m ≡ n + 1 → Says l (to_have s.sectors s.entries) → Stands (take m ls) (Some s) xs
next_device ls (Some z) xs n m l s i h at e t = absurd (cc)
next_device ls None xs n m l s i h at e t = rw (e, front_more ls n l at, h.1) (script_start 1 (take n ls) l s.sectors s.entries h.0 t)

pub next_command : (ls : List (List ℕ)) (o : Option Sizes) (xs ys : List (ℕ × Act)) (n m : ℕ) (l : List ℕ) (a : Act) → is_some o ≡ true → Stands (take n ls) o xs → At ls n l → m ≡ n + 1 → Says l (to_do a) → ys ≡ xs ++ (m, a) ∷ [] → Stands (take m ls) o ys
next_command ls None xs ys n m l a i h at e t q = absurd (cc)
next_command ls (Some s) xs ys n m l a i h at e t q =
    let long : m ≡ 1 + length (take n ls) = omega (arith, length-take-le n ls (omega (arith, at.0))) in
    let r : IsScript (take n ls ++ l ∷ []) s.sectors s.entries (xs ++ (m, a) ∷ []) = script_more 1 (take n ls) l s.sectors s.entries a xs m h t long in
    rw (q, e, front_more ls n l at) (rw e at r)

-- one line more
pub pushed : (vs ws : List Line) (m : ℕ) (c : Command) → ws ≡ vs ++ (record { number = m; command = c }) ∷ [] → map numbered ws ≡ map numbered vs ++ (m, act c) ∷ []
pushed vs ws m c e = rw e (map-append numbered vs ((record { number = m; command = c }) ∷ []))

-- what the answer for a line says of it
pub answer_blank : (l : List ℕ) (r : Result (Option Statement) Reason) (o : Option Statement) → Answers l r → r ≡ Ok o → o ≡ None → Blank l
answer_blank l r o h e f = subst (λ (q : Result (Option Statement) Reason). Answers l q) (e ∙ ap Ok f) h

pub answer_says : (l : List ℕ) (r : Result (Option Statement) Reason) (o : Option Statement) (t s : Statement) → Answers l r → r ≡ Ok o → o ≡ Some t → t ≡ s → Says l (said s)
answer_says l r o t s h e f g = subst (λ (q : Result (Option Statement) Reason). Answers l q) (e ∙ ap Ok f ∙ ap (λ x. Ok (Some x)) g) h
