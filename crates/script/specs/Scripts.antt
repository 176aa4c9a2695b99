-- A script, and the line at which what is none is refused.
use Rattle.std.specs.Prelude.{◌≡◌, ℕ, ◌+◌, ◌-◌, ◌<◌, ◌≤◌, ◌⊎◌, ◌==◌, List, [], ◌∷◌, length, take, map, Ok, Err, Result}
use Rattle.std.specs.List.{slice_split, AllByRecursion}
use Rattle.script.specs.declared.whole.Line.{Line}
use Rattle.script.specs.declared.whole.Script.{Script}
use Rattle.script.specs.declared.reason.Reason.{Reason}
use Rattle.script.specs.declared.reason.Reason.TheVariants as reason
use Rattle.script.specs.declared.reason.ScriptError.{ScriptError}
use Rattle.script.specs.declared.reason.ScriptError.TheVariants.{Malformed, OutOfMemory}
use Rattle.script.specs.Sayings.{Act, Blank, Says, act, to_do, to_have}

-- the lines of a text are what stands between its line feeds; nothing behind the last one is a line that says nothing
abbrev pub lines_of : List ℕ → List (List ℕ)
lines_of text = slice_split (λ b. b == 10) text

-- the lines, the first of which has number n, say these commands, each told with the number of its line
abbrev pub Commands : ℕ → List (List ℕ) → List (ℕ × Act) → Type 0
Commands n [] xs = xs ≡ []
Commands n (l ∷ ls) xs = (Blank l × Commands (n + 1) ls xs)
    ⊎ ((a : Act) × (ys : List (ℕ × Act)) × Says l (to_do a) × (xs ≡ (n, a) ∷ ys) × Commands (n + 1) ls ys)

-- the lines, the first of which has number n, say nothing, then the sizes s and e, then these commands
abbrev pub ScriptFrom : ℕ → List (List ℕ) → ℕ → ℕ → List (ℕ × Act) → Type 0
ScriptFrom n [] s e xs = ⊥
ScriptFrom n (l ∷ ls) s e xs = (Blank l × ScriptFrom (n + 1) ls s e xs) ⊎ (Says l (to_have s e) × Commands (n + 1) ls xs)

-- the lines are a script of a device of s sectors, an entry memory of e entries, and these commands
abbrev pub IsScript : List (List ℕ) → ℕ → ℕ → List (ℕ × Act) → Type 0
IsScript ls s e xs = ScriptFrom 1 ls s e xs

-- a script may begin with these lines: they say nothing yet, or they are a script themselves
abbrev pub MayBegin : List (List ℕ) → Type 0
MayBegin ls = AllByRecursion Blank ls ⊎ ((s : ℕ) × (e : ℕ) × (xs : List (ℕ × Act)) × IsScript ls s e xs)

-- line n is the first with which no script goes on
pub record StopsAt (ls : List (List ℕ)) (n : ℕ) : Type 0 where
  pub within : (0 < n) × (n ≤ length ls)
  pub begins : MayBegin (take (n - 1) ls)
  pub stops : MayBegin (take n ls) → ⊥

-- where the lines are refused: at the first with which no script goes on, or, since the device is missing, at the last
abbrev pub Refuses : List (List ℕ) → ℕ → Reason → Type 0
Refuses ls n r = StopsAt ls n ⊎ ((r ≡ reason.DeviceMissing) × AllByRecursion Blank ls × (n ≡ length ls))

-- a line as it was read
abbrev pub numbered : Line → ℕ × Act
numbered l = (l.number, act l.command)

-- the answer for a text: the script that its lines are, or a refusal where they are none. Memory may run out.
abbrev pub Parses : List ℕ → Result Script ScriptError → Type 0
Parses text (Ok s) = IsScript (lines_of text) s.sizes.sectors s.sizes.entries (map numbered s.lines.items)
Parses text (Err (Malformed n r)) = Refuses (lines_of text) n r × ((s : ℕ) (e : ℕ) (xs : List (ℕ × Act)) → IsScript (lines_of text) s e xs → ⊥)
Parses text (Err OutOfMemory) = Unit {0}

-- lines are one script at most
pub record OneScript (ls : List (List ℕ)) : Type 0 where
  pub same : (s t d e : ℕ) (xs ys : List (ℕ × Act)) → IsScript ls s d xs → IsScript ls t e ys → (s ≡ t) × (d ≡ e) × (xs ≡ ys)
