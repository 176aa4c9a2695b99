-- What a line can say, and how it is written.
use Rattle.std.specs.Prelude.{◌≡◌, ℕ, ◌^◌, ◌<◌, ◌≤◌, ◌≢◌, ◌⊎◌, List, [], ◌∷◌, Some, None, Ok, Err, Option, Result, codes, decimal}
use Rattle.script.specs.declared.command.Tear.{Tear}
use Rattle.script.specs.declared.command.Tear.TheVariants as tear
use Rattle.script.specs.declared.command.Command.{Command}
use Rattle.script.specs.declared.command.Command.TheVariants as command
use Rattle.script.specs.declared.command.Statement.{Statement}
use Rattle.script.specs.declared.command.Statement.TheVariants as statement
use Rattle.script.specs.declared.reason.Reason.{Reason}
use Rattle.script.specs.declared.verb.Verb.{Verb}
use Rattle.script.specs.declared.verb.Verb.TheVariants as verb
use Rattle.script.specs.Words.{words}

-- a command, with its key and data as lists of bytes
pub data Act : Type 0 where
  to_format : Act
  to_open : Act
  to_begin : Act
  to_add : List ℕ → List ℕ → Act
  to_finish : Act
  to_publish : Act
  to_abandon : Act
  to_get : List ℕ → Act
  to_mark : ℕ → Act
  to_cut : ℕ → Tear → Act
  to_power : Act
  to_scribble : ℕ → ℕ → ℕ → Act

-- what a line says: how many sectors the device and how many entries the entry memory has, or a command
pub data Said : Type 0 where
  to_have : ℕ → ℕ → Said
  to_do : Act → Said

abbrev pub act : Command → Act
act command.Format = to_format
act command.Open = to_open
act command.Begin = to_begin
act (command.Add k d) = to_add k.now d.now
act command.Finish = to_finish
act command.Publish = to_publish
act command.Abandon = to_abandon
act (command.Get k) = to_get k.now
act (command.Mark n) = to_mark n
act (command.Cut n t) = to_cut n t
act command.Power = to_power
act (command.Scribble i h p) = to_scribble i h p

abbrev pub said : Statement → Said
said (statement.Device s) = to_have s.sectors s.entries
said (statement.Command c) = to_do (act c)

abbrev pub name : Verb → List ℕ
name verb.Device = codes "device"
name verb.Format = codes "format"
name verb.Open = codes "open"
name verb.Begin = codes "begin"
name verb.Add = codes "add"
name verb.Finish = codes "finish"
name verb.Publish = codes "publish"
name verb.Abandon = codes "abandon"
name verb.Get = codes "get"
name verb.Mark = codes "mark"
name verb.Cut = codes "cut"
name verb.Power = codes "power"
name verb.Scribble = codes "scribble"

-- two quotes, which stand for a key or data of no bytes
abbrev pub quotes : List ℕ
quotes = 34 ∷ 34 ∷ []

-- a key or data as a word; that of two quotes has none
abbrev pub written : List ℕ → List ℕ
written [] = quotes
written (b ∷ bs) = b ∷ bs

-- w is the word of the bytes k
abbrev pub Writes : List ℕ → List ℕ → Type 0
Writes w k = (k ≢ quotes) × (w ≡ written k)

-- w is the word of the number n, which has no sign and no leading zero and is below 2 ^ 32
abbrev pub Numeral : List ℕ → ℕ → Type 0
Numeral w n = (n < 2 ^ 32) × (w ≡ decimal n)

abbrev pub tear_word : Tear → List ℕ
tear_word tear.All = codes "all"
tear_word tear.Nothing = codes "nothing"

-- a verb that has nothing behind it
abbrev pub Alone : Act → List (List ℕ) → Said → Type 0
Alone a ws o = (ws ≡ []) × (o ≡ to_do a)

-- the sectors of a device, and then its entries, or nothing for 1000 of them
abbrev pub SizeWords : List (List ℕ) → ℕ → ℕ → Type 0
SizeWords ws n e = ((u : List ℕ) × (ws ≡ u ∷ []) × Numeral u n × (e ≡ 1000))
    ⊎ ((u : List ℕ) × (w : List ℕ) × (ws ≡ u ∷ w ∷ []) × Numeral u n × Numeral w e)

-- with these words behind it a verb says o
abbrev pub Behind : Verb → List (List ℕ) → Said → Type 0
Behind verb.Device ws o = (n : ℕ) × (e : ℕ) × SizeWords ws n e × (n ≤ 8388607) × (o ≡ to_have n e)
Behind verb.Format ws o = Alone to_format ws o
Behind verb.Open ws o = Alone to_open ws o
Behind verb.Begin ws o = Alone to_begin ws o
Behind verb.Add ws o = (u : List ℕ) × (w : List ℕ) × (k : List ℕ) × (d : List ℕ) × (ws ≡ u ∷ w ∷ []) × Writes u k × Writes w d × (o ≡ to_do (to_add k d))
Behind verb.Finish ws o = Alone to_finish ws o
Behind verb.Publish ws o = Alone to_publish ws o
Behind verb.Abandon ws o = Alone to_abandon ws o
Behind verb.Get ws o = (u : List ℕ) × (k : List ℕ) × (ws ≡ u ∷ []) × Writes u k × (o ≡ to_do (to_get k))
Behind verb.Mark ws o = (u : List ℕ) × (n : ℕ) × (ws ≡ u ∷ []) × Numeral u n × (o ≡ to_do (to_mark n))
Behind verb.Cut ws o = (u : List ℕ) × (n : ℕ) × (t : Tear) × (ws ≡ u ∷ tear_word t ∷ []) × Numeral u n × (o ≡ to_do (to_cut n t))
Behind verb.Power ws o = Alone to_power ws o
Behind verb.Scribble ws o = (u : List ℕ) × (v : List ℕ) × (w : List ℕ) × (i : ℕ) × (h : ℕ) × (p : ℕ) × (ws ≡ u ∷ v ∷ w ∷ []) × Numeral u i × Numeral v h × Numeral w p × (o ≡ to_do (to_scribble i h p))

-- a line says o
abbrev pub Says : List ℕ → Said → Type 0
Says line o = (v : Verb) × (ws : List (List ℕ)) × (words line ≡ name v ∷ ws) × Behind v ws o

-- a line says nothing: it is empty, of spaces alone, or a comment
abbrev pub Blank : List ℕ → Type 0
Blank line = words line ≡ []

-- the words behind a verb say what the answer tells, or no statement is so written
abbrev pub Takes : Verb → List (List ℕ) → Result Statement Reason → Type 0
Takes v ws (Ok s) = Behind v ws (said s)
Takes v ws (Err r) = (o : Said) → Behind v ws o → ⊥

-- the answer for a line: what it says, none if it says nothing; or a refusal, of a line of neither kind
abbrev pub Answers : List ℕ → Result (Option Statement) Reason → Type 0
Answers line (Ok (Some s)) = Says line (said s)
Answers line (Ok None) = Blank line
Answers line (Err r) = (Blank line → ⊥) × ((o : Said) → Says line o → ⊥)

-- a line says one thing at most
pub record OneSaying (line : List ℕ) : Type 0 where
  pub same : (o p : Said) → Says line o → Says line p → o ≡ p
  pub not_both : (o : Said) → Says line o → Blank line → ⊥
