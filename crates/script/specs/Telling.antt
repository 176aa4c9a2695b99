-- The lines that answer the commands.
use Rattle.std.specs.Prelude.{ℕ, ◌/◌, ◌%◌, ◌&&◌, not, ◌==◌, nat_lt, List, [], ◌∷◌, ◌++◌, map, if◌then◌else◌, codes, decimal}
use Rattle.std.specs.Char.{digit_char}
use Rattle.std.specs.List.{flat_map}
use Rattle.script.specs.declared.answer.Answer.{Answer}
use Rattle.script.specs.declared.answer.Answer.TheVariants as answer
use Rattle.script.specs.declared.verb.Verb.TheVariants as verb
use Rattle.script.specs.Sayings.{Act, name, quotes, to_format, to_open, to_begin, to_add, to_finish, to_publish, to_abandon, to_get, to_mark, to_cut, to_power, to_scribble}

-- a byte of data: one that prints stands as it is; a space, a backslash, or one that does not print is a backslash, an x and two hexadecimal digits
abbrev pub shown_byte : ℕ → List ℕ
shown_byte b = if nat_lt 32 b && nat_lt b 127 && not (b == 92) then b ∷ [] else 92 ∷ 120 ∷ digit_char (b / 16) ∷ digit_char (b % 16) ∷ []

-- data as a word
abbrev pub shown : List ℕ → List ℕ
shown [] = quotes
shown (b ∷ bs) = flat_map shown_byte (b ∷ bs)

-- further data, each with a space in front
abbrev pub further : List (List ℕ) → List ℕ
further ds = flat_map (λ d. 32 ∷ shown d) ds

-- the data of a key, with single spaces between
abbrev pub told_data : List (List ℕ) → List ℕ
told_data [] = codes "none"
told_data (d ∷ ds) = shown d ++ further ds

-- what is told of a command behind its name
abbrev pub told : Answer → List ℕ
told answer.Done = codes "done"
told (answer.Refused r) = codes "refused " ++ (decimal r.number ++ (codes " " ++ (decimal r.table ++ (codes " " ++ decimal r.place))))
told answer.Unfit = codes "does not build"
told (answer.Data ds) = told_data (map (λ d. d.items) ds.items)

-- the name of a command
abbrev pub name_of : Act → List ℕ
name_of to_format = name verb.Format
name_of to_open = name verb.Open
name_of to_begin = name verb.Begin
name_of (to_add k d) = name verb.Add
name_of to_finish = name verb.Finish
name_of to_publish = name verb.Publish
name_of to_abandon = name verb.Abandon
name_of (to_get k) = name verb.Get
name_of (to_mark n) = name verb.Mark
name_of (to_cut n t) = name verb.Cut
name_of to_power = name verb.Power
name_of (to_scribble i h p) = name verb.Scribble

-- the line that answers a command, without the line feed
abbrev pub answer_line : Act → Answer → List ℕ
answer_line a r = name_of a ++ (codes ": " ++ told r)
