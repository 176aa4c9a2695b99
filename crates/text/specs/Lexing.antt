-- Inner: what each state of the lexer takes.
use Rattle.std.specs.Prelude.{◌≡◌, ℕ, ◌+◌, ◌-◌, ◌*◌, ◌^◌, ◌<◌, ◌≤◌, ◌⊎◌, Some, None, Option, ◌≢◌}
use Rattle.text.specs.declared.state.State.{State}
use Rattle.text.specs.declared.state.State.TheVariants.{Start, KeyLength, DataLength, Key, Arrow, Data, Record, End}

abbrev pub Digit : ℕ → Type 0
Digit b = (48 ≤ b) × (b ≤ 57)

-- a digit may follow the number: no leading zero stands before it, and the longer number is a word
abbrev pub Fitting : ℕ → ℕ → Type 0
Fitting n b = (0 < n) × (10 * n + (b - 48) < 2 ^ 32)

-- what a digit makes of a number
abbrev pub Longer : Option ℕ → ℕ → Option ℕ → Type 0
Longer None b None = ⊥
Longer None b (Some m) = m ≡ b - 48
Longer (Some n) b None = Fitting n b → ⊥
Longer (Some n) b (Some m) = Fitting n b × (m ≡ 10 * n + (b - 48))

-- the byte turns the first state into the second
abbrev pub Grows : State → ℕ → State → Type 0
Grows Start b s = ((b ≡ 43) × (s ≡ KeyLength None)) ⊎ ((b ≡ 10) × (s ≡ End))
Grows (KeyLength None) b s = Digit b × (s ≡ KeyLength (Some (b - 48)))
Grows (KeyLength (Some k)) b s = ((b ≡ 44) × (s ≡ DataLength k None)) ⊎ (Digit b × Fitting k b × (s ≡ KeyLength (Some (10 * k + (b - 48)))))
Grows (DataLength k None) b s = Digit b × (s ≡ DataLength k (Some (b - 48)))
Grows (DataLength k (Some d)) b s = ((b ≡ 58) × (s ≡ Key k d)) ⊎ (Digit b × Fitting d b × (s ≡ DataLength k (Some (10 * d + (b - 48)))))
Grows (Key k d) b s = (b ≡ 45) × (s ≡ Arrow k d)
Grows (Arrow k d) b s = (b ≡ 62) × (s ≡ Data k d)
Grows (Data k d) b s = (b ≡ 10) × (s ≡ Record k d)
Grows (Record k d) b s = ⊥
Grows End b s = ⊥

-- the state does not take the byte
abbrev pub Dead : State → ℕ → Type 0
Dead Start b = (b ≢ 43) × (b ≢ 10)
Dead (KeyLength None) b = Digit b → ⊥
Dead (KeyLength (Some k)) b = (b ≢ 44) × (Digit b → Fitting k b → ⊥)
Dead (DataLength k None) b = Digit b → ⊥
Dead (DataLength k (Some d)) b = (b ≢ 58) × (Digit b → Fitting d b → ⊥)
Dead (Key k d) b = b ≡ 45 → ⊥
Dead (Arrow k d) b = b ≡ 62 → ⊥
Dead (Data k d) b = b ≡ 10 → ⊥
Dead (Record k d) b = Unit {0}
Dead End b = Unit {0}

-- the bytes that stand before the next byte that a state looks at: the key or the data
abbrev pub skip : State → ℕ
skip Start = 0
skip (KeyLength n) = 0
skip (DataLength k n) = 0
skip (Key k d) = k
skip (Arrow k d) = 0
skip (Data k d) = d
skip (Record k d) = 0
skip End = 0
