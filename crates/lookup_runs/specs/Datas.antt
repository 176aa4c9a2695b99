-- The data of the records of a key, by the list of a file's records.
use Rattle.std.specs.Prelude.{◌≡◌, ℕ, ◌+◌, cond, ◌⊎◌, List, [], ◌∷◌, length}
use Rattle.std.specs.Str.{bytes_eq}
use Rattle.cdb.specs.Records.{Record, size}
use Rattle.lookup.specs.declared.cursors.Found.{Found}

-- the place and the length of the data of a record that stands at place p
abbrev pub data_at : ℕ → Record → Found
data_at p r = record { place = p + 8 + length r.key; len = length r.data' }

-- those of the records with a key, in file order, of records that stand from place p on
abbrev pub datas : ℕ → List Record → List ℕ → List Found
datas p [] key = []
datas p (r ∷ rs) key = cond (bytes_eq r.key key) (data_at p r ∷ datas (p + size r) rs key) (datas (p + size r) rs key)

-- of records that stand from place p on, r stands at place q
abbrev pub StandsAt : ℕ → List Record → ℕ → Record → Type 0
StandsAt p [] q r = ⊥
StandsAt p (s ∷ rs) q r = ((q ≡ p) × (r ≡ s)) ⊎ StandsAt (p + size s) rs q r
