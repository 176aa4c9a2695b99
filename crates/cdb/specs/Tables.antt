-- Tables: slots, where a search looks, and how a table is filled.
use Rattle.std.specs.Prelude.{◌≡◌, ℕ, ◌+◌, ◌/◌, ◌%◌, ◌<◌, ◌⊎◌, List, [], ◌∷◌, ◌++◌, map, length, get_or, replicate, ◌≢◌, slice_index_or, slice_set}
use Rattle.std.specs.List.Sorted.{IsPermutation}
use Rattle.cdb.specs.Records.{Item, hash_of}

-- a slot: a hash and a record's place; it is empty if the place is 0
pub record Slot : Type 0 where
  pub hash : ℕ
  pub place : ℕ

abbrev pub blank : Slot
blank = record { hash = 0; place = 0 }

-- what the slot of a record holds
abbrev pub entry : Item → Slot
entry x = record { hash = hash_of x.key; place = x.place }

abbrev pub slot : List Slot → ℕ → Slot
slot slots i = slice_index_or slots i blank

abbrev pub Empty : List Slot → ℕ → Type 0
Empty slots i = (slot slots i).place ≡ 0

abbrev pub Filled : List Slot → ℕ → Type 0
Filled slots i = 0 < (slot slots i).place

-- the home of a hash in a table of len slots
abbrev pub home : ℕ → ℕ → ℕ
home len hash = (hash / 256) % len

-- the slot at distance j from the home of a hash: a search goes on at the first slot after the last
abbrev pub slot_away : ℕ → ℕ → ℕ → ℕ
slot_away len hash j = (home len hash + j) % len

-- the slot at distance j from the home of a record's key
abbrev pub spot : List Slot → Item → ℕ → ℕ
spot slots x j = slot_away (length slots) (hash_of x.key) j

-- t is s with a hash and a place put in: they take the free slot that is nearest to the home of the hash
pub record Puts (s : List Slot) (x : Slot) (t : List Slot) : Type 0 where
  pub distance : ℕ
  pub within : distance < length s
  pub free : Empty s (slot_away (length s) x.hash distance)
  pub nearest : (i : ℕ) → i < distance → Filled s (slot_away (length s) x.hash i)
  pub after : t ≡ slice_set s (slot_away (length s) x.hash distance) x

-- a list of these, put one by one into len slots that are zero at first
pub data Fills (len : ℕ) : List Slot → List Slot → Type 0 where
  start : Fills len [] (replicate len blank)
  put : {xs : List Slot} {s t : List Slot} {x : Slot} → Fills len xs s → Puts s x t → Fills len (xs ++ x ∷ []) t

-- an order of the records of a table that keeps those of equal key in file order
pub record Permitted (items order : List Item) : Type 0 where
  pub same : IsPermutation items order
  pub kept : (i j : ℕ) (d : Item) → i < j → j < length order → (get_or order i d).key ≡ (get_or order j d).key → (get_or order i d).place < (get_or order j d).place

-- a table of so many slots may hold so many records: one slot stays empty, or there are neither
abbrev pub Roomy : ℕ → ℕ → Type 0
Roomy count len = (count < len) ⊎ ((count ≡ 0) × (len ≡ 0))

-- the slots are a permitted filling with the records
pub record Filling (xs : List Item) (slots : List Slot) : Type 0 where
  pub roomy : Roomy (length xs) (length slots)
  pub order : List Item
  pub permitted : Permitted xs order
  pub fills : Fills (length slots) (map entry order) slots

-- the distance of a record: a search from its home meets its hash and place there first, and passes no empty slot
pub record Distance (slots : List Slot) (x : Item) (j : ℕ) : Type 0 where
  pub within : j < length slots
  pub holds : slot slots (spot slots x j) ≡ entry x
  pub passed : (i : ℕ) → i < j → Filled slots (spot slots x i)
  pub first : (i : ℕ) → i < j → slot slots (spot slots x i) ≢ entry x
