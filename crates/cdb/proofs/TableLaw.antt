-- The words of the proofs: records put into a table one by one, the rules for one table, a search in it, and the rules table by table.
use Rattle.std.proofs.Common.{◌≡◌, ℕ, ◌+◌, ◌*◌, ◌<◌, ◌≤◌, ltb, ◌⊎◌, List, [], ◌∷◌, ◌++◌, length, set, replicate, count_by}
use Rattle.std.specs.List.{ContainsAt as Has}
use Rattle.cdb.specs.Records.{Record, Records, Item, hash_of, belonging}
use Rattle.cdb.specs.Tables.{Slot, blank, entry, slot, Empty, Filled, spot, slot_away, Distance, Roomy, Permitted}
use Rattle.cdb.specs.Files.{position, slot_count, slots_in}

-- the slot at distance j from the home of a key
abbrev pub probe : List Slot → List ℕ → ℕ → ℕ
probe slots key j = slot_away (length slots) (hash_of key) j

pub record PutsItem (s : List Slot) (x : Item) (t : List Slot) : Type 0 where
  pub distance : ℕ
  pub within : distance < length s
  pub free : Empty s (spot s x distance)
  pub nearest : (i : ℕ) → i < distance → Filled s (spot s x i)
  pub after : t ≡ set s (spot s x distance) (entry x)

pub data FillsItems (len : ℕ) : List Item → List Slot → Type 0 where
  start : FillsItems len [] (replicate len blank)
  put : {order : List Item} {s t : List Slot} {x : Item} → FillsItems len order s → PutsItem s x t → FillsItems len (order ++ x ∷ []) t

-- the items stand in file order: their places rise, and are above p
abbrev pub InFile : ℕ → List Item → Type 0
InFile p [] = Unit {0}
InFile p (x ∷ xs) = (p < x.place) × InFile x.place xs

pub record LawfulTable (items : List Item) (slots : List Slot) : Type 0 where
  pub placed : (x : Item) → Has items x → (j : ℕ) × Distance slots x j
  pub counted : count_by (λ s. ltb 0 s.place) slots ≡ length items
  pub room : 0 < length slots → (i : ℕ) × (i < length slots) × Empty slots i
  pub clear : (i : ℕ) → i < length slots → Empty slots i → (slot slots i).hash ≡ 0
  pub ordered : (x y : Item) (j k : ℕ) → Has items x → Has items y → y.key ≡ x.key → y.place < x.place → Distance slots x j → Distance slots y k → k ≤ j

-- the slot at distance i from the home of the key holds x, whose key it is
abbrev pub Hit : List Item → List Slot → List ℕ → ℕ → Item → Type 0
Hit items slots key i x = Has items x × (slot slots (probe slots key i) ≡ entry x) × (x.key ≡ key)

-- from distance j up to m, without m, every slot is filled and none holds an item of the key
abbrev pub Passed : List Item → List Slot → List ℕ → ℕ → ℕ → Type 0
Passed items slots key j m = (i : ℕ) → j ≤ i → i < m → Filled slots (probe slots key i) × ((x : Item) → Hit items slots key i x → ⊥)

-- a lookup of the key that has probed the slots below distance j gives these items in turn, and then none
pub data Gives (items : List Item) (slots : List Slot) (key : List ℕ) : ℕ → List Item → Type 0 where
  none : {j : ℕ} (m : ℕ) → j ≤ m → Passed items slots key j m → (m ≡ length slots) ⊎ ((m < length slots) × Empty slots (probe slots key m)) → Gives items slots key j []
  next : {j : ℕ} {x : Item} {xs : List Item} (m : ℕ) → j ≤ m → m < length slots → Passed items slots key j m → Hit items slots key m x → Gives items slots key (m + 1) xs → Gives items slots key j (x ∷ xs)

-- the slots are a permitted filling with the items
pub record FillingItems (xs : List Item) (slots : List Slot) : Type 0 where
  pub roomy : Roomy (length xs) (length slots)
  pub order : List Item
  pub permitted : Permitted xs order
  pub fills : FillsItems (length slots) order slots

-- the rules on a whole file, table by table
pub record LawfulFile (file : List ℕ) (rs : List Record) : Type 0 where
  pub long : 2048 ≤ length file
  pub first : 2048 ≤ position file 0
  pub within : position file 0 ≤ length file
  pub abut : (t : ℕ) → t < 255 → position file (t + 1) ≡ position file t + 8 * slot_count file t
  pub last : position file 255 + 8 * slot_count file 255 ≡ length file
  pub read : Records file 2048 (position file 0) rs
  pub tables : (t : ℕ) → t < 256 → LawfulTable (belonging t rs) (slots_in file t)
