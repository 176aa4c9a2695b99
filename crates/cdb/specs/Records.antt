-- Records, their hashes and their places.
use Rattle.std.specs.Prelude.{◌≡◌, ℕ, ◌+◌, ◌*◌, ◌%◌, ◌^◌, ◌≤◌, List, [], ◌∷◌, ◌++◌, length, fold, filter, bit_xor, nat_eq}
use Rattle.byte_lists.specs.Bytes.{part, word, word_at}

-- a key and its data; both may be empty, and keys may repeat
pub record Record : Type 0 where
  pub key : List ℕ
  pub data' : List ℕ

-- one byte more in a hash: 33 times the hash, kept to 32 bits, then the byte by exclusive or
abbrev pub hash_step : ℕ → ℕ → ℕ
hash_step h c = bit_xor (33 * h % 2 ^ 32) c

-- the hash of a key: byte after byte, begun with 5381
unfoldable pub hash_of : List ℕ → ℕ
hash_of key = fold hash_step 5381 key

-- the table that a key belongs to, of 256
abbrev pub table_of : List ℕ → ℕ
table_of key = hash_of key % 256

-- the bytes that a record takes
abbrev pub size : Record → ℕ
size r = 8 + (length r.key + length r.data')

-- the lengths of key and data as two words, then the key, then the data
abbrev pub record_bytes : Record → List ℕ
record_bytes r = (word (length r.key) ++ word (length r.data')) ++ (r.key ++ r.data')

-- from place p on these records stand one behind the other, up to the place end
abbrev pub Records : List ℕ → ℕ → ℕ → List Record → Type 0
Records file p end [] = p ≡ end
Records file p end (r ∷ rs) =
    (word_at file p ≡ length r.key) × (word_at file (p + 4) ≡ length r.data')
    × (part file (p + 8) (length r.key) ≡ r.key) × (part file (p + 8 + length r.key) (length r.data') ≡ r.data')
    × (p + size r ≤ end) × Records file (p + size r) end rs

-- what a table knows of a record: its key, and its place in the file
pub record Item : Type 0 where
  pub key : List ℕ
  pub place : ℕ

-- the records that stand from place p on, with their places
abbrev pub items : ℕ → List Record → List Item
items p [] = []
items p (r ∷ rs) = record { key = r.key; place = p } ∷ items (p + size r) rs

-- those of a file that belong to table t
abbrev pub belonging : ℕ → List Record → List Item
belonging t rs = filter (λ x. nat_eq (table_of x.key) t) (items 2048 rs)
