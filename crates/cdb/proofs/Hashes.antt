-- Hashes, part by part.
use Rattle.std.proofs.Common.{◌≡◌, ℕ, ◌+◌, List, fold, sym, refl, ap, ◌∙◌}
use Rattle.std.proofs.lemmas.List.Sums.{fold-append}
use Rattle.byte_lists.specs.Bytes.{part}
use Rattle.byte_lists.proofs.Parts.{part_both}
use Rattle.cdb.specs.Records.{hash_of, hash_step}

-- one more part
pub hashed_part : (f : List ℕ) (p n k h r : ℕ) → h ≡ fold hash_step 5381 (part f p n) → r ≡ fold hash_step h (part f (p + n) k) → r ≡ fold hash_step 5381 (part f p (n + k))
hashed_part f p n k h r e q =
    q ∙ ap (λ (z : ℕ). fold hash_step z (part f (p + n) k)) e ∙ sym (fold-append hash_step 5381 (part f p n) (part f (p + n) k)) ∙ ap (fold hash_step 5381) (part_both f p n k)

pub hash_is : (key : List ℕ) → hash_of key ≡ fold hash_step 5381 key
unfolding hash_of
hash_is key = refl
