-- Small texts, and where what is no text is refused.
use Rattle.std.specs.Prelude.{ℕ, List, [], ◌∷◌, ◌++◌, codes}
use Rattle.text.specs.Texts.{TextOf, Begins, Refused}

-- the line feed that ends a line, and the one that ends the text
abbrev pub two_feeds : List ℕ
two_feeds = 10 ∷ 10 ∷ []

pub record Samples : Type 0 where
  pub no_records : TextOf (10 ∷ []) []
  pub one_record : TextOf (codes "+1,1:a->1" ++ two_feeds) (record { key = codes "a"; data' = codes "1" } ∷ [])
  pub all_empty : TextOf (codes "+0,0:->" ++ two_feeds) (record { key = []; data' = [] } ∷ [])
  pub two_digits : TextOf (codes "+12,0:hello, world->" ++ two_feeds) (record { key = codes "hello, world"; data' = [] } ∷ [])
  pub feeds_and_arrows : TextOf (codes "+2,3:" ++ (10 ∷ 10 ∷ (codes "->->" ++ (10 ∷ two_feeds)))) (record { key = 10 ∷ 10 ∷ []; data' = codes "->" ++ (10 ∷ []) } ∷ [])
  pub leading_zero : Refused (codes "+01,1:a->1") 2
  pub nothing : Refused [] 0
  pub ends_early : Refused (codes "+1,1:a->1" ++ (10 ∷ [])) 10
  pub behind_the_end : Refused (10 ∷ 10 ∷ []) 1
  pub longest_length : Begins (codes "+4294967295")
  pub too_long_length : Refused (codes "+4294967296") 10
