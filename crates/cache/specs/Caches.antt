-- What a cache means, by the device below it.
use Rattle.std.specs.Prelude.{List}
use Rattle.device.specs.Meanings.{Meaning}
use Rattle.cache.specs.declared.pages.Page.{Page}
use Rattle.cache.specs.declared.layer.Cache.{Cache}

-- its eight pages
abbrev pub pages_of : {D : Type 0} → Cache D → List Page
pages_of d = d.1

-- the device below
abbrev pub below_of : {D : Type 0} → Cache D → D
below_of d = d.0

-- its meaning: the one below
abbrev pub meaning_over : {D : Type 0} → (D → Meaning) → Cache D → Meaning
meaning_over below d = below (below_of d)
