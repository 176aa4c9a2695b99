-- What the bad-sector layer means, by the device below it.
use Rattle.std.specs.Prelude.{◌≡◌, ℕ, List}
use Rattle.device.specs.Meanings.{Meaning}
use Rattle.marks.specs.declared.layer.Marked.{Marked}
use Rattle.marks.specs.Marks.{sectors_of, marked}

-- the sectors that the layer has marked
abbrev pub marks_of : {D : Type 0} → Marked D → List ℕ
marks_of d = sectors_of d.marks

-- the device below
abbrev pub below_of : {D : Type 0} → Marked D → D
below_of d = d.below

-- its meaning: the one below with these sectors marked
abbrev pub meaning_over : {D : Type 0} → (D → Meaning) → Marked D → Meaning
meaning_over below d = marked (marks_of d) (below (below_of d))

-- what reading and writing leave as it was, beside what the meaning says: the marks, and the conditions of the sectors below
pub record Keeps {D : Type 0} (below : D → Meaning) (d d' : Marked D) : Type 0 where
  pub marks : marks_of d' ≡ marks_of d
  pub conditions : (below (below_of d')).condition ≡ (below (below_of d)).condition
