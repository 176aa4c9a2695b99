-- What a probe answers, from what its reads answered.
use Rattle.std.proofs.Common.{◌≡◌, ℕ, ◌+◌, ◌≤◌, List, Ok, Err, Result, sym, refl, ap, ◌∙◌, subst, arith}
use Rattle.std.specs.Result.{result_map_both}
use Rattle.byte_lists.specs.Bytes.{word_at}
use Rattle.byte_lists.proofs.Words.{word_in}
use Rattle.faults.specs.declared.device.DeviceFault.{DeviceFault}
use Rattle.faults.specs.declared.file.Located.{Located}
use Rattle.faults.specs.Reports.{located}
use Rattle.faults.proofs.Places.{add_place_err, placed_ok}
use Rattle.device.specs.Meanings.{Meaning}
use Rattle.file.specs.declared.extents.Extent.{Extent}
use Rattle.file.specs.declared.words.Words.{Words}
use Rattle.file.specs.Ranges.{FirstBad, WordsRead}
use Rattle.file.specs.Extents.{file}
use Rattle.lookup.specs.declared.cursors.Found.{Found}
use Rattle.lookup.specs.Probes.{Legible, key_length, data_length, data_of}

-- a result to whose fault a table and a place were added
abbrev pub placed : {A F : Type 0} → ℕ → ℕ → Result A F → Result A (Located F)
placed t p r = result_map_both (λ x. x) (λ f. located f t p) r

-- what is known of a result is known of what it refused, where a table and a place were added to its fault
pub placed_fault : {A F : Type 0} (P : Result A F → Type 0) (t p : ℕ) {r : Result A F} {q : Result A (Located F)} {l : Located F} → q ≡ placed t p r → q ≡ Err l → P r
    → (f : F) × P (Err f) × (l ≡ located f t p)
placed_fault P t p {r} {q} {l} made k known = let b = add_place_err r q l t p made k in (b.0, subst P b.1 known, b.2)

-- two words at a place of the file that were read, and had a table and a place added to their fault
module _ (m : Meaning) (e : Extent) (t p : ℕ) (r : Result Words DeviceFault) (q : Result Words (Located DeviceFault)) (read : WordsRead m (e.start + p) r)
    (made : q ≡ placed t p r) where
  pub words_read : (w : Words) → p + 8 ≤ e.len → q ≡ Ok w → Legible m e p × (w.first ≡ word_at (file m e) p) × (w.second ≡ word_at (file m e) (p + 4))
  words_read w l k =
      let g : WordsRead m (e.start + p) (Ok w) = placed_ok (WordsRead m (e.start + p)) t p made k read in
      let z : e.start + p + 4 ≡ e.start + (p + 4) = omega arith in (
        (l, g.0),
        g.1 ∙ sym (word_in m.bytes (file m e) e.start e.len p (e.start + p) refl (omega arith) refl),
        g.2 ∙ sym (word_in m.bytes (file m e) e.start e.len (p + 4) (e.start + p + 4) refl (omega arith) z),
      )

  pub words_refused : (l : Located DeviceFault) → q ≡ Err l → (f : DeviceFault) × FirstBad m (e.start + p) 8 f × (l ≡ located f t p)
  words_refused l k = placed_fault (WordsRead m (e.start + p)) t p made k read

pub found_is : (f : List ℕ) (p a b : ℕ) → a ≡ key_length f p → b ≡ data_length f p → ◌≡◌ {A = Found} (record { place = p + 8 + a; len = b }) (data_of f p)
found_is f p a b h g = ap (λ (x : ℕ). record { place = p + 8 + x; len = b }) h ∙ ap (λ (x : ℕ). record { place = p + 8 + key_length f p; len = x }) g
