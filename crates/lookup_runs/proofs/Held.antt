-- A file that a device holds, read on the device.
use Rattle.std.proofs.Common.{◌≡◌, ℕ, zero, suc, ◌+◌, ◌-◌, ◌*◌, ◌<◌, ◌≤◌, ◌⊎◌, List, [], ◌∷◌, length, get_or, Ok, Result, sym, refl, ap, ◌∙◌, subst, inl, inr, ⊎_elim, arith}
use Rattle.std.proofs.lemmas.List.{same_lists, get_or_default}
use Rattle.std.specs.List.{ContainsAt as Has}
use Rattle.byte_lists.specs.Bytes.{part, word_at}
use Rattle.byte_lists.proofs.Parts.{get_d_part, length_part}
use Rattle.faults.specs.declared.device.DeviceFault.{DeviceFault}
use Rattle.faults.specs.declared.file.FileFault.{FileFault}
use Rattle.device.specs.Meanings.{Meaning}
use Rattle.cdb.specs.Records.{Record, size, Item, items, Records}
use Rattle.cdb.specs.Files.{position, slot_count}
use Rattle.cdb.proofs.Pigeon.{has_nil, has_cons_cases}
use Rattle.cdb.proofs.TableLaw.{LawfulFile}
use Rattle.file.specs.declared.extents.Extent.{Extent}
use Rattle.file.specs.Ranges.{Reads, AllRead, FirstBad}
use Rattle.file.specs.Extents.{Readable, file}
use Rattle.file.proofs.Readying.{some_none}
use Rattle.lookup.specs.declared.cursors.Probe.{Probe}
use Rattle.lookup.specs.declared.cursors.Probe.TheVariants.{Other, Match}
use Rattle.lookup.specs.Probes.{RecordProbe, words_past, words_bad, end_past, other_length, other_key, key_bad, same_key}

-- the device holds this file on the extent, and it can be read
pub record Holding (whole : List ℕ) (e : Extent) (m : Meaning) : Type 0 where
  pub readable : Readable m e
  pub bytes : file m e ≡ whole

module _ (whole : List ℕ) (e : Extent) (m : Meaning) (h : Holding whole e m) where
  pub short : length whole ≤ e.len
  short = let n = length_part m.bytes e.start e.len in let q : length (file m e) ≡ length whole = ap length h.bytes in omega arith

  pub can_read : (p n : ℕ) → p + n ≤ e.len → AllRead m (e.start + p) n
  can_read p n l = λ j i. let z : e.start + (p + j) ≡ e.start + p + j = omega arith in subst (Reads m) z (h.readable.bytes (p + j) (omega arith))

  pub not_bad : (p n : ℕ) (f : DeviceFault) → p + n ≤ e.len → FirstBad m (e.start + p) n f → ⊥
  not_bad p n f l b = some_none _ f (can_read p n l b.k b.within) b.refused

  pub word_is : (p : ℕ) → word_at (file m e) p ≡ word_at whole p
  word_is p = ap (λ (xs : List ℕ). word_at xs p) h.bytes

  -- what a record of the file is in a lookup
  module _ (key : List ℕ) (t : ℕ) (y : Item) (n : ℕ)
      (kl : word_at whole y.place ≡ length y.key) (dl : word_at whole (y.place + 4) ≡ n)
      (stands : part whole (y.place + 8) (length y.key) ≡ y.key) (fits : y.place + 8 + (length y.key + n) ≤ e.len) where
    key_is : word_at (file m e) y.place ≡ length y.key
    key_is = word_is y.place ∙ kl

    data_is : word_at (file m e) (y.place + 4) ≡ n
    data_is = word_is (y.place + 4) ∙ dl

    key_byte : (k : ℕ) → k < length y.key → get_or (file m e) (y.place + 8 + k) 0 ≡ get_or y.key k 0
    key_byte k l =
        ap (λ (xs : List ℕ). get_or xs (y.place + 8 + k) 0) h.bytes
        ∙ sym (get_d_part whole (y.place + 8) (length y.key) k l) ∙ ap (λ (xs : List ℕ). get_or xs k 0) stands

    pub record_is : (r : Result Probe FileFault) → RecordProbe m e t key y.place r →
        ((y.key ≡ key) × (r ≡ Ok (Match (record { place = y.place + 8 + length y.key; len = n })))) ⊎ ((y.key ≡ key → ⊥) × (r ≡ Ok Other))
    record_is r (words_past a) = absurd (omega arith)
    record_is r (words_bad a b) = absurd (not_bad y.place 8 _ a b)
    record_is r (end_past w a) = absurd (omega (arith, key_is, data_is))
    record_is r (other_length w a ne) = inr ((λ q. ne (key_is ∙ ap length q)), refl)
    record_is r (other_key w a q d) =
        inr ((λ s. d.differs (key_byte d.k (omega (arith, d.within, ap length s)) ∙ ap (λ (xs : List ℕ). get_or xs d.k 0) s)), refl)
    record_is r (key_bad w a q u) =
        let z : e.start + (y.place + 8) + u.k ≡ e.start + (y.place + 8 + u.k) = omega arith in
        absurd (some_none _ _ (subst (Reads m) (sym z) (h.readable.bytes (y.place + 8 + u.k) (omega (arith, u.within, key_is)))) u.refused)
    record_is r (same_key w a q s) =
        let ll : length y.key ≡ length key = sym key_is ∙ q in
        let same : y.key ≡ key = same_lists y.key key ll (λ k d l. get_or_default y.key k d 0 l ∙ sym (key_byte k l) ∙ s.same k (omega arith) ∙ get_or_default key k 0 d (omega arith)) in
        inl (same, ap (λ (x : ℕ). Ok (Match (record { place = y.place + 8 + x; len = word_at (file m e) (y.place + 4) }))) key_is ∙ ap (λ (x : ℕ). Ok (Match (record { place = y.place + 8 + length y.key; len = x }))) data_is)

-- an item of the records of a whole
pub record Read (whole : List ℕ) (end : ℕ) (y : Item) : Type 0 where
  pub key : word_at whole y.place ≡ length y.key
  pub stands : part whole (y.place + 8) (length y.key) ≡ y.key
  pub fits : y.place + 8 + (length y.key + word_at whole (y.place + 4)) ≤ end

pub item_read : (whole : List ℕ) (p end : ℕ) (rs : List Record) → Records whole p end rs → (y : Item) → Has (items p rs) y → Read whole end y
item_read whole p end [] h y i = absurd (has_nil y i)
item_read whole p end (r ∷ rs) h y i =
    ⊎_elim
    (λ (q : record { key = r.key; place = p } ≡ y). subst (Read whole end) q (record { key = h.0; stands = h.2; fits = omega (arith, h.1, h.4) }))
    (λ t. item_read whole (p + size r) end rs h.5 y t)
    (has_cons_cases (record { key = r.key; place = p }) (items (p + size r) rs) y i)

-- each table lies in the whole
tables_end : (whole : List ℕ) (rs : List Record) (law : LawfulFile whole rs) (n t : ℕ) → t + n ≡ 255 → position whole t + 8 * slot_count whole t ≤ length whole
tables_end whole rs law zero t q = let z : t ≡ 255 = omega arith in rw z (omega (arith, law.last))
tables_end whole rs law (suc n) t q = let r = tables_end whole rs law n (t + 1) (omega arith) in omega (arith, law.abut t (omega arith))

pub table_end : (whole : List ℕ) (rs : List Record) (law : LawfulFile whole rs) (t : ℕ) → t < 256 → position whole t + 8 * slot_count whole t ≤ length whole
table_end whole rs law t l = tables_end whole rs law (255 - t) t (omega arith)
