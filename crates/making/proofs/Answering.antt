-- What making a file answers.
use Rattle.std.proofs.Common.{◌≡◌, ℕ, zero, suc, ◌+◌, ◌*◌, ◌≤◌, List, [], ◌∷◌, ◌++◌, length, take, drop, Ok, Err, Result, sym, refl, ap, ◌∙◌, subst, inl, inr, arith, length-append, append_assoc}
use Rattle.std.proofs.lemmas.List.{length-take-le, take-append-drop, take_at}
use Rattle.faults.specs.declared.file.FileFault.{FileFault}
use Rattle.device.specs.Meanings.{Meaning, Whole}
use Rattle.cdb.specs.Records.{Record}
use Rattle.building.specs.declared.entries.Entry.{Entry}
use Rattle.building.specs.Closes.{Closes}
use Rattle.text.specs.declared.tally.Tally.{Tally}
use Rattle.text.specs.Texts.{TextOf}
use Rattle.text.specs.Wholes.{Tallies}
use Rattle.text.proofs.Filling.{one_text}
use Rattle.making.specs.declared.fault.MakeFault.{MakeFault}
use Rattle.making.specs.declared.fault.MakeFault.TheVariants.{File}
use Rattle.making.specs.Sizes.{end_of, made_length, FitsIn}
use Rattle.making.specs.Makes.{entries_from, Fits, MakeStopped, MakesFile}
use Rattle.making.specs.Steps.{RecordsFit, PutsRecords}
use Rattle.making.proofs.Sized.{made_long}
use Rattle.making.proofs.Noting.{entries_long}
use Rattle.making.proofs.Filed.{made_file}

rest_of : (n k : ℕ) (es : List Entry) → n ≤ k → drop n (take k es) ++ drop k es ≡ drop n es
rest_of zero k es l = take-append-drop k es
rest_of (suc n) zero es l = absurd (omega arith)
rest_of (suc n) (suc k) [] l = refl
rest_of (suc n) (suc k) (x ∷ es) l = rest_of n k es (omega arith)

-- a text that was counted, with an entry for each of its records
module _ (m : Meaning) (es : List Entry) (t : List ℕ) (c : Tally) (s : ℕ) (tallies : Tallies t (Ok c)) (enough : c.records ≤ length es) (size : s ≡ m.sectors) where
  pub too_long : (x : MakeFault) → FitsIn c (512 * s) (Err x) → MakesFile m es t (Err x) m es
  too_long x f =
      let rs = tallies.0 in
      subst (λ (q : MakeFault). MakeStopped m es t q m es) (sym f.0)
      (rs, tallies.1, omega (arith, tallies.2), ap (λ (q : ℕ). 512 * q) size, omega (arith, f.1, made_long rs, tallies.2, tallies.3), refl, refl)

  module _ (len : ℕ) (within : FitsIn c (512 * s) (Ok len)) where
    abbrev rs : List Record
    rs = tallies.0

    counted : c.records ≡ length rs
    counted = tallies.2

    pub long : len ≡ made_length rs
    long = omega (arith, within.0, made_long rs, tallies.2, tallies.3)

    pub room : made_length rs ≤ 512 * m.sectors
    room = omega (arith, long, within.1, size)

    pub fits : (ss : List Record) → TextOf t ss → Fits m es t ss
    fits ss h = subst (Fits m es t) (one_text t rs ss tallies.1 h) (record { text = tallies.1; entries = omega (arith, counted); room = room })

    pub records_fit : RecordsFit m (length (take c.records es)) t
    records_fit = (rs, tallies.1, length-take-le c.records es enough ∙ counted, omega (arith, room))

    pub record_refused : (n : Meaning) (fs : List Entry) (x : FileFault) → PutsRecords m t (Err x) n (take c.records es) fs → MakesFile m es t (Err (File x)) n (fs ++ drop c.records es)
    record_refused n fs x (ss, h, v) =
        let same : rs ≡ ss = one_text t rs ss tallies.1 h in
        let few : length v.before ≤ c.records = omega (arith, ap length same, counted, ap length v.among, length-append v.before (v.next ∷ v.after)) in (
          ss,
          fits ss h,
          inl (record {
            before = v.before;
            next = v.next;
            after = v.after;
            among = v.among;
            between = v.between;
            written = v.written;
            fault = v.fault;
            told = v.told;
            refused = v.refused;
            noted = ap (λ (q : List Entry). q ++ drop c.records es) v.noted ∙ append_assoc (entries_from 2048 v.before) (drop (length v.before) (take c.records es)) (drop c.records es)
                ∙ ap (λ (q : List Entry). entries_from 2048 v.before ++ q) (rest_of (length v.before) c.records es few);
          }),
        )

    -- all records are written
    module _ (k : Meaning) (fs : List Entry) (end : ℕ) (put : PutsRecords m t (Ok end) k (take c.records es) fs) where
      abbrev ss : List Record
      ss = put.0

      same : rs ≡ ss
      same = one_text t rs ss tallies.1 put.1

      counted_put : c.records ≡ length ss
      counted_put = counted ∙ ap length same

      first : take c.records (fs ++ drop c.records es) ≡ entries_from 2048 ss
      first = take_at fs (drop c.records es) c.records (omega (arith, ap length put.4, entries_long 2048 ss, counted_put)) ∙ put.4

      noted : fs ++ drop c.records es ≡ entries_from 2048 ss ++ drop (length ss) es
      noted = ap (λ (q : List Entry). q ++ drop c.records es) put.4 ∙ ap (λ (q : ℕ). entries_from 2048 ss ++ drop q es) counted_put

      pub close_within : 0 + (end + 16 * length (take c.records (fs ++ drop c.records es))) ≤ 512 * k.sectors
      close_within = omega (arith, put.2, ap length first, entries_long 2048 ss, ap made_length same, room, put.3.sectors)

      pub past : 2048 ≤ end
      past = omega (arith, put.2)

      closes : (n : Meaning) (r : Result (Unit {0}) FileFault) → Closes k 0 end (take c.records (fs ++ drop c.records es)) r n → Closes k 0 (end_of ss) (entries_from 2048 ss) r n
      closes n r h = subst (λ (q : ℕ). Closes k 0 q (entries_from 2048 ss) r n) put.2 (subst (λ (q : List Entry). Closes k 0 end q r n) first h)

      pub close_refused : (n : Meaning) (x : FileFault) → Closes k 0 end (take c.records (fs ++ drop c.records es)) (Err x) n → MakesFile m es t (Err (File x)) n (fs ++ drop c.records es)
      close_refused n x h = (ss, fits ss put.1, inr (record { between = k; written = put.3; refused = closes n (Err x) h; noted = noted }))

      pub made : (n : Meaning) → Whole m → Closes k 0 end (take c.records (fs ++ drop c.records es)) (Ok tt) n → MakesFile m es t (Ok len) n (fs ++ drop c.records es)
      made n whole h = (ss, fits ss put.1, long ∙ ap made_length same, made_file m k n ss whole (omega (arith, ap made_length same, room)) put.3 (closes n (Ok tt) h), noted)
