-- How long a file is, by what is counted of its text.
use Rattle.std.proofs.Common.{◌≡◌, ℕ, ◌+◌, ◌*◌, List, [], ◌∷◌, length, Ok, Err, sym, refl, subst, arith, length-append}
use Rattle.std.specs.List.{flat_map}
use Rattle.cdb.specs.Records.{Record, record_bytes}
use Rattle.writing.proofs.Recorded.{record_long}
use Rattle.text.specs.declared.tally.Tally.{Tally}
use Rattle.text.specs.Wholes.{bytes_in, Tallies}
use Rattle.making.specs.declared.fault.MakeFault.{MakeFault}
use Rattle.making.specs.Sizes.{made_length, Measures, FitsIn}

joined_long : (rs : List Record) → length (flat_map record_bytes rs) ≡ bytes_in rs + 8 * length rs
joined_long [] = refl
joined_long (r ∷ rs) = omega (arith, length-append (record_bytes r) (flat_map record_bytes rs), record_long r, joined_long rs)

pub made_long : (rs : List Record) → made_length rs ≡ 2048 + bytes_in rs + 24 * length rs
made_long rs = omega (arith, joined_long rs)

pub measured : (t : List ℕ) (c : Tally) (len : ℕ) → Tallies t (Ok c) → FitsIn c 4294966784 (Ok len) → Measures t (Ok (record { records = c.records; len = len }))
measured t c len (rs, h, a, b) f = (rs, h, a, omega (arith, made_long rs, f.0, a, b), omega (arith, made_long rs, f.0, f.1, a, b))

pub too_long : (t : List ℕ) (c : Tally) (x : MakeFault) → Tallies t (Ok c) → FitsIn c 4294966784 (Err x) → Measures t (Err x)
too_long t c x (rs, h, a, b) f = subst (λ (q : MakeFault). Measures t (Err q)) (sym f.0) (rs, h, refl, omega (arith, made_long rs, f.1, a, b))
