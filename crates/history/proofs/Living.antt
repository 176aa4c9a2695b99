-- The live file stays while nothing outside the draft's area changes.
use Rattle.std.proofs.Common.{◌≡◌, ℕ, ◌+◌, ◌*◌, ◌<◌, ◌≤◌, List, length, get_or, sym, ap, ◌∙◌, subst, inl, inr, arith}
use Rattle.byte_lists.specs.Bytes.{part, laid}
use Rattle.byte_lists.proofs.Laid.{past_laid, length_laid}
use Rattle.device.specs.Meanings.{Meaning}
use Rattle.cdb.specs.Records.{Record}
use Rattle.cdb.specs.Rules.{Lawful}
use Rattle.writing.specs.Runs.{Outside, Keeps}
use Rattle.building.proofs.Slotted.{part_same, at_laid}
use Rattle.areas.specs.declared.area.Area.{Area}
use Rattle.areas.specs.declared.area.Area.TheVariants.{Zero, One}
use Rattle.areas.specs.Geometry.{other, area_start, area_size, root_bytes}
use Rattle.areas.proofs.Rooted.{root_long}
use Rattle.shelf.specs.States.{Live, file_start, file_room}
use Rattle.shelf.proofs.Inside.{Long, area_on}
use Rattle.history.specs.Laws.{Rooted, live_file}

-- a byte of the live file is outside the other area
live_outside : (n : ℕ) (a : Area) (len i : ℕ) → len ≤ area_size n a → area_start n a ≤ i → i < area_start n a + len → Outside (area_start n (other a)) (area_size n (other a)) i
live_outside n Zero len i f l h = inl (omega arith)
live_outside n One len i f l h = inr (omega arith)

-- so is a byte of the root
root_outside : (n : ℕ) (a : Area) (i : ℕ) → i < 512 → Outside (area_start n a) (area_size n a) i
root_outside n Zero i h = inl (omega arith)
root_outside n One i h = inl (omega arith)

-- an area begins behind the root
pub behind_root : (n : ℕ) (a : Area) → 512 ≤ area_start n a
behind_root n Zero = omega arith
behind_root n One = omega arith

-- root and live file are the same on two devices
pub record Same (l : Live) (m n : Meaning) : Type 0 where
  pub sectors : n.sectors ≡ m.sectors
  pub long : length n.bytes ≡ length m.bytes
  pub root : part n.bytes 0 512 ≡ part m.bytes 0 512
  pub file : live_file n l ≡ live_file m l

pub same_bytes : (l : Live) (m n : Meaning) → n.sectors ≡ m.sectors → n.bytes ≡ m.bytes → Same l m n
same_bytes l m n s b = record {
  sectors = s;
  long = ap length b;
  root = ap (λ (q : List ℕ). part q 0 512) b;
  file = ap (λ (q : List ℕ). part q (area_start l.sectors l.area) l.len) b;
}

pub same_device : (l : Live) (m n : Meaning) → n ≡ m → Same l m n
same_device l m n e = same_bytes l m n (ap (λ (q : Meaning). q.sectors) e) (ap (λ (q : Meaning). q.bytes) e)

pub same_both : (l : Live) (m n k : Meaning) → Same l m n → Same l n k → Same l m k
same_both l m n k a b = record { sectors = b.sectors ∙ a.sectors; long = b.long ∙ a.long; root = b.root ∙ a.root; file = b.file ∙ a.file }

module _ (l : Live) (m n : Meaning) where
  pub long_same : Same l m n → Long m → Long n
  long_same s h = s.long ∙ h ∙ ap (λ (q : ℕ). 512 * q) (sym s.sectors)

  -- the root still names the live file
  pub rooted_same : Same l m n → Rooted m l → Rooted n l
  rooted_same s r = record {
    sectors = r.sectors ∙ sym s.sectors;
    names = record { is = s.root ∙ r.names.is; long = r.names.long; fits = subst (λ (q : ℕ). l.len ≤ area_size q l.area) (sym s.sectors) r.names.fits };
  }

  -- how long the device is, if it has a live file
  pub live_on : Long m → Rooted m l → (area_start l.sectors l.area + l.len ≤ length m.bytes) × (512 ≤ length m.bytes)
  live_on h r =
      let big : 2048 ≤ l.len = r.names.long in
      let fit : l.len ≤ area_size m.sectors l.area = r.names.fits in
      let s : l.sectors ≡ m.sectors = r.sectors in
      let on : area_start l.sectors l.area + area_size l.sectors l.area ≤ 512 * l.sectors = area_on l.sectors l.area (omega arith) in
      let start = behind_root l.sectors l.area in
      (omega arith, omega arith)

  -- nothing outside the draft's area changed
  pub inside_same : Long m → Rooted m l → Keeps m (Outside (file_start l) (file_room l)) n → Same l m n
  inside_same h r k =
      let on = live_on h r in
      let ln : length n.bytes ≡ length m.bytes = k.long in
      let fit : l.len ≤ area_size l.sectors l.area = subst (λ (q : ℕ). l.len ≤ area_size q l.area) (sym r.sectors) r.names.fits in
      record {
        sectors = k.sectors;
        long = ln;
        root = part_same n.bytes m.bytes 0 512 (omega (arith, on.1)) (omega (arith, on.1)) (λ i u v. k.same i (root_outside l.sectors (other l.area) i v));
        file = part_same n.bytes m.bytes (area_start l.sectors l.area) l.len (omega (arith, on.0)) (omega (arith, on.0))
            (λ i u v. k.same i (live_outside l.sectors l.area l.len i fit u v));
      }

pub lawful_same : (l : Live) (m n : Meaning) (rs : List Record) → Same l m n → Lawful (live_file m l) rs → Lawful (live_file n l) rs
lawful_same l m n rs s h = subst (λ (q : List ℕ). Lawful q rs) (sym s.file) h

-- a new root is laid over the old one
module _ (m n : Meaning) (a : Area) (len : ℕ) (few : 1 ≤ m.sectors) (long : Long m) (sectors : n.sectors ≡ m.sectors) (bytes : n.bytes ≡ laid m.bytes 0 (root_bytes a len)) where
  room : 0 + length (root_bytes a len) ≤ length m.bytes
  room = omega (arith, root_long a len, long)

  pub relaid_long : length n.bytes ≡ length m.bytes
  relaid_long = ap length bytes ∙ length_laid m.bytes 0 (root_bytes a len) room

  -- it is the root now
  pub relaid_root : part n.bytes 0 512 ≡ root_bytes a len
  relaid_root =
      let at : part (laid m.bytes 0 (root_bytes a len)) 0 (length (root_bytes a len)) ≡ root_bytes a len = at_laid m.bytes 0 (root_bytes a len) (omega arith) in
      ap (λ (q : List ℕ). part q 0 512) bytes ∙ subst (λ (q : ℕ). part (laid m.bytes 0 (root_bytes a len)) 0 q ≡ root_bytes a len) (root_long a len) at

  -- and the bytes behind it stay
  pub relaid_part : (p k : ℕ) → 512 ≤ p → p + k ≤ length m.bytes → part n.bytes p k ≡ part m.bytes p k
  relaid_part p k b on =
      let ln = relaid_long in
      let rl = root_long a len in
      part_same n.bytes m.bytes p k (omega arith) on
      (λ i u v. ap (λ (q : List ℕ). get_or q i 0) bytes ∙ past_laid m.bytes 0 (root_bytes a len) i room (omega arith))
