-- A write of the root changes nothing behind it.
use Rattle.std.proofs.Common.{◌≡◌, ℕ, ◌/◌, ◌≤◌, List, length, get_or, Some, None, Option, Result, ap, ◌∙◌, arith}
use Rattle.byte_lists.specs.Bytes.{laid}
use Rattle.byte_lists.proofs.Laid.{past_laid, length_laid}
use Rattle.faults.specs.declared.device.DeviceFault.{DeviceFault}
use Rattle.device.specs.Meanings.{Meaning, Writes, spent, refusal, Spends, WritesBy, Written}
use Rattle.writing.specs.Runs.{Keeps}
use Rattle.writing.proofs.Keeping.{keeps_same}

module _ (m n : Meaning) (ys : List ℕ) (r : Result (Unit {0}) DeviceFault) (sector : length ys ≡ 512) (some : 512 ≤ length m.bytes) where
  by_spent : (w : Option Writes) → Spends w m 0 ys r n → Keeps m (λ k. 512 ≤ k) n
  by_spent None (e, c) = record {
    sectors = c.sectors;
    condition = c.condition;
    long = c.bytes.long;
    same = λ k l. c.bytes.apart k (λ z. let y : k / 512 ≡ 0 = z in omega arith);
  }
  by_spent (Some w) (e, c) =
      let b : n.bytes ≡ laid m.bytes 0 ys = ap (λ (q : Meaning). q.bytes) c in
      record {
        sectors = ap (λ (q : Meaning). q.sectors) c;
        condition = ap (λ (q : Meaning). q.condition) c;
        long = ap length b ∙ length_laid m.bytes 0 ys (omega arith);
        same = λ k l. ap (λ (q : List ℕ). get_or q k 0) b ∙ past_laid m.bytes 0 ys k (omega arith) (omega arith);
      }

  by_refusal : (o : Option DeviceFault) → WritesBy o m 0 ys r n → Keeps m (λ k. 512 ≤ k) n
  by_refusal (Some f) t = keeps_same m n _ t.1
  by_refusal None t = by_spent (spent m.left) t

  pub root_keeps : Written m 0 ys r n → Keeps m (λ k. 512 ≤ k) n
  root_keeps t = by_refusal (refusal m 0 (length ys)) t
