-- Memory is a device.
use Rattle.std.proofs.Common.{◌≡◌, ℕ, ◌*◌, ◌<◌, Bool, true, List, arith}
use Rattle.std.proofs.lemmas.List.{length-take-le}
use Rattle.std.proofs.ByRecursion.{All-take}
use Rattle.byte_lists.specs.Bytes.{Bytes}
use Rattle.device.specs.Meanings.{Writes, Whole}
use Rattle.memory.specs.Memories.{memory, fitting}

pub memory_whole : (xs : List ℕ) (on : Bool) (w : Writes) → Bytes xs → (fitting xs ≡ 0 → on ≡ true) → Whole (memory xs on w)
memory_whole xs on w b h =
    record { few = omega arith; long = length-take-le (512 * fitting xs) xs (omega arith); bytes = All-take (λ n. n < 256) (512 * fitting xs) xs b; on = h }
