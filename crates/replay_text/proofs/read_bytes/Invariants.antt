-- The bytes so far were written, at the room's start.
use Rattle.std.proofs.Common.{◌≡◌, length, map, take}
use Rattle.std.specs.List.{range_with_len}
use Rattle.replay_text.specs.Lines.{byte_at}
use Rattle.replay_text.proofs.read_bytes.Given as goal

abbrev pub invariant-loop-n : goal.invariant-loop-n
invariant-loop-n l =
    (length l.room ≡ length l.initial.room) × (take l.n l.room ≡ map (byte_at l.text) (range_with_len 0 l.n))
