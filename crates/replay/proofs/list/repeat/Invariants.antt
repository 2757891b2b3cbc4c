-- The block stays, and below the loop's index the buffer repeats; a block of none leaves all of it.
use Rattle.std.proofs.Common.{◌≡◌, ℕ, ◌-◌, ◌≤◌, ◌<◌, length, take, slice_index}
use Rattle.replay.proofs.list.repeat.Given as goal

abbrev pub invariant-loop-k : goal.invariant-loop-k
invariant-loop-k l =
    (length l.buffer ≡ length l.initial.buffer) × (take l.block l.buffer ≡ take l.block l.initial.buffer)
    × ((j : ℕ) → l.block ≤ j → j < l.k → slice_index l.buffer j ≡ slice_index l.buffer (j - l.block))
    × (l.block ≡ 0 → l.buffer ≡ l.initial.buffer)
