-- What was read so far was consumed, and stands at the buffer's start; behind it the buffer is as it was.
use Rattle.std.proofs.Common.{◌≡◌, ◌≤◌, length, take, drop}
use Rattle.std.specs.Io.KnownBytes.{Consumes}
use Rattle.replay.proofs.reading.read_whole.Given as goal

abbrev pub invariant-loop : goal.invariant-loop
invariant-loop g l =
    (length l.buffer ≡ length l.initial.buffer) × (l.size ≤ length l.buffer)
    × Consumes (g.B.Read.remaining l.initial.reader) (g.B.Read.remaining l.reader) (take l.size l.buffer)
    × (drop l.size l.buffer ≡ drop l.size l.initial.buffer)
