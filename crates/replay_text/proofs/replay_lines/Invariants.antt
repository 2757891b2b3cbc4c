-- The lines so far were cut off, and the call of each was made and printed; the room is as long as at first.
use Rattle.std.proofs.Common.{◌≡◌, ℕ, List, length, min, Some, ◌-◌, ◌^◌}
use Rattle.std.specs.List.{FoldsTo}
use Rattle.replay_text.specs.Lines.{IsLine, Replies}
use Rattle.replay_text.proofs.replay_lines.Given as goal

abbrev pub invariant-loop-rest : goal.invariant-loop-rest
invariant-loop-rest g l =
    goal.F-IsAlwaysCallable g l.call × (length l.room ≡ length l.fn.room)
    × ((lines : List (List ℕ)) × FoldsTo IsLine (Some l.fn.text) lines (Some l.rest)
    × FoldsTo (Replies g.F.FnMut g.W.Write.contents (length l.fn.room)) (l.initial.call, l.initial.out) lines (l.call, l.out)
    × (l.count ≡ min (length lines) (2 ^ 64 - 1)))

abbrev pub decreases-loop-rest : goal.decreases-loop-rest
decreases-loop-rest g l = length l.rest
