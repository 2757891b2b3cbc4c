-- The calls of the numbers so far were made and printed, one after the other.
use denote.Param.Always.{always_mut}
use Rattle.std.specs.List.{FoldsTo, range_with_len}
use Rattle.replay.specs.Calls.{Prints}
use Rattle.replay.proofs.slices.replay.Given as goal

abbrev pub invariant-loop-place : goal.invariant-loop-place
invariant-loop-place g l =
    (always_mut g.F.FnMut l.initial.call → always_mut g.F.FnMut l.call)
    × FoldsTo (Prints g.F.FnMut g.W.Write.contents) (l.initial.call, l.initial.list, l.initial.out) (range_with_len 1 l.place) (l.call, l.list, l.out)
