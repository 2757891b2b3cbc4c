-- The calls of the numbers so far were made, one after the other.
use denote.Param.Always.{always_mut}
use Rattle.std.specs.List.{FoldsTo, range_with_len}
use Rattle.replay.specs.Calls.{CallsAt}
use Rattle.replay.proofs.list.each.Given as goal

abbrev pub invariant-loop-place : goal.invariant-loop-place
invariant-loop-place g l =
    (always_mut g.F.FnMut l.initial.call → always_mut g.F.FnMut l.call)
    × FoldsTo (CallsAt g.F.FnMut) (l.initial.call, l.initial.list, l.initial.out) (range_with_len 1 l.place) (l.call, l.list, l.out)
