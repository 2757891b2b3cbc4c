-- The places below the loop's index hold what the calls so far gave, in order.
use Rattle.std.proofs.Common.{take}
use denote.Param.Always.{always_mut}
use Rattle.std.specs.List.{FoldsTo}
use Rattle.replay.specs.Calls.{Gives}
use Rattle.replay.proofs.list.List.row.Given as goal

abbrev pub invariant-loop-place : goal.invariant-loop-place
invariant-loop-place g l =
    (always_mut g.F.FnMut l.initial.next → always_mut g.F.FnMut l.next)
    × FoldsTo (Gives g.F.FnMut) (l.initial.next, l.initial.self) (take l.place-index l.place-items) (l.next, l.self)
