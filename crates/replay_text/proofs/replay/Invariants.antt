-- The lines so far were read, and the call of each was made and printed; the room is as long as at first.
use Rattle.std.proofs.Common.{◌≡◌, ℕ, List, length, min, ◌-◌, ◌^◌}
use denote.Param.Always.{always_mut}
use Rattle.std.specs.List.{FoldsTo}
use Rattle.std.specs.Vec.{vec_len}
use Rattle.std.specs.Io.Iter.{split_byte, split_known_bytes}
use Rattle.replay_text.specs.Lines.{IsLine, Replies}
use Rattle.replay_text.proofs.replay.Given as goal

abbrev pub invariant-loop-line : goal.invariant-loop-line
invariant-loop-line g l =
    (always_mut g.F.FnMut l.initial.call → always_mut g.F.FnMut l.call) × (split_byte l.line-iterator ≡ 10) × (vec_len l.room ≡ l.fn.most)
    × ((lines : List (List ℕ)) × FoldsTo IsLine (g.T.Read.remaining l.fn.text) lines (split_known_bytes g.T.Read.remaining l.line-iterator)
    × FoldsTo (Replies g.F.FnMut g.W.Write.contents l.fn.most) (l.initial.call, l.initial.out) lines (l.call, l.out)
    × (l.count ≡ min (length lines) (2 ^ 64 - 1)))
