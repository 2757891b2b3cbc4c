-- `put` meets its contract: the rows left to copy, copied from here on, are all of them copied from the start.
-- Assumes nothing.
use Prim.Native.Nat.{◌+◌, ◌*◌, ◌-◌}
use mathlib.Core.Path.{◌≡◌}
use lib.ListN.{drop}
use lib.Seq.{sets}
use Rattle.shift_record.specs.Record.{unpadded}
use Rattle.shift_record.proofs.padded.PaddedRows.put.Given as goal

abbrev pub invariant-loop-row : goal.invariant-loop-row
invariant-loop-row l =
    sets l.output (l.at + l.self.size * l.row) (unpadded l.self.size l.self.stride (l.self.count - l.row) (drop (l.self.stride * l.row) l.self.bytes.now))
    ≡ sets l.initial.output l.at (unpadded l.self.size l.self.stride l.self.count l.self.bytes.now)
