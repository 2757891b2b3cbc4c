-- `put` meets its contract: what is left to copy, copied from here on, is all of it copied from the start.
-- Assumes nothing.
use Prim.Native.Nat.{◌+◌}
use mathlib.Core.Path.{◌≡◌}
use lib.ListN.{drop}
use lib.Seq.{sets}
use Rattle.little_endian.proofs.put.Given as goal

abbrev pub invariant-loop-i : goal.invariant-loop-i
invariant-loop-i g l = sets l.output (l.at + l.i) (drop l.i l.items) ≡ sets l.initial.output l.at l.items
