-- The bytes of the first x pixels are painted, three each.
-- Assumes nothing.
use Prim.Native.Nat.{◌*◌, ◌/◌, ◌%◌}
use Rattle.definitions.specs.Painted.{Painted}
use Rattle.definitions.specs.Row.{pixels_of}
use Rattle.band_calls.proofs.carry_row.Given as goal

abbrev pub invariant-loop-x : goal.invariant-loop-x
invariant-loop-x l = Painted (l.x * 3) (λ q. pixels_of l.count l.row (q / 3) (q % 3)) l.initial.carried l.carried
