-- `next_waiting` meets its contract: when some cameras were asked, the turn is that of the first that waits from there on.
-- Assumes nothing.
use Prim.Native.Nat.{◌-◌}
use mathlib.Core.Path.{◌≡◌}
use Rattle.desk_places.specs.Places.{first_waiting, next_waiting}
use Rattle.desk_places.proofs.next_waiting.Given as goal

abbrev pub invariant-loop-asked : goal.invariant-loop-asked
invariant-loop-asked l = first_waiting l.places l.from l.asked (32 - l.asked) ≡ next_waiting l.places l.from
