-- `step` meets its contract: the camera whose turn it is is one of the 32.
-- Assumes nothing.
use mathlib.Core.Path.{sym, ◌∙◌}
use native.Mathlib.Omega.{arith}
use Prim.Native.Nat.{◌<◌}
use Rattle.desk_places.proofs.NextTurn.{turn_Waits}
use Rattle.desk.proofs.Desk.step.Goals.{In_ok-turn}
use Rattle.desk.proofs.Desk.step.Goals as goal

-- the camera whose turn it is
its_camera : (c : In_ok-turn) → c.in_ok-turn.turn.camera < 32
its_camera c = (turn_Waits _ _ (sym c.in_ok-turn.was ∙ c.next_waiting.ensures)).below

pub offset_bounds-self-turn : goal.offset_bounds-self-turn
offset_bounds-self-turn c = omega (arith, its_camera (goal.at.offset_bounds-self-turn c).In_ok-turn)

pub bounds-self-turn : goal.bounds-self-turn
bounds-self-turn c = its_camera (goal.at.bounds-self-turn c).In_ok-turn

pub overflow_add-self : goal.overflow_add-self
overflow_add-self c = omega (arith, its_camera (goal.at.overflow_add-self c).In_ok-turn)
