-- What a step told is the answer of the first rule that holds of the band whose turn it was.
-- Assumes nothing.
use Prim.Native.Nat.{◌≤◌}
use mathlib.Core.Path.{◌≡◌, refl}
use mathlib.Core.Bool.{true}
use native.Mathlib.Omega.{arith}
use Rattle.std.specs.Prelude.{Option, None, Some, Result, Ok, Err, is_err}
use Rattle.yuv_error.specs.declared.YuvError.{YuvError}
use Rattle.yuv_error.specs.Numbers.{numbers_of}
use Rattle.yuv_error.specs.Rules.{first_numbers}
use Rattle.yuv_error.specs.Lowest.{in_order, Lowest}
use Rattle.yuv_error.proofs.Lowest.{first_is_lowest}
use Rattle.desk_places.specs.declared.Turn.{Turn}
use Rattle.desk_places.specs.Places.{next_waiting}
use Rattle.desk_bands.specs.Buffers.{Buffers}
use Rattle.desk.specs.declared.Served.{Served}
use Rattle.desk.specs.DeskCall.{StepCall, StepPost}
use Rattle.desk.specs.Told.{Tells, none_converted}
use Rattle.desk.proofs.Right.{steps_are_right}
use Rattle.desk_calls.specs.Calls.{served_numbers}
use Rattle.demands.specs.Demands.{turn_rules_of, step_rules}

turn_first : (n : Option Turn) (k : StepCall) → Tells n k → served_numbers k.result.served ≡ first_numbers (turn_rules_of n k.lent)
turn_first None k told = rw told
turn_first (Some t) k told = rw told.served told.answered

turn_in_order : (n : Option Turn) (lent : Buffers) → in_order 0 (turn_rules_of n lent) ≡ true
turn_in_order None lent = refl
turn_in_order (Some t) lent = refl

refused : (a : Result Unit YuvError) → 1 ≤ (numbers_of a).number → is_err a ≡ true
refused (Ok done) l = absurd (omega arith)
refused (Err e) l = refl

none_converted_lem : (s : Option Served) → 1 ≤ (served_numbers s).number → none_converted s ≡ true
none_converted_lem None l = refl
none_converted_lem (Some s) l = refused s.answer l

module _ (k : StepCall) (p : StepPost k) where
  abbrev next : Option Turn
  next = next_waiting k.desk.places k.desk.from

  pub step_Lowest : Lowest (step_rules k) (served_numbers k.result.served)
  step_Lowest =
      (first_is_lowest (step_rules k) (served_numbers k.result.served) (turn_in_order next k.lent)).0
      (turn_first next k (steps_are_right.told k p))

  pub step_unwritten : 1 ≤ (served_numbers k.result.served).number → k.left ≡ k.lent
  step_unwritten l = steps_are_right.unwritten k p (none_converted_lem k.result.served l)
