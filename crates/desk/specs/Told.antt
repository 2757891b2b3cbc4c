-- What a step tells, and that it writes nothing where it converted no band: docs/RULES.md, 16.4.
-- Assumes nothing.
use Rattle.std.specs.Prelude.{ℕ, ◌≡◌, Bool, true, Result, Option, None, Some, is_err}
use Rattle.yuv_error.specs.declared.YuvError.{YuvError}
use Rattle.yuv_error.specs.Numbers.{numbers_of}
use Rattle.yuv_error.specs.Rules.{first_numbers}
use Rattle.desk_places.specs.declared.OpenFrame.{OpenFrame}
use Rattle.desk_places.specs.declared.WaitingBand.{WaitingBand}
use Rattle.desk_places.specs.declared.Turn.{Turn}
use Rattle.desk_places.specs.Places.{next_waiting}
use Rattle.desk_bands.specs.Buffers.{serve_rules}
use Rattle.desk.specs.declared.Served.{Served}
use Rattle.desk.specs.DeskCall.{StepCall, StepPost, served_by}

-- RULES 16.4: the camera whose turn it is, with the answer of the first rule that holds of its band
pub record TellsCamera (k : StepCall) (c : ℕ) (f : OpenFrame) (b : WaitingBand) : Type 0 where
  pub answer : Result Unit YuvError
  pub served : k.result.served ≡ served_by c answer
  pub answered : numbers_of answer ≡ first_numbers (serve_rules f b k.lent)

-- RULES 16.4
abbrev pub Tells : Option Turn → StepCall → Type 0
Tells None k = k.result.served ≡ None
Tells (Some t) k = TellsCamera k t.camera t.frame t.band

-- RULES 16.4: no band was converted: none waited, or it was refused
abbrev pub none_converted : Option Served → Bool
none_converted None = true
none_converted (Some s) = is_err s.answer

-- RULES 7.1, 7.2, 16.4: every step tells so, and changes no byte of the buffers where no band was converted
pub record StepsAreRight : Type 0 where
  pub told : (k : StepCall) → StepPost k → Tells (next_waiting k.desk.places k.desk.from) k
  pub unwritten : (k : StepCall) → StepPost k → none_converted k.result.served ≡ true → k.left ≡ k.lent
