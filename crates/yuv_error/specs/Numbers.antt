-- Number, expected and received of each answer: docs/RULES.md, 7.1.
-- Assumes nothing.
use Rattle.std.specs.Prelude.{ℕ, List, [], ◌∷◌, get_or, Result, Ok, Err}
use Rattle.yuv_error.specs.declared.MismatchedSize.{MismatchedSize}
use Rattle.yuv_error.specs.declared.YuvError.{YuvError}
use Rattle.yuv_error.specs.declared.YuvError.TheVariants.{MalformedRequest, ZeroBaseSize, SizeTooLarge, MatrixNotAccepted, BandRowsMismatch}
use Rattle.yuv_error.specs.declared.YuvError.TheVariants.{DestinationSizeMismatch, MinimumStrideSizeMismatch, LumaPlaneMinimumSizeMismatch}
use Rattle.yuv_error.specs.declared.YuvError.TheVariants.{LumaPlaneSizeMismatch, UPlaneMinimumSizeMismatch, VPlaneMinimumSizeMismatch}
use Rattle.yuv_error.specs.declared.YuvError.TheVariants.{WholeRowsMismatch, CarriedRowSizeMismatch, WindowOutsideSource}
use Rattle.yuv_error.specs.declared.YuvError.TheVariants.{MalformedShiftFile, OutputTooShort, SummaryMismatch, PartsMismatch, MalformedY4m}
use Rattle.yuv_error.specs.declared.YuvError.TheVariants.{SettingsRecorded, CameraMismatch, BandStillWaiting, CameraInUse}

-- RULES 7.1
pub record Numbers : Type 0 where
  pub number : ℕ
  pub expected : ℕ
  pub received : ℕ

-- RULES 7.1
abbrev pub numbers : ℕ → ℕ → ℕ → Numbers
numbers n e r = record { number = n; expected = e; received = r }

-- RULES 7.1
abbrev pub sized : ℕ → MismatchedSize → Numbers
sized n m = numbers n m.expected m.received

-- RULES 7.1: 0 and 0 where a condition names none
abbrev pub error_numbers : YuvError → Numbers
error_numbers MalformedRequest = numbers 1 0 0
error_numbers ZeroBaseSize = numbers 2 0 0
error_numbers SizeTooLarge = numbers 3 0 0
error_numbers MatrixNotAccepted = numbers 4 0 0
error_numbers BandRowsMismatch = numbers 5 0 0
error_numbers (DestinationSizeMismatch m) = sized 6 m
error_numbers (MinimumStrideSizeMismatch m) = sized 7 m
error_numbers (LumaPlaneMinimumSizeMismatch m) = sized 8 m
error_numbers (LumaPlaneSizeMismatch m) = sized 9 m
error_numbers (UPlaneMinimumSizeMismatch m) = sized 10 m
error_numbers (VPlaneMinimumSizeMismatch m) = sized 11 m
error_numbers (WholeRowsMismatch m) = sized 12 m
error_numbers (CarriedRowSizeMismatch m) = sized 13 m
error_numbers WindowOutsideSource = numbers 14 0 0
error_numbers MalformedShiftFile = numbers 15 0 0
error_numbers OutputTooShort = numbers 16 0 0
error_numbers SummaryMismatch = numbers 17 0 0
error_numbers PartsMismatch = numbers 18 0 0
error_numbers MalformedY4m = numbers 19 0 0
error_numbers SettingsRecorded = numbers 20 0 0
error_numbers CameraMismatch = numbers 21 0 0
error_numbers BandStillWaiting = numbers 22 0 0
error_numbers CameraInUse = numbers 23 0 0

-- RULES 7.1: finished work is number 0
abbrev pub numbers_of : Result Unit YuvError → Numbers
numbers_of (Ok done) = numbers 0 0 0
numbers_of (Err e) = error_numbers e

-- RULES 7.1: the answers by number, each with the size m where it carries one
abbrev pub answers : MismatchedSize → List (Result Unit YuvError)
answers m =
    Ok tt ∷
    Err MalformedRequest ∷
    Err ZeroBaseSize ∷
    Err SizeTooLarge ∷
    Err MatrixNotAccepted ∷
    Err BandRowsMismatch ∷
    Err (DestinationSizeMismatch m) ∷
    Err (MinimumStrideSizeMismatch m) ∷
    Err (LumaPlaneMinimumSizeMismatch m) ∷
    Err (LumaPlaneSizeMismatch m) ∷
    Err (UPlaneMinimumSizeMismatch m) ∷
    Err (VPlaneMinimumSizeMismatch m) ∷
    Err (WholeRowsMismatch m) ∷
    Err (CarriedRowSizeMismatch m) ∷
    Err WindowOutsideSource ∷
    Err MalformedShiftFile ∷
    Err OutputTooShort ∷
    Err SummaryMismatch ∷
    Err PartsMismatch ∷
    Err MalformedY4m ∷
    Err SettingsRecorded ∷
    Err CameraMismatch ∷
    Err BandStillWaiting ∷
    Err CameraInUse ∷ []

-- RULES 7.1: the answer of these numbers, the other way round
abbrev pub answer_of : Numbers → Result Unit YuvError
answer_of x = get_or (answers (record { expected = x.expected; received = x.received })) x.number (Ok tt)
