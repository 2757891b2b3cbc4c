-- An answer is known by its numbers: `answer_of` finds it again. Assumes nothing.
use Rattle.std.specs.Prelude.{Result, Ok, Err}
use mathlib.Core.Bool.{false}
use mathlib.Core.Path.{◌≡◌, refl, sym, ap, ◌∙◌}
use lib.Dec.{eqb}
use borrow.Author.Tests.{ne_eqb}
use Rattle.yuv_error.specs.Numbers.{numbers_of, error_numbers, answer_of}
use Rattle.yuv_error.specs.declared.YuvError.{YuvError}
use Rattle.yuv_error.specs.declared.YuvError.TheVariants.{MalformedRequest, ZeroBaseSize, SizeTooLarge, MatrixNotAccepted, BandRowsMismatch}
use Rattle.yuv_error.specs.declared.YuvError.TheVariants.{DestinationSizeMismatch, MinimumStrideSizeMismatch, LumaPlaneMinimumSizeMismatch}
use Rattle.yuv_error.specs.declared.YuvError.TheVariants.{LumaPlaneSizeMismatch, UPlaneMinimumSizeMismatch, VPlaneMinimumSizeMismatch}
use Rattle.yuv_error.specs.declared.YuvError.TheVariants.{WholeRowsMismatch, CarriedRowSizeMismatch, WindowOutsideSource}
use Rattle.yuv_error.specs.declared.YuvError.TheVariants.{MalformedShiftFile, OutputTooShort, SummaryMismatch, PartsMismatch, MalformedY4m}
use Rattle.yuv_error.specs.declared.YuvError.TheVariants.{SettingsRecorded, CameraMismatch, BandStillWaiting, CameraInUse}

pub found : (a : Result Unit YuvError) → answer_of (numbers_of a) ≡ a
found (Ok done) = refl
found (Err MalformedRequest) = refl
found (Err ZeroBaseSize) = refl
found (Err SizeTooLarge) = refl
found (Err MatrixNotAccepted) = refl
found (Err BandRowsMismatch) = refl
found (Err (DestinationSizeMismatch m)) = refl
found (Err (MinimumStrideSizeMismatch m)) = refl
found (Err (LumaPlaneMinimumSizeMismatch m)) = refl
found (Err (LumaPlaneSizeMismatch m)) = refl
found (Err (UPlaneMinimumSizeMismatch m)) = refl
found (Err (VPlaneMinimumSizeMismatch m)) = refl
found (Err (WholeRowsMismatch m)) = refl
found (Err (CarriedRowSizeMismatch m)) = refl
found (Err WindowOutsideSource) = refl
found (Err MalformedShiftFile) = refl
found (Err OutputTooShort) = refl
found (Err SummaryMismatch) = refl
found (Err PartsMismatch) = refl
found (Err MalformedY4m) = refl
found (Err SettingsRecorded) = refl
found (Err CameraMismatch) = refl
found (Err BandStillWaiting) = refl
found (Err CameraInUse) = refl

-- two answers of equal numbers are equal
pub same_answer : (a b : Result Unit YuvError) → numbers_of a ≡ numbers_of b → a ≡ b
same_answer a b e = sym (found a) ∙ ap answer_of e ∙ found b

-- number 0 is finished work, and no refusal
pub is_finished : (a : Result Unit YuvError) → (numbers_of a).number ≡ 0 → a ≡ Ok tt
is_finished a e = sym (found a) ∙ rw e

pub refused_number : (e : YuvError) → eqb (error_numbers e).number 0 ≡ false
refused_number e = ne_eqb (error_numbers e).number 0 λ z. cc (is_finished (Err e) z)
