-- A slot's numbers mean that slot again, and are as many as a place has.
-- Assumes nothing.
use Prim.Native.Nat.{ℕ}
use mathlib.Core.Path.{◌≡◌, refl, ap}
use lib.ListN.{length}
use Rattle.yuv_support.specs.declared.YuvStandardMatrix.{YuvStandardMatrix}
use Rattle.yuv_support.specs.declared.YuvStandardMatrix.TheVariants.{Bt601, Bt709, Bt2020, Smpte240, Bt470_6, Fcc, Custom}
use Rattle.definitions.specs.declared.YuvSettings.{YuvSettings}
use Rattle.definitions.specs.declared.FrameDescription.{FrameDescription}
use Rattle.setting_codes.specs.Codes.{matrix_code}
use Rattle.setting_codes.proofs.Codes.{channels_there, sampling_there, range_there, transfer_there, rounding_there}
use Rattle.call_numbers.specs.Codes.{matrix_of, settings_of, window_of}
use Rattle.band_calls.specs.BandCall.{state_of}
use Rattle.buffer_parts.specs.declared.BufferPart.{BufferPart}
use Rattle.desk_places.specs.declared.OpenFrame.{OpenFrame}
use Rattle.desk_places.specs.declared.Slot.{Slot}
use Rattle.desk_places.specs.declared.Slot.TheVariants.{Free, Idle, Waiting}
use Rattle.desk_numbers.specs.Numbers.{frame_of, slot_of, state_numbers, matrix_customs, part_numbers, slot_numbers, slot_customs, slot_parts}

matrix_again : (m : YuvStandardMatrix) → matrix_of (matrix_code m) (matrix_customs m) ≡ m
matrix_again Bt601 = refl
matrix_again Bt709 = refl
matrix_again Bt2020 = refl
matrix_again Smpte240 = refl
matrix_again Bt470_6 = refl
matrix_again Fcc = refl
matrix_again (Custom kr kb) = refl

frame_again : (kind rows stride : ℕ) (source : BufferPart) (f : OpenFrame)
    → frame_of (state_numbers kind rows stride f.state) (matrix_customs f.state.frame.settings.matrix) (part_numbers source f.parts) ≡ f
unfolding frame_of settings_of window_of
frame_again kind rows stride source f = λ i.
    let d = f.state.frame in
    let x = d.settings in
    let y : YuvSettings = record {
      channels = channels_there x.channels i;
      sampling = sampling_there x.sampling i;
      range = range_there x.range i;
      matrix = matrix_again x.matrix i;
      transfer = transfer_there x.transfer i;
      rounding = rounding_there x.rounding i;
    } in
    let e : FrameDescription = record {
      width = d.width;
      height = d.height;
      window = d.window;
      settings = y;
      y_stride = d.y_stride;
      u_stride = d.u_stride;
      v_stride = d.v_stride;
    } in
    let r : OpenFrame = record { state = state_of e f.state.done; parts = f.parts } in r

pub slot_again : (s : Slot) → slot_of (slot_numbers s) (slot_customs s) (slot_parts s) ≡ s
slot_again Free = refl
slot_again (Idle f) = ap Idle (frame_again 1 0 0 (record { offset = 0; length = 0 }) f)
slot_again (Waiting f b) = ap (λ (g : OpenFrame). Waiting g b) (frame_again 2 b.rows b.stride b.source f)

-- as many numbers as a place has
pub numbers_size : (s : Slot) → length (slot_numbers s) ≡ 19
numbers_size Free = refl
numbers_size (Idle f) = refl
numbers_size (Waiting f b) = refl

matrix_size : (m : YuvStandardMatrix) → length (matrix_customs m) ≡ 2
matrix_size Bt601 = refl
matrix_size Bt709 = refl
matrix_size Bt2020 = refl
matrix_size Smpte240 = refl
matrix_size Bt470_6 = refl
matrix_size Fcc = refl
matrix_size (Custom kr kb) = refl

pub customs_size : (s : Slot) → length (slot_customs s) ≡ 2
customs_size Free = refl
customs_size (Idle f) = matrix_size f.state.frame.settings.matrix
customs_size (Waiting f b) = matrix_size f.state.frame.settings.matrix

pub parts_size : (s : Slot) → length (slot_parts s) ≡ 10
parts_size Free = refl
parts_size (Idle f) = refl
parts_size (Waiting f b) = refl
