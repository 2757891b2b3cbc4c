-- The numbers that C keeps for a desk: nineteen for each camera, its kr and kb, offsets and lengths; and the camera that is asked first. docs/RULES.md, 10.10.
-- Every number is read as something, also those that no call wrote: a place of another kind is free, and a code without a meaning is the first.
-- Assumes nothing.
use Rattle.std.specs.Prelude.{ℕ, ◌+◌, ◌*◌, cond, List, [], ◌∷◌, ◌++◌, eqb, Float, take, drop, map, set, replicate}
use Rattle.std.specs.List.{range_with_len}
use Rattle.std.specs.Float.{binary32}
use Rattle.std.specs.Float.Ieee.{of_bits}
use Rattle.yuv_support.specs.declared.YuvStandardMatrix.{YuvStandardMatrix}
use Rattle.yuv_support.specs.declared.YuvStandardMatrix.TheVariants.{Bt601, Bt709, Bt2020, Smpte240, Bt470_6, Fcc, Custom}
use Rattle.setting_codes.specs.Codes.{channels_code, sampling_code, range_code, matrix_code, transfer_code, rounding_code}
use Rattle.call_numbers.specs.Codes.{at, description_of}
use Rattle.band_calls.specs.declared.FrameState.{FrameState}
use Rattle.band_calls.specs.BandCall.{state_of}
use Rattle.buffer_parts.specs.declared.BufferPart.{BufferPart}
use Rattle.desk_places.specs.declared.FrameParts.{FrameParts}
use Rattle.desk_places.specs.declared.OpenFrame.{OpenFrame}
use Rattle.desk_places.specs.declared.WaitingBand.{WaitingBand}
use Rattle.desk_places.specs.declared.Slot.{Slot}
use Rattle.desk_places.specs.declared.Slot.TheVariants.{Free, Idle, Waiting}
use Rattle.desk.specs.declared.Desk.{Desk}
use Rattle.convoy_calls.specs.Numbers.{part_at}

-- RULES 10.10: the three arrays
pub record DeskNumbers : Type 0 where
  pub numbers : List ℕ
  pub customs : List Float
  pub parts : List ℕ

abbrev pub desk_numbers : (numbers : List ℕ) (customs : List Float) (parts : List ℕ) → DeskNumbers
desk_numbers numbers customs parts = record { numbers = numbers; customs = customs; parts = parts }

-- RULES 10.10: those of camera k, where each has so many
abbrev pub of_camera : {A : Type 0} → (many : ℕ) → List A → (k : ℕ) → List A
of_camera many xs k = take many (drop (many * k) xs)

-- RULES 10.10: the same with others in their place
abbrev pub with_camera : {A : Type 0} → (many : ℕ) → List A → (k : ℕ) → List A → List A
with_camera many xs k ys = take (many * k) xs ++ (ys ++ drop (many * k + many) xs)

-- RULES 10.10: offset and length of Y, of U, of V and of the carried row, from number `from` on
abbrev pub parts_at : (parts : List ℕ) (from : ℕ) → FrameParts
parts_at parts from = record { y = part_at parts from; u = part_at parts (from + 2); v = part_at parts (from + 4); carried = part_at parts (from + 6) }

-- ---- what a place's numbers mean

-- RULES 10.10: the rows done, and a description with rounding and window; the parts of Y, U, V and the carried row
unfoldable pub frame_of : (numbers : List ℕ) (custom : List Float) (parts : List ℕ) → OpenFrame
frame_of numbers custom parts = record {
  state = state_of (description_of (drop 4 numbers) custom) (at numbers 1);
  parts = record { y = part_at parts 2; u = part_at parts 4; v = part_at parts 6; carried = part_at parts 8 };
}

-- RULES 10.10: its rows and stride, and its part of the source
abbrev pub band_of : (numbers : List ℕ) (parts : List ℕ) → WaitingBand
band_of numbers parts = record { rows = at numbers 2; stride = at numbers 3; source = part_at parts 0 }

-- RULES 10.10: 1 is a frame, 2 a frame with a band that waits, and any other number no frame
abbrev pub slot_of : (numbers : List ℕ) (custom : List Float) (parts : List ℕ) → Slot
slot_of numbers custom parts =
    cond (eqb (at numbers 0) 1) (Idle (frame_of numbers custom parts))
    (cond (eqb (at numbers 0) 2) (Waiting (frame_of numbers custom parts) (band_of numbers parts)) Free)

-- RULES 10.10
unfoldable pub place_of : DeskNumbers → (k : ℕ) → Slot
place_of n k = slot_of (of_camera 19 n.numbers k) (of_camera 2 n.customs k) (of_camera 10 n.parts k)

-- RULES 10.10: the desk that the numbers are
unfoldable pub desk_of : DeskNumbers → Desk
desk_of n = record { places = map (place_of n) (range_with_len 0 32); from = at n.numbers 608 }

-- RULES 10.10: all zeros
unfoldable pub fresh_numbers : DeskNumbers
fresh_numbers = desk_numbers (replicate 609 0) (replicate 64 (of_bits binary32 0x0000_0000)) (replicate 320 0)

-- ---- and the other way round

-- RULES 10.10: what stands there, the rows done, the band's rows and stride, then the description
abbrev pub state_numbers : (kind rows stride : ℕ) → FrameState → List ℕ
state_numbers kind rows stride s =
    let d = s.frame in
    let x = d.settings in
    let w = d.window in
    kind ∷ s.done ∷ rows ∷ stride ∷ d.width ∷ d.height
    ∷ channels_code x.channels ∷ sampling_code x.sampling ∷ range_code x.range ∷ matrix_code x.matrix ∷ transfer_code x.transfer
    ∷ d.y_stride ∷ d.u_stride ∷ d.v_stride
    ∷ rounding_code x.rounding
    ∷ w.left ∷ w.top ∷ w.source_width ∷ w.source_height ∷ []

-- RULES 10.10
abbrev pub slot_numbers : Slot → List ℕ
slot_numbers Free = replicate 19 0
slot_numbers (Idle f) = state_numbers 1 0 0 f.state
slot_numbers (Waiting f b) = state_numbers 2 b.rows b.stride f.state

-- RULES 10.10: 0 and 0 but for a Custom matrix
abbrev pub no_customs : List Float
no_customs = of_bits binary32 0x0000_0000 ∷ of_bits binary32 0x0000_0000 ∷ []

-- RULES 10.10
abbrev pub matrix_customs : YuvStandardMatrix → List Float
matrix_customs Bt601 = no_customs
matrix_customs Bt709 = no_customs
matrix_customs Bt2020 = no_customs
matrix_customs Smpte240 = no_customs
matrix_customs Bt470_6 = no_customs
matrix_customs Fcc = no_customs
matrix_customs (Custom kr kb) = kr ∷ kb ∷ []

-- RULES 10.10
abbrev pub slot_customs : Slot → List Float
slot_customs Free = no_customs
slot_customs (Idle f) = matrix_customs f.state.frame.settings.matrix
slot_customs (Waiting f b) = matrix_customs f.state.frame.settings.matrix

-- RULES 10.10: the band's part, then the frame's
abbrev pub part_numbers : (source : BufferPart) → FrameParts → List ℕ
part_numbers s w =
    s.offset ∷ s.length ∷ w.y.offset ∷ w.y.length ∷ w.u.offset ∷ w.u.length ∷ w.v.offset ∷ w.v.length
    ∷ w.carried.offset ∷ w.carried.length ∷ []

-- RULES 10.10
abbrev pub slot_parts : Slot → List ℕ
slot_parts Free = replicate 10 0
slot_parts (Idle f) = part_numbers (record { offset = 0; length = 0 }) f.parts
slot_parts (Waiting f b) = part_numbers b.source f.parts

-- RULES 10.10: the same numbers with another slot for camera c
unfoldable pub put_place : DeskNumbers → (c : ℕ) → Slot → DeskNumbers
put_place n c s = desk_numbers (with_camera 19 n.numbers c (slot_numbers s)) (with_camera 2 n.customs c (slot_customs s))
    (with_camera 10 n.parts c (slot_parts s))

-- RULES 10.10: and with another camera to be asked first
abbrev pub ask_first : DeskNumbers → ℕ → DeskNumbers
ask_first n from = desk_numbers (set n.numbers 608 from) n.customs n.parts
