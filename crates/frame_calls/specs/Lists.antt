-- Lists of exported calls, as the lists of band calls that demand 3 speaks of: what a caller's numbers mean, and which answer they tell.
-- docs/RULES.md, 10.3.
-- Assumes nothing.
use Rattle.std.specs.Prelude.{ℕ, ◌≤◌, cond, List, [], ◌∷◌, Result}
use Rattle.yuv_error.specs.declared.YuvError.{YuvError}
use Rattle.yuv_error.specs.Numbers.{Numbers, numbers, answer_of}
use Rattle.band_calls.specs.declared.FrameState.{FrameState}
use Rattle.sharp_rgba_to_yuv.specs.FrameCall.{FrameCall}
use Rattle.band_calls.specs.BandCall.{state_of, BandCall}
use Rattle.call_numbers.specs.Codes.{at, is_malformed}
use Rattle.frame_calls.specs.Calls.{ExportedFrame, frame_with, ExportedOpening, frame_of_opening, ExportedBand, band_with, Kept, BandKept}

-- RULES 10.3: number, expected and received, as a call told them
abbrev pub numbers_told : (number : ℕ) → (told : List ℕ) → Numbers
numbers_told number told = numbers number (at told 0) (at told 1)

-- RULES 10.3
abbrev pub answer_told : (number : ℕ) → (told : List ℕ) → Result Unit YuvError
answer_told number told = answer_of (numbers_told number told)

-- RULES 10.3: the rows done, as an opening or a band call told them
abbrev pub done_told : (told : List ℕ) → ℕ
done_told told = at told 2

-- RULES 10.3: the state that an opening gives its caller, the frame that it described and the rows done as they were told
abbrev pub opened_state : ExportedOpening → FrameState
opened_state k = state_of (frame_of_opening k) (done_told k.told)

-- RULES 10.3: a frame call, and a band call, that came as numbers
abbrev pub as_frame : ExportedFrame → FrameCall
as_frame k = frame_with k (answer_told k.number k.told)

-- RULES 10.3
abbrev pub as_band : ExportedBand → BandCall
as_band k = band_with k (answer_told k.number k.told) (done_told k.told)

-- RULES 10.3: the calls of a list whose numbers have a meaning; the others are refused with 1, and are no band calls
abbrev pub as_bands : List ExportedBand → List BandCall
as_bands [] = []
as_bands (k ∷ ks) = cond (is_malformed 3 k.numbers) (as_bands ks) (as_band k ∷ as_bands ks)

-- RULES 10.3
abbrev pub AllKept : List ExportedBand → Type 0
AllKept [] = Unit {0}
AllKept (k ∷ ks) = BandKept k × AllKept ks

-- RULES 10.3: every refused call, with 1 too, wrote no byte and told the rows done as it got them
abbrev pub RefusedKept : List ExportedBand → Type 0
RefusedKept [] = Unit {0}
RefusedKept (k ∷ ks) = (1 ≤ k.number → Kept k (done_told k.told)) × RefusedKept ks
