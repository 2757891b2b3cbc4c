-- What the functions that C links answer and leave: the promise of the call under each, at the frame that the numbers describe; and refusal 1, with
-- nothing written, for numbers without a meaning. docs/RULES.md, 10.2 and 10.3.
-- Assumes nothing.
use Rattle.std.specs.Prelude.{ℕ, ◌≡◌, List, [], ◌∷◌, ◌++◌, Float, length, drop, Result, Err}
use Rattle.yuv_error.specs.declared.YuvError.TheVariants.{MalformedRequest}
use Rattle.yuv_error.specs.declared.YuvError.{YuvError}
use Rattle.yuv_error.specs.Numbers.{numbers_of}
use Rattle.definitions.specs.declared.FrameDescription.{FrameDescription}
use Rattle.yuv_error.specs.Rules.{Rule}
use Rattle.yuv_error.specs.Lent.{lengths_of, opening_rules}
use Rattle.sharp_rgba_to_yuv.specs.FrameCall.{FrameCall, frame_call, frame_rules, FramePost, Unwritten}
use Rattle.band_calls.specs.declared.FrameState.{FrameState}
use Rattle.band_calls.specs.declared.FrameAnswer.{FrameAnswer}
use Rattle.band_calls.specs.BandCall.{state_of, band_rules, OpenPost, BandCall, band_call, BandPost}
use Rattle.band_lists.specs.BandLists.{Either}
use Rattle.call_numbers.specs.Codes.{at, description_of, is_malformed, number_rules}

-- ---- `segvartin_call_frame`

-- RULES 10.3: what a call was given, the number that it returned, and what it was lent as it left it
pub record ExportedFrame : Type 0 where
  pub numbers : List ℕ
  pub custom : List Float
  pub source : List ℕ
  pub y : List ℕ
  pub u : List ℕ
  pub v : List ℕ
  pub number : ℕ
  pub told : List ℕ
  pub y' : List ℕ
  pub u' : List ℕ
  pub v' : List ℕ

-- RULES 10.3
abbrev pub exported_frame : (numbers : List ℕ) (custom : List Float) (source y u v : List ℕ) (number : ℕ) (told y' u' v' : List ℕ) → ExportedFrame
exported_frame numbers custom source y u v number told y' u' v' =
    record { numbers = numbers; custom = custom; source = source; y = y; u = u; v = v; number = number; told = told; y' = y'; u' = u'; v' = v' }

-- RULES 10.3: the source's stride, then the description
abbrev pub stride_of_frame : ExportedFrame → ℕ
stride_of_frame k = at k.numbers 0

-- RULES 10.3
abbrev pub frame_of_frame : ExportedFrame → FrameDescription
frame_of_frame k = description_of (drop 1 k.numbers) k.custom

-- RULES 10.3: the frame call that the numbers describe, with an answer
abbrev pub frame_with : ExportedFrame → Result Unit YuvError → FrameCall
frame_with k answer = frame_call (frame_of_frame k) (stride_of_frame k) k.source k.y k.u k.v answer k.y' k.u' k.v'

-- RULES 10.2: the frame call's own conditions
abbrev pub frame_rules_of : ExportedFrame → List Rule
frame_rules_of k = frame_rules (frame_of_frame k) (stride_of_frame k) (lengths_of k.source k.y k.u k.v)

-- RULES 10.2: refusal 1, then those
abbrev pub rules_of_frame : ExportedFrame → List Rule
rules_of_frame k = number_rules 1 k.numbers ++ frame_rules_of k

-- RULES 10.3: a frame call's promise, with refusal 1 before it
abbrev pub FrameAnswered : ExportedFrame → Result Unit YuvError → Type 0
FrameAnswered k answer =
    Either (is_malformed 1 k.numbers) ((answer ≡ Err MalformedRequest) × Unwritten (frame_with k answer)) (FramePost (frame_with k answer))

-- RULES 10.3: everything of a call; the number that it returns, and what it tells, are those of an answer that the frame call gives
pub record FrameKept (k : ExportedFrame) : Type 0 where
  pub answer : Result Unit YuvError
  pub number : k.number ≡ (numbers_of answer).number
  pub told : k.told ≡ (numbers_of answer).expected ∷ (numbers_of answer).received ∷ []
  pub answered : FrameAnswered k answer

-- ---- `segvartin_call_open`

-- RULES 10.3
pub record ExportedOpening : Type 0 where
  pub numbers : List ℕ
  pub custom : List Float
  pub number : ℕ
  pub told : List ℕ

-- RULES 10.3
abbrev pub exported_opening : (numbers : List ℕ) (custom : List Float) (number : ℕ) (told : List ℕ) → ExportedOpening
exported_opening numbers custom number told = record { numbers = numbers; custom = custom; number = number; told = told }

-- RULES 10.3
abbrev pub frame_of_opening : ExportedOpening → FrameDescription
frame_of_opening k = description_of (drop 0 k.numbers) k.custom

-- RULES 10.2
abbrev pub rules_of_opening : ExportedOpening → List Rule
rules_of_opening k = number_rules 0 k.numbers ++ opening_rules (frame_of_opening k)

-- RULES 10.3: what a call hands back, in numbers; the frame is the caller's
abbrev pub handed : FrameDescription → Result Unit YuvError → (done : ℕ) → FrameAnswer
handed d answer done = record { state = state_of d done; answer = answer }

-- RULES 10.3: an opening's promise, with refusal 1 before it. A refused opening hands back no row done, with 1 too.
abbrev pub OpenAnswered : ExportedOpening → Result Unit YuvError → (done : ℕ) → Type 0
OpenAnswered k answer done =
    Either (is_malformed 0 k.numbers) ((answer ≡ Err MalformedRequest) × (done ≡ 0))
    (OpenPost (frame_of_opening k) (handed (frame_of_opening k) answer done))

-- RULES 10.3
pub record OpenKept (k : ExportedOpening) : Type 0 where
  pub answer : Result Unit YuvError
  pub done : ℕ
  pub number : k.number ≡ (numbers_of answer).number
  pub told : k.told ≡ (numbers_of answer).expected ∷ (numbers_of answer).received ∷ done ∷ []
  pub answered : OpenAnswered k answer done

-- ---- `segvartin_call_band`

-- RULES 10.3
pub record ExportedBand : Type 0 where
  pub numbers : List ℕ
  pub custom : List Float
  pub source : List ℕ
  pub y : List ℕ
  pub u : List ℕ
  pub v : List ℕ
  pub carried : List ℕ
  pub number : ℕ
  pub told : List ℕ
  pub y' : List ℕ
  pub u' : List ℕ
  pub v' : List ℕ
  pub carried' : List ℕ

-- RULES 10.3
abbrev pub exported_band : (numbers : List ℕ) (custom : List Float) (source y u v carried : List ℕ) (number : ℕ) (told y' u' v' carried' : List ℕ)
    → ExportedBand
exported_band numbers custom source y u v carried number told y' u' v' carried' = record {
  numbers = numbers;
  custom = custom;
  source = source;
  y = y;
  u = u;
  v = v;
  carried = carried;
  number = number;
  told = told;
  y' = y';
  u' = u';
  v' = v';
  carried' = carried';
}

-- RULES 10.3: the rows done, the rows of the band, the source's stride, then the description
abbrev pub done_of : ExportedBand → ℕ
done_of k = at k.numbers 0

-- RULES 10.3
abbrev pub rows_of : ExportedBand → ℕ
rows_of k = at k.numbers 1

-- RULES 10.3
abbrev pub stride_of : ExportedBand → ℕ
stride_of k = at k.numbers 2

-- RULES 10.3
abbrev pub frame_of : ExportedBand → FrameDescription
frame_of k = description_of (drop 3 k.numbers) k.custom

-- RULES 10.3: the state that the numbers describe
abbrev pub state_given : ExportedBand → FrameState
state_given k = state_of (frame_of k) (done_of k)

-- RULES 10.3: the band call that they describe, with what it hands back
abbrev pub band_with : ExportedBand → Result Unit YuvError → (done : ℕ) → BandCall
band_with k answer done =
    band_call (state_given k) (rows_of k) (stride_of k) k.source k.y k.u k.v k.carried
    (handed (frame_of k) answer done) k.y' k.u' k.v' k.carried'

-- RULES 10.2: the band call's own conditions
abbrev pub band_rules_of : ExportedBand → List Rule
band_rules_of k = band_rules (state_given k) (rows_of k) (stride_of k) (lengths_of k.source k.y k.u k.v) (length k.carried)

-- RULES 10.2: refusal 1, then those
abbrev pub rules_of_band : ExportedBand → List Rule
rules_of_band k = number_rules 3 k.numbers ++ band_rules_of k

-- RULES 10.3: no byte written, and the rows done told as they were given
abbrev pub Kept : ExportedBand → (done : ℕ) → Type 0
Kept k done = (done ≡ done_of k) × (k.y' ≡ k.y) × (k.u' ≡ k.u) × (k.v' ≡ k.v) × (k.carried' ≡ k.carried)

-- RULES 10.3: a band call's promise, with refusal 1 before it
abbrev pub BandAnswered : ExportedBand → Result Unit YuvError → (done : ℕ) → Type 0
BandAnswered k answer done =
    Either (is_malformed 3 k.numbers) ((answer ≡ Err MalformedRequest) × Kept k done) (BandPost (band_with k answer done))

-- RULES 10.3
pub record BandKept (k : ExportedBand) : Type 0 where
  pub answer : Result Unit YuvError
  pub done : ℕ
  pub number : k.number ≡ (numbers_of answer).number
  pub told : k.told ≡ (numbers_of answer).expected ∷ (numbers_of answer).received ∷ done ∷ []
  pub answered : BandAnswered k answer done
