-- What the desk's calls that came as numbers answer and leave: docs/RULES.md, 10.10.
-- Assumes nothing.
use Rattle.std.specs.Prelude.{ℕ, ◌<◌, ◌≡◌, List, [], ◌∷◌, ◌++◌, Float, Result, Ok, Err, Option, None, Some}
use Rattle.yuv_error.specs.declared.YuvError.{YuvError}
use Rattle.yuv_error.specs.Numbers.{Numbers, numbers, numbers_of}
use Rattle.yuv_error.specs.Rules.{Rule, first_numbers}
use Rattle.yuv_error.specs.Lent.{opening_rules}
use Rattle.call_numbers.specs.Codes.{at, description_of, number_rules as code_rules}
use Rattle.desk_places.specs.declared.FrameParts.{FrameParts}
use Rattle.desk_places.specs.declared.BufferLengths.{BufferLengths}
use Rattle.desk_places.specs.declared.WaitingBand.{WaitingBand}
use Rattle.desk_places.specs.declared.Slot.TheVariants.{Idle}
use Rattle.desk_bands.specs.Buffers.{Buffers}
use Rattle.desk.specs.declared.Desk.{Desk}
use Rattle.desk.specs.declared.Served.{Served}
use Rattle.desk.specs.DeskCall.{slot_at, put_slot, left_by, number_rules, part_rules, opened_frame, OfferCall, offer_call, OfferPost, StepCall, step_call, StepPost, DeskAnswer, StepAnswer}
use Rattle.convoy_calls.specs.Numbers.{part_at}
use Rattle.desk_numbers.specs.Numbers.{DeskNumbers, desk_of, put_place, ask_first}

-- ---- what a call is given

-- RULES 10.10: the parts of Y, U, V and the carried row of an opening
abbrev pub parts_of : (parts : List ℕ) → FrameParts
parts_of parts = record { y = part_at parts 0; u = part_at parts 2; v = part_at parts 4; carried = part_at parts 6 }

-- RULES 10.10: and how long the buffers are
abbrev pub lengths_of : (lengths : List ℕ) → BufferLengths
lengths_of n = record { y = at n 0; u = at n 1; v = at n 2; carried = at n 3 }

-- RULES 10.10: the band of an offer: rows and stride, offset and length
abbrev pub band_given : (band place : List ℕ) → WaitingBand
band_given band place = record { rows = at band 0; stride = at band 1; source = part_at place 0 }

-- RULES 10.10: the numbers that an accepted opening or offer leaves; a refused one changes none
abbrev pub numbers_left : Result Unit YuvError → (accepted as_it_was : DeskNumbers) → DeskNumbers
numbers_left (Ok done) a b = a
numbers_left (Err e) a b = b

-- RULES 10.10: the place of the camera as it stands at the desk that was handed back
abbrev pub place_left : DeskNumbers → (camera : ℕ) → DeskAnswer → DeskNumbers
place_left n c r = numbers_left r.answer (put_place n c (slot_at r.desk c)) n

-- ---- `segvartin_call_desk_open`

-- RULES 10.10: what a call was given, the number that it returned, and what it left
pub record ExportedDeskOpen : Type 0 where
  pub camera : ℕ
  pub described : List ℕ
  pub custom : List Float
  pub parts : List ℕ
  pub lengths : List ℕ
  pub before : DeskNumbers
  pub number : ℕ
  pub told : List ℕ
  pub after : DeskNumbers

-- RULES 10.10
abbrev pub exported_desk_open : (camera : ℕ) (described : List ℕ) (custom : List Float) (parts lengths : List ℕ) (before : DeskNumbers) (number : ℕ)
    (told : List ℕ) (after : DeskNumbers) → ExportedDeskOpen
exported_desk_open camera described custom parts lengths before number told after = record {
  camera = camera;
  described = described;
  custom = custom;
  parts = parts;
  lengths = lengths;
  before = before;
  number = number;
  told = told;
  after = after;
}

-- RULES 10.10: 21, 23, 18, then 1 for numbers without a meaning, then the opening's own: 2, 3, 4, 14
abbrev pub described_rules : Desk → (camera : ℕ) (described : List ℕ) (custom : List Float) → FrameParts → BufferLengths → List Rule
described_rules d c described custom w n =
    number_rules d.places c ++ part_rules d.places w n ++ code_rules 0 described ++ opening_rules (description_of described custom)

-- RULES 10.10: an opening of the frame that the numbers describe
pub record DescribedOpen (d : Desk) (c : ℕ) (described : List ℕ) (custom : List Float) (w : FrameParts) (n : BufferLengths) (r : DeskAnswer) : Type 0 where
  pub answered : numbers_of r.answer ≡ first_numbers (described_rules d c described custom w n)
  pub desk : r.desk ≡ left_by r.answer (put_slot d c (Idle (opened_frame (description_of described custom) w))) d

-- RULES 10.10
abbrev pub rules_of_desk_open : ExportedDeskOpen → List Rule
rules_of_desk_open k = described_rules (desk_of k.before) k.camera k.described k.custom (parts_of k.parts) (lengths_of k.lengths)

-- RULES 10.10: everything of a call
pub record DeskOpenKept (k : ExportedDeskOpen) : Type 0 where
  pub result : DeskAnswer
  pub number : k.number ≡ (numbers_of result.answer).number
  pub told : k.told ≡ (numbers_of result.answer).expected ∷ (numbers_of result.answer).received ∷ []
  pub opened : DescribedOpen (desk_of k.before) k.camera k.described k.custom (parts_of k.parts) (lengths_of k.lengths) result
  pub after : k.after ≡ place_left k.before k.camera result

-- ---- `segvartin_call_desk_offer`

-- RULES 10.10
pub record ExportedDeskOffer : Type 0 where
  pub camera : ℕ
  pub band : List ℕ
  pub place : List ℕ
  pub before : DeskNumbers
  pub number : ℕ
  pub after : DeskNumbers

-- RULES 10.10
abbrev pub exported_desk_offer : (camera : ℕ) (band place : List ℕ) (before : DeskNumbers) (number : ℕ) (after : DeskNumbers) → ExportedDeskOffer
exported_desk_offer camera band place before number after =
    record { camera = camera; band = band; place = place; before = before; number = number; after = after }

-- RULES 10.10: the offer that the numbers are, with a result; the source buffer's length stands behind the band's place in it
abbrev pub offer_with : ExportedDeskOffer → DeskAnswer → OfferCall
offer_with k r = offer_call (desk_of k.before) k.camera (band_given k.band k.place) (at k.place 2) r

-- RULES 10.10
pub record DeskOfferKept (k : ExportedDeskOffer) : Type 0 where
  pub result : DeskAnswer
  pub number : k.number ≡ (numbers_of result.answer).number
  pub offered : OfferPost (offer_with k result)
  pub after : k.after ≡ place_left k.before k.camera result

-- ---- `segvartin_call_desk_step`

-- RULES 10.10
pub record ExportedDeskStep : Type 0 where
  pub before : DeskNumbers
  pub lent : Buffers
  pub number : ℕ
  pub told : List ℕ
  pub after : DeskNumbers
  pub left : Buffers

-- RULES 10.10
abbrev pub exported_desk_step : (before : DeskNumbers) (lent : Buffers) (number : ℕ) (told : List ℕ) (after : DeskNumbers) (left : Buffers) → ExportedDeskStep
exported_desk_step before lent number told after left =
    record { before = before; lent = lent; number = number; told = told; after = after; left = left }

-- RULES 10.10: the answer of the camera that was served, finished work where there was none
abbrev pub served_numbers : Option Served → Numbers
served_numbers None = numbers 0 0 0
served_numbers (Some s) = numbers_of s.answer

-- RULES 10.10: whether there was one, and its number
abbrev pub served_told : Option Served → List ℕ
served_told None = 0 ∷ 0 ∷ []
served_told (Some s) = 1 ∷ s.camera ∷ []

-- RULES 10.10: the place of the camera that was served, and who is asked first
abbrev pub step_left : DeskNumbers → Option Served → Desk → DeskNumbers
step_left n None d = n
step_left n (Some s) d = ask_first (put_place n s.camera (slot_at d s.camera)) d.from

-- RULES 16.1, 16.4: the camera that was served is one of the 32, and so is the one that is asked next
abbrev pub ServedBelow : Option Served → Desk → Type 0
ServedBelow None d = Unit {0}
ServedBelow (Some s) d = (s.camera < 32) × (d.from < 32)

-- RULES 10.10
abbrev pub step_with : ExportedDeskStep → StepAnswer → StepCall
step_with k r = step_call (desk_of k.before) k.lent r k.left

-- RULES 10.10
pub record DeskStepKept (k : ExportedDeskStep) : Type 0 where
  pub result : StepAnswer
  pub number : k.number ≡ (served_numbers result.served).number
  pub told : k.told ≡ (served_numbers result.served).expected ∷ (served_numbers result.served).received ∷ served_told result.served
  pub stepped : StepPost (step_with k result)
  pub after : k.after ≡ step_left k.before result.served result.desk
