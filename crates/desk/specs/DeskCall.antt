-- An opening, an offer and a step: what they are given, answer and leave. docs/RULES.md, 16.1 to 16.4.
-- Assumes nothing.
use Rattle.std.specs.Prelude.{ℕ, ◌+◌, ◌%◌, ◌≡◌, not, List, [], ◌∷◌, ◌++◌, ltb, Result, Ok, Err, Option, None, Some}
use Rattle.yuv_error.specs.declared.YuvError.{YuvError}
use Rattle.yuv_error.specs.Numbers.{numbers_of}
use Rattle.yuv_error.specs.Rules.{Rule, rule, first_numbers}
use Rattle.yuv_error.specs.Lent.{opening_rules}
use Rattle.definitions.specs.declared.FrameDescription.{FrameDescription}
use Rattle.band_calls.specs.declared.FrameState.{FrameState}
use Rattle.band_calls.specs.declared.FrameAnswer.{FrameAnswer}
use Rattle.band_calls.specs.BandCall.{state_of}
use Rattle.buffer_parts.specs.Parts.{is_inside}
use Rattle.desk_places.specs.declared.FrameParts.{FrameParts}
use Rattle.desk_places.specs.declared.BufferLengths.{BufferLengths}
use Rattle.desk_places.specs.declared.OpenFrame.{OpenFrame}
use Rattle.desk_places.specs.declared.WaitingBand.{WaitingBand}
use Rattle.desk_places.specs.declared.Slot.{Slot}
use Rattle.desk_places.specs.declared.Slot.TheVariants.{Idle}
use Rattle.desk_places.specs.declared.Turn.{Turn}
use Rattle.desk_places.specs.Places.{slot_in, with_slot, no_frames, is_open, is_waiting, are_inside, overlaps_open, offered, next_waiting, after_band}
use Rattle.desk.specs.declared.Desk.{Desk}
use Rattle.desk.specs.declared.Served.{Served}
use Rattle.desk_bands.specs.Buffers.{Buffers, ServePost}

-- RULES 16.2, 16.3: what an opening or an offer hands back: the desk as it left it, and its answer
pub record DeskAnswer : Type 0 where
  pub desk : Desk
  pub answer : Result Unit YuvError

abbrev pub desk_answer : Desk → Result Unit YuvError → DeskAnswer
desk_answer d a = record { desk = d; answer = a }

-- RULES 16.4: what a step hands back: the desk as it left it, and whose band it served, if one waited, with what became of it
pub record StepAnswer : Type 0 where
  pub desk : Desk
  pub served : Option Served

abbrev pub step_result : Desk → Option Served → StepAnswer
step_result d s = record { desk = d; served = s }

abbrev pub served_by : (c : ℕ) → Result Unit YuvError → Option Served
served_by c a = Some (record { camera = c; answer = a })

-- RULES 16.1: no frame is open, and camera 0 is asked first
abbrev pub fresh : Desk
fresh = record { places = no_frames; from = 0 }

-- RULES 16.1: what stands at camera c's number
abbrev pub slot_at : Desk → ℕ → Slot
slot_at d c = slot_in d.places c

-- RULES 16.1
abbrev pub put_slot : Desk → ℕ → Slot → Desk
put_slot d c s = record { places = with_slot d.places c s; from = d.from }

-- RULES 16.2, 16.3: the desk that an accepted call leaves; a refused one hands it back as it is
abbrev pub left_by : Result Unit YuvError → (accepted as_it_was : Desk) → Desk
left_by (Ok done) e d = e
left_by (Err x) e d = d

-- ---- an opening

-- RULES 16.2: 21, the number is above 31; 23, it has a frame
abbrev pub number_rules : List Slot → (camera : ℕ) → List Rule
number_rules ps c = rule 21 (ltb 31 c) 0 0 ∷ rule 23 (is_open (slot_in ps c)) 0 0 ∷ []

-- RULES 16.2: 18, a part reaches outside its buffer, or overlaps an open frame's part of that buffer
abbrev pub part_rules : List Slot → FrameParts → BufferLengths → List Rule
part_rules ps w n = rule 18 (not (are_inside w n)) 0 0 ∷ rule 18 (overlaps_open ps w 32) 0 0 ∷ []

-- RULES 16.2: what an opening was given, and what it handed back
pub record OpenCall : Type 0 where
  pub desk : Desk
  pub camera : ℕ
  pub frame : FrameDescription
  pub parts : FrameParts
  pub lens : BufferLengths
  pub result : DeskAnswer

abbrev pub open_call : Desk → (camera : ℕ) → FrameDescription → FrameParts → BufferLengths → DeskAnswer → OpenCall
open_call d c frame parts lens r = record { desk = d; camera = c; frame = frame; parts = parts; lens = lens; result = r }

-- RULES 16.2: 21, 23, 18, then the opening's own: 2, 3, 4, 14
abbrev pub open_rules : OpenCall → List Rule
open_rules k = number_rules k.desk.places k.camera ++ part_rules k.desk.places k.parts k.lens ++ opening_rules k.frame

-- RULES 16.2: with no row done
abbrev pub opened_frame : FrameDescription → FrameParts → OpenFrame
opened_frame frame parts = record { state = state_of frame 0; parts = parts }

-- RULES 16.2
pub record OpenPost (k : OpenCall) : Type 0 where
  pub answered : numbers_of k.result.answer ≡ first_numbers (open_rules k)
  pub desk : k.result.desk ≡ left_by k.result.answer (put_slot k.desk k.camera (Idle (opened_frame k.frame k.parts))) k.desk

-- ---- an offer

-- RULES 16.3: 21, the number is above 31 or has no frame; 22, a band of it waits
abbrev pub waiting_rules : List Slot → (camera : ℕ) → List Rule
waiting_rules ps c =
    let s = slot_in ps c in
    rule 21 (ltb 31 c) 0 0 ∷ rule 21 (not (is_open s)) 0 0 ∷ rule 22 (is_waiting s) 0 0 ∷ []

-- RULES 16.3: 18, the band reaches outside a source buffer of n bytes
abbrev pub source_rules : WaitingBand → (n : ℕ) → List Rule
source_rules b n = rule 18 (not (is_inside b.source n)) 0 0 ∷ []

-- RULES 16.3: what an offer was given, and what it handed back
pub record OfferCall : Type 0 where
  pub desk : Desk
  pub camera : ℕ
  pub band : WaitingBand
  pub len : ℕ
  pub result : DeskAnswer

abbrev pub offer_call : Desk → (camera : ℕ) → WaitingBand → (len : ℕ) → DeskAnswer → OfferCall
offer_call d c b n r = record { desk = d; camera = c; band = b; len = n; result = r }

-- RULES 16.3: 21, 22, then 18
abbrev pub offer_rules : OfferCall → List Rule
offer_rules k = waiting_rules k.desk.places k.camera ++ source_rules k.band k.len

-- RULES 16.3
pub record OfferPost (k : OfferCall) : Type 0 where
  pub answered : numbers_of k.result.answer ≡ first_numbers (offer_rules k)
  pub desk : k.result.desk ≡ left_by k.result.answer (put_slot k.desk k.camera (offered (slot_at k.desk k.camera) k.band)) k.desk

-- ---- a step

-- RULES 16.4: what a step was given and lent, what it handed back, and the buffers as it left them
pub record StepCall : Type 0 where
  pub desk : Desk
  pub lent : Buffers
  pub result : StepAnswer
  pub left : Buffers

abbrev pub step_call : Desk → (lent : Buffers) → StepAnswer → (left : Buffers) → StepCall
step_call d p r q = record { desk = d; lent = p; result = r; left = q }

-- RULES 16.4: camera c was served and its frame came to state s; the camera after it is asked next
abbrev pub served_desk : Desk → ℕ → OpenFrame → FrameState → Desk
served_desk d c f s = record { places = with_slot d.places c (after_band f s); from = (c + 1) % 32 }

-- RULES 16.4: with nobody waiting a step does nothing
pub record NothingDone (k : StepCall) : Type 0 where
  pub served : k.result.served ≡ None
  pub desk : k.result.desk ≡ k.desk
  pub buffers : k.left ≡ k.lent

-- RULES 16.4: camera c's band was served, or refused: either way it is used up, and the answer is told with the camera
pub record BandServed (k : StepCall) (c : ℕ) (f : OpenFrame) (b : WaitingBand) : Type 0 where
  pub call : FrameAnswer
  pub met : ServePost f b k.lent call k.left
  pub served : k.result.served ≡ served_by c call.answer
  pub desk : k.result.desk ≡ served_desk k.desk c f call.state

-- RULES 16.4
abbrev pub Stepped : Option Turn → StepCall → Type 0
Stepped None k = NothingDone k
Stepped (Some t) k = BandServed k t.camera t.frame t.band

-- RULES 16.4: the next waiting camera after the one last served, going round
abbrev pub StepPost : StepCall → Type 0
StepPost k = Stepped (next_waiting k.desk.places k.desk.from) k
