-- Lists of the desk's calls that came as numbers, as the lists of calls that the claims speak of: docs/RULES.md, 10.10, 16.5 and 16.6.
-- Assumes nothing.
use Rattle.std.specs.Prelude.{ℕ, ◌+◌, ◌*◌, ◌<◌, ◌≡◌, Bool, true, false, cond, ◌&&◌, ◌||◌, List, [], ◌∷◌, ◌++◌, eqb, Result, Option, None}
use Rattle.yuv_error.specs.declared.YuvError.{YuvError}
use Rattle.yuv_error.specs.Numbers.{numbers, answer_of}
use Rattle.call_numbers.specs.Codes.{at, description_of}
use Rattle.desk.specs.declared.Served.{Served}
use Rattle.desk.specs.DeskCall.{fresh, slot_at, OpenCall, open_call, OfferCall, StepCall, served_by, DeskAnswer}
use Rattle.desk_numbers.specs.Numbers.{DeskNumbers, desk_of, fresh_numbers}
use Rattle.desk_calls.specs.Calls.{ExportedDeskOpen, parts_of, lengths_of, DeskOpenKept, ExportedDeskOffer, offer_with, DeskOfferKept}
use Rattle.desk_calls.specs.Calls.{ExportedDeskStep, step_with, DeskStepKept}
use Rattle.desk_lists.specs.DeskLists.{DeskCall, opening, offering, step, AllMet, HandedOn, desk_after}
use Rattle.desk_lists.specs.Isolation.{no_step, last_of, AsLeft, no_frame, history_of, OwnRows}

-- RULES 10.10: a call that came as numbers; beside an offer stands the source buffer as it then was
pub data NumberedCall : Type 0 where
  open_numbers : ExportedDeskOpen → NumberedCall
  offer_numbers : ExportedDeskOffer → (source : List ℕ) → NumberedCall
  step_numbers : ExportedDeskStep → NumberedCall

-- RULES 10.10: calls that kept their promise, which is that of the `ensures` of the three functions that C and Rust link
abbrev pub Kept : NumberedCall → Type 0
Kept (open_numbers k) = DeskOpenKept k
Kept (offer_numbers k source) = DeskOfferKept k
Kept (step_numbers k) = DeskStepKept k

-- RULES 10.10
abbrev pub AllKept : List NumberedCall → Type 0
AllKept [] = Unit {0}
AllKept (k ∷ ks) = Kept k × AllKept ks

-- RULES 10.10: the three arrays as a call found them
abbrev pub before : NumberedCall → DeskNumbers
before (open_numbers k) = k.before
before (offer_numbers k source) = k.before
before (step_numbers k) = k.before

-- RULES 10.10: and as it left them
abbrev pub after : NumberedCall → DeskNumbers
after (open_numbers k) = k.after
after (offer_numbers k source) = k.after
after (step_numbers k) = k.after

-- RULES 10.10: every call finds the arrays as the call before left them, the first finds n
abbrev pub NumbersHandedOn : DeskNumbers → List NumberedCall → Type 0
NumbersHandedOn n [] = Unit {0}
NumbersHandedOn n (k ∷ ks) = (before k ≡ n) × NumbersHandedOn (after k) ks

-- RULES 10.10
abbrev pub numbers_after : DeskNumbers → List NumberedCall → DeskNumbers
numbers_after n [] = n
numbers_after n (k ∷ ks) = numbers_after (after k) ks

-- ---- the calls of the desk that they are

-- RULES 10.10: the answer that was told
abbrev pub answer_told : (number : ℕ) → (told : List ℕ) → Result Unit YuvError
answer_told number told = answer_of (numbers number (at told 0) (at told 1))

-- RULES 10.10: what was handed back
abbrev pub handed : DeskNumbers → Result Unit YuvError → DeskAnswer
handed n a = record { desk = desk_of n; answer = a }

-- RULES 10.10
abbrev pub as_opening : ExportedDeskOpen → OpenCall
as_opening k =
    open_call (desk_of k.before) k.camera (description_of k.described k.custom) (parts_of k.parts) (lengths_of k.lengths)
    (handed k.after (answer_told k.number k.told))

-- RULES 10.10
abbrev pub as_offering : ExportedDeskOffer → OfferCall
as_offering k = offer_with k (handed k.after (answer_of (numbers k.number 0 0)))

-- RULES 10.10: the camera whose turn it was, where one was told
abbrev pub served_in : (number : ℕ) → (told : List ℕ) → Option Served
served_in number told = cond (eqb (at told 2) 1) (served_by (at told 3) (answer_told number told)) None

-- RULES 10.10
abbrev pub as_step : ExportedDeskStep → StepCall
as_step k = step_with k (record { desk = desk_of k.after; served = served_in k.number k.told })

-- RULES 10.10: an opening that was refused with 1 described no frame, and is no call of the desk
abbrev pub as_calls : List NumberedCall → List DeskCall
as_calls [] = []
as_calls (open_numbers k ∷ ks) = cond (eqb k.number 1) (as_calls ks) (opening (as_opening k) ∷ as_calls ks)
as_calls (offer_numbers k source ∷ ks) = offering (as_offering k) source ∷ as_calls ks
as_calls (step_numbers k ∷ ks) = step (as_step k) ∷ as_calls ks

-- RULES 10.10, 16.5, 16.6: from all zeros on, calls that came as numbers are calls of a desk begun with no frame open
pub record AreCalls (ks : List NumberedCall) : Type 0 where
  pub met : AllMet (as_calls ks)
  pub handed_on : HandedOn fresh (as_calls ks)
  pub desk : desk_after fresh (as_calls ks) ≡ desk_of (numbers_after fresh_numbers ks)

-- RULES 10.10
abbrev pub NumbersAreCalls : Type 0
NumbersAreCalls = (ks : List NumberedCall) → AllKept ks → NumbersHandedOn fresh_numbers ks → AreCalls ks

-- ---- the claims, by the numbers

-- RULES 10.10: how many of the calls are steps
abbrev pub steps_of : List NumberedCall → ℕ
steps_of [] = 0
steps_of (open_numbers k ∷ ks) = steps_of ks
steps_of (offer_numbers k source ∷ ks) = steps_of ks
steps_of (step_numbers k ∷ ks) = steps_of ks + 1

-- RULES 10.10: whether one of them told that a camera was served, and that it was c
abbrev pub told_in : ℕ → List NumberedCall → Bool
told_in c [] = false
told_in c (open_numbers k ∷ ks) = told_in c ks
told_in c (offer_numbers k source ∷ ks) = told_in c ks
told_in c (step_numbers k ∷ ks) = eqb (at k.told 2) 1 && eqb (at k.told 3) c || told_in c ks

-- RULES 16.5: a camera whose first number is 2 has a band that waits, and one of the next 32 steps tells that it was served
abbrev pub NumberedFairness : Type 0
NumberedFairness =
    (c : ℕ) (earlier later : List NumberedCall) → AllKept (earlier ++ later) → NumbersHandedOn fresh_numbers (earlier ++ later)
    → c < 32 → at (numbers_after fresh_numbers earlier).numbers (19 * c) ≡ 2 → steps_of later ≡ 32 → told_in c later ≡ true

-- RULES 16.6: up to its last row's step a camera's planes are those of its own accepted bands alone
abbrev pub NumberedPlanes : Type 0
NumberedPlanes =
    (c : ℕ) (ks : List NumberedCall) → AllKept ks → NumbersHandedOn fresh_numbers ks → AsLeft no_step [] (as_calls ks)
    → OwnRows c (history_of c no_frame (as_calls ks)) (slot_at (desk_of (numbers_after fresh_numbers ks)) c) (last_of no_step (as_calls ks))
