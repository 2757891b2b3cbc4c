-- The camera of a call that was not refused is one of the 32, and so is the one that a step served.
-- Assumes nothing.
use Prim.Native.Nat.{ℕ, ◌<◌}
use mathlib.Core.Path.{◌≡◌, refl, sym}
use mathlib.Core.List.{List, ◌++◌}
use native.Mathlib.Omega.{arith}
use borrow.Author.Tests.{ltb-false}
use lib.Dec.{ltb}
use lib.Ieee.{Float}
use Rattle.yuv_error.specs.declared.YuvError.{YuvError}
use Rattle.std.specs.Prelude.{Result, Ok, Err, OnOk, Option, None, Some}
use Rattle.yuv_error.specs.Lent.{opening_rules}
use Rattle.yuv_error.proofs.First.{append_finished, finished_number}
use Rattle.std.proofs.lemmas.Bool.{or_parts}
use Rattle.yuv_error.proofs.Accepted.{none_holds}
use Rattle.call_numbers.specs.Codes.{description_of, number_rules as code_rules}
use Rattle.desk_places.specs.declared.FrameParts.{FrameParts}
use Rattle.desk_places.specs.declared.BufferLengths.{BufferLengths}
use Rattle.desk_places.specs.declared.Turn.{Turn}
use Rattle.desk_places.specs.Places.{next_waiting}
use Rattle.desk_places.proofs.NextTurn.{turn_Waits}
use Rattle.desk.specs.declared.Desk.{Desk}
use Rattle.desk.specs.DeskCall.{number_rules, part_rules, OfferCall, offer_rules, OfferPost, StepCall, Stepped, StepPost, DeskAnswer}
use Rattle.desk.proofs.Given.{offer_given}
use Rattle.desk_calls.specs.Calls.{described_rules, DescribedOpen, ServedBelow}

pub opened_below : (d : Desk) (c : ℕ) (described : List ℕ) (custom : List Float) (w : FrameParts) (n : BufferLengths) (r : DeskAnswer)
    → DescribedOpen d c described custom w n r → r.answer ≡ Ok tt → c < 32
opened_below d c described custom w n r p is =
    let ps = d.places in
    let e = finished_number (described_rules d c described custom w n) is p.answered in
    let a = append_finished (number_rules ps c) (part_rules ps w n ++ code_rules 0 described ++ opening_rules (description_of described custom)) refl e in
    omega (arith, ltb-false 31 c (or_parts (ltb 31 c) _ (none_holds (number_rules ps c) refl a.0 21)).0)

pub offered_below : (k : OfferCall) → OfferPost k → k.result.answer ≡ Ok tt → k.camera < 32
offered_below k p is = (offer_given k (finished_number (offer_rules k) is p.answered)).below

pub served_below : (k : StepCall) → StepPost k → ServedBelow k.result.served k.result.desk
served_below k p = go (next_waiting k.desk.places k.desk.from) refl p
  where
    go : (n : Option Turn) → next_waiting k.desk.places k.desk.from ≡ n → Stepped n k → ServedBelow k.result.served k.result.desk
    go None e s = rw s.served tt
    go (Some t) e s = rw (s.served, s.desk) ((turn_Waits _ _ (sym e)).below, omega arith)

-- a fact of a finished answer
pub on_finished : {P : Type 0} (a : Result Unit YuvError) → (a ≡ Ok tt → P) → OnOk a P
on_finished (Ok done) f = f refl
on_finished (Err e) f = tt
