-- What each call leaves at one camera's number.
-- Assumes nothing.
use Prim.Native.Nat.{ℕ, zero, suc, ◌<◌}
use mathlib.Core.Path.{◌≡◌, refl, sym, ap, subst, subst⁻¹, ◌∙◌}
use mathlib.Core.Bool.{Bool, true, false, cond, ◌&&◌, true≢false}
use native.Mathlib.Omega.{arith}
use borrow.Author.Tests.{eqb-true, eqb-false, ltb-true, ltb-false}
use lib.Dec.{eqb, ltb}
use lib.ListN.{length, get_or, replicate, length-set, get_or-eq_default}
use lib.Seq.{get_or-set_same, get_or-set_other}
use Rattle.std.specs.Prelude.{Result, Ok, Err, Option, None, Some}
use Rattle.yuv_error.specs.declared.YuvError.{YuvError}
use Rattle.yuv_error.proofs.First.{finished_number}
use Rattle.desk_places.specs.declared.OpenFrame.{OpenFrame}
use Rattle.desk_places.specs.declared.WaitingBand.{WaitingBand}
use Rattle.desk_places.specs.declared.Slot.{Slot}
use Rattle.desk_places.specs.declared.Slot.TheVariants.{Free, Idle}
use Rattle.desk_places.specs.declared.Turn.{Turn}
use Rattle.desk_places.specs.Places.{is_open, offered, next_waiting, after_band, its_turn}
use Rattle.desk_places.proofs.NextTurn.{Waits, turn_Waits}
use Rattle.desk.specs.declared.Desk.{Desk}
use Rattle.desk.specs.DeskCall.{fresh, slot_at, put_slot, left_by, OpenCall, open_rules, opened_frame, OpenPost, OfferCall, offer_rules, OfferPost}
use Rattle.desk.specs.DeskCall.{StepCall, BandServed, Stepped}
use Rattle.desk.proofs.Given.{OpenGiven, open_given, OfferGiven, offer_given}
use Rattle.desk_lists.specs.DeskLists.{DeskCall, opening, offering, step, Met, given, handed_back}
use Rattle.desk_lists.specs.Isolation.{is_finished}

-- it has all 32 numbers
abbrev pub Whole : Desk → Type 0
Whole d = length d.places ≡ 32

put_same : (d : Desk) (c : ℕ) (s : Slot) → Whole d → c < 32 → slot_at (put_slot d c s) c ≡ s
put_same d c s whole l = (get_or-set_same d.places c s Free (omega arith))

put_other : (d : Desk) (e c : ℕ) (s : Slot) → (c ≡ e → ⊥) → slot_at (put_slot d e s) c ≡ slot_at d c
put_other d e c s other = (get_or-set_other d.places e c s Free other)

pub put : (d : Desk) (e c : ℕ) (s : Slot) → Whole d → e < 32 → slot_at (put_slot d e s) c ≡ cond (eqb e c) s (slot_at d c)
put d e c s whole l =
    (elim (eqb e c) as (λ a. eqb e c ≡ a → slot_at (put_slot d e s) c ≡ cond a s (slot_at d c)) [
      | true ↦ λ is. subst (λ (x : ℕ). slot_at (put_slot d e s) x ≡ s) (eqb-true e c is) (put_same d e s whole l)
      | false ↦ λ is. put_other d e c s (λ x. eqb-false e c is (sym x))
    ]) refl

pub put_whole : (d : Desk) (c : ℕ) (s : Slot) → Whole d → Whole (put_slot d c s)
put_whole d c s whole = length-set d.places c s ∙ whole

alike : (n i : ℕ) (x : Slot) → get_or (replicate n x) i x ≡ x
alike zero i x = refl
alike (suc n) zero x = refl
alike (suc n) (suc i) x = alike n i x

-- every number of a fresh desk is free
pub fresh_free : (c : ℕ) → slot_at fresh c ≡ Free
fresh_free c = (alike 32 c Free)

-- a number with a frame is one of the 32
pub open_below : (d : Desk) (c : ℕ) → Whole d → is_open (slot_at d c) ≡ true → c < 32
open_below d c w is = (elim (ltb c 32) as (λ a. ltb c 32 ≡ a → c < 32) [
  | true ↦ λ e. ltb-true c 32 e
  | false ↦ λ e. absurd (true≢false (sym is ∙ ap is_open
      (get_or-eq_default d.places Free (omega (arith, w, ltb-false c 32 e)))))
]) refl

-- both tests hold, or not
pub both? : {A : Type 0} (a b : Bool) → (a ≡ true → b ≡ true → (a && b) ≡ true → A) → ((a && b) ≡ false → A) → A
both? true true f g = f refl refl refl
both? true false f g = g refl
both? false b f g = g refl

-- ---- an opening and an offer: the number that they name is set where they were accepted

pub record Changed (d : Desk) (own : ℕ → Bool) (s : Slot) (e : Desk) : Type 0 where
  pub slot : (c : ℕ) → slot_at e c ≡ cond (own c) s (slot_at d c)
  pub from : e.from ≡ d.from
  pub whole : Whole e

changed : (d : Desk) (camera : ℕ) (s : Slot) (a : Result Unit YuvError) → Whole d → (a ≡ Ok tt → camera < 32)
    → Changed d (λ c. is_finished a && eqb camera c) s (left_by a (put_slot d camera s) d)
changed d camera s (Ok done) whole below = record {
  slot = λ c. put d camera c s whole (below refl);
  from = refl;
  whole = put_whole d camera s whole;
}
changed d camera s (Err e) whole below = record { slot = λ c. refl; from = refl; whole = whole }

pub is_finished_lem : (a : Result Unit YuvError) → is_finished a ≡ true → a ≡ Ok tt
is_finished_lem (Ok done) e = refl
is_finished_lem (Err x) e = absurd (true≢false (sym e))

pub opened : (k : OpenCall) → OpenPost k → k.result.answer ≡ Ok tt → OpenGiven k
opened k p is = open_given k (finished_number (open_rules k) is p.answered)

pub offered_to : (k : OfferCall) → OfferPost k → k.result.answer ≡ Ok tt → OfferGiven k
offered_to k p is = offer_given k (finished_number (offer_rules k) is p.answered)

pub open_Changed : (k : OpenCall) → Whole k.desk → OpenPost k
    → Changed k.desk (λ c. is_finished k.result.answer && eqb k.camera c) (Idle (opened_frame k.frame k.parts)) k.result.desk
open_Changed k whole p =
    subst⁻¹ (λ (e : Desk). Changed k.desk (λ c. is_finished k.result.answer && eqb k.camera c) (Idle (opened_frame k.frame k.parts)) e)
    p.desk (changed k.desk k.camera (Idle (opened_frame k.frame k.parts)) k.result.answer whole (λ is. (opened k p is).below))

-- what stands at the number once the band waits
abbrev newly_offered : OfferCall → Slot
newly_offered k = offered (slot_at k.desk k.camera) k.band

pub offer_Changed : (k : OfferCall) → Whole k.desk → OfferPost k
    → Changed k.desk (λ c. is_finished k.result.answer && eqb k.camera c) (newly_offered k) k.result.desk
offer_Changed k whole p =
    subst⁻¹ (λ (e : Desk). Changed k.desk (λ c. is_finished k.result.answer && eqb k.camera c) (newly_offered k) e)
    p.desk (changed k.desk k.camera (newly_offered k) k.result.answer whole (λ is. (offered_to k p is).below))

-- ---- a step: the number of the camera that was served is set

module _ (k : StepCall) (c : ℕ) (f : OpenFrame) (b : WaitingBand) (turn : next_waiting k.desk.places k.desk.from ≡ its_turn c f b)
    (served : BandServed k c f b) (whole : Whole k.desk) where
  pub waits : Waits k.desk.places c f b
  waits = turn_Waits k.desk.places k.desk.from (sym turn)

  pub served_slot : (a : ℕ) → slot_at k.result.desk a ≡ cond (eqb c a) (after_band f served.call.state) (slot_at k.desk a)
  served_slot a = ap (λ (x : Desk). slot_at x a) served.desk ∙ put k.desk c a (after_band f served.call.state) whole waits.below

  pub served_Whole : Whole k.result.desk
  served_Whole =
      ap (λ (x : Desk). length x.places) served.desk
      ∙ length-set k.desk.places c (after_band f served.call.state) ∙ whole

step_Whole : (k : StepCall) (n : Option Turn) → next_waiting k.desk.places k.desk.from ≡ n → Whole k.desk → Stepped n k → Whole k.result.desk
step_Whole k None turn w s = ap (λ (x : Desk). length x.places) s.desk ∙ w
step_Whole k (Some t) turn w s = served_Whole k t.camera t.frame t.band turn s w

pub call_Whole : (k : DeskCall) → Whole (given k) → Met k → Whole (handed_back k)
call_Whole (opening k) w met = (open_Changed k w met).whole
call_Whole (offering k source) w met = (offer_Changed k w met).whole
call_Whole (step k) w met = step_Whole k (next_waiting k.desk.places k.desk.from) refl w met
