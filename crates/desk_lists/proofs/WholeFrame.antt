-- Isolation speaks of frames that are converted: every frame whose rows a band call accepts in one band is finished by one step of the desk, with
-- another camera's frame open beside it. Its tally then has all rows, and its planes are in view.
-- Assumes nothing.
use Prim.Native.Nat.{ℕ, zero, suc, ◌+◌, min, max}
use mathlib.Core.Path.{◌≡◌, refl, sym, ap, subst, ◌∙◌}
use mathlib.Core.Bool.{Bool, true, false, cond, or-true}
use mathlib.Core.List.{List, [], ◌∷◌, ◌++◌}
use native.Mathlib.Omega.{arith}
use native.Mathlib.Numerals.{add-one}
use borrow.Author.Tests.{le-ltb, le-leb}
use lib.Dec.{eqb}
use lib.ListN.{length}
use Rattle.std.specs.Prelude.{Ok}
use Rattle.yuv_error.specs.Numbers.{Numbers, numbers}
use Rattle.yuv_error.specs.Rules.{first_numbers}
use Rattle.yuv_error.specs.Lent.{opening_rules}
use Rattle.yuv_error.specs.Lent as lent
use Rattle.yuv_error.proofs.Accepts.{both_pass, opening_passes}
use Rattle.definitions.specs.declared.FrameDescription.{FrameDescription}
use Rattle.band_calls.specs.BandCall.{state_of, rules_of}
use Rattle.band_calls.proofs.Accepted.{AcceptedBand, band_passes}
use Rattle.band_lists.specs.BandLists.{is_accepted, no_rows, tally_of}
use Rattle.buffer_parts.specs.declared.BufferPart.{BufferPart}
use Rattle.buffer_parts.specs.Parts.{are_overlapping, is_inside, part_of}
use Rattle.desk_places.specs.declared.FrameParts.{FrameParts}
use Rattle.desk_places.specs.declared.OpenFrame.{OpenFrame}
use Rattle.desk_places.specs.declared.WaitingBand.{WaitingBand}
use Rattle.desk_places.specs.declared.Slot.{Slot}
use Rattle.desk_places.specs.declared.Slot.TheVariants.{Free, Idle, Waiting}
use Rattle.desk_places.specs.Places.{slot_in, is_open, is_waiting, are_inside, overlaps_slot, overlaps_open, first_waiting, next_waiting}
use Rattle.desk_lists.proofs.Overlaps.{overlaps_start, overlaps_next}
use Rattle.desk_bands.specs.Buffers.{Buffers, lengths_of, are_lent, band_call_in}
use Rattle.desk.specs.declared.Desk.{Desk}
use Rattle.desk.specs.DeskCall.{fresh, slot_at, put_slot, number_rules, part_rules, OpenCall, open_call, opened_frame, OpenPost, served_by}
use Rattle.desk.specs.DeskCall.{OfferCall, offer_call, OfferPost, StepCall, step_call, served_desk, StepPost}
use Rattle.desk_lists.specs.DeskLists.{DeskCall, opening, offering, step, AllMet, HandedOn, desk_after}
use Rattle.desk_lists.specs.Isolation.{no_step, last_of, AsLeft, OwnBand, own_band, Turned, called, calls_of, no_frame, since, call_in}
use Rattle.desk_lists.specs.Isolation.{history_of, in_view}
use Rattle.desk_lists.proofs.Slots.{put, fresh_free}
use Rattle.desk_lists.proofs.CanServe.{CanServe, can_serve}
use Rattle.desk_lists.proofs.NotEmpty.{same_band, no_band}
use Rattle.desk_lists.proofs.ThirtyOne.{tiny, no_bytes, no_parts, no_lengths, open_first}

-- ---- a frame in the whole of each buffer

abbrev whole : List ℕ → BufferPart
whole x = record { offset = 0; length = length x }

whole_is : (x : List ℕ) → part_of (whole x) x ≡ x
whole_is [] = refl
whole_is (b ∷ x) = ap (λ (l : List ℕ). b ∷ l) (whole_is x)

whole_inside : (x : List ℕ) → is_inside (whole x) (length x) ≡ true
whole_inside x = le-leb (0 + length x) (length x) (omega arith)

abbrev whole_parts : Buffers → FrameParts
whole_parts p = record { y = whole p.y; u = whole p.u; v = whole p.v; carried = whole p.carried }

no_overlap : (q : BufferPart) → are_overlapping q no_bytes ≡ false
no_overlap q = le-ltb (max q.offset 0) (min (q.offset + q.length) 0) (omega arith)

clear_slot : (w : FrameParts) (t : Bool) → overlaps_slot w (cond t (Idle (opened_frame tiny no_parts)) Free) ≡ false
clear_slot w true = rw (no_overlap w.y, no_overlap w.u, no_overlap w.v, no_overlap w.carried)
clear_slot w false = refl

clear : (ps : List Slot) (w : FrameParts) (n : ℕ) → ((c : ℕ) → overlaps_slot w (slot_in ps c) ≡ false) → overlaps_open ps w n ≡ false
clear ps w zero none = overlaps_start ps w
clear ps w (suc n) none = subst (λ (m : ℕ). overlaps_open ps w m ≡ false) (add-one n) (overlaps_next ps w n (none n) (clear ps w n none))

-- what isolation asks of a list of calls after which all rows of camera 7's frame are done and its planes are in view
pub record FrameDone (d : FrameDescription) (w : FrameParts) : Type 0 where
  pub calls : List DeskCall
  pub met : AllMet calls
  pub handed : HandedOn fresh calls
  pub back : AsLeft no_step [] calls
  pub turned : List Turned
  pub bands : List OwnBand
  pub history : history_of 7 no_frame calls ≡ since d w turned bands
  pub rows : (tally_of d no_rows (calls_of turned)).n ≡ d.height
  pub view : in_view 7 (slot_at (desk_after fresh calls) 7) (last_of no_step calls) ≡ true

-- ---- camera 4 has a frame that takes no bytes; camera 7 opens, offers all its rows, and is served

module _ (d : FrameDescription) (stride : ℕ) (p : Buffers)
    (a : AcceptedBand (state_of d 0) d.height stride (lent.lengths_of p.source p.y p.u p.v) (length p.carried)) where
  abbrev w : FrameParts
  w = whole_parts p

  abbrev f : OpenFrame
  f = opened_frame d w

  abbrev b : WaitingBand
  b = record { rows = d.height; stride = stride; source = whole p.source }

  abbrev d₁ : Desk
  d₁ = put_slot fresh 4 (Idle (opened_frame tiny no_parts))

  abbrev d₂ : Desk
  d₂ = put_slot d₁ 7 (Idle f)

  abbrev d₃ : Desk
  d₃ = put_slot d₂ 7 (Waiting f b)

  abbrev k₁ : OpenCall
  k₁ = open_call fresh 4 tiny no_parts no_lengths (record { desk = d₁; answer = Ok tt })

  abbrev k₂ : OpenCall
  k₂ = open_call d₁ 7 d w (lengths_of p) (record { desk = d₂; answer = Ok tt })

  abbrev k₃ : OfferCall
  k₃ = offer_call d₂ 7 b (length p.source) (record { desk = d₃; answer = Ok tt })

  c : CanServe f b p
  c = can_serve f b p

  abbrev k₄ : StepCall
  k₄ = step_call d₃ p (record { desk = served_desk d₃ 7 f c.call.state; served = served_by 7 c.call.answer }) c.left

  met₁ : OpenPost k₁
  met₁ = record { answered = sym (open_first fresh 4 (record { desk = d₁; answer = Ok tt }) (omega arith) refl); desk = refl }

  inside : are_inside w (lengths_of p) ≡ true
  inside = rw (whole_inside p.y, whole_inside p.u, whole_inside p.v, whole_inside p.carried)

  taken_none : overlaps_open d₁.places w 32 ≡ false
  taken_none = clear d₁.places w 32 (λ e.
      ap (overlaps_slot w) (put fresh 4 e (Idle (opened_frame tiny no_parts)) refl (omega arith)
      ∙ ap (cond (eqb 4 e) (Idle (opened_frame tiny no_parts))) (fresh_free e))
      ∙ clear_slot w (eqb 4 e))

  met₂ : OpenPost k₂
  met₂ = record {
    answered = sym (both_pass (number_rules d₁.places 7 ++ part_rules d₁.places w (lengths_of p)) (opening_rules d) refl (rw (inside, taken_none))
        (opening_passes a.sized));
    desk = refl;
  }

  met₃ : OfferPost k₃
  met₃ = record { answered = rw (whole_inside p.source); desk = refl }

  met₄ : StepPost k₄
  unfolding next_waiting first_waiting
  met₄ = record { call = c.call; met = c.met; served = refl; desk = refl }

  -- the band call is accepted
  is_lent : are_lent f b p ≡ true
  is_lent = rw (whole_inside p.source, inside)

  passes : first_numbers (rules_of (band_call_in f b p c.call c.left)) ≡ numbers 0 0 0
  passes = rw (whole_is p.source, whole_is p.y, whole_is p.u, whole_is p.v, whole_is p.carried)
      (band_passes (state_of d 0) d.height stride (lent.lengths_of p.source p.y p.u p.v) (length p.carried) a)

  accepted : is_accepted (call_in f b k₄ c.call.answer) ≡ true
  unfolding is_accepted
  accepted = ap (λ (x : Numbers). eqb x.number 0) passes

  none_waits : (e : ℕ) → is_waiting (slot_at d₂ e) ≡ false
  none_waits e =
      ap is_waiting (put d₁ 7 e (Idle f) refl (omega arith)
      ∙ ap (cond (eqb 7 e) (Idle f)) (put fresh 4 e (Idle (opened_frame tiny no_parts)) refl (omega arith)
      ∙ ap (cond (eqb 4 e) (Idle (opened_frame tiny no_parts))) (fresh_free e)))
      ∙ idle (eqb 7 e) (eqb 4 e)
    where
      idle : (s t : Bool) → is_waiting (cond s (Idle f) (cond t (Idle (opened_frame tiny no_parts)) Free)) ≡ false
      idle true t = refl
      idle false true = refl
      idle false false = refl

  abbrev calls : List DeskCall
  calls = opening k₁ ∷ opening k₂ ∷ offering k₃ p.source ∷ step k₄ ∷ []

  history : history_of 7 no_frame calls ≡ since d w (called (call_in f b k₄ c.call.answer) ∷ []) (own_band b p.source ∷ [])
  history = rw is_lent

  pub frame_done : FrameDone d w
  frame_done = record {
    calls = calls;
    met = (met₁, (met₂, (met₃, (met₄, tt))));
    handed = (refl, (refl, (refl, (refl, tt))));
    back = (λ e. no_band (slot_at d₂ e) p.source [] (none_waits e), (tt, (λ e. same_band (slot_at d₃ e) p.source, tt)));
    turned = called (call_in f b k₄ c.call.answer) ∷ [];
    bands = own_band b p.source ∷ [];
    history = history;
    rows = rw accepted (omega arith);
    view = or-true (is_open (slot_at (served_desk d₃ 7 f c.call.state) 7));
  }
