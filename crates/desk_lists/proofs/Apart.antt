-- No two open frames share a byte: an opening tests it, and no other call opens a frame. So a band served writes no other frame's planes.
-- Assumes nothing.
use Prim.Native.Nat.{ℕ}
use mathlib.Core.Path.{◌≡◌, refl, sym, subst, ◌∙◌}
use mathlib.Core.Bool.{Bool, true, false, cond, true≢false}
use mathlib.Core.Logic.{inl, inr, ⊎_elim}
use borrow.Author.Tests.{eqb-true, eqb-false}
use lib.Dec.{eqb, leb}
use Rattle.std.proofs.lemmas.Bool.{cond-true, cond-false}
use Rattle.band_calls.specs.declared.FrameState.{FrameState}
use Rattle.buffer_parts.specs.Parts.{Overlap}
use Rattle.buffer_parts.specs.declared.BufferPart.{BufferPart}
use Rattle.buffer_parts.proofs.Parts.{part_kept}
use Rattle.desk_places.specs.declared.FrameParts.{FrameParts}
use Rattle.desk_places.specs.declared.OpenFrame.{OpenFrame}
use Rattle.desk_places.specs.declared.WaitingBand.{WaitingBand}
use Rattle.desk_places.specs.declared.Slot.{Slot}
use Rattle.desk_places.specs.declared.Slot.TheVariants.{Free, Idle, Waiting}
use Rattle.desk_places.specs.Places.{is_open, overlaps_slot, offered, next_waiting, with_state, after_band, its_turn}
use Rattle.desk_places.specs.Means.{ShareByte}
use Rattle.desk_places.proofs.Taken.{overlaps_none}
use Rattle.desk_places.proofs.Means.{share_exact}
use Rattle.desk_bands.specs.Buffers.{Buffers, planes_in, ElsewhereKept}
use Rattle.desk.specs.declared.Desk.{Desk}
use Rattle.desk.specs.DeskCall.{slot_at, OpenCall, opened_frame, OpenPost, OfferCall, OfferPost, StepCall, BandServed}
use Rattle.desk_lists.specs.Isolation.{is_finished}
use Rattle.desk_lists.proofs.Slots.{Whole, open_below, both?, is_finished_lem, opened, open_Changed, offer_Changed}
use Rattle.desk_lists.proofs.Slots.{waits, served_slot}

-- a frame with these parts is open
abbrev pub HasParts : Slot → FrameParts → Type 0
HasParts Free w = ⊥
HasParts (Idle f) w = f.parts ≡ w
HasParts (Waiting f b) w = f.parts ≡ w

has_open : (s : Slot) (w : FrameParts) → HasParts s w → is_open s ≡ true
has_open Free w h = absurd h
has_open (Idle f) w h = refl
has_open (Waiting f b) w h = refl

-- ---- the planes of a frame that shares no byte with the one served

Overlap-swap : (p q : BufferPart) → Overlap p q → Overlap q p
Overlap-swap p q o = (o.0, (o.1.1, o.1.0))

share_swap : (v w : FrameParts) → ShareByte v w → ShareByte w v
share_swap v w =
    ⊎_elim (λ o. inl (Overlap-swap v.y w.y o))
    (⊎_elim (λ o. inr (inl (Overlap-swap v.u w.u o)))
    (⊎_elim (λ o. inr (inr (inl (Overlap-swap v.v w.v o)))) (λ o. inr (inr (inr (Overlap-swap v.carried w.carried o))))))

pub planes_kept : (v w : FrameParts) (p q : Buffers) → ElsewhereKept v p q → (ShareByte v w → ⊥) → planes_in w q ≡ planes_in w p
planes_kept v w p q others clear = λ i. record {
  y = part_kept v.y w.y p.y q.y others.y (λ o. clear (inl o)) i;
  u = part_kept v.u w.u p.u q.u others.u (λ o. clear (inr (inl o))) i;
  v = part_kept v.v w.v p.v q.v others.v (λ o. clear (inr (inr (inl o)))) i;
  carried = part_kept v.carried w.carried p.carried q.carried others.carried (λ o. clear (inr (inr (inr o)))) i;
}

-- ---- the desk

abbrev pub Apart : Desk → Type 0
Apart d = (a b : ℕ) (v w : FrameParts) → (a ≡ b → ⊥) → HasParts (slot_at d a) v → HasParts (slot_at d b) w → ShareByte v w → ⊥

-- fewer frames
Apart-fewer : (d e : Desk) → ((a : ℕ) (w : FrameParts) → HasParts (slot_at e a) w → HasParts (slot_at d a) w) → Apart d → Apart e
Apart-fewer d e fewer apart a b v w other x y = apart a b v w other (fewer a v x) (fewer b w y)

slot_clear : (s : Slot) (v w : FrameParts) → overlaps_slot v s ≡ false → HasParts s w → ShareByte v w → ⊥
slot_clear Free v w e h = absurd h
slot_clear (Idle f) v w e h = λ o. true≢false (sym ((share_exact v w).1 o) ∙ rw (← h) e)
slot_clear (Waiting f b) v w e h = λ o. true≢false (sym ((share_exact v w).1 o) ∙ rw (← h) e)

module _ (k : OpenCall) (whole : Whole k.desk) (apart : Apart k.desk) (post : OpenPost k) where
  -- the frame that was opened, and another
  new_clear : is_finished k.result.answer ≡ true → (b : ℕ) (v w : FrameParts) → k.parts ≡ v → HasParts (slot_at k.desk b) w → ShareByte v w → ⊥
  new_clear ok b v w is h =
      let none = (opened k post (is_finished_lem k.result.answer ok)).clear in
      let below = open_below k.desk b whole (has_open (slot_at k.desk b) w h) in
      subst (λ (x : FrameParts). ShareByte x w → ⊥) is
      (slot_clear (slot_at k.desk b) k.parts w (overlaps_none k.desk.places k.parts 32 none b below) h)

  pub open_Apart : Apart k.result.desk
  open_Apart a b v w other x y =
      let e = open_Changed k whole post in
      let at_a = subst (λ (s : Slot). HasParts s v) (e.slot a) x in
      let at_b = subst (λ (s : Slot). HasParts s w) (e.slot b) y in
      let ok = is_finished k.result.answer in
      let new : Slot = Idle (opened_frame k.frame k.parts) in
      both? ok (eqb k.camera a)
      (λ yes is_a own_a. both? ok (eqb k.camera b)
      (λ _ is_b _. absurd (other (sym (eqb-true k.camera a is_a) ∙ eqb-true k.camera b is_b)))
      (λ own_b. new_clear yes b v w (subst (λ (s : Slot). HasParts s v) (cond-true _ new (slot_at k.desk a) own_a) at_a)
      (subst (λ (s : Slot). HasParts s w) (cond-false _ new (slot_at k.desk b) own_b) at_b)))
      (λ own_a. both? ok (eqb k.camera b)
      (λ yes is_b own_b. λ o. new_clear yes a w v (subst (λ (s : Slot). HasParts s w) (cond-true _ new (slot_at k.desk b) own_b) at_b)
      (subst (λ (s : Slot). HasParts s v) (cond-false _ new (slot_at k.desk a) own_a) at_a) (share_swap v w o))
      (λ own_b. apart a b v w other (subst (λ (s : Slot). HasParts s v) (cond-false _ new (slot_at k.desk a) own_a) at_a)
      (subst (λ (s : Slot). HasParts s w) (cond-false _ new (slot_at k.desk b) own_b) at_b)))

module _ (k : OfferCall) (whole : Whole k.desk) (apart : Apart k.desk) (post : OfferPost k) where
  before_offer : (s : Slot) (w : FrameParts) → HasParts (offered s k.band) w → HasParts s w
  before_offer Free w h = h
  before_offer (Idle f) w h = h
  before_offer (Waiting f b) w h = h

  pub offer_Apart : Apart k.result.desk
  offer_Apart = Apart-fewer k.desk k.result.desk (λ a w h.
      let e = offer_Changed k whole post in
      let h' = subst (λ (s : Slot). HasParts s w) (e.slot a) h in
      let new = offered (slot_at k.desk k.camera) k.band in
      both? (is_finished k.result.answer) (eqb k.camera a)
      (λ _ is own. subst (λ (j : ℕ). HasParts (slot_at k.desk j) w) (eqb-true k.camera a is)
      (before_offer (slot_at k.desk k.camera) w (subst (λ (s : Slot). HasParts s w) (cond-true _ new (slot_at k.desk a) own) h')))
      (λ own. subst (λ (s : Slot). HasParts s w) (cond-false _ new (slot_at k.desk a) own) h')) apart

module _ (k : StepCall) (c : ℕ) (f : OpenFrame) (b : WaitingBand) (turn : next_waiting k.desk.places k.desk.from ≡ its_turn c f b)
    (served : BandServed k c f b) (whole : Whole k.desk) (apart : Apart k.desk) where
  abbrev new_state : FrameState
  new_state = served.call.state

  after_parts : (t : Bool) (w : FrameParts) → HasParts (cond t Free (Idle (with_state f new_state))) w → f.parts ≡ w
  after_parts true w h = absurd h
  after_parts false w h = h

  had : (w : FrameParts) → HasParts (after_band f new_state) w → HasParts (slot_at k.desk c) w
  had w h = rw (waits k c f b turn served whole).slot (after_parts (leb new_state.frame.height new_state.done) w h)

  pub served_Apart : Apart k.result.desk
  served_Apart = Apart-fewer k.desk k.result.desk (λ a w h.
      let h' = subst (λ (s : Slot). HasParts s w) (served_slot k c f b turn served whole a) h in
      (elim (eqb c a) as (λ t. eqb c a ≡ t → HasParts (cond t (after_band f new_state) (slot_at k.desk a)) w → HasParts (slot_at k.desk a) w) [
        | true ↦ λ same h. subst (λ (j : ℕ). HasParts (slot_at k.desk j) w) (eqb-true c a same) (had w h)
        | false ↦ λ other h. h
      ]) refl h') apart

  -- another camera's frame shares no byte with the one served
  pub served_clear : (a : ℕ) → eqb c a ≡ false → (w : FrameParts) → HasParts (slot_at k.desk a) w → ShareByte f.parts w → ⊥
  served_clear a other w h = apart c a f.parts w (eqb-false c a other) (rw (waits k c f b turn served whole).slot refl) h
