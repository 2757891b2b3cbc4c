-- Isolation: what is kept of a camera (Kept) holds after every list of calls, since no two open frames share a byte (Apart).
-- Assumes nothing.
use Prim.Native.Nat.{ℕ}
use mathlib.Core.Path.{◌≡◌, refl, sym, ap, subst, subst⁻¹, ◌∙◌}
use mathlib.Core.Bool.{Bool, true, false, cond, true≢false}
use mathlib.Core.List.{List, [], ◌∷◌, ◌++◌}
use borrow.Author.Tests.{eqb-true}
use lib.Dec.{eqb}
use Rattle.std.proofs.lemmas.Bool.{cond-true, cond-false}
use Rattle.band_calls.specs.declared.FrameAnswer.{FrameAnswer}
use Rattle.band_calls.specs.BandCall.{BandCall}
use Rattle.desk_places.specs.declared.FrameParts.{FrameParts}
use Rattle.desk_places.specs.declared.OpenFrame.{OpenFrame}
use Rattle.desk_places.specs.declared.WaitingBand.{WaitingBand}
use Rattle.desk_places.specs.declared.Slot.{Slot}
use Rattle.desk_places.specs.declared.Slot.TheVariants.{Free, Idle, Waiting}
use Rattle.desk_places.specs.declared.Turn.{Turn}
use Rattle.desk_places.specs.Places.{is_open, next_waiting, after_band, its_turn}
use Rattle.desk_bands.specs.Buffers.{are_lent, planes_in, Converted, Outside, IfLent}
use Rattle.desk.specs.declared.Desk.{Desk}
use Rattle.desk.specs.declared.Served.{Served}
use Rattle.desk.specs.DeskCall.{fresh, slot_at, OpenCall, OpenPost, OfferCall, OfferPost, StepCall, BandServed, Stepped}
use Rattle.desk_lists.specs.DeskLists.{DeskCall, opening, offering, step, AllMet, HandedOn, desk_after, tells}
use Rattle.desk_lists.specs.Isolation.{LastStep, no_step, last_step, last_of, PlanesBack, SameBand, BandsBack, source_after, AsLeft}
use Rattle.desk_lists.specs.Isolation.{OwnBand, own_band}
use Rattle.desk_lists.specs.Isolation.{dropped, called, calls_of, bands_of, History, no_frame, since, is_finished, call_in, turned_in}
use Rattle.desk_lists.specs.Isolation.{and_turned, and_offered, and_served, noted, history_of, Isolated, Isolation}
use Rattle.desk_lists.proofs.Slots.{Whole, both?, is_finished_lem, opened, offered_to, open_Changed, offer_Changed}
use Rattle.desk_lists.proofs.Slots.{fresh_free, waits, served_slot, served_Whole}
use Rattle.desk_lists.proofs.Bands.{calls_called, calls_dropped, bands_more}
use Rattle.desk_lists.proofs.Apart.{HasParts, planes_kept, Apart, open_Apart, offer_Apart, served_Apart, served_clear}
use Rattle.desk_lists.proofs.Kept.{Kept, other_offer, other_step, opens, offers, drops, serves}
use Rattle.std.specs.Prelude.{Option, None, Some}

-- of a camera's history
abbrev KeptOf : ℕ → History → Slot → (source : List ℕ) → LastStep → Type 0
KeptOf c no_frame s source l = s ≡ Free
KeptOf c (since d w ts os) s source l = Kept c d w (calls_of ts) (bands_of ts) os s source l

not_free : (s : Slot) → s ≡ Free → is_open s ≡ true → ⊥
not_free s e o = true≢false (sym o ∙ ap is_open e)

-- ---- calls of others, for every history

source_seen : (c : ℕ) (h : History) (s : Slot) (before now : List ℕ) (l : LastStep) → SameBand s now before → KeptOf c h s before l
    → KeptOf c h s now l
source_seen c no_frame s before now l same k = k
source_seen c (since d w ts os) s before now l same k = other_offer s before now l same k

not_served : (c : ℕ) (h : History) (k : StepCall) (s : Slot) (before : List ℕ) (l : LastStep) → slot_at k.result.desk c ≡ s
    → tells c k.result.served ≡ false → PlanesBack l k.lent → SameBand s k.lent.source before
    → ((w : FrameParts) → HasParts s w → planes_in w k.left ≡ planes_in w k.lent)
    → KeptOf c h s before l → KeptOf c h s k.lent.source (last_step k)
not_served c no_frame k s before l slot told back band bytes a = a
not_served c (since d w ts os) k s before l slot told back band bytes a = other_step k s before l slot told back band (bytes w) a

-- ---- the camera's own calls, for every history

has_offered : (c : ℕ) (h : History) (f : OpenFrame) (b : WaitingBand) (before source : List ℕ) (l : LastStep) → KeptOf c h (Idle f) before l
    → KeptOf c (and_offered h (own_band b source)) (Waiting f b) source l
has_offered c no_frame f b before source l k = absurd (not_free (Idle f) k refl)
has_offered c (since d w ts os) f b before source l k = offers f b before source l k

module _ (c : ℕ) (f : OpenFrame) (b : WaitingBand) (before : List ℕ) (l : LastStep) (k : StepCall) (back : PlanesBack l k.lent)
    (band : SameBand (Waiting f b) k.lent.source before) where
  has_dropped : (h : History) → KeptOf c h (Waiting f b) before l → k.left ≡ k.lent → slot_at k.result.desk c ≡ after_band f f.state
      → KeptOf c (and_turned h (dropped (own_band b k.lent.source) ∷ [])) (slot_at k.result.desk c) k.lent.source (last_step k)
  has_dropped no_frame a kept slot = absurd (not_free (Waiting f b) a refl)
  has_dropped (since d w ts os) a kept slot =
      let x = own_band b k.lent.source in
      subst⁻¹ (λ (ks : List BandCall).
      Kept c d w ks (bands_of (ts ++ (dropped x ∷ []))) os (slot_at k.result.desk c) k.lent.source (last_step k))
      (calls_dropped ts x)
      (subst⁻¹ (λ (bs : List OwnBand). Kept c d w (calls_of ts) bs os (slot_at k.result.desk c) k.lent.source (last_step k))
      (bands_more ts (dropped x)) (drops c d w (calls_of ts) (bands_of ts) os f b before l a k back band kept slot))

  module _ (r : FrameAnswer) (made : Converted f b k.lent r k.left) where
    has_called : (h : History) → KeptOf c h (Waiting f b) before l → slot_at k.result.desk c ≡ after_band f r.state
        → KeptOf c (and_turned h (called (call_in f b k r.answer) ∷ [])) (slot_at k.result.desk c) k.lent.source (last_step k)
    has_called no_frame a slot = absurd (not_free (Waiting f b) a refl)
    has_called (since d w ts os) a slot =
        let j = call_in f b k r.answer in
        subst⁻¹ (λ (ks : List BandCall).
        Kept c d w ks (bands_of (ts ++ (called j ∷ []))) os (slot_at k.result.desk c) k.lent.source (last_step k))
        (calls_called ts j)
        (subst⁻¹ (λ (bs : List OwnBand). Kept c d w (calls_of ts ++ (j ∷ [])) bs os (slot_at k.result.desk c) k.lent.source (last_step k))
        (bands_more ts (called j)) (serves c d w (calls_of ts) (bands_of ts) os f b before l a k back band r made.met slot))

-- ---- every call

record Good (c : ℕ) (h : History) (d : Desk) (source : List ℕ) (l : LastStep) : Type 0 where
  pub whole : Whole d
  pub apart : Apart d
  pub kept : KeptOf c h (slot_at d c) source l

open_Good : (c : ℕ) (h : History) (source : List ℕ) (l : LastStep) (k : OpenCall) → Good c h k.desk source l → OpenPost k
    → Good c (noted c (opening k) h) k.result.desk source l
open_Good c h source l k good post =
    let e = open_Changed k good.whole post in
    record {
      whole = e.whole;
      apart = open_Apart k good.whole good.apart post;
      kept = both? (is_finished k.result.answer) (eqb k.camera c)
          (λ a same own.
          rw (e.slot c, own) (opens c k.frame k.parts source l (opened k post (is_finished_lem k.result.answer a)).opening))
          (λ other. rw (e.slot c, other) good.kept);
    }

offer_Good : (c : ℕ) (h : History) (before source : List ℕ) (l : LastStep) (k : OfferCall) → Good c h k.desk before l → OfferPost k
    → BandsBack k.desk source before → Good c (noted c (offering k source) h) k.result.desk source l
offer_Good c h before source l k good post back =
    let e = offer_Changed k good.whole post in
    record {
      whole = e.whole;
      apart = offer_Apart k good.whole good.apart post;
      kept = both? (is_finished k.result.answer) (eqb k.camera c)
          (λ a same own.
          let g = offered_to k post (is_finished_lem k.result.answer a) in
          let idle = ap (slot_at k.desk) (sym (eqb-true k.camera c same)) ∙ g.idle in
          rw (e.slot c, own, g.idle) (has_offered c h g.frame k.band before source l
          (subst (λ (s : Slot). KeptOf c h s before l) idle good.kept)))
          (λ other. rw (e.slot c, other) (source_seen c h (slot_at k.desk c) before source l (back c) good.kept));
    }

module _ (c : ℕ) (h : History) (before : List ℕ) (l : LastStep) (k : StepCall) (good : Good c h k.desk before l) (back : PlanesBack l k.lent)
    (bands : BandsBack k.desk k.lent.source before) where
  nothing_Good : Stepped None k → Good c (noted c (step k) h) k.result.desk k.lent.source (last_step k)
  nothing_Good s =
      let slot = ap (λ (x : Desk). slot_at x c) s.desk in
      record {
        whole = subst⁻¹ Whole s.desk good.whole;
        apart = subst⁻¹ Apart s.desk good.apart;
        kept = subst⁻¹ (λ (x : Option Served). KeptOf c (and_served c k x h) (slot_at k.result.desk c) k.lent.source (last_step k)) s.served
            (subst⁻¹ (λ (x : Slot). KeptOf c h x k.lent.source (last_step k)) slot
            (not_served c h k (slot_at k.desk c) before l slot (ap (tells c) s.served) back (bands c)
            (λ w _. ap (planes_in w) s.buffers) good.kept));
      }

  module _ (e : ℕ) (f : OpenFrame) (b : WaitingBand) (turn : next_waiting k.desk.places k.desk.from ≡ its_turn e f b)
      (s : BandServed k e f b) where
    -- nothing but the served frame's parts was written
    bytes : (t : Bool) → IfLent t (Converted f b k.lent s.call k.left) (Outside f k.lent s.call k.left) → eqb e c ≡ false
        → (w : FrameParts) → HasParts (slot_at k.desk c) w → planes_in w k.left ≡ planes_in w k.lent
    bytes true made other w has =
        planes_kept f.parts w k.lent k.left made.others (served_clear k e f b turn s good.whole good.apart c other w has)
    bytes false out other w has = ap (planes_in w) out.buffers

    other_good : eqb e c ≡ false → KeptOf c h (slot_at k.result.desk c) k.lent.source (last_step k)
    other_good other =
        let slot = served_slot k e f b turn s good.whole c ∙ cond-false _ _ _ other in
        subst⁻¹ (λ (x : Slot). KeptOf c h x k.lent.source (last_step k)) slot
        (not_served c h k (slot_at k.desk c) before l slot (ap (tells c) s.served ∙ other) back (bands c)
        (bytes (are_lent f b k.lent) s.met other) good.kept)

    own_good : eqb e c ≡ true
        → KeptOf c (and_turned h (turned_in (slot_at k.desk c) k s.call.answer)) (slot_at k.result.desk c) k.lent.source (last_step k)
    own_good same =
        let stood : slot_at k.desk c ≡ Waiting f b
        = ap (slot_at k.desk) (sym (eqb-true e c same)) ∙ (waits k e f b turn s good.whole).slot in
        let slot = served_slot k e f b turn s good.whole c ∙ cond-true _ _ _ same in
        let a = subst (λ (x : Slot). KeptOf c h x before l) stood good.kept in
        let band = subst (λ (x : Slot). SameBand x k.lent.source before) stood (bands c) in
        subst⁻¹ (λ (x : Slot). KeptOf c (and_turned h (turned_in x k s.call.answer)) (slot_at k.result.desk c) k.lent.source (last_step k))
        stood
        ((elim (are_lent f b k.lent) as (λ t. IfLent t (Converted f b k.lent s.call k.left) (Outside f k.lent s.call k.left)
        → KeptOf c (and_turned h (cond t (called (call_in f b k s.call.answer)) (dropped (own_band b k.lent.source)) ∷ []))
        (slot_at k.result.desk c) k.lent.source (last_step k)) [
          | true ↦ λ made. has_called c f b before l k back band s.call made h a slot
          | false ↦ λ out. has_dropped c f b before l k back band h a out.buffers
              (slot ∙ ap (λ (x : FrameAnswer). after_band f x.state) out.answer)
        ]) s.met)

    served_Good : Good c (noted c (step k) h) k.result.desk k.lent.source (last_step k)
    served_Good = record {
      whole = served_Whole k e f b turn s good.whole;
      apart = served_Apart k e f b turn s good.whole good.apart;
      kept = subst⁻¹ (λ (x : Option Served). KeptOf c (and_served c k x h) (slot_at k.result.desk c) k.lent.source (last_step k)) s.served
          ((elim (eqb e c) as (λ t. eqb e c ≡ t
          → KeptOf c (cond t (and_turned h (turned_in (slot_at k.desk c) k s.call.answer)) h)
          (slot_at k.result.desk c) k.lent.source (last_step k)) [
            | true ↦ own_good
            | false ↦ other_good
          ]) refl);
    }

  step-Good : (n : Option Turn) → next_waiting k.desk.places k.desk.from ≡ n → Stepped n k
      → Good c (noted c (step k) h) k.result.desk k.lent.source (last_step k)
  step-Good None turn s = nothing_Good s
  step-Good (Some t) turn s = served_Good t.camera t.frame t.band turn s

Good-after : (c : ℕ) (ks : List DeskCall) (h : History) (d : Desk) (source : List ℕ) (l : LastStep) → Good c h d source l → AllMet ks → HandedOn d ks
    → AsLeft l source ks → Good c (history_of c h ks) (desk_after d ks) (source_after source ks) (last_of l ks)
Good-after c [] h d source l good met hand back = good
Good-after c (opening k ∷ ks) h d source l good met hand back =
    Good-after c ks (noted c (opening k) h) k.result.desk source l
    (open_Good c h source l k (subst⁻¹ (λ (x : Desk). Good c h x source l) hand.0 good) met.0) met.1 hand.1 back
Good-after c (offering k now ∷ ks) h d source l good met hand back =
    Good-after c ks (noted c (offering k now) h) k.result.desk now l
    (offer_Good c h source now l k (subst⁻¹ (λ (x : Desk). Good c h x source l) hand.0 good) met.0 back.0) met.1 hand.1 back.1
Good-after c (step k ∷ ks) h d source l good met hand back =
    Good-after c ks (noted c (step k) h) k.result.desk k.lent.source (last_step k)
    (step-Good c h source l k (subst⁻¹ (λ (x : Desk). Good c h x source l) hand.0 good) back.0 back.1.0
    (next_waiting k.desk.places k.desk.from) refl met.0) met.1 hand.1 back.1.1

fresh-Good : (c : ℕ) → Good c no_frame fresh [] no_step
fresh-Good c = record {
  whole = refl;
  apart = λ a b v w other x y. absurd (subst (λ (s : Slot). HasParts s v) (fresh_free a) x);
  kept = fresh_free c;
}

kept_Isolated : (c : ℕ) (h : History) (s : Slot) (source : List ℕ) (l : LastStep) → KeptOf c h s source l → Isolated c h s source l
kept_Isolated c no_frame s source l k = k
kept_Isolated c (since d w ts os) s source l k = record {
  opened = k.opened;
  met = k.met;
  chained = k.chained;
  own = k.own;
  rows = k.rows;
  planes = k.planes;
}

pub isolation : Isolation
isolation c calls met hand back =
    kept_Isolated c (history_of c no_frame calls) (slot_at (desk_after fresh calls) c) (source_after [] calls) (last_of no_step calls)
    (Good-after c calls no_frame fresh [] no_step (fresh-Good c) met hand back).kept
