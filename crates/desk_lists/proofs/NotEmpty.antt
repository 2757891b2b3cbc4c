-- The claims speak of something. Whatever is asked of a desk, in whatever order and with whatever buffers, there are calls that keep every promise,
-- hand the desk on and bring the buffers back as left.
-- Assumes nothing.
use Prim.Native.Nat.{ℕ}
use mathlib.Core.Path.{◌≡◌, refl, ap, subst, subst⁻¹, ◌∙◌}
use mathlib.Core.Bool.{Bool, true, false, cond, ◌&&◌, true≢false}
use mathlib.Core.List.{List, [], ◌∷◌}
use lib.Dec.{eqb}
use lib.ListN.{length}
use Rattle.std.specs.Prelude.{Result, Option, None, Some}
use Rattle.yuv_error.specs.declared.YuvError.{YuvError}
use Rattle.yuv_error.specs.Numbers.{answer_of}
use Rattle.yuv_error.specs.Rules.{first_numbers}
use Rattle.definitions.specs.declared.FrameDescription.{FrameDescription}
use Rattle.desk_places.specs.declared.FrameParts.{FrameParts}
use Rattle.desk_places.specs.declared.BufferLengths.{BufferLengths}
use Rattle.desk_places.specs.declared.WaitingBand.{WaitingBand}
use Rattle.desk_places.specs.declared.OpenFrame.{OpenFrame}
use Rattle.desk_places.specs.declared.Slot.{Slot}
use Rattle.desk_places.specs.declared.Slot.TheVariants.{Free, Idle, Waiting}
use Rattle.desk_places.specs.declared.Turn.{Turn}
use Rattle.desk_places.specs.Places.{is_waiting, offered, next_waiting}
use Rattle.desk_bands.specs.Buffers.{Buffers}
use Rattle.desk.specs.declared.Desk.{Desk}
use Rattle.desk.specs.DeskCall.{fresh, slot_at, put_slot, left_by, OpenCall, open_call, open_rules, opened_frame, OfferCall, offer_call, offer_rules, served_by, StepAnswer}
use Rattle.desk.specs.DeskCall.{step_call, served_desk, Stepped}
use Rattle.desk_lists.specs.DeskLists.{DeskCall, opening, offering, step, AllMet, handed_back, HandedOn}
use Rattle.desk_lists.specs.Isolation.{LastStep, no_step, last_step, SamePlanes, PlanesBack, SameBand, AsLeft, is_finished}
use Rattle.desk_lists.proofs.Slots.{Whole, fresh_free, open_Changed}
use Rattle.desk_lists.proofs.CanServe.{Sayable, said, serve_answer, serve_left, served}

-- what is asked of a desk
pub data Ask : Type 0 where
  to_open : (camera : ℕ) → FrameDescription → FrameParts → BufferLengths → Ask
  to_offer : (camera : ℕ) → WaitingBand → Ask
  to_step : Ask

-- ---- a call that keeps its promise

abbrev pub open_answer : Desk → (camera : ℕ) → FrameDescription → FrameParts → BufferLengths → Result Unit YuvError
open_answer d c frame w n = answer_of (first_numbers (open_rules (open_call d c frame w n (record { desk = d; answer = answer_of (first_numbers []) }))))

abbrev pub offer_answer : Desk → (camera : ℕ) → WaitingBand → (len : ℕ) → Result Unit YuvError
offer_answer d c b n = answer_of (first_numbers (offer_rules (offer_call d c b n (record { desk = d; answer = answer_of (first_numbers []) }))))

abbrev pub step_answer : Option Turn → Desk → Buffers → StepAnswer
step_answer None d p = record { desk = d; served = None }
step_answer (Some t) d p = record { desk = served_desk d t.camera t.frame (serve_answer t.frame t.band p).state; served = served_by t.camera (serve_answer t.frame t.band p).answer }

abbrev pub step_left : Option Turn → Buffers → Buffers
step_left None p = p
step_left (Some t) p = serve_left t.frame t.band p

abbrev pub answered : Desk → Buffers → Ask → DeskCall
answered d p (to_open c frame w n) =
    let a = open_answer d c frame w n in
    opening (open_call d c frame w n (record { desk = left_by a (put_slot d c (Idle (opened_frame frame w))) d; answer = a }))
answered d p (to_offer c b) =
    let a = offer_answer d c b (length p.source) in
    offering (offer_call d c b (length p.source) (record { desk = left_by a (put_slot d c (offered (slot_at d c) b)) d; answer = a })) p.source
answered d p to_step =
    let n = next_waiting d.places d.from in
    step (step_call d p (step_answer n d p) (step_left n p))

abbrev pub buffers_after : Desk → Buffers → Ask → Buffers
buffers_after d p (to_open c frame w n) = p
buffers_after d p (to_offer c b) = p
buffers_after d p to_step = step_left (next_waiting d.places d.from) p

abbrev pub run : Desk → Buffers → List Ask → List DeskCall
run d p [] = []
run d p (a ∷ asks) = answered d p a ∷ run (handed_back (answered d p a)) (buffers_after d p a) asks

step_met : (n : Option Turn) (d : Desk) (p : Buffers) → Stepped n (step_call d p (step_answer n d p) (step_left n p))
step_met None d p = record { served = refl; desk = refl; buffers = refl }
step_met (Some t) d p = record { call = serve_answer t.frame t.band p; met = (served t.frame t.band p).met; served = refl; desk = refl }

open_Sayable : (k : OpenCall) → Sayable (open_rules k)
open_Sayable k = (refl, (refl, (refl, (refl, (refl, (refl, (refl, (refl, (refl, tt)))))))))

offer_Sayable : (k : OfferCall) → Sayable (offer_rules k)
offer_Sayable k = (refl, (refl, (refl, (refl, tt))))

pub run_met : (d : Desk) (p : Buffers) (asks : List Ask) → AllMet (run d p asks)
run_met d p [] = tt
run_met d p (to_open c frame w n ∷ asks) =
    let k = open_call d c frame w n (record { desk = d; answer = answer_of (first_numbers []) }) in
    (record { answered = said (open_rules k) (open_Sayable k); desk = refl }, run_met (handed_back (answered d p (to_open c frame w n))) p asks)
run_met d p (to_offer c b ∷ asks) =
    let k = offer_call d c b (length p.source) (record { desk = d; answer = answer_of (first_numbers []) }) in
    (record { answered = said (offer_rules k) (offer_Sayable k); desk = refl }, run_met (handed_back (answered d p (to_offer c b))) p asks)
run_met d p (to_step ∷ asks) = (step_met (next_waiting d.places d.from) d p, run_met (handed_back (answered d p to_step)) (buffers_after d p to_step) asks)

pub run_handed : (d : Desk) (p : Buffers) (asks : List Ask) → HandedOn d (run d p asks)
run_handed d p [] = tt
run_handed d p (to_open c frame w n ∷ asks) = (refl, run_handed (handed_back (answered d p (to_open c frame w n))) p asks)
run_handed d p (to_offer c b ∷ asks) = (refl, run_handed (handed_back (answered d p (to_offer c b))) p asks)
run_handed d p (to_step ∷ asks) = (refl, run_handed (handed_back (answered d p to_step)) (buffers_after d p to_step) asks)

-- ---- the buffers come back as left

same_planes : (s : Slot) (p : Buffers) → SamePlanes s p p
same_planes Free p = tt
same_planes (Idle f) p = refl
same_planes (Waiting f b) p = refl

pub same_band : (s : Slot) (x : List ℕ) → SameBand s x x
same_band Free x = tt
same_band (Idle f) x = tt
same_band (Waiting f b) x = refl

step_source : (n : Option Turn) (p : Buffers) → (step_left n p).source ≡ p.source
step_source None p = refl
step_source (Some t) p = (served t.frame t.band p).source

pub run-AsLeft : (l : LastStep) (d : Desk) (p : Buffers) (asks : List Ask) → PlanesBack l p → AsLeft l p.source (run d p asks)
run-AsLeft l d p [] back = tt
run-AsLeft l d p (to_open c frame w n ∷ asks) back = run-AsLeft l _ p asks back
run-AsLeft l d p (to_offer c b ∷ asks) back = (λ e. same_band (slot_at d e) p.source, run-AsLeft l _ p asks back)
run-AsLeft l d p (to_step ∷ asks) back =
    let n = next_waiting d.places d.from in
    let k = step_call d p (step_answer n d p) (step_left n p) in (
      back,
      (
        λ e. same_band (slot_at d e) p.source,
        subst (λ (x : List ℕ). AsLeft (last_step k) x (run k.result.desk (step_left n p) asks)) (step_source n p)
            (run-AsLeft (last_step k) k.result.desk (step_left n p) asks (λ e. same_planes (slot_at k.result.desk e) (step_left n p))),
      ),
    )

-- ---- from a desk with no frame open

-- where no band waits, it is no matter what the source was before
pub no_band : (s : Slot) (x y : List ℕ) → is_waiting s ≡ false → SameBand s x y
no_band Free x y e = tt
no_band (Idle f) x y e = tt
no_band (Waiting f b) x y e = absurd (true≢false e)

still_none : (t : Bool) (f : OpenFrame) (s : Slot) → is_waiting s ≡ false → is_waiting (cond t (Idle f) s) ≡ false
still_none true f s e = refl
still_none false f s e = e

any_source : (ks : List DeskCall) (l : LastStep) (d : Desk) (x y : List ℕ) → Whole d → ((c : ℕ) → is_waiting (slot_at d c) ≡ false)
    → AllMet ks → HandedOn d ks → AsLeft l x ks → AsLeft l y ks
any_source [] l d x y w none met hand left = tt
any_source (opening k ∷ ks) l d x y w none met hand left =
    let own = subst⁻¹ Whole hand.0 w in
    let e = open_Changed k own met.0 in
    any_source ks l k.result.desk x y e.whole (λ c. ap is_waiting (e.slot c)
    ∙ still_none (is_finished k.result.answer && eqb k.camera c) (opened_frame k.frame k.parts) (slot_at k.desk c) (rw hand.0 (none c))) met.1 hand.1 left
any_source (offering k source ∷ ks) l d x y w none met hand left =
    (λ c. no_band (slot_at k.desk c) source y (rw hand.0 (none c)), left.1)
any_source (step k ∷ ks) l d x y w none met hand left =
    (left.0, (λ c. no_band (slot_at k.desk c) k.lent.source y (rw hand.0 (none c)), left.1.1))

-- so for whatever is asked of a desk begun with no frame open there are calls of which isolation speaks
pub fresh-AsLeft : (p : Buffers) (asks : List Ask) → AsLeft no_step [] (run fresh p asks)
fresh-AsLeft p asks =
    any_source (run fresh p asks) no_step fresh p.source [] refl (λ c. ap is_waiting (fresh_free c)) (run_met fresh p asks) (run_handed fresh p asks)
    (run-AsLeft no_step fresh p asks tt)
