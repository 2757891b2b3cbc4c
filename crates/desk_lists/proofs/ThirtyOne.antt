-- 32 steps are not too many: with a band of every camera waiting, camera 31 is not served in 31 steps. Frames with parts of no bytes overlap nothing,
-- so all 32 open; then each step serves the camera whose turn it is and passes to the next.
-- Assumes nothing.
use Prim.Native.Nat.{ℕ, zero, suc, ◌+◌, ◌≤◌, ◌<◌, min, max}
use mathlib.Core.Path.{◌≡◌, refl, sym, ap, subst, subst⁻¹, ◌∙◌}
use mathlib.Core.Bool.{Bool, true, false, true≢false}
use mathlib.Core.List.{List, [], ◌∷◌, ◌++◌}
use native.Mathlib.Omega.{arith}
use native.Mathlib.Numerals.{add-one}
use borrow.Author.Tests.{le-ltb, le-leb, eqb-false, ne_eqb}
use lib.Dec.{eqb, ltb}
use lib.ListN.{length}
use Rattle.std.proofs.lemmas.Bool.{cond-true, cond-false}
use Rattle.yuv_support.specs.declared.YuvSourceChannels.TheVariants.{Rgb}
use Rattle.yuv_support.specs.declared.YuvChromaSubsampling.TheVariants.{Yuv420}
use Rattle.yuv_support.specs.declared.YuvRange.TheVariants.{Full}
use Rattle.yuv_support.specs.declared.YuvStandardMatrix.TheVariants.{Bt601}
use Rattle.sharp_gamma.specs.declared.SharpYuvGammaTransfer.TheVariants.{Srgb}
use Rattle.sharp_gamma.specs.declared.TableRounding.TheVariants.{Truncated}
use Rattle.std.specs.Prelude.{Result, Option}
use Rattle.yuv_error.specs.declared.YuvError.{YuvError}
use Rattle.yuv_error.specs.Numbers.{numbers, answer_of}
use Rattle.yuv_error.specs.Rules.{first_numbers}
use Rattle.definitions.specs.declared.FrameDescription.{FrameDescription}
use Rattle.definitions.specs.Image.{whole_source}
use Rattle.buffer_parts.specs.declared.BufferPart.{BufferPart}
use Rattle.buffer_parts.specs.Parts.{are_overlapping, is_inside}
use Rattle.desk_places.specs.declared.FrameParts.{FrameParts}
use Rattle.desk_places.specs.declared.BufferLengths.{BufferLengths}
use Rattle.desk_places.specs.declared.OpenFrame.{OpenFrame}
use Rattle.desk_places.specs.declared.WaitingBand.{WaitingBand}
use Rattle.desk_places.specs.declared.Slot.{Slot}
use Rattle.desk_places.specs.declared.Slot.TheVariants.{Free, Idle, Waiting}
use Rattle.desk_places.specs.declared.Turn.{Turn}
use Rattle.desk_places.specs.Places.{slot_in, is_open, is_waiting, overlaps_slot, overlaps_open, offered, asked, next_waiting, after_band, its_turn}
use Rattle.desk_lists.proofs.Overlaps.{overlaps_start, overlaps_next}
use Rattle.desk_places.proofs.NextTurn.{next_Reached}
use Rattle.desk_bands.specs.Buffers.{Buffers}
use Rattle.desk.specs.declared.Desk.{Desk}
use Rattle.desk.specs.DeskCall.{fresh, slot_at, put_slot, left_by, open_call, open_rules, opened_frame, offer_call, offer_rules, DeskAnswer}
use Rattle.desk.specs.DeskCall.{StepCall, step_call, BandServed, Stepped, StepPost}
use Rattle.desk_lists.specs.DeskLists.{DeskCall, AllMet, handed_back, HandedOn, desk_after, steps_in, tells, served_in}
use Rattle.desk_lists.proofs.Slots.{Whole, put, put_whole, fresh_free, served_slot, served_Whole}
use Rattle.desk_lists.proofs.NotEmpty.{Ask, to_open, to_offer, to_step, step_answer, step_left, answered, buffers_after, run, run_met, run_handed}

-- ---- frames that take no bytes

abbrev pub tiny : FrameDescription
tiny = record {
  width = 1;
  height = 1;
  window = whole_source 1 1;
  settings = record { channels = Rgb; sampling = Yuv420; range = Full; matrix = Bt601; transfer = Srgb; rounding = Truncated };
  y_stride = 1;
  u_stride = 1;
  v_stride = 1;
}

abbrev pub no_bytes : BufferPart
no_bytes = record { offset = 0; length = 0 }

abbrev pub no_parts : FrameParts
no_parts = record { y = no_bytes; u = no_bytes; v = no_bytes; carried = no_bytes }

abbrev pub no_lengths : BufferLengths
no_lengths = record { y = 0; u = 0; v = 0; carried = 0 }

abbrev no_band : WaitingBand
no_band = record { rows = 1; stride = 3; source = no_bytes }

no_overlap : (q : BufferPart) → are_overlapping no_bytes q ≡ false
no_overlap q = le-ltb (max 0 q.offset) (min 0 (q.offset + q.length)) (omega arith)

clear_slot : (s : Slot) → overlaps_slot no_parts s ≡ false
clear_slot Free = refl
clear_slot (Idle f) = let w = f.parts in rw (no_overlap w.y, no_overlap w.u, no_overlap w.v, no_overlap w.carried)
clear_slot (Waiting f b) = let w = f.parts in rw (no_overlap w.y, no_overlap w.u, no_overlap w.v, no_overlap w.carried)

clear : (ps : List Slot) (n : ℕ) → overlaps_open ps no_parts n ≡ false
clear ps zero = overlaps_start ps no_parts
clear ps (suc n) =
    subst (λ (m : ℕ). overlaps_open ps no_parts m ≡ false) (add-one n) (overlaps_next ps no_parts n (clear_slot (slot_in ps n)) (clear ps n))

-- ---- all open, then all wait

-- what is asked of the cameras below n, the last first
abbrev opens_below : ℕ → List Ask
opens_below zero = []
opens_below (suc n) = to_open n tiny no_parts no_lengths ∷ opens_below n

abbrev offers_below : ℕ → List Ask
offers_below zero = []
offers_below (suc n) = to_offer n no_band ∷ offers_below n

abbrev steps : ℕ → List Ask
steps zero = []
steps (suc n) = to_step ∷ steps n

abbrev is_idle : Slot → Bool
is_idle Free = false
is_idle (Idle f) = true
is_idle (Waiting f b) = false

abbrev pub is_free : Slot → Bool
is_free Free = true
is_free (Idle f) = false
is_free (Waiting f b) = false

-- the cameras below n are still as they were, the others are so
record Half (old new : Slot → Bool) (n : ℕ) (d : Desk) : Type 0 where
  pub whole : Whole d
  pub from : d.from ≡ 0
  pub below : (c : ℕ) → c < n → old (slot_at d c) ≡ true
  pub above : (c : ℕ) → n ≤ c → c < 32 → new (slot_at d c) ≡ true

-- one camera more
Half-more : (old new : Slot → Bool) (n : ℕ) (d : Desk) (s : Slot) → n < 32 → new s ≡ true → Half old new (suc n) d → Half old new n (put_slot d n s)
Half-more old new n d s l is h = record {
  whole = put_whole d n s h.whole;
  from = h.from;
  below = λ c m. ap old (put d n c s h.whole l ∙ cond-false (eqb n c) s (slot_at d c) (ne_eqb n c (λ e. omega arith))) ∙ h.below c (omega arith);
  above = λ c m b. (elim (eqb n c) as (λ t. eqb n c ≡ t → new (slot_at (put_slot d n s) c) ≡ true) [
    | true ↦ λ e. ap new (put d n c s h.whole l ∙ cond-true (eqb n c) s (slot_at d c) e) ∙ is
    | false ↦ λ e. ap new (put d n c s h.whole l ∙ cond-false (eqb n c) s (slot_at d c) e) ∙ h.above c (omega (arith, eqb-false n c e)) b
  ]) refl;
}

pub open_first : (d : Desk) (n : ℕ) (r : DeskAnswer) → n < 32 → is_free (slot_at d n) ≡ true
    → first_numbers (open_rules (open_call d n tiny no_parts no_lengths r)) ≡ numbers 0 0 0
open_first d n r l free = by_tests (le-ltb 31 n (omega arith)) (closed (slot_at d n) free) (clear d.places 32)
  where
    closed : (s : Slot) → is_free s ≡ true → is_open s ≡ false
    closed Free e = refl
    closed (Idle f) e = absurd (true≢false (sym e))
    closed (Waiting f b) e = absurd (true≢false (sym e))

    by_tests : ltb 31 n ≡ false → is_open (slot_at d n) ≡ false → overlaps_open d.places no_parts 32 ≡ false
        → first_numbers (open_rules (open_call d n tiny no_parts no_lengths r)) ≡ numbers 0 0 0
    by_tests p q o = rw (p, q, o)

offer_first : (d : Desk) (n m : ℕ) (r : DeskAnswer) → n < 32 → is_idle (slot_at d n) ≡ true
    → first_numbers (offer_rules (offer_call d n no_band m r)) ≡ numbers 0 0 0
offer_first d n m r l idle =
    by_tests (le-ltb 31 n (omega arith)) (slot_open (slot_at d n) idle) (not_waiting (slot_at d n) idle) (le-leb 0 m (omega arith))
  where
    slot_open : (s : Slot) → is_idle s ≡ true → is_open s ≡ true
    slot_open Free e = e
    slot_open (Idle f) e = refl
    slot_open (Waiting f b) e = refl

    not_waiting : (s : Slot) → is_idle s ≡ true → is_waiting s ≡ false
    not_waiting Free e = refl
    not_waiting (Idle f) e = refl
    not_waiting (Waiting f b) e = absurd (true≢false (sym e))

    by_tests : ltb 31 n ≡ false → is_open (slot_at d n) ≡ true → is_waiting (slot_at d n) ≡ false → is_inside no_bytes m ≡ true
        → first_numbers (offer_rules (offer_call d n no_band m r)) ≡ numbers 0 0 0
    by_tests p q o i = rw (p, q, o, i)

waits_now : (s : Slot) → is_idle s ≡ true → is_waiting (offered s no_band) ≡ true
waits_now Free e = e
waits_now (Idle f) e = refl
waits_now (Waiting f b) e = refl

opened_all : (p : Buffers) (n : ℕ) (d : Desk) → n ≤ 32 → Half is_free is_idle n d → Half is_free is_idle 0 (desk_after d (run d p (opens_below n)))
opened_all p zero d l h = h
opened_all p (suc n) d l h =
    let r : DeskAnswer = record { desk = d; answer = answer_of (first_numbers []) } in
    let yes = ap answer_of (open_first d n r (omega arith) (h.below n (omega arith))) in
    opened_all p n (left_by (answer_of (first_numbers (open_rules (open_call d n tiny no_parts no_lengths r)))) (put_slot d n (Idle (opened_frame tiny no_parts))) d)
    (omega arith) (subst⁻¹ (λ (a : Result Unit YuvError). Half is_free is_idle n (left_by a (put_slot d n (Idle (opened_frame tiny no_parts))) d)) yes
    (Half-more is_free is_idle n d (Idle (opened_frame tiny no_parts)) (omega arith) refl h))

offered_all : (p : Buffers) (n : ℕ) (d : Desk) → n ≤ 32 → Half is_idle is_waiting n d → Half is_idle is_waiting 0 (desk_after d (run d p (offers_below n)))
offered_all p zero d l h = h
offered_all p (suc n) d l h =
    let r : DeskAnswer = record { desk = d; answer = answer_of (first_numbers []) } in
    let m = length p.source in
    let idle = h.below n (omega arith) in
    let yes = ap answer_of (offer_first d n m r (omega arith) idle) in
    let s = offered (slot_at d n) no_band in
    offered_all p n (left_by (answer_of (first_numbers (offer_rules (offer_call d n no_band m r)))) (put_slot d n s) d) (omega arith)
    (subst⁻¹ (λ (a : Result Unit YuvError). Half is_idle is_waiting n (left_by a (put_slot d n s) d)) yes
    (Half-more is_idle is_waiting n d s (omega arith) (waits_now (slot_at d n) idle) h))

-- ---- the steps

-- the cameras from i on wait, and camera i is asked first
record Next' (i : ℕ) (d : Desk) : Type 0 where
  pub whole : Whole d
  pub from : d.from ≡ i
  pub waiting : (c : ℕ) → i ≤ c → c < 32 → is_waiting (slot_at d c) ≡ true

-- camera i is served, and the turn passes on
module _ (i : ℕ) (k : StepCall) (less : i < 31) (q : Next' i k.desk) (e : ℕ) (f : OpenFrame) (b : WaitingBand) (is : e ≡ i)
    (turn : next_waiting k.desk.places k.desk.from ≡ its_turn e f b) (s : BandServed k e f b) where
  not_31 : tells 31 k.result.served ≡ false
  not_31 = ap (tells 31) s.served ∙ ne_eqb e 31 (λ x. omega arith)

  others_wait : (c : ℕ) → i + 1 ≤ c → c < 32 → is_waiting (slot_at k.result.desk c) ≡ true
  others_wait c m l =
      let same = served_slot k e f b turn s q.whole c
      ∙ cond-false (eqb e c) (after_band f s.call.state) (slot_at k.desk c) (ne_eqb e c (λ x. omega arith)) in
      ap is_waiting same ∙ q.waiting c (omega arith) l

  passes_on : Next' (i + 1) k.result.desk
  passes_on = record {
    whole = served_Whole k e f b turn s q.whole;
    from = ap (λ (x : Desk). x.from) s.desk ∙ omega (arith, is);
    waiting = others_wait;
  }

step_next : (i : ℕ) (k : StepCall) → i < 31 → Next' i k.desk → StepPost k
    → (tells 31 k.result.served ≡ false) × Next' (i + 1) k.result.desk
step_next i k l q post =
    let d = k.desk in
    let here : asked d.from 0 ≡ i = omega (arith, q.from) in
    let t = next_Reached d.places d.from 0 (omega arith)
    (ap (λ (x : ℕ). is_waiting (slot_at d x)) here ∙ q.waiting i (omega arith) (omega arith)) in
    let is : asked d.from t.k ≡ i = omega (arith, q.from, t.near) in
    let s = subst (λ (n : Option Turn). Stepped n k) t.turn post in (
      not_31 i k l q (asked d.from t.k) t.frame t.band is t.turn s,
      passes_on i k l q (asked d.from t.k) t.frame t.band is t.turn s,
    )

-- the step of a run
abbrev step_of : Desk → Buffers → StepCall
step_of d p =
    let n = next_waiting d.places d.from in
    step_call d p (step_answer n d p) (step_left n p)

not_served : (n i : ℕ) (d : Desk) (p : Buffers) → i + n ≤ 31 → Next' i d → served_in 31 (run d p (steps n)) ≡ false
not_served zero i d p l q = refl
not_served (suc n) i d p l q =
    let z = step_next i (step_of d p) (omega arith) q (run_met d p (to_step ∷ [])).0 in
    rw z.0 (not_served n (i + 1) (step_of d p).result.desk (buffers_after d p to_step) (omega arith) z.1)

counted : (n : ℕ) (d : Desk) (p : Buffers) → steps_in (run d p (steps n)) ≡ n
counted zero d p = refl
counted (suc n) d p = rw (counted n (handed_back (answered d p to_step)) (buffers_after d p to_step)) (add-one n)

-- ---- calls in a row

met_append : (xs ys : List DeskCall) → AllMet xs → AllMet ys → AllMet (xs ++ ys)
met_append [] ys a b = b
met_append (x ∷ xs) ys a b = (a.0, met_append xs ys a.1 b)

handed_append : (d : Desk) (xs ys : List DeskCall) → HandedOn d xs → HandedOn (desk_after d xs) ys → HandedOn d (xs ++ ys)
handed_append d [] ys a b = b
handed_append d (x ∷ xs) ys a b = (a.0, handed_append (handed_back x) xs ys a.1 b)

after_append : (d : Desk) (xs ys : List DeskCall) → desk_after d (xs ++ ys) ≡ desk_after (desk_after d xs) ys
after_append d [] ys = refl
after_append d (x ∷ xs) ys = after_append (handed_back x) xs ys

-- all that fairness asks, but for one step
pub record OneStepShort (c : ℕ) : Type 0 where
  pub before : List DeskCall
  pub after : List DeskCall
  pub met : AllMet (before ++ after)
  pub handed : HandedOn fresh (before ++ after)
  pub waiting : is_waiting (slot_at (desk_after fresh before) c) ≡ true
  pub short : steps_in after ≡ 31
  pub unserved : served_in c after ≡ false

pub thirty_one_are_too_few : Buffers → OneStepShort 31
thirty_one_are_too_few p =
    let opens = run fresh p (opens_below 32) in
    let d = desk_after fresh opens in
    let offers = run d p (offers_below 32) in
    let e = desk_after d offers in
    let few = run e p (steps 31) in
    let idle = opened_all p 32 fresh (omega arith)
    (record { whole = refl; from = refl; below = λ c l. ap is_free (fresh_free c); above = λ c l m. absurd (omega arith) }) in
    let ready = offered_all p 32 d (omega arith) (record {
      whole = idle.whole;
      from = idle.from;
      below = λ c l. idle.above c (omega arith) l;
      above = λ c l m. absurd (omega arith);
    }) in
    let there = after_append fresh opens offers in
    record {
      before = opens ++ offers;
      after = few;
      met = met_append (opens ++ offers) few (met_append opens offers (run_met fresh p (opens_below 32)) (run_met d p (offers_below 32)))
          (run_met e p (steps 31));
      handed = handed_append fresh (opens ++ offers) few
          (handed_append fresh opens offers (run_handed fresh p (opens_below 32)) (run_handed d p (offers_below 32)))
          (subst⁻¹ (λ (x : Desk). HandedOn x few) there (run_handed e p (steps 31)));
      waiting = ap (λ (x : Desk). is_waiting (slot_at x 31)) there ∙ ready.above 31 (omega arith) (omega arith);
      short = counted 31 e p;
      unserved = not_served 31 0 e p (omega arith)
          (record { whole = ready.whole; from = ready.from; waiting = λ c l m. ready.above c (omega arith) m });
    }
