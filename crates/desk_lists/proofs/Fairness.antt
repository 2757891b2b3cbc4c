-- Fairness. The number of cameras to be asked before the waiting one falls with each step that does not serve it, and no other call changes it.
-- Assumes nothing.
use Prim.Native.Nat.{ℕ, ◌+◌, ◌-◌, ◌%◌, ◌<◌}
use mathlib.Core.Path.{◌≡◌, refl, sym, ap, subst, subst⁻¹, ◌∙◌}
use mathlib.Core.Bool.{true, false, or-true, true≢false}
use mathlib.Core.Logic.{◌⊎◌, inl, inr, ⊎_elim}
use mathlib.Core.List.{List, [], ◌∷◌, ◌++◌}
use native.Mathlib.Nat.{mod-add-mod}
use native.Mathlib.Omega.{arith}
use borrow.Author.Tests.{eqb-true, eqb-false, eq-eqb, ne_eqb}
use lib.Dec.{eqb}
use Rattle.std.proofs.lemmas.Bool.{cond-false}
use Rattle.desk_places.specs.declared.Slot.{Slot}
use Rattle.desk_places.specs.declared.Slot.TheVariants.{Free, Idle, Waiting}
use Rattle.desk_places.specs.declared.Turn.{Turn}
use Rattle.desk_places.specs.Places.{is_open, is_waiting, asked}
use Rattle.desk_places.proofs.NextTurn.{next_Reached}
use Rattle.desk.specs.declared.Desk.{Desk}
use Rattle.desk.specs.DeskCall.{fresh, slot_at, OpenCall, OpenPost, OfferCall, OfferPost, StepCall, Stepped, StepPost}
use Rattle.desk_lists.specs.DeskLists.{DeskCall, opening, offering, step, AllMet, handed_back, HandedOn, desk_after}
use Rattle.desk_lists.specs.DeskLists.{steps_in, tells, served_in, Fairness}
use Rattle.desk_lists.specs.Isolation.{is_finished}
use Rattle.desk_lists.proofs.Slots.{Whole, open_below, both?, is_finished_lem, opened, offered_to, open_Changed, offer_Changed}
use Rattle.desk_lists.proofs.Slots.{served_slot, served_Whole, call_Whole}
use Rattle.std.specs.Prelude.{Option}

-- the camera at p, asked from the one after that at k on
going_round : (from k p : ℕ) → k < p → (((from + k) % 32 + 1) % 32 + (p - k - 1)) % 32 ≡ (from + p) % 32
going_round from k p l =
    let e : from + k + (1 + (p - k - 1)) ≡ from + p = omega arith in
    let f : (from + k) % 32 + 1 + (p - k - 1) ≡ (from + k) % 32 + (1 + (p - k - 1)) = omega arith in
    mod-add-mod ((from + k) % 32 + 1) 32 (p - k - 1) ∙ ap (λ (n : ℕ). n % 32) f ∙ mod-add-mod (from + k) 32 (1 + (p - k - 1)) ∙ ap (λ (n : ℕ). n % 32) e

-- two of the next 32 are not the same
apart : (from k p : ℕ) → k < p → p < 32 → (from + p) % 32 ≡ (from + k) % 32 → ⊥
apart from k p l m e = omega arith

-- the camera waits, and p are asked before it
record Queued (c p : ℕ) (d : Desk) : Type 0 where
  pub whole : Whole d
  pub waiting : is_waiting (slot_at d c) ≡ true
  pub near : p < 32
  pub place : asked d.from p ≡ c

kept : {c p : ℕ} {d e : Desk} → Queued c p d → slot_at e c ≡ slot_at d c → e.from ≡ d.from → Whole e → Queued c p e
kept q slot from whole = record { whole = whole; waiting = ap is_waiting slot ∙ q.waiting; near = q.near; place = rw from q.place }

not_waiting : {c p : ℕ} {d : Desk} → Queued c p d → (s : Slot) (camera : ℕ) → eqb camera c ≡ true → slot_at d camera ≡ s → is_waiting s ≡ false → ⊥
not_waiting {c} {p} {d} q s camera same is not =
    true≢false (sym q.waiting ∙ ap (λ (x : ℕ). is_waiting (slot_at d x)) (sym (eqb-true camera c same)) ∙ ap is_waiting is ∙ not)

open_Queued : {c p : ℕ} (k : OpenCall) → Queued c p k.desk → OpenPost k → Queued c p k.result.desk
open_Queued {c} k q post =
    let e = open_Changed k q.whole post in
    both? (is_finished k.result.answer) (eqb k.camera c)
    (λ a same _. absurd (not_waiting q Free k.camera same (opened k post (is_finished_lem k.result.answer a)).free refl))
    (λ other. kept q (e.slot c ∙ cond-false _ _ _ other) e.from e.whole)

offer_Queued : {c p : ℕ} (k : OfferCall) → Queued c p k.desk → OfferPost k → Queued c p k.result.desk
offer_Queued {c} k q post =
    let e = offer_Changed k q.whole post in
    both? (is_finished k.result.answer) (eqb k.camera c)
    (λ a same _.
    let g = offered_to k post (is_finished_lem k.result.answer a) in
    absurd (not_waiting q (Idle g.frame) k.camera same g.idle refl))
    (λ other. kept q (e.slot c ∙ cond-false _ _ _ other) e.from e.whole)

step_Queued : {c p : ℕ} (k : StepCall) → Queued c p k.desk → StepPost k
    → (tells c k.result.served ≡ true) ⊎ ((n : ℕ) × ((n < p) × Queued c n k.result.desk))
step_Queued {c} {p} k q post =
    let d = k.desk in
    let t = next_Reached d.places d.from p q.near (ap (λ (x : ℕ). is_waiting (slot_at d x)) q.place ∙ q.waiting) in
    let e = asked d.from t.k in
    let s = subst (λ (n : Option Turn). Stepped n k) t.turn post in
    (elim (eqb t.k p) as (λ a. eqb t.k p ≡ a → (tells c k.result.served ≡ true) ⊎ ((n : ℕ) × ((n < p) × Queued c n k.result.desk))) [
      | true ↦ λ is. inl (ap (tells c) s.served ∙ eq-eqb e c (ap (asked d.from) (eqb-true t.k p is) ∙ q.place))
      | false ↦ λ is.
          let before : t.k < p = omega (arith, t.near, eqb-false t.k p is) in
          let other = ne_eqb e c (λ x. apart d.from t.k p before q.near (q.place ∙ sym x)) in
          let slot = served_slot k e t.frame t.band t.turn s q.whole c in
          inr (
            p - t.k - 1,
            (
              omega arith,
              record {
                whole = served_Whole k e t.frame t.band t.turn s q.whole;
                waiting = ap is_waiting (slot ∙ cond-false (eqb e c) _ _ other) ∙ q.waiting;
                near = omega (arith, q.near);
                place = ap (λ (x : Desk). asked x.from (p - t.k - 1)) s.desk ∙ going_round d.from t.k p before ∙ q.place;
              },
            ),
          )
    ]) refl

within : {c p : ℕ} {d : Desk} (ks : List DeskCall) → Queued c p d → AllMet ks → HandedOn d ks → p < steps_in ks → served_in c ks ≡ true
within [] q met hand less = absurd (omega arith)
within {c} {p} (opening k ∷ ks) q met hand less =
    within ks (open_Queued k (subst⁻¹ (Queued c p) hand.0 q) met.0) met.1 hand.1 less
within {c} {p} (offering k source ∷ ks) q met hand less =
    within ks (offer_Queued k (subst⁻¹ (Queued c p) hand.0 q) met.0) met.1 hand.1 less
within {c} {p} (step k ∷ ks) q met hand less =
    ⊎_elim
    (λ told. rw told)
    (λ (n : (m : ℕ) × ((m < p) × Queued c m k.result.desk)).
    rw (within {p = n.0} ks n.1.1 met.1 hand.1 (omega (arith, n.1.0))) (or-true (tells c k.result.served)))
    (step_Queued k (subst⁻¹ (Queued c p) hand.0 q) met.0)

-- ---- after some calls

met_after : (xs ys : List DeskCall) → AllMet (xs ++ ys) → AllMet ys
met_after [] ys met = met
met_after (x ∷ xs) ys met = met_after xs ys met.1

handed_after : (d : Desk) (xs ys : List DeskCall) → HandedOn d (xs ++ ys) → HandedOn (desk_after d xs) ys
handed_after d [] ys hand = hand
handed_after d (x ∷ xs) ys hand = handed_after (handed_back x) xs ys hand.1

Whole-after : (d : Desk) (xs ys : List DeskCall) → Whole d → AllMet (xs ++ ys) → HandedOn d (xs ++ ys) → Whole (desk_after d xs)
Whole-after d [] ys w met hand = w
Whole-after d (x ∷ xs) ys w met hand = Whole-after (handed_back x) xs ys (call_Whole x (subst⁻¹ Whole hand.0 w) met.0) met.1 hand.1

waiting_open : (s : Slot) → is_waiting s ≡ true → is_open s ≡ true
waiting_open Free e = e
waiting_open (Idle f) e = refl
waiting_open (Waiting f b) e = refl

queued : (d : Desk) (c : ℕ) → Whole d → is_waiting (slot_at d c) ≡ true → Queued c ((c + 32 - d.from % 32) % 32) d
queued d c w waiting =
    let l = open_below d c w (waiting_open (slot_at d c) waiting) in
    record { whole = w; waiting = waiting; near = omega arith; place = omega (arith, l) }

pub fairness : Fairness
fairness c before after met hand waiting steps =
    let w = Whole-after fresh before after refl met hand in
    let q = queued (desk_after fresh before) c w waiting in
    within after q (met_after before after met) (handed_after fresh before after hand) (omega (arith, q.near, steps))
