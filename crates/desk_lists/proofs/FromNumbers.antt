-- Calls that came as numbers are calls of a desk: each left in the arrays the desk that it handed back, and told its answer.
-- Assumes nothing.
use Prim.Native.Nat.{ℕ, ◌+◌, ◌*◌, ◌<◌}
use mathlib.Core.Path.{◌≡◌, refl, sym, ap, subst, ◌∙◌}
use mathlib.Core.Bool.{Bool, true, false, cond, ◌&&◌, ◌||◌}
use mathlib.Core.List.{List, [], ◌∷◌, ◌++◌}
use native.Mathlib.Omega.{arith}
use borrow.Author.Tests.{eqb-true, eqb-false}
use lib.Dec.{eqb}
use lib.ListN.{get_or, drop}
use lib.Seq.{get_or-take, get_or-drop}
use Rattle.yuv_error.specs.declared.YuvError.{YuvError}
use Rattle.std.specs.Prelude.{Result, Ok, Err, Option, None, Some}
use Rattle.yuv_error.specs.Numbers.{Numbers, numbers, numbers_of, answer_of}
use Rattle.yuv_error.specs.Rules.{Rule, rule, first_numbers}
use Rattle.yuv_error.specs.Lent.{opening_rules}
use Rattle.yuv_error.proofs.Numbers.{found}
use Rattle.yuv_error.proofs.First.{numbered, first_append}
use Rattle.call_numbers.specs.Codes.{at, description_of, is_malformed}
use Rattle.desk_places.specs.declared.Slot.TheVariants.{Free, Idle}
use Rattle.desk_places.specs.Places.{is_waiting, offered}
use Rattle.desk.specs.declared.Desk.{Desk}
use Rattle.desk.specs.declared.Served.{Served}
use Rattle.desk.specs.DeskCall.{fresh, slot_at, number_rules, part_rules, open_call, opened_frame, OpenPost, offer_rules, OfferPost, StepPost, served_by, DeskAnswer, StepAnswer}
use Rattle.std.proofs.lemmas.List.FromFn.{get_or-map-range_with_len}
use Rattle.desk_numbers.specs.Numbers.{DeskNumbers, of_camera, place_of, desk_of, fresh_numbers}
use Rattle.desk_numbers.proofs.Decoded.{Sized, fresh_Sized, fresh_desk}
use Rattle.desk_calls.specs.Calls.{ExportedDeskOpen, parts_of, lengths_of, DeskOpenKept}
use Rattle.desk_calls.specs.Calls.{ExportedDeskOffer, band_given, offer_with, DeskOfferKept, ExportedDeskStep, served_numbers, served_told, step_with, DeskStepKept}
use Rattle.desk_calls.proofs.Below.{opened_below, offered_below}
use Rattle.desk_calls.proofs.Handed.{Are, answer_handed, step_handed}
use Rattle.desk_lists.specs.DeskLists.{DeskCall, opening, offering, step, AllMet, HandedOn, desk_after, steps_in, tells}
use Rattle.desk_lists.specs.DeskLists as lists
use Rattle.desk_lists.specs.Isolation.{no_step, last_of, no_frame, history_of, OwnRows}
use Rattle.desk_lists.specs.FromNumbers.{NumberedCall, open_numbers, offer_numbers, step_numbers, AllKept, after, NumbersHandedOn, numbers_after}
use Rattle.desk_lists.specs.FromNumbers.{answer_told, handed, as_opening, as_offering, served_in, as_step, as_calls, NumbersAreCalls}
use Rattle.desk_lists.specs.FromNumbers.{steps_of, told_in, NumberedFairness, NumberedPlanes}
use Rattle.yuv_error.proofs.Plain.{alone}
use Rattle.desk_lists.proofs.Fairness.{fairness}
use Rattle.desk_lists.proofs.OwnBands.{planes_of_own_bands}

told_is : (a : Result Unit YuvError) {number : ℕ} {told : List ℕ} → number ≡ (numbers_of a).number → told ≡ (numbers_of a).expected ∷ (numbers_of a).received ∷ []
    → answer_told number told ≡ a
told_is a is says = (λ i. answer_told (is i) (says i)) ∙ found a

-- ---- an opening that was not refused with 1

-- 1 was not the first: then it is no matter whether the numbers had a meaning
skip_1 : (b : Bool) (xs ys : List Rule) (x : Numbers) → numbered xs ≡ true → x ≡ first_numbers (xs ++ rule 1 b 0 0 ∷ ys)
    → (x.number ≡ 1 → ⊥) → x ≡ first_numbers (xs ++ ys)
skip_1 b xs ys x n is other = go (eqb (first_numbers xs).number 0) refl b is
  where
    go : (t : Bool) → eqb (first_numbers xs).number 0 ≡ t → (b : Bool) → x ≡ first_numbers (xs ++ rule 1 b 0 0 ∷ ys) → x ≡ first_numbers (xs ++ ys)
    go false e b is =
        is ∙ first_append xs (rule 1 b 0 0 ∷ ys) n ∙ ap (λ (t : Bool). cond t (first_numbers (rule 1 b 0 0 ∷ ys)) (first_numbers xs)) e
        ∙ sym (first_append xs ys n ∙ ap (λ (t : Bool). cond t (first_numbers ys) (first_numbers xs)) e)
    go true e false is =
        is ∙ first_append xs (rule 1 false 0 0 ∷ ys) n ∙ sym (first_append xs ys n)
    go true e true is =
        absurd (other (ap (λ (y : Numbers). y.number) (is ∙ first_append xs (rule 1 true 0 0 ∷ ys) n
        ∙ ap (λ (t : Bool). cond t (numbers 1 0 0) (first_numbers xs)) e)))

module _ (k : ExportedDeskOpen) (p : DeskOpenKept k) (sized : Sized k.before) where
  opened : Are k.after p.result.desk
  opened =
      subst (λ (n : DeskNumbers). Are n p.result.desk) (sym p.after)
      (answer_handed k.before k.camera (Idle (opened_frame (description_of k.described k.custom) (parts_of k.parts))) p.result sized
      (opened_below _ _ _ _ _ _ _ p.opened) p.opened.desk)

  result_is : handed k.after (answer_told k.number k.told) ≡ p.result
  result_is = λ i. let r : DeskAnswer = record { desk = opened.desk i; answer = told_is p.result.answer p.number p.told i } in r

  open_met : (k.number ≡ 1 → ⊥) → OpenPost (as_opening k)
  open_met other =
      let ps = (desk_of k.before).places in
      let w = parts_of k.parts in
      let n = lengths_of k.lengths in
      let d = description_of k.described k.custom in
      subst (λ (r : DeskAnswer). OpenPost (open_call (desk_of k.before) k.camera d w n r)) (sym result_is)
      (record {
        answered = skip_1 (is_malformed 0 k.described) (number_rules ps k.camera ++ part_rules ps w n) (opening_rules d) (numbers_of p.result.answer)
            refl p.opened.answered (λ e. other (p.number ∙ e));
        desk = p.opened.desk;
      })

  -- refused with 1, it left the arrays as they were
  open_passed : k.number ≡ 1 → desk_of k.after ≡ desk_of k.before
  open_passed is = go p.result.answer refl
    where
      go : (a : Result Unit YuvError) → p.result.answer ≡ a → desk_of k.after ≡ desk_of k.before
      go (Ok done) e = let z : ◌≡◌ {A = ℕ} 0 1 = rw (← is) (sym (p.number ∙ ap (λ (a : Result Unit YuvError). (numbers_of a).number) e)) in absurd (omega arith)
      go (Err x) e = ap desk_of (p.after ∙ rw e)

-- ---- an offer

-- 21, 22 and 18 carry no sizes
offer_told : (k : ExportedDeskOffer) (p : DeskOfferKept k) → answer_of (numbers k.number 0 0) ≡ p.result.answer
offer_told k p =
    let rs = offer_rules (offer_with k p.result) in
    ap answer_of (alone rs p.result.answer (refl, (refl, (refl, (refl, tt)))) p.number p.offered.answered ∙ sym p.offered.answered)
    ∙ found p.result.answer

module _ (k : ExportedDeskOffer) (p : DeskOfferKept k) (sized : Sized k.before) where
  offer_handed : Are k.after p.result.desk
  offer_handed =
      subst (λ (n : DeskNumbers). Are n p.result.desk) (sym p.after)
      (answer_handed k.before k.camera (offered (slot_at (desk_of k.before) k.camera) (band_given k.band k.place)) p.result sized
      (offered_below (offer_with k p.result) p.offered) p.offered.desk)

  offer_met : OfferPost (as_offering k)
  offer_met =
      subst (λ (r : DeskAnswer). OfferPost (offer_with k r))
      (sym (λ i. let r : DeskAnswer = record { desk = offer_handed.desk i; answer = offer_told k p i } in r)) p.offered

-- ---- a step

served_is : (s : Option Served) {number : ℕ} {told : List ℕ} → number ≡ (served_numbers s).number
    → told ≡ (served_numbers s).expected ∷ (served_numbers s).received ∷ served_told s → served_in number told ≡ s
served_is None is says = rw says
served_is (Some s) is says = (λ i. served_in (is i) (says i)) ∙ ap (served_by s.camera) (found s.answer)

module _ (k : ExportedDeskStep) (p : DeskStepKept k) (sized : Sized k.before) where
  stepped : Are k.after p.result.desk
  stepped =
      subst (λ (n : DeskNumbers). Are n p.result.desk) (sym p.after)
      (step_handed k.before k.lent p.result k.left sized p.stepped)

  step_met : StepPost (as_step k)
  step_met =
      subst (λ (r : StepAnswer). StepPost (step_with k r))
      (sym (λ i. let r : StepAnswer = record { desk = stepped.desk i; served = served_is p.result.served p.number p.told i } in r)) p.stepped

-- ---- a list of calls

pub record From (n : DeskNumbers) (ks : List NumberedCall) : Type 0 where
  pub met : AllMet (as_calls ks)
  pub handed_on : HandedOn (desk_of n) (as_calls ks)
  pub desk : desk_after (desk_of n) (as_calls ks) ≡ desk_of (numbers_after n ks)

pub from : (n : DeskNumbers) (ks : List NumberedCall) → Sized n → AllKept ks → NumbersHandedOn n ks → From n ks
from n [] sized kept hand = record { met = tt; handed_on = tt; desk = refl }
from n (open_numbers k ∷ ks) sized kept hand =
    let own = subst Sized (sym hand.0) sized in
    let rest = from k.after ks (opened k kept.0 own).sized kept.1 hand.1 in
    go rest (eqb k.number 1) refl
  where
    own : Sized k.before
    own = subst Sized (sym hand.0) sized

    go : From k.after ks → (b : Bool) → eqb k.number 1 ≡ b → From n (open_numbers k ∷ ks)
    go rest true e =
        let passed = open_passed k kept.0 own (eqb-true _ _ e) ∙ ap desk_of hand.0 in
        record {
          met = rw e rest.met;
          handed_on = rw e (subst (λ (d : Desk). HandedOn d (as_calls ks)) passed rest.handed_on);
          desk = rw e (subst (λ (d : Desk). desk_after d (as_calls ks) ≡ desk_of (numbers_after k.after ks)) passed rest.desk);
        }
    go rest false e = record {
      met = rw e (open_met k kept.0 own (eqb-false _ _ e), rest.met);
      handed_on = rw e (ap desk_of hand.0, rest.handed_on);
      desk = rw e rest.desk;
    }
from n (offer_numbers k source ∷ ks) sized kept hand =
    let own = subst Sized (sym hand.0) sized in
    let rest = from k.after ks (offer_handed k kept.0 own).sized kept.1 hand.1 in
    record { met = (offer_met k kept.0 own, rest.met); handed_on = (ap desk_of hand.0, rest.handed_on); desk = rest.desk }
from n (step_numbers k ∷ ks) sized kept hand =
    let own = subst Sized (sym hand.0) sized in
    let rest = from k.after ks (stepped k kept.0 own).sized kept.1 hand.1 in
    record { met = (step_met k kept.0 own, rest.met); handed_on = (ap desk_of hand.0, rest.handed_on); desk = rest.desk }

pub numbers_are_calls : NumbersAreCalls
numbers_are_calls ks kept hand =
    let f = from fresh_numbers ks fresh_Sized kept hand in
    record {
      met = f.met;
      handed_on = subst (λ (d : Desk). HandedOn d (as_calls ks)) fresh_desk f.handed_on;
      desk = subst (λ (d : Desk). desk_after d (as_calls ks) ≡ desk_of (numbers_after fresh_numbers ks)) fresh_desk f.desk;
    }

-- ---- the claims, by the numbers

kept_before : (xs ys : List NumberedCall) → AllKept (xs ++ ys) → AllKept xs × AllKept ys
kept_before [] ys kept = (tt, kept)
kept_before (x ∷ xs) ys kept = let r = kept_before xs ys kept.1 in ((kept.0, r.0), r.1)

handed_before : (n : DeskNumbers) (xs ys : List NumberedCall) → NumbersHandedOn n (xs ++ ys) → NumbersHandedOn n xs
handed_before n [] ys hand = tt
handed_before n (x ∷ xs) ys hand = (hand.0, handed_before (after x) xs ys hand.1)

-- the calls of two lists, one after the other
both_lists : (xs ys : List NumberedCall) → as_calls (xs ++ ys) ≡ as_calls xs ++ as_calls ys
both_lists [] ys = refl
both_lists (open_numbers k ∷ xs) ys = go (eqb k.number 1) (both_lists xs ys)
  where
    go : (b : Bool) → as_calls (xs ++ ys) ≡ as_calls xs ++ as_calls ys
        → cond b (as_calls (xs ++ ys)) (opening (as_opening k) ∷ as_calls (xs ++ ys)) ≡ cond b (as_calls xs) (opening (as_opening k) ∷ as_calls xs) ++ as_calls ys
    go true e = e
    go false e = ap (λ (l : List DeskCall). opening (as_opening k) ∷ l) e
both_lists (offer_numbers k source ∷ xs) ys = ap (λ (l : List DeskCall). offering (as_offering k) source ∷ l) (both_lists xs ys)
both_lists (step_numbers k ∷ xs) ys = ap (λ (l : List DeskCall). step (as_step k) ∷ l) (both_lists xs ys)

steps_are : (ks : List NumberedCall) → steps_in (as_calls ks) ≡ steps_of ks
steps_are [] = refl
steps_are (open_numbers k ∷ ks) = go (eqb k.number 1) (steps_are ks)
  where
    go : (b : Bool) → steps_in (as_calls ks) ≡ steps_of ks → steps_in (cond b (as_calls ks) (opening (as_opening k) ∷ as_calls ks)) ≡ steps_of ks
    go true e = e
    go false e = e
steps_are (offer_numbers k source ∷ ks) = steps_are ks
steps_are (step_numbers k ∷ ks) = ap (λ (n : ℕ). n + 1) (steps_are ks)

tells_told : (c number : ℕ) (told : List ℕ) → tells c (served_in number told) ≡ eqb (at told 2) 1 && eqb (at told 3) c
tells_told c number told = go (eqb (at told 2) 1)
  where
    go : (b : Bool) → tells c (cond b (served_by (at told 3) (answer_told number told)) None) ≡ b && eqb (at told 3) c
    go true = refl
    go false = refl

told_are : (c : ℕ) (ks : List NumberedCall) → lists.served_in c (as_calls ks) ≡ told_in c ks
told_are c [] = refl
told_are c (open_numbers k ∷ ks) = go (eqb k.number 1) (told_are c ks)
  where
    go : (b : Bool) → lists.served_in c (as_calls ks) ≡ told_in c ks
        → lists.served_in c (cond b (as_calls ks) (opening (as_opening k) ∷ as_calls ks)) ≡ told_in c ks
    go true e = e
    go false e = e
told_are c (offer_numbers k source ∷ ks) = told_are c ks
told_are c (step_numbers k ∷ ks) = λ i. tells_told c k.number k.told i || told_are c ks i

-- a camera whose first number is 2 has a band that waits
waits : (n : DeskNumbers) (c : ℕ) → c < 32 → at n.numbers (19 * c) ≡ 2 → is_waiting (slot_at (desk_of n) c) ≡ true
unfolding desk_of place_of
waits n c below is =
    let place = get_or-map-range_with_len (place_of n) 0 32 c c Free below (let e : 0 + c ≡ c = omega arith in e) in
    let first : at (of_camera 19 n.numbers c) 0 ≡ 2 =
    get_or-take 19 (drop (19 * c) n.numbers) 0 0 (omega arith) ∙ get_or-drop (19 * c) n.numbers 0 0
    ∙ ap (λ (i : ℕ). get_or n.numbers i 0) (let e : 19 * c + 0 ≡ 19 * c = omega arith in e) ∙ is in
    ap is_waiting place ∙ rw first

pub numbered_fairness : NumberedFairness
numbered_fairness c earlier later kept hand below two steps =
    let all = numbers_are_calls (earlier ++ later) kept hand in
    let e = numbers_are_calls earlier (kept_before earlier later kept).0 (handed_before fresh_numbers earlier later hand) in
    let joined = both_lists earlier later in
    sym (told_are c later)
    ∙ fairness c (as_calls earlier) (as_calls later) (subst AllMet joined all.met) (subst (HandedOn fresh) joined all.handed_on)
    (ap (λ (d : Desk). is_waiting (slot_at d c)) e.desk ∙ waits (numbers_after fresh_numbers earlier) c below two) (steps_are later ∙ steps)

pub numbered_planes : NumberedPlanes
numbered_planes c ks kept hand left =
    let all = numbers_are_calls ks kept hand in
    subst (λ (d : Desk). OwnRows c (history_of c no_frame (as_calls ks)) (slot_at d c) (last_of no_step (as_calls ks))) all.desk
    (planes_of_own_bands c (as_calls ks) all.met all.handed_on left)
