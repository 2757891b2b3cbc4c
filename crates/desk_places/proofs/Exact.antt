-- Whose turn it is, exactly: of the cameras asked either none has a band waiting, or the first that has one stands behind so many that have none.
-- Assumes nothing.
use Prim.Native.Nat.{ℕ, zero, suc, ◌+◌, ◌-◌, ◌%◌, ◌≤◌, ◌<◌}
use mathlib.Core.Path.{◌≡◌, refl, sym, ap, subst, ◌∙◌}
use mathlib.Core.Bool.{Bool, true, false, true≢false}
use mathlib.Core.List.{List}
use native.Mathlib.Omega.{arith}
use borrow.Author.Tests.{eqb-true, eqb-false, ltb-true, ltb-false}
use lib.Dec.{eqb, ltb}
use Rattle.desk_places.specs.declared.OpenFrame.{OpenFrame}
use Rattle.desk_places.specs.declared.WaitingBand.{WaitingBand}
use Rattle.desk_places.specs.declared.Slot.{Slot}
use Rattle.desk_places.specs.declared.Slot.TheVariants.{Free, Idle, Waiting}
use Rattle.desk_places.specs.declared.Turn.{Turn}
use Rattle.desk_places.specs.Places.{slot_in, is_waiting, asked, turn_of, first_waiting, next_waiting, its_turn}
use Rattle.desk_places.specs.Means.{IsNext, TurnIsExact}
use Rattle.desk_places.proofs.NextTurn.{ask, none_left}
use Rattle.std.specs.Prelude.{Option, None, Some}

module _ (ps : List Slot) (from : ℕ) where
  -- the camera asked after k others has no band waiting
  abbrev Passed : ℕ → Type 0
  Passed k = is_waiting (slot_in ps (asked from k)) ≡ false

  record FirstAt (i n c : ℕ) (f : OpenFrame) (b : WaitingBand) : Type 0 where
    pub k : ℕ
    pub least : i ≤ k
    pub most : k < i + n
    pub place : asked from k ≡ c
    pub waits : slot_in ps c ≡ Waiting f b
    pub others : (j : ℕ) → i ≤ j → j < k → Passed j

  abbrev IsFirst : (i n : ℕ) → Option Turn → Type 0
  IsFirst i n None = (k : ℕ) → i ≤ k → k < i + n → Passed k
  IsFirst i n (Some t) = FirstAt i n t.camera t.frame t.band

  -- of the next, or of those after it
  or_later : (i : ℕ) → Passed i → (k : ℕ) → i ≤ k → (i + 1 ≤ k → Passed k) → Passed k
  or_later i p k l later = (elim (eqb k i) as (λ t. eqb k i ≡ t → Passed k) [
    | true ↦ λ e. subst Passed (sym (eqb-true k i e)) p
    | false ↦ λ e. later (omega (arith, eqb-false k i e))
  ]) refl

  Passed-one : (i n : ℕ) → Passed i → (t : Option Turn) → IsFirst (i + 1) n t → IsFirst i (suc n) t
  Passed-one i n p None none = λ k l m. or_later i p k l (λ z. none k z (omega arith))
  Passed-one i n p (Some t) z = record {
    k = z.k;
    least = omega (arith, z.least);
    most = omega (arith, z.most);
    place = z.place;
    waits = z.waits;
    others = λ j l m. or_later i p j l (λ x. z.others j x m);
  }

  one_asked : (i n : ℕ) (s : Slot) → slot_in ps (asked from i) ≡ s → (t : Option Turn) → IsFirst (i + 1) n t → IsFirst i (suc n) (turn_of (asked from i) s t)
  one_asked i n Free e t z = Passed-one i n (ap is_waiting e) t z
  one_asked i n (Idle f) e t z = Passed-one i n (ap is_waiting e) t z
  one_asked i n (Waiting f b) e t z = record {
    k = i;
    least = omega arith;
    most = omega arith;
    place = refl;
    waits = e;
    others = λ j l m. absurd (omega arith);
  }

  first_is : (i n : ℕ) → IsFirst i n (first_waiting ps from i n)
  first_is i zero = subst (IsFirst i 0) (sym (none_left ps from i refl)) (λ k l m. absurd (omega arith))
  first_is i (suc n) =
      subst (IsFirst i (suc n)) (sym (ask ps from i n))
      (one_asked i n (slot_in ps (asked from i)) refl (first_waiting ps from (i + 1) n) (first_is (i + 1) n))

  next_is : IsFirst 0 32 (next_waiting ps from)
  unfolding next_waiting
  next_is = first_is 0 32

  is_next : (c : ℕ) (f : OpenFrame) (b : WaitingBand) → next_waiting ps from ≡ its_turn c f b → IsNext ps from c f b
  is_next c f b e =
      let z = subst (IsFirst 0 32) e next_is in
      record { before = z.k; few = omega (arith, z.most); place = z.place; waits = z.waits; others = λ i l. z.others i (omega arith) l }

  -- the same camera, where both are first
  same_turn : (c : ℕ) (f : OpenFrame) (b : WaitingBand) → IsNext ps from c f b → (t : Option Turn) → IsFirst 0 32 t → t ≡ its_turn c f b
  same_turn c f b z None none =
      absurd (true≢false (sym (ap is_waiting (ap (slot_in ps) z.place ∙ z.waits)) ∙ none z.before (omega arith) (omega (arith, z.few))))
  same_turn c f b z (Some x) y = by_order (ltb z.before y.k) refl
    where
      at_z : is_waiting (slot_in ps (asked from z.before)) ≡ true
      at_z = ap is_waiting (ap (slot_in ps) z.place ∙ z.waits)

      at_y : is_waiting (slot_in ps (asked from y.k)) ≡ true
      at_y = ap is_waiting (ap (slot_in ps) y.place ∙ y.waits)

      equal : z.before ≡ y.k → its_turn x.camera x.frame x.band ≡ its_turn c f b
      equal is =
          let here : c ≡ x.camera = sym z.place ∙ ap (asked from) is ∙ y.place in
          let slots = sym y.waits ∙ ap (slot_in ps) (sym here) ∙ z.waits in
          ap (λ (s : Slot). turn_of x.camera s None) slots ∙ ap (λ (i : ℕ). its_turn i f b) (sym here)

      by_order : (t : Bool) → ltb z.before y.k ≡ t → its_turn x.camera x.frame x.band ≡ its_turn c f b
      by_order true l = absurd (true≢false (sym at_z ∙ y.others z.before (omega arith) (ltb-true z.before y.k l)))
      by_order false l = by_rest (ltb y.k z.before) refl
        where
          by_rest : (t : Bool) → ltb y.k z.before ≡ t → its_turn x.camera x.frame x.band ≡ its_turn c f b
          by_rest true m = absurd (true≢false (sym at_y ∙ z.others y.k (ltb-true y.k z.before m)))
          by_rest false m = equal (omega (arith, ltb-false z.before y.k l, ltb-false y.k z.before m))

  none_waits : next_waiting ps from ≡ None → (c : ℕ) → c < 32 → is_waiting (slot_in ps c) ≡ false
  none_waits e c l =
      let z = subst (IsFirst 0 32) e next_is in
      let there : asked from ((c + 32 - from % 32) % 32) ≡ c = omega (arith, l) in
      subst (λ (x : ℕ). is_waiting (slot_in ps x) ≡ false) there (z ((c + 32 - from % 32) % 32) (omega arith) (omega arith))

  nobody_next : ((c : ℕ) → c < 32 → is_waiting (slot_in ps c) ≡ false) → (t : Option Turn) → IsFirst 0 32 t → t ≡ None
  nobody_next none None z = refl
  nobody_next none (Some t) z =
      let below : t.camera < 32 = subst (λ (x : ℕ). x < 32) z.place (omega arith) in
      absurd (true≢false (sym (ap is_waiting z.waits) ∙ none t.camera below))

pub turn_is_exact : TurnIsExact
turn_is_exact = record {
  next = λ ps from c f b. (is_next ps from c f b, λ z. same_turn ps from c f b z (next_waiting ps from) (next_is ps from));
  nobody = λ ps from. (none_waits ps from, λ none. nobody_next ps from none (next_waiting ps from) (next_is ps from));
}
