-- Whose turn it is: that of a camera with a band waiting, and a waiting camera is reached before those that are asked after it.
-- Assumes nothing.
use Prim.Native.Nat.{ℕ, zero, suc, ◌+◌, ◌-◌, ◌≤◌, ◌<◌}
use mathlib.Core.Path.{◌≡◌, refl, sym, ap, subst, ◌∙◌}
use mathlib.Core.Bool.{true, false, true≢false}
use mathlib.Core.List.{List}
use native.Mathlib.Omega.{arith}
use Rattle.desk_places.specs.declared.OpenFrame.{OpenFrame}
use Rattle.desk_places.specs.declared.WaitingBand.{WaitingBand}
use Rattle.desk_places.specs.declared.Slot.{Slot}
use Rattle.desk_places.specs.declared.Slot.TheVariants.{Free, Idle, Waiting}
use Rattle.desk_places.specs.declared.Turn.{Turn}
use Rattle.desk_places.specs.Places.{slot_in, is_waiting, asked, turn_of, first_waiting, next_waiting, its_turn}
use Rattle.std.specs.Prelude.{Option, None, Some}

-- one camera is asked
pub ask : (ps : List Slot) (from i n : ℕ)
    → first_waiting ps from i (suc n) ≡ turn_of (asked from i) (slot_in ps (asked from i)) (first_waiting ps from (i + 1) n)
unfolding first_waiting
ask ps from i n = refl

pub none_left : (ps : List Slot) (from i : ℕ) {n : ℕ} → n ≡ 0 → first_waiting ps from i n ≡ None
unfolding first_waiting
none_left ps from i e = rw e

module _ (ps : List Slot) (from i : ℕ) {at : ℕ} (less : i < 32) (is : at ≡ asked from i) where
  asked_next : first_waiting ps from i (32 - i) ≡ turn_of at (slot_in ps at) (first_waiting ps from (i + 1) (32 - (i + 1)))
  asked_next =
      let n : 32 - i ≡ suc (32 - (i + 1)) = omega arith in
      rw (n, is) (ask ps from i (32 - (i + 1)))

  pub found : {f : OpenFrame} {b : WaitingBand} {t : Option Turn} → slot_in ps at ≡ Waiting f b → first_waiting ps from i (32 - i) ≡ t → its_turn at f b ≡ t
  found e inv = sym (rw e at asked_next) ∙ inv

  pub passed : {t : Option Turn} → ((n : Option Turn) → turn_of at (slot_in ps at) n ≡ n) → first_waiting ps from i (32 - i) ≡ t
      → first_waiting ps from (i + 1) (32 - (i + 1)) ≡ t
  passed skip inv = sym (asked_next ∙ skip _) ∙ inv

-- a camera with no band waiting has no turn
pub skipped : (at : ℕ) (s : Slot) → is_waiting s ≡ false → (n : Option Turn) → turn_of at s n ≡ n
skipped at Free e n = refl
skipped at (Idle f) e n = refl
skipped at (Waiting f b) e n = absurd (true≢false e)

-- ---- a turn is that of a waiting camera

pub record Waits (ps : List Slot) (c : ℕ) (f : OpenFrame) (b : WaitingBand) : Type 0 where
  pub below : c < 32
  pub slot : slot_in ps c ≡ Waiting f b

abbrev IsTurn : List Slot → Option Turn → Type 0
IsTurn ps None = Unit {0}
IsTurn ps (Some t) = Waits ps t.camera t.frame t.band

asked_waits : (ps : List Slot) (from i : ℕ) (n : Option Turn) (s : Slot) → slot_in ps (asked from i) ≡ s → IsTurn ps n
    → IsTurn ps (turn_of (asked from i) s n)
asked_waits ps from i n Free e t = t
asked_waits ps from i n (Idle f) e t = t
asked_waits ps from i n (Waiting f b) e t = record { below = omega arith; slot = e }

first_waits : (ps : List Slot) (from i n : ℕ) → IsTurn ps (first_waiting ps from i n)
first_waits ps from i zero = rw (none_left ps from i refl) tt
first_waits ps from i (suc n) = rw (ask ps from i n) (asked_waits ps from i _ (slot_in ps (asked from i)) refl (first_waits ps from (i + 1) n))

pub turn_Waits : (ps : List Slot) (from : ℕ) {c : ℕ} {f : OpenFrame} {b : WaitingBand} → its_turn c f b ≡ next_waiting ps from → Waits ps c f b
unfolding next_waiting
turn_Waits ps from e = subst (IsTurn ps) (sym e) (first_waits ps from 0 32)

-- ---- a waiting camera is reached

-- the turn is that of the camera asked after p others, or of one asked before it
pub record Reached (from p : ℕ) (t : Option Turn) : Type 0 where
  pub k : ℕ
  pub near : k ≤ p
  pub frame : OpenFrame
  pub band : WaitingBand
  pub turn : t ≡ its_turn (asked from k) frame band

asked-Reached : (from i p : ℕ) (n : Option Turn) → i ≤ p → (s : Slot) → (is_waiting s ≡ false → Reached from p n) → Reached from p (turn_of (asked from i) s n)
asked-Reached from i p n l Free later = later refl
asked-Reached from i p n l (Idle f) later = later refl
asked-Reached from i p n l (Waiting f b) later = record { k = i; near = l; frame = f; band = b; turn = refl }

module _ (ps : List Slot) (from p : ℕ) (w : is_waiting (slot_in ps (asked from p)) ≡ true) where
  one_asked : (i n : ℕ) → i ≤ p → p < i + suc n → (i + 1 ≤ p → p < i + 1 + n → Reached from p (first_waiting ps from (i + 1) n))
      → Reached from p (first_waiting ps from i (suc n))
  one_asked i n l m later =
      rw (ask ps from i n) (asked-Reached from i p (first_waiting ps from (i + 1) n) l (slot_in ps (asked from i)) (λ no.
      let other : i ≡ p → ⊥ = λ e. true≢false (sym w ∙ ap (λ (j : ℕ). is_waiting (slot_in ps (asked from j))) (sym e) ∙ no) in
      later (omega arith) (omega arith)))

  first_Reached : (i n : ℕ) → i ≤ p → p < i + n → Reached from p (first_waiting ps from i n)
  first_Reached i zero l m = absurd (omega arith)
  first_Reached i (suc n) l m = one_asked i n l m (first_Reached (i + 1) n)

pub next_Reached : (ps : List Slot) (from p : ℕ) → p < 32 → is_waiting (slot_in ps (asked from p)) ≡ true → Reached from p (next_waiting ps from)
unfolding next_waiting
next_Reached ps from p l w = first_Reached ps from p w 0 32 (omega arith) l
