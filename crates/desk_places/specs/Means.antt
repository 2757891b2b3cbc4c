-- What the tests of parts mean, in terms of bytes of the buffers, and what it means to be next: docs/RULES.md, 16.2 and 16.4.
-- Assumes nothing.
use Rattle.std.specs.Prelude.{ℕ, ◌<◌, ◌≡◌, true, false, List, ◌↔◌, ◌⊎◌, None}
use Rattle.buffer_parts.specs.Parts.{Inside, Overlap}
use Rattle.desk_places.specs.declared.FrameParts.{FrameParts}
use Rattle.desk_places.specs.declared.BufferLengths.{BufferLengths}
use Rattle.desk_places.specs.declared.OpenFrame.{OpenFrame}
use Rattle.desk_places.specs.declared.WaitingBand.{WaitingBand}
use Rattle.desk_places.specs.declared.Slot.{Slot}
use Rattle.desk_places.specs.declared.Slot.TheVariants.{Free, Idle, Waiting}
use Rattle.desk_places.specs.Places.{slot_in, is_waiting, are_inside, overlaps_open, asked, next_waiting, its_turn}

-- RULES 16.2: each part lies in its buffer
pub record AllInside (w : FrameParts) (n : BufferLengths) : Type 0 where
  pub y : Inside w.y n.y
  pub u : Inside w.u n.u
  pub v : Inside w.v n.v
  pub carried : Inside w.carried n.carried

-- RULES 16.2: some byte of a buffer is of both frames' parts
abbrev pub ShareByte : FrameParts → FrameParts → Type 0
ShareByte v w = Overlap v.y w.y ⊎ (Overlap v.u w.u ⊎ (Overlap v.v w.v ⊎ Overlap v.carried w.carried))

-- RULES 16.1: the frame that is open at a number
abbrev pub HasFrame : Slot → OpenFrame → Type 0
HasFrame Free f = ⊥
HasFrame (Idle g) f = g ≡ f
HasFrame (Waiting g b) f = g ≡ f

-- RULES 16.2: some byte is of the parts and of an open frame's
pub record Taken (ps : List Slot) (w : FrameParts) : Type 0 where
  pub camera : ℕ
  pub below : camera < 32
  pub frame : OpenFrame
  pub stands : HasFrame (slot_in ps camera) frame
  pub shared : ShareByte w frame.parts

-- RULES 16.2: each test says yes exactly where it is so
pub record TestsAreExact : Type 0 where
  pub inside : (w : FrameParts) (n : BufferLengths) → (are_inside w n ≡ true) ↔ AllInside w n
  pub taken : (ps : List Slot) (w : FrameParts) → (overlaps_open ps w 32 ≡ true) ↔ Taken ps w

-- RULES 16.4: camera c is the next with a band waiting: so many are asked before it, going round, and none of these has one
pub record IsNext (ps : List Slot) (from c : ℕ) (f : OpenFrame) (b : WaitingBand) : Type 0 where
  pub before : ℕ
  pub few : before < 32
  pub place : asked from before ≡ c
  pub waits : slot_in ps c ≡ Waiting f b
  pub others : (i : ℕ) → i < before → is_waiting (slot_in ps (asked from i)) ≡ false

-- RULES 16.4: it is a camera's turn exactly where it is the next, and nobody's exactly where no band waits
pub record TurnIsExact : Type 0 where
  pub next : (ps : List Slot) (from c : ℕ) (f : OpenFrame) (b : WaitingBand) → (next_waiting ps from ≡ its_turn c f b) ↔ IsNext ps from c f b
  pub nobody : (ps : List Slot) (from : ℕ) → (next_waiting ps from ≡ None) ↔ ((c : ℕ) → c < 32 → is_waiting (slot_in ps c) ≡ false)
