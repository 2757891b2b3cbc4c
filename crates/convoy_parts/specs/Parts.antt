-- The frames of a convoy and their parts of the lent buffers, and refusal 18: docs/RULES.md, 15.2.
-- Assumes nothing.
use Rattle.std.specs.Prelude.{ℕ, ◌<◌, ◌≡◌, Bool, true, false, not, ◌||◌, None, List, [], ◌∷◌, ◌↔◌, ◌⊎◌, ltb, length, get_or}
use Rattle.std.specs.List.{list_any}
use Rattle.yuv_error.specs.declared.Lengths.{Lengths}
use Rattle.buffer_parts.specs.declared.BufferPart.{BufferPart}
use Rattle.buffer_parts.specs.Parts.{Inside, Overlap, is_inside, are_overlapping}
use Rattle.convoy_parts.specs.declared.ConvoyFrame.{ConvoyFrame}

-- RULES 15.2: what stands for a frame that was not given; no answer turns on it
abbrev pub no_frame : ConvoyFrame
no_frame = let none : BufferPart = record { offset = 0; length = 0 } in
    record { described = None; stride = 0; source = none; y = none; u = none; v = none }

-- RULES 15.2: frame k, from 0
abbrev pub frame_at : List ConvoyFrame → (k : ℕ) → ConvoyFrame
frame_at c k = get_or c k no_frame

-- RULES 15.2: a part of the frame reaches outside its buffer
abbrev pub FrameOutside : ConvoyFrame → Lengths → Type 0
FrameOutside f n =
    (Inside f.source n.source → ⊥) ⊎ (Inside f.y n.y → ⊥) ⊎ (Inside f.u n.u → ⊥) ⊎ (Inside f.v n.v → ⊥)

-- RULES 15.2: parts of two frames overlap in Y, in U or in V; source parts may overlap
abbrev pub FramesOverlap : (f g : ConvoyFrame) → Type 0
FramesOverlap f g = Overlap f.y g.y ⊎ Overlap f.u g.u ⊎ Overlap f.v g.v

-- RULES 15.2: 18: more than 64 frames are given, a part reaches outside its buffer, or plane parts of two frames overlap
pub data Broken (c : List ConvoyFrame) (n : Lengths) : Type 0 where
  too_many : 64 < length c → Broken c n
  outside : (k : ℕ) → k < length c → FrameOutside (frame_at c k) n → Broken c n
  overlapping : (j k : ℕ) → j < k → k < length c → FramesOverlap (frame_at c j) (frame_at c k) → Broken c n

-- ---- the same as a test

-- RULES 15.2
abbrev pub is_frame_outside : ConvoyFrame → Lengths → Bool
is_frame_outside f n =
    not (is_inside f.source n.source) || not (is_inside f.y n.y) || not (is_inside f.u n.u) || not (is_inside f.v n.v)

-- RULES 15.2
abbrev pub do_frames_overlap : (f g : ConvoyFrame) → Bool
do_frames_overlap f g = are_overlapping f.y g.y || are_overlapping f.u g.u || are_overlapping f.v g.v

-- RULES 15.2
abbrev pub any_outside : Lengths → List ConvoyFrame → Bool
any_outside n fs = list_any (λ (f : ConvoyFrame). is_frame_outside f n) fs

-- RULES 15.2: a frame overlaps one of those after it
abbrev pub any_overlap : List ConvoyFrame → Bool
any_overlap [] = false
any_overlap (f ∷ fs) = list_any (do_frames_overlap f) fs || any_overlap fs

-- RULES 15.2: 18
unfoldable pub broken_parts : List ConvoyFrame → Lengths → Bool
broken_parts c n = ltb 64 (length c) || (any_outside n c || any_overlap c)

-- RULES 15.2: the test says yes exactly where it is so
abbrev pub BrokenIsExact : Type 0
BrokenIsExact = (c : List ConvoyFrame) (n : Lengths) → (broken_parts c n ≡ true) ↔ Broken c n
