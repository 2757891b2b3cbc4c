-- The shared buffers, a frame's parts of them, and a band served from them: docs/RULES.md, 16.1 and 16.4.
-- Assumes nothing.
use Rattle.std.specs.Prelude.{ℕ, ◌≡◌, Bool, true, false, not, ◌&&◌, List, ◌∷◌, length, Err}
use Rattle.yuv_error.specs.declared.YuvError.{YuvError}
use Rattle.yuv_error.specs.declared.YuvError.TheVariants.{PartsMismatch}
use Rattle.yuv_error.specs.Numbers.{numbers_of}
use Rattle.yuv_error.specs.Rules.{Rule, rule, first_numbers}
use Rattle.yuv_error.specs.Lent.{lengths_of as lengths_lent}
use Rattle.band_calls.specs.declared.FrameAnswer.{FrameAnswer}
use Rattle.band_calls.specs.BandCall.{band_rules, BandCall, band_call, BandPost}
use Rattle.buffer_parts.specs.Parts.{Inside, is_inside, part_of, Elsewhere}
use Rattle.desk_places.specs.declared.FrameParts.{FrameParts}
use Rattle.desk_places.specs.declared.BufferLengths.{BufferLengths}
use Rattle.desk_places.specs.declared.OpenFrame.{OpenFrame}
use Rattle.desk_places.specs.declared.WaitingBand.{WaitingBand}
use Rattle.desk_places.specs.Places.{are_inside}

-- RULES 16.1: one buffer for the bands, one for each plane, and one for the carried rows
pub record Buffers : Type 0 where
  pub source : List ℕ
  pub y : List ℕ
  pub u : List ℕ
  pub v : List ℕ
  pub carried : List ℕ

abbrev pub buffers_of : (source y u v carried : List ℕ) → Buffers
buffers_of source y u v carried = record { source = source; y = y; u = u; v = v; carried = carried }

-- RULES 16.1
abbrev pub lengths_of : Buffers → BufferLengths
lengths_of p = record { y = length p.y; u = length p.u; v = length p.v; carried = length p.carried }

-- RULES 16.4: the band and every part of the frame lie in the buffers now lent
abbrev pub are_lent : OpenFrame → WaitingBand → Buffers → Bool
are_lent f b p = is_inside b.source (length p.source) && are_inside f.parts (lengths_of p)

-- RULES 16.4: the same as facts
pub record AllInside (f : OpenFrame) (b : WaitingBand) (p : Buffers) : Type 0 where
  pub source : Inside b.source (length p.source)
  pub y : Inside f.parts.y (length p.y)
  pub u : Inside f.parts.u (length p.u)
  pub v : Inside f.parts.v (length p.v)
  pub carried : Inside f.parts.carried (length p.carried)

-- RULES 16.1: a frame's planes and its carried row, as they stand in the buffers
pub record FramePlanes : Type 0 where
  pub y : List ℕ
  pub u : List ℕ
  pub v : List ℕ
  pub carried : List ℕ

abbrev pub planes_in : FrameParts → Buffers → FramePlanes
planes_in w p = record { y = part_of w.y p.y; u = part_of w.u p.u; v = part_of w.v p.v; carried = part_of w.carried p.carried }

-- RULES 16.4: the band call that a step makes: the frame's state, the band, and the frame's planes in the buffers as lent and as left
abbrev pub band_call_in : OpenFrame → WaitingBand → (lent : Buffers) → FrameAnswer → (left : Buffers) → BandCall
band_call_in f b lent r left =
    let x = planes_in f.parts lent in
    let z = planes_in f.parts left in
    band_call f.state b.rows b.stride (part_of b.source lent.source) x.y x.u x.v x.carried r
    z.y z.u z.v z.carried

-- RULES 16.4: every byte in no part of the frame is as it was; the source is not written
pub record ElsewhereKept (w : FrameParts) (before after : Buffers) : Type 0 where
  pub source : after.source ≡ before.source
  pub y : Elsewhere w.y before.y after.y
  pub u : Elsewhere w.u before.u after.u
  pub v : Elsewhere w.v before.v after.v
  pub carried : Elsewhere w.carried before.carried after.carried

-- RULES 16.4: the band call on the frame's parts, kept to its own promise
pub record Converted (f : OpenFrame) (b : WaitingBand) (lent : Buffers) (r : FrameAnswer) (left : Buffers) : Type 0 where
  pub met : BandPost (band_call_in f b lent r left)
  pub others : ElsewhereKept f.parts lent left

-- RULES 16.4: 18; the state is as it was and nothing is written
pub record Outside (f : OpenFrame) (lent : Buffers) (r : FrameAnswer) (left : Buffers) : Type 0 where
  pub answer : r ≡ record { state = f.state; answer = Err PartsMismatch }
  pub buffers : left ≡ lent

-- RULES 16.4: the first where every part lies in the buffers now lent, else the second
abbrev pub IfLent : Bool → Type 0 → Type 0 → Type 0
IfLent true inside outside = inside
IfLent false inside outside = outside

-- RULES 16.4
abbrev pub ServePost : OpenFrame → WaitingBand → (lent : Buffers) → FrameAnswer → (left : Buffers) → Type 0
ServePost f b lent r left = IfLent (are_lent f b lent) (Converted f b lent r left) (Outside f lent r left)

-- RULES 16.4: the rules of a band served: 18, then the band call's own, of the frame's parts
abbrev pub serve_rules : OpenFrame → WaitingBand → (lent : Buffers) → List Rule
serve_rules f b lent =
    let x = planes_in f.parts lent in
    rule 18 (not (are_lent f b lent)) 0 0
    ∷ band_rules f.state b.rows b.stride (lengths_lent (part_of b.source lent.source) x.y x.u x.v) (length x.carried)

-- RULES 7.1, 7.2, 16.4: the answer is that of the first of these that holds, and a band that is refused changes no byte and no state
pub record ServedRight (f : OpenFrame) (b : WaitingBand) (lent : Buffers) (r : FrameAnswer) (left : Buffers) : Type 0 where
  pub answered : numbers_of r.answer ≡ first_numbers (serve_rules f b lent)
  pub refused : {e : YuvError} → r.answer ≡ Err e → (r.state ≡ f.state) × (left ≡ lent)
