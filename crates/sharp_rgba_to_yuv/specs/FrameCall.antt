-- A frame call: what it is given, what it answers and what it leaves. docs/RULES.md, 7.8.
-- Assumes nothing.
use Rattle.std.specs.Prelude.{ℕ, ◌≡◌, List, ◌++◌, Result}
use Rattle.yuv_error.specs.declared.YuvError.{YuvError}
use Rattle.yuv_error.specs.declared.Lengths.{Lengths}
use Rattle.yuv_error.specs.Numbers.{numbers_of}
use Rattle.yuv_error.specs.Rules.{Rule, first_numbers}
use Rattle.yuv_error.specs.Lent.{lengths_of, opening_rules, lent_rules, taken}
use Rattle.definitions.specs.declared.FrameDescription.{FrameDescription}
use Rattle.definitions.specs.Image.{Image, frame_image}
use Rattle.definitions.specs.Bands.{Sharpened}

-- RULES 2.1: what a call was given, its answer, and the planes as it left them
pub record FrameCall : Type 0 where
  pub frame : FrameDescription
  pub stride : ℕ
  pub source : List ℕ
  pub y : List ℕ
  pub u : List ℕ
  pub v : List ℕ
  pub answer : Result Unit YuvError
  pub y' : List ℕ
  pub u' : List ℕ
  pub v' : List ℕ

abbrev pub frame_call : FrameDescription → (stride : ℕ) (source y u v : List ℕ) (answer : Result Unit YuvError) (y' u' v' : List ℕ) → FrameCall
frame_call d stride source y u v answer y' u' v' =
    record { frame = d; stride = stride; source = source; y = y; u = u; v = v; answer = answer; y' = y'; u' = u'; v' = v' }

-- RULES 7.8: 2, 3, 4, 14 and 6 to 12, of a frame and the lengths of what is lent
abbrev pub frame_rules : FrameDescription → (stride : ℕ) → Lengths → List Rule
frame_rules d stride n = opening_rules d ++ lent_rules d d.window.source_height stride n

-- RULES 7.8
abbrev pub rules_of : FrameCall → List Rule
rules_of k = frame_rules k.frame k.stride (lengths_of k.source k.y k.u k.v)

-- RULES 2.2, 2.6
abbrev pub image_of : FrameCall → Image
image_of k = frame_image k.frame k.stride k.source

-- RULES 7.1, 7.2, 7.8: everything of a call: its answer, and each byte of the planes
pub record FramePost (k : FrameCall) : Type 0 where
  pub answered : numbers_of k.answer ≡ first_numbers (rules_of k)
  pub planes : Sharpened k.frame 0 (taken k.answer k.frame.height) (image_of k) k.y k.u k.v k.y' k.u' k.v'

-- RULES 7.2: no byte of the planes changed
abbrev pub Unwritten : FrameCall → Type 0
Unwritten k = (k.y' ≡ k.y) × (k.u' ≡ k.u) × (k.v' ≡ k.v)
