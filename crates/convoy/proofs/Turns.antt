-- A call on a frame's parts answers the first condition of the frame that holds: parts that lie inside have the lengths that are given.
-- Assumes nothing.
use Prim.Native.Nat.{ℕ}
use mathlib.Core.Path.{◌≡◌, refl, ap, ◌∙◌}
use mathlib.Core.Bool.{Bool, true}
use mathlib.Core.List.{List, ◌∷◌}
use Rattle.yuv_error.specs.declared.YuvError.{YuvError}
use Rattle.yuv_error.specs.declared.Lengths.{Lengths}
use Rattle.yuv_error.specs.Lent.{lengths_of}
use Rattle.yuv_error.specs.Numbers.{numbers_of}
use Rattle.yuv_error.specs.Rules.{rule, first_numbers}
use Rattle.yuv_error.specs.Lowest.{in_order}
use Rattle.buffer_parts.specs.Parts.{part_of}
use Rattle.buffer_parts.proofs.Parts.{part_length}
use Rattle.convoy_parts.specs.declared.ConvoyFrame.{ConvoyFrame}
use Rattle.convoy.specs.Run.{Planes, parts_of, SinglePost, CallPost}
use Rattle.convoy.specs.Turn.{single_rules, turn_rules}
use Rattle.convoy.specs.Called.{FrameInside}
use Rattle.convoy.proofs.Lists.{sizes_of}
use Rattle.std.specs.Prelude.{Option, None, Some, Result}
use Rattle.definitions.specs.declared.FrameDescription.{FrameDescription}

single_answered : (d : Option FrameDescription) (stride : ℕ) (source : List ℕ) (p : Planes) (a : Result Unit YuvError) (q : Planes) → SinglePost d stride source p a q
    → numbers_of a ≡ first_numbers (single_rules d stride (lengths_of source p.y p.u p.v))
single_answered None stride source p a q post = ap numbers_of post.0
single_answered (Some d) stride source p a q post = post.answered

pub call_answered : (f : ConvoyFrame) (source : List ℕ) (p : Planes) (a : Result Unit YuvError) (left : Planes) → FrameInside f (sizes_of source p)
    → CallPost f source p a left → numbers_of a ≡ first_numbers (turn_rules f)
call_answered f source p a left inside post =
    single_answered f.described f.stride (part_of f.source source) (parts_of f p) a left post
    ∙ ap (λ (n : Lengths). first_numbers (single_rules f.described f.stride n)) sizes
  where
    sizes : lengths_of (part_of f.source source) (part_of f.y p.y) (part_of f.u p.u) (part_of f.v p.v)
        ≡ record { source = f.source.length; y = f.y.length; u = f.u.length; v = f.v.length }
    sizes = rw (
      part_length f.source source inside.source,
      part_length f.y p.y inside.y,
      part_length f.u p.u inside.u,
      part_length f.v p.v inside.v,
    )

-- the conditions stand in order, with 18 before them
pub single_in_order : (b : Bool) (d : Option FrameDescription) (stride : ℕ) (n : Lengths) → in_order 0 (rule 18 b 0 0 ∷ single_rules d stride n) ≡ true
single_in_order b None stride n = refl
single_in_order b (Some d) stride n = refl

pub turn_in_order : (d : Option FrameDescription) (stride : ℕ) (n : Lengths) → in_order 0 (single_rules d stride n) ≡ true
turn_in_order None stride n = refl
turn_in_order (Some d) stride n = refl
