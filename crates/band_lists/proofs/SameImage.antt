-- A frame call with the tally's rows is one of an image that begins with them. A plane keeps the bytes that are not written.
-- Assumes nothing.
use Prim.Native.Nat.{ℕ, ◌+◌}
use mathlib.Core.Path.{◌≡◌, ap, subst, ◌∙◌}
use mathlib.Core.List.{List, []}
use lib.ListN.{length, get_or}
use Rattle.definitions.specs.Row.{pixels_of}
use Rattle.definitions.specs.declared.FrameDescription.{FrameDescription}
use Rattle.definitions.specs.Image.{Image, row_bytes, source_image, frame_image}
use Rattle.definitions.specs.Plane.{PlaneIs}
use Rattle.definitions.specs.Bands.{Sharpened}
use Rattle.yuv_error.specs.Known.{PlanesLent}
use Rattle.sharp_rgba_to_yuv.specs.FrameCall.{FrameCall, frame_call, FramePost}
use Rattle.sharp_rgba_to_yuv.specs.Same.{elsewhere}
use Rattle.sharp_rgba_to_yuv.proofs.Accepted.{call_Accepted}
use Rattle.band_lists.specs.BandLists.{Tally, SameRows, OthersEqual}
use Rattle.band_lists.proofs.Tally.{Begins}

-- the opening's size and settings, the frame call's window and strides
abbrev alike : FrameDescription → FrameCall → FrameDescription
alike d f = elsewhere d f.frame.window f.frame.y_stride f.frame.u_stride f.frame.v_stride

abbrev pub image_in : FrameDescription → FrameCall → Image
image_in d f = frame_image (alike d f) f.stride f.source

-- the call with a description of its own
abbrev of : FrameCall → FrameDescription → FrameCall
of f e = frame_call e f.stride f.source f.y f.u f.v f.answer f.y' f.u' f.v'

module _ {d : FrameDescription} {t : Tally} {f : FrameCall} (same : SameRows d t f) where
  is_alike : f.frame ≡ alike d f
  is_alike = λ i. record {
    width = same.width i;
    height = same.height i;
    window = f.frame.window;
    settings = same.settings i;
    y_stride = f.frame.y_stride;
    u_stride = f.frame.u_stride;
    v_stride = f.frame.v_stride;
  }

  met : FramePost (of f (alike d f))
  met = subst (λ (e : FrameDescription). FramePost (of f e)) is_alike same.met

  pub frame_planes : Sharpened (alike d f) 0 d.height (image_in d f) f.y f.u f.v f.y' f.u' f.v'
  unfolding source_image
  frame_planes = rw same.accepted at met.planes

  pub frame_lent : PlanesLent (alike d f) (length f.y) (length f.u) (length f.v)
  frame_lent = (call_Accepted (of f (alike d f)) same.accepted met).lent.planes

  pub frame_Begins : Begins d t (image_in d f)
  unfolding source_image
  frame_Begins r l =
      ap (pixels_of _) (subst (λ (e : FrameDescription). row_bytes e f.stride f.source (f.frame.window.top + r) ≡ get_or t.rows r []) is_alike
      (same.rows r l))

pub others_equal : {from to stride n : ℕ} {f : ℕ → ℕ → ℕ} {x x' : List ℕ} → from ≡ 0 → PlaneIs from to stride n f x x' → OthersEqual to n stride x' x
others_equal start p = (p.size, λ i out. p.byte i ∙ rw (start, out))
