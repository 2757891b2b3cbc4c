-- Plane strides and the window are no part of the rows' bytes: planes of a frame elsewhere are planes of the same rows.
-- Assumes nothing.
use Prim.Native.Nat.{ℕ}
use mathlib.Core.Path.{◌≡◌, refl, ap}
use mathlib.Core.List.{List}
use Rattle.yuv_support.specs.declared.YuvChromaSubsampling.{YuvChromaSubsampling}
use Rattle.yuv_support.specs.declared.YuvChromaSubsampling.TheVariants.{Yuv420, Yuv422}
use Rattle.definitions.specs.declared.Window.{Window}
use Rattle.definitions.specs.declared.FrameDescription.{FrameDescription}
use Rattle.definitions.specs.Pixel.{cb_of, cr_of}
use Rattle.definitions.specs.Row.{of_colour, luma_row, input420, input422, cb_row, cr_row}
use Rattle.definitions.specs.Image.{Image, chroma_input, luma_at, cb_at, cr_at}
use Rattle.definitions.specs.Plane.{PlaneIs}
use Rattle.definitions.proofs.Planes.{plane_like}
use Rattle.sharp_rgba_to_yuv.specs.Same.{elsewhere}

module _ (d : FrameDescription) (o : Window) (ys us vs : ℕ) (image : Image) where
  abbrev other : FrameDescription
  other = elsewhere d o ys us vs

  same_input : (m : YuvChromaSubsampling) (k j : ℕ) → chroma_input m other image k j ≡ chroma_input m d image k j
  unfolding input420 input422
  same_input Yuv420 k j = refl
  same_input Yuv422 k j = refl

  module _ {from to stride n : ℕ} {x x' : List ℕ} where
    pub luma_strides : PlaneIs from to stride n (luma_at other image) x x' → PlaneIs from to stride n (luma_at d image) x x'
    unfolding luma_row
    luma_strides p = plane_like _ _ _ _ _ _ _ _ (λ r x _ _ _. refl) p

    pub cb_strides : PlaneIs from to stride n (cb_at other image) x x' → PlaneIs from to stride n (cb_at d image) x x'
    unfolding cb_at cb_row
    cb_strides p = plane_like _ _ _ _ _ _ _ _ (λ k j _ _ _. ap (λ (f : ℕ → ℕ). of_colour d.settings (cb_of d.settings) f)
        (same_input d.settings.sampling k j)) p

    pub cr_strides : PlaneIs from to stride n (cr_at other image) x x' → PlaneIs from to stride n (cr_at d image) x x'
    unfolding cr_at cr_row
    cr_strides p = plane_like _ _ _ _ _ _ _ _ (λ k j _ _ _. ap (λ (f : ℕ → ℕ). of_colour d.settings (cr_of d.settings) f)
        (same_input d.settings.sampling k j)) p
