-- What a band of rows leaves in the planes: docs/RULES.md, 8.7.
-- Assumes nothing.
use Rattle.std.specs.Prelude.{ℕ, ◌-◌, cond, List, ltb}
use Rattle.definitions.specs.Row.{pixels_of}
use Rattle.definitions.specs.declared.FrameDescription.{FrameDescription}
use Rattle.definitions.specs.declared.Band.{Band}
use Rattle.definitions.specs.Image.{Image, source_image, luma_at, cb_at, cr_at, chroma_size, finished_of}
use Rattle.definitions.specs.Plane.{PlaneIs}

-- RULES 8.7: the rows of a band itself, which starts after `done` rows of the frame
unfoldable pub own_rows : Band → (source : List ℕ) → Image
own_rows b source r = source_image b.frame b.stride source (r - b.done)

-- RULES 8.7: the image that a band sees, its own rows, and above them the carried row, three bytes a pixel
unfoldable pub band_image : Band → (source carried : List ℕ) → Image
band_image b source carried r = cond (ltb r b.done) (pixels_of 3 carried) (own_rows b source r)

-- RULES 2.4, 2.5, 8.7: the planes with the rows finished that were not after `done` rows, and are after `end`
pub record Sharpened (d : FrameDescription) (done end : ℕ) (image : Image) (y u v y' u' v' : List ℕ) : Type 0 where
  pub luma : PlaneIs done end d.y_stride d.width (luma_at d image) y y'
  pub cb : PlaneIs (finished_of d done) (finished_of d end) d.u_stride (chroma_size d) (cb_at d image) u u'
  pub cr : PlaneIs (finished_of d done) (finished_of d end) d.v_stride (chroma_size d) (cr_at d image) v v'
