-- What the parts of the conversion count on and promise. This serves the contracts of the smaller functions; the meaning stands in Request.
-- Assumes nothing.
use Rattle.std.specs.Prelude.{◌≤◌, ◌≡◌}
use Rattle.yuv_support.specs.Sampling.{chroma_width}
use Rattle.definitions.specs.declared.FrameDescription.{FrameDescription}
use Rattle.frame_request.specs.Request.{luma_size, chroma_size}

-- planes without padding, which the output holds
pub record Packed (d : FrameDescription) : Type 0 where
  pub width_least : 1 ≤ d.width
  pub width_most : d.width ≤ 16384
  pub height_least : 1 ≤ d.height
  pub height_most : d.height ≤ 16384
  pub y_stride : d.y_stride ≡ d.width
  pub u_stride : d.u_stride ≡ chroma_width d.width
  pub v_stride : d.v_stride ≡ chroma_width d.width
  pub luma_most : luma_size d ≤ 16384
  pub chroma_most : chroma_size d ≤ 16384
