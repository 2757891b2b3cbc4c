-- What all rows of a band need, `count` bytes a pixel. This serves contracts: no meaning stands here.
-- Assumes nothing.
use Rattle.std.specs.Prelude.{ℕ, ◌≡◌}
use Rattle.yuv_support.specs.declared.YuvChromaSubsampling.{YuvChromaSubsampling}
use Rattle.definitions.specs.declared.Band.{Band}
use Rattle.definitions.specs.Image.{pixel_size}
use Rattle.yuv_error.specs.Known.{Lent}

pub record ForRows (m : YuvChromaSubsampling) (count : ℕ) (b : Band) (source y u v : ℕ) : Type 0 where
  pub pixel : count ≡ pixel_size b.frame
  pub sampling : b.frame.settings.sampling ≡ m
  pub lent : Lent b source y u v
