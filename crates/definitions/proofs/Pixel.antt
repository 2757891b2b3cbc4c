-- Luma and chroma with weights of an accepted matrix: the sum is not negative, and the hold leaves its 8,192nd as it is.
-- Assumes nothing.
use Prim.Native.Nat.{ℕ, ◌+◌, ◌*◌, ◌-◌, ◌/◌, ◌<◌}
use mathlib.Core.Path.{◌≡◌}
use borrow.Author.Tests.{le-ltb}
use lib.IntN.{ℤ}
use Rattle.forward_transform.specs.Shape.{Shape, chroma_top}
use Rattle.forward_transform.proofs.Sums.{Floored, luma_bias, chroma_bias, luma_sum, cb_sum, cr_sum}
use Rattle.definitions.specs.declared.YuvSettings.{YuvSettings}
use Rattle.definitions.specs.Pixel.{floor_div, weigh, at_most, held_between, weights_of, luma_of, cb_of, cr_of}

pub at_most_is : {lo hi n : ℕ} {z : ℤ} → Floored lo hi n z → at_most hi (floor_div z 8192) ≡ n / 8192
at_most_is {lo} {hi} {n} f = rw f.is (rw (le-ltb hi (n / 8192) f.most))

pub held_is : {lo hi n : ℕ} {z : ℤ} → Floored lo hi n z → held_between lo hi (floor_div z 8192) ≡ n / 8192
held_is {lo} {hi} {n} f = rw f.is (rw (le-ltb (n / 8192) lo f.least, le-ltb hi (n / 8192) f.most))

module _ (s : YuvSettings) (p : Shape s.range (weights_of s)) (r g b : ℕ) (hr : r < 256) (hg : g < 256) (hb : b < 256) where
  pub luma_is : luma_of s r g b ≡ (r * p.luma_r + g * p.luma_g + b * p.luma_b + luma_bias s.range) / 8192
  unfolding luma_of weigh
  luma_is = at_most_is (luma_sum p r g b hr hg hb)

  pub cb_is : cb_of s r g b ≡ (b * chroma_top s.range + chroma_bias - (r * p.cb_r_size + g * p.cb_g_size)) / 8192
  unfolding cb_of weigh
  cb_is = held_is (cb_sum p r g b hr hg hb)

  pub cr_is : cr_of s r g b ≡ (r * chroma_top s.range + chroma_bias - (g * p.cr_g_size + b * p.cr_b_size)) / 8192
  unfolding cr_of weigh
  cr_is = held_is (cr_sum p r g b hr hg hb)
