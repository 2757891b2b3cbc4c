-- Luma and chroma of one colour: docs/RULES.md, chapter 5.
-- Assumes nothing.
use Rattle.std.specs.Prelude.{ℕ, ◌+◌, ◌*◌, ◌/◌, cond, ℤ, pos, negsuc, nat_abs, ◌+ℤ◌, ◌*ℤ◌}
use Rattle.std.specs.Int.Signed.{lt_z}
use Rattle.yuv_support.specs.Range.{yuv_range}
use Rattle.forward_transform.specs.declared.CbCrForwardTransform.{CbCrForwardTransform}
use Rattle.built_coefficients.specs.Built.{forward_transform}
use Rattle.definitions.specs.declared.YuvSettings.{YuvSettings}

-- RULES 1.1: the division rounds down, below zero too
abbrev pub floor_div : ℤ → ℕ → ℤ
floor_div (pos a) d = pos (a / d)
floor_div (negsuc a) d = negsuc (a / d)

-- RULES 5.1, 5.2: floor(sum / 8,192), for any triple of weights and any offset
unfoldable pub weigh : (wr wg wb : ℤ) (offset r g b : ℕ) → ℤ
weigh wr wg wb offset r g b =
    floor_div (pos r *ℤ wr +ℤ pos g *ℤ wg +ℤ pos b *ℤ wb +ℤ pos (offset * 8192 + 4095)) 8192

-- RULES 5.1, 5.2: at most hi; no sum of an accepted matrix is negative, so the size of z is z
abbrev pub at_most : (hi : ℕ) → ℤ → ℕ
at_most hi z = cond (lt_z (pos hi) z) hi (nat_abs z)

-- RULES 5.2: at least lo and at most hi
abbrev pub held_between : (lo hi : ℕ) → ℤ → ℕ
held_between lo hi z = cond (lt_z z (pos lo)) lo (at_most hi z)

-- RULES 4.1, 4.3: the weights of a frame
abbrev pub weights_of : YuvSettings → CbCrForwardTransform ℤ
weights_of s = forward_transform s.range s.matrix

-- RULES 1.4: by
abbrev pub bias_y : YuvSettings → ℕ
bias_y s = (yuv_range s.range).bias_y

-- RULES 1.4: by + ry
abbrev pub cap_y : YuvSettings → ℕ
cap_y s = bias_y s + (yuv_range s.range).range_y

-- RULES 1.4: by + ruv
abbrev pub cap_uv : YuvSettings → ℕ
cap_uv s = bias_y s + (yuv_range s.range).range_uv

-- RULES 5.1
unfoldable pub luma_of : YuvSettings → (r g b : ℕ) → ℕ
luma_of s r g b = at_most (cap_y s) (weigh (weights_of s).yr (weights_of s).yg (weights_of s).yb (bias_y s) r g b)

-- RULES 5.2
unfoldable pub cb_of : YuvSettings → (r g b : ℕ) → ℕ
cb_of s r g b = held_between (bias_y s) (cap_uv s) (weigh (weights_of s).cb_r (weights_of s).cb_g (weights_of s).cb_b 128 r g b)

-- RULES 5.2
unfoldable pub cr_of : YuvSettings → (r g b : ℕ) → ℕ
cr_of s r g b = held_between (bias_y s) (cap_uv s) (weigh (weights_of s).cr_r (weights_of s).cr_g (weights_of s).cr_b 128 r g b)
