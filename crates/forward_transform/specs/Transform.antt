-- The forward transform of a pair kr, kb: docs/RULES.md, 4.2 to 4.5. It is `get_forward_transform` and `to_integers` of the Rust in f32, operation
-- for operation; the nine f32 numbers stand in one record until rounded.
-- Assumes nothing.
use Rattle.std.specs.Prelude.{ℕ, ℤ, pos, from_bits, Float}
use Rattle.std.specs.Float.{binary32}
use Rattle.std.specs.Float.Ieee.{mul, div, sub, neg, of_int}
use Rattle.yuv_support.specs.declared.YuvRange.{YuvRange}
use Rattle.yuv_support.specs.declared.YuvBias.{YuvBias}
use Rattle.yuv_support.specs.Range.{yuv_range}
use Rattle.forward_transform.specs.declared.CbCrForwardTransform.{CbCrForwardTransform}
use Rattle.forward_transform.specs.Rounding.{round_half_away}

-- ---- the operations of f32, each rounded to f32
-- RULES 4.2
infixl 7 ◌*f◌
abbrev pub ◌*f◌ : Float → Float → Float
x *f y = mul binary32 x y

-- RULES 4.2
infixl 7 ◌/f◌
abbrev pub ◌/f◌ : Float → Float → Float
x /f y = div binary32 x y

-- RULES 4.2
infixl 6 ◌-f◌
abbrev pub ◌-f◌ : Float → Float → Float
x -f y = sub binary32 x y

-- RULES 4.4: n as binary32
abbrev pub f32 : ℕ → Float
f32 n = of_int binary32 (pos n)

-- RULES 4.4: 1.0, by its bits
abbrev pub one : Float
one = from_bits binary32 0x3f80_0000

-- RULES 4.4: 0.5
abbrev pub half : Float
half = from_bits binary32 0x3f00_0000

-- RULES 4.5: 8192.0
abbrev pub scale : Float
scale = from_bits binary32 0x4600_0000

-- ---- `get_forward_transform`, line by line
-- RULES 4.4: each operator is one step, from the left; `range_rgba` is 255
abbrev pub coefficients : ℕ → ℕ → ℕ → Float → Float → CbCrForwardTransform Float
coefficients range_rgba range_y range_uv kr kb =
    let kg = one -f kr -f kb in
    record {
      yr = kr *f f32 range_y /f f32 range_rgba;
      yg = kg *f f32 range_y /f f32 range_rgba;
      yb = kb *f f32 range_y /f f32 range_rgba;
      cb_r = neg half *f kr /f (one -f kb) *f f32 range_uv /f f32 range_rgba;
      cb_g = neg half *f kg /f (one -f kb) *f f32 range_uv /f f32 range_rgba;
      cb_b = half *f f32 range_uv /f f32 range_rgba;
      cr_r = half *f f32 range_uv /f f32 range_rgba;
      cr_g = neg half *f kg /f (one -f kr) *f f32 range_uv /f f32 range_rgba;
      cr_b = neg half *f kb /f (one -f kr) *f f32 range_uv /f f32 range_rgba;
    }

-- ---- `to_integers`: times 8,192 in f32, rounded
-- RULES 4.5
abbrev pub weight : Float → ℤ
weight x = round_half_away (x *f scale)

-- RULES 4.5
abbrev pub to_integers : CbCrForwardTransform Float → CbCrForwardTransform ℤ
to_integers f = record {
  yr = weight f.yr;
  yg = weight f.yg;
  yb = weight f.yb;
  cb_r = weight f.cb_r;
  cb_g = weight f.cb_g;
  cb_b = weight f.cb_b;
  cr_r = weight f.cr_r;
  cr_g = weight f.cr_g;
  cr_b = weight f.cr_b;
}

-- RULES 4.4, 4.5: the nine weights of a pair in a range, at 8 bits
abbrev pub computed_weights : YuvRange → YuvBias → CbCrForwardTransform ℤ
computed_weights range bias = to_integers (coefficients 255 (yuv_range range).range_y (yuv_range range).range_uv bias.kr bias.kb)
