-- Where a row ends, how many bytes a pixel has, and how many chroma rows there are.
-- Assumes nothing.
use Prim.Native.Nat.{ℕ, ◌+◌, ◌*◌, ◌≤◌, ◌<◌}
use mathlib.Core.Path.{◌≡◌}
use native.Mathlib.Nat.{le_refl, mul-le-mul, mul-le-mul_right, add-mul, one-mul}
use native.Mathlib.Omega.{arith}
use lib.Dec.{lit≤}
use Rattle.yuv_support.specs.declared.YuvSourceChannels.{YuvSourceChannels}
use Rattle.yuv_support.specs.declared.YuvSourceChannels.TheVariants.{Rgb, Rgba, Bgra, Bgr}
use Rattle.yuv_support.specs.declared.YuvChromaSubsampling.{YuvChromaSubsampling}
use Rattle.yuv_support.specs.declared.YuvChromaSubsampling.TheVariants.{Yuv420, Yuv422}
use Rattle.yuv_support.specs.Channels.{channels_count}
use Rattle.yuv_support.specs.Sampling.{chroma_height}

-- row i of n rows, c bytes apart, ends within them
pub row_end : (i n c : ℕ) → i < n → i * c + c ≤ n * c
row_end i n c h = omega (arith, mul-le-mul_right {m = i + 1} {n = n} c (omega arith), add-mul i 1 c, one-mul c)

pub next_row : (i c : ℕ) → (i + 1) * c ≡ i * c + c
next_row i c = omega (arith, add-mul i 1 c, one-mul c)

-- so many bytes of pixels from a column on lie in a row that reaches past the last of them
pub columns_inside : (left w n c : ℕ) → left + w ≤ n → left * c + w * c ≤ n * c
columns_inside left w n c h = omega (arith, mul-le-mul_right {m = left + w} {n = n} c h, add-mul left w c)

pub three_or_four : (c : YuvSourceChannels) → (3 ≤ channels_count c) × (channels_count c ≤ 4)
three_or_four Rgb = (lit≤ tt, lit≤ tt)
three_or_four Rgba = (lit≤ tt, lit≤ tt)
three_or_four Bgra = (lit≤ tt, lit≤ tt)
three_or_four Bgr = (lit≤ tt, lit≤ tt)

-- a row of pixels is not long
pub size_small : (w n : ℕ) → w ≤ 16384 → n ≤ 4 → w * n ≤ 65536
size_small w n h k = mul-le-mul {n₁ = w} {m₁ = n} {n₂ = 16384} {m₂ = 4} h k

pub chroma_rows : (s : YuvChromaSubsampling) (h : ℕ) → 1 ≤ h → (1 ≤ chroma_height s h) × (chroma_height s h ≤ h)
chroma_rows Yuv420 h l = (omega arith, omega arith)
chroma_rows Yuv422 h l = (l, le_refl h)
