-- The bytes of a plane fit: a side has at most 16 bits. Assumes nothing.
use Prim.Native.Nat.{ℕ, ◌*◌, ◌≤◌}
use native.Mathlib.Nat.{mul-le-mul}
use native.Mathlib.Omega.{arith}
use Rattle.yuv_support.specs.declared.YuvChromaSubsampling.{YuvChromaSubsampling}
use Rattle.yuv_support.specs.declared.YuvChromaSubsampling.TheVariants.{Yuv420, Yuv422}
use Rattle.yuv_support.specs.Sampling.{chroma_width, chroma_height}

pub luma_most : (n : ℕ) {w h : ℕ} → w ≤ n → h ≤ n → w * h ≤ n * n
luma_most n a b = mul-le-mul a b

rows_most : (s : YuvChromaSubsampling) (n h : ℕ) → 1 ≤ n → h ≤ n → chroma_height s h ≤ n
rows_most Yuv420 n h o b = omega arith
rows_most Yuv422 n h o b = b

pub chroma_most : (s : YuvChromaSubsampling) (n w h : ℕ) → 1 ≤ n → w ≤ n → h ≤ n → chroma_width w * chroma_height s h ≤ n * n
chroma_most s n w h o a b = mul-le-mul {n₁ = chroma_width w} (omega arith) (rows_most s n h o b)
