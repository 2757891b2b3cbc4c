-- The size of a file, and where it fits. Assumes nothing.
use Prim.Native.Nat.{ℕ, ◌*◌, ◌/◌, ◌^◌, ◌≤◌, ◌<◌}
use mathlib.Core.Path.{◌≡◌}
use native.Mathlib.Nat.{mul-le-mul, mul-div-le}
use native.Mathlib.Omega.{arith}
use borrow.Author.Tests.{lt-ltb}
use Rattle.yuv_support.specs.declared.YuvChromaSubsampling.{YuvChromaSubsampling}
use Rattle.yuv_support.specs.declared.YuvChromaSubsampling.TheVariants.{Yuv420, Yuv422}
use Rattle.yuv_support.specs.Sampling.{chroma_width, chroma_height}
use Rattle.y4m_file.specs.Check.{plane_bytes}
use Rattle.y4m_writer.specs.Writing.{in_word}

height_some : (s : YuvChromaSubsampling) (h : ℕ) → 1 ≤ h → 1 ≤ chroma_height s h
height_some Yuv420 h k = omega arith
height_some Yuv422 h k = k

-- a picture has three bytes at least
pub plane_least : (s : YuvChromaSubsampling) (w h : ℕ) → 1 ≤ w → 1 ≤ h → 3 ≤ plane_bytes s w h
unfolding plane_bytes
plane_least s w h hw hh =
    let luma : 1 * 1 ≤ w * h = mul-le-mul {n₁ = 1} {m₁ = 1} {n₂ = w} {m₂ = h} hw hh in
    let wide : 1 ≤ chroma_width w = omega arith in
    let chroma : 1 * 1 ≤ chroma_width w * chroma_height s h
    = mul-le-mul {n₁ = 1} {m₁ = 1} {n₂ = chroma_width w} {m₂ = chroma_height s h} wide (height_some s h hh) in
    omega arith

pub count_most : (n size : ℕ) → 3 ≤ n → 3 * (size / n) ≤ size
count_most n size h =
    let few : 3 * (size / n) ≤ n * (size / n) = mul-le-mul {n₁ = 3} {m₁ = size / n} {n₂ = n} {m₂ = size / n} h (omega arith) in
    let whole : n * (size / n) ≤ size = mul-div-le size n in
    omega arith

pub fits : (size : ℕ) → size < 2 ^ 64 → in_word size ≡ size
fits size h = rw (lt-ltb size (2 ^ 64) h)
