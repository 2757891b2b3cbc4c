-- What weights of the shape of specs/Shape.antt make of three bytes: every product and sum is an i32 (`luma_fits`, `cb_fits`, `cr_fits`), no sum is
-- negative, and luma and chroma lie in a byte before they are held (`luma_sum`, `cb_sum`, `cr_sum`).
-- The idea: a product is at most 255 times its weight, and the weights of a triple are known by their sum.
-- Assumes nothing.
use Rattle.std.proofs.Common.{◌≡◌, ℕ, ◌+◌, ◌-◌, ◌*◌, ◌/◌, ◌^◌, ◌<◌, ◌≤◌, ℤ, pos, ◌+ℤ◌, ◌*ℤ◌, neg_ℤ, nat_abs, sym, ap, ◌∙◌, mul-le-mul_right, mul-le-mul, arith, w32, SFits}
use lib.IntN.{+ℤ_assoc, +ℤ_comm, neg_ℤ-+ℤ}
use Rattle.std.proofs.lemmas.Int.{unsigned_abs-mul}
use Rattle.yuv_support.specs.declared.YuvRange.{YuvRange}
use Rattle.yuv_support.specs.declared.YuvRange.TheVariants.{Limited, Full}
use Rattle.yuv_support.specs.Range.{yuv_range}
use Rattle.forward_transform.specs.declared.CbCrForwardTransform.{CbCrForwardTransform}
use Rattle.forward_transform.specs.Shape.{Shape, luma_most, chroma_top}
use Rattle.forward_transform.proofs.Signed.{fits_i32, size_neg, size_add, mul_neg, add_neg}

-- ---- the sums
abbrev pub bias : YuvRange → ℕ
bias range = (yuv_range range).bias_y

abbrev pub luma_bias : YuvRange → ℕ
luma_bias range = bias range * 8192 + 4095

abbrev pub chroma_bias : ℕ
chroma_bias = 128 * 8192 + 4095

-- three bytes weighed, and a bias
abbrev pub weighed : ℤ → ℤ → ℤ → ℕ → ℕ → ℕ → ℕ → ℤ
weighed x y z r g b bias = pos r *ℤ x +ℤ pos g *ℤ y +ℤ pos b *ℤ z +ℤ pos bias

-- an 8,192nd of n, rounded down, lies from low to high and in a byte
abbrev pub Within : ℕ → ℕ → ℕ → Type 0
Within low high n = (low ≤ n / 8192) × (n / 8192 ≤ high) × (n < 256 * 8192)

-- the sum is a number that is not negative and lies so
pub record Floored (low high value : ℕ) (sum : ℤ) : Type 0 where
  pub is : sum ≡ pos value
  pub least : low ≤ value / 8192
  pub most : value / 8192 ≤ high
  pub below : value < 256 * 8192

floored : {low high : ℕ} {sum : ℤ} (n : ℕ) → sum ≡ pos n → Within low high n → Floored low high n sum
floored n e h = record { is = e; least = h.0; most = h.1; below = h.2 }

-- each product, and each sum on the way, is an i32
pub record SumFits (x y z : ℤ) (r g b bias : ℕ) : Type 0 where
  pub red : SFits w32 (pos r *ℤ x)
  pub green : SFits w32 (pos g *ℤ y)
  pub blue : SFits w32 (pos b *ℤ z)
  pub two : SFits w32 (pos r *ℤ x +ℤ pos g *ℤ y)
  pub three : SFits w32 (pos r *ℤ x +ℤ pos g *ℤ y +ℤ pos b *ℤ z)
  pub all : SFits w32 (weighed x y z r g b bias)

-- ---- what fits: a byte times a weight of at most 8,193
product : (v : ℕ) (w : ℤ) → v < 256 → nat_abs w ≤ 8193 → nat_abs (pos v *ℤ w) ≤ 255 * 8193
product v w h k = rw (unsigned_abs-mul (pos v) w) (mul-le-mul {n₁ = v} {m₁ = nat_abs w} {n₂ = 255} {m₂ = 8193} (omega arith) k)

sum_fits : (x y z : ℤ) (r g b bias : ℕ) → nat_abs x ≤ 8193 → nat_abs y ≤ 8193 → nat_abs z ≤ 8193
    → r < 256 → g < 256 → b < 256 → bias < 2 ^ 21 → SumFits x y z r g b bias
sum_fits x y z r g b bias hx hy hz hr hg hb hk =
    let X = pos r *ℤ x in
    let Y = pos g *ℤ y in
    let Z = pos b *ℤ z in
    let X≤ = product r x hr hx in
    let Y≤ = product g y hg hy in
    let Z≤ = product b z hb hz in
    let two≤ = size_add X Y in
    let three≤ = size_add (X +ℤ Y) Z in
    let all≤ = size_add (X +ℤ Y +ℤ Z) (pos bias) in
    record {
      red = fits_i32 X (omega arith);
      green = fits_i32 Y (omega arith);
      blue = fits_i32 Z (omega arith);
      two = fits_i32 (X +ℤ Y) (omega arith);
      three = fits_i32 (X +ℤ Y +ℤ Z) (omega arith);
      all = fits_i32 (weighed x y z r g b bias) (omega arith);
    }

ends : (range : YuvRange) → (luma_most range ≤ 8193) × (chroma_top range + 1 ≤ 8193) × (luma_bias range < 2 ^ 21)
ends Limited = omega arith
ends Full = omega arith

-- ---- what the sums are: two numbers are taken away, before or after one is added
taken_first : (m n a k : ℕ) → m + n ≤ a + k → neg_ℤ (pos m) +ℤ neg_ℤ (pos n) +ℤ pos a +ℤ pos k ≡ pos (a + k - (m + n))
taken_first m n a k h =
    ap (λ (z : ℤ). z +ℤ pos a +ℤ pos k) (sym (neg_ℤ-+ℤ (pos m) (pos n)))
    ∙ +ℤ_assoc (neg_ℤ (pos (m + n))) (pos a) (pos k)
    ∙ +ℤ_comm (neg_ℤ (pos (m + n))) (pos (a + k))
    ∙ add_neg (a + k) (m + n) h

taken_last : (a m n k : ℕ) → m + n ≤ a + k → pos a +ℤ neg_ℤ (pos m) +ℤ neg_ℤ (pos n) +ℤ pos k ≡ pos (a + k - (m + n))
taken_last a m n k h =
    ap (λ (z : ℤ). z +ℤ pos k) (+ℤ_assoc (pos a) (neg_ℤ (pos m)) (neg_ℤ (pos n)) ∙ +ℤ_comm (pos a) (neg_ℤ (pos m) +ℤ neg_ℤ (pos n)))
    ∙ taken_first m n a k h

pub byte_times : (v n : ℕ) → v < 256 → v * n ≤ 255 * n
byte_times v n h = mul-le-mul_right n (omega arith)

-- n is at most 255 times the sum s of the luma weights
luma_Within : (range : YuvRange) (n s : ℕ) → n ≤ 255 * s → s ≤ luma_most range
    → Within (bias range) (bias range + (yuv_range range).range_y) (n + luma_bias range)
luma_Within Limited n s h k = omega arith
luma_Within Full n s h k = omega arith

-- a is at most 255 times the positive weight, and n at most 255 times the sum s of the negative ones
chroma_Within : (range : YuvRange) (a n s : ℕ) → a ≤ 255 * chroma_top range → n ≤ 255 * s → s ≤ chroma_top range + 1
    → (n ≤ a + chroma_bias) × Within (bias range) (bias range + (yuv_range range).range_uv) (a + chroma_bias - n)
chroma_Within Limited a n s h k l = omega arith
chroma_Within Full a n s h k l = omega arith

-- ---- a pixel of bytes r, g, b
module _ {range : YuvRange} {t : CbCrForwardTransform ℤ} (s : Shape range t) (r g b : ℕ) (hr : r < 256) (hg : g < 256) (hb : b < 256) where
  pub luma_sum : Floored (bias range) (bias range + (yuv_range range).range_y) (r * s.luma_r + g * s.luma_g + b * s.luma_b + luma_bias range)
      (weighed t.yr t.yg t.yb r g b (luma_bias range))
  luma_sum =
      let n = r * s.luma_r + g * s.luma_g + b * s.luma_b in
      let sum = s.luma_r + s.luma_g + s.luma_b in
      let n≤ : n ≤ 255 * sum = omega (arith, byte_times r s.luma_r hr, byte_times g s.luma_g hg, byte_times b s.luma_b hb) in
      floored (n + luma_bias range) (λ i. weighed (s.yr i) (s.yg i) (s.yb i) r g b (luma_bias range)) (luma_Within range n sum n≤ s.luma_most_lem)

  pub cb_sum : Floored (bias range) (bias range + (yuv_range range).range_uv) (b * chroma_top range + chroma_bias - (r * s.cb_r_size + g * s.cb_g_size))
      (weighed t.cb_r t.cb_g t.cb_b r g b chroma_bias)
  cb_sum =
      let a = b * chroma_top range in
      let n = r * s.cb_r_size + g * s.cb_g_size in
      let n≤ : n ≤ 255 * (s.cb_r_size + s.cb_g_size) = omega (arith, byte_times r s.cb_r_size hr, byte_times g s.cb_g_size hg) in
      let h = chroma_Within range a n (s.cb_r_size + s.cb_g_size) (byte_times b (chroma_top range) hb) n≤ s.cb_most in
      floored (a + chroma_bias - n)
      ((λ i. weighed (s.cb_r i) (s.cb_g i) (s.cb_b i) r g b chroma_bias)
      ∙ rw (mul_neg r s.cb_r_size, mul_neg g s.cb_g_size) (taken_first (r * s.cb_r_size) (g * s.cb_g_size) a chroma_bias h.0))
      h.1

  pub cr_sum : Floored (bias range) (bias range + (yuv_range range).range_uv) (r * chroma_top range + chroma_bias - (g * s.cr_g_size + b * s.cr_b_size))
      (weighed t.cr_r t.cr_g t.cr_b r g b chroma_bias)
  cr_sum =
      let a = r * chroma_top range in
      let n = g * s.cr_g_size + b * s.cr_b_size in
      let n≤ : n ≤ 255 * (s.cr_g_size + s.cr_b_size) = omega (arith, byte_times g s.cr_g_size hg, byte_times b s.cr_b_size hb) in
      let h = chroma_Within range a n (s.cr_g_size + s.cr_b_size) (byte_times r (chroma_top range) hr) n≤ s.cr_most in
      floored (a + chroma_bias - n)
      ((λ i. weighed (s.cr_r i) (s.cr_g i) (s.cr_b i) r g b chroma_bias)
      ∙ rw (mul_neg g s.cr_g_size, mul_neg b s.cr_b_size) (taken_last a (g * s.cr_g_size) (b * s.cr_b_size) chroma_bias h.0))
      h.1

  pub luma_fits : SumFits t.yr t.yg t.yb r g b (luma_bias range)
  luma_fits =
      let e = ends range in
      sum_fits t.yr t.yg t.yb r g b (luma_bias range)
      (omega (arith, ap nat_abs s.yr, s.luma_most_lem))
      (omega (arith, ap nat_abs s.yg, s.luma_most_lem))
      (omega (arith, ap nat_abs s.yb, s.luma_most_lem))
      hr hg hb e.2

  pub cb_fits : SumFits t.cb_r t.cb_g t.cb_b r g b chroma_bias
  cb_fits =
      let e = ends range in
      sum_fits t.cb_r t.cb_g t.cb_b r g b chroma_bias
      (omega (arith, ap nat_abs s.cb_r ∙ size_neg s.cb_r_size, s.cb_most))
      (omega (arith, ap nat_abs s.cb_g ∙ size_neg s.cb_g_size, s.cb_most))
      (omega (arith, ap nat_abs s.cb_b))
      hr hg hb (omega arith)

  pub cr_fits : SumFits t.cr_r t.cr_g t.cr_b r g b chroma_bias
  cr_fits =
      let e = ends range in
      sum_fits t.cr_r t.cr_g t.cr_b r g b chroma_bias
      (omega (arith, ap nat_abs s.cr_r))
      (omega (arith, ap nat_abs s.cr_g ∙ size_neg s.cr_g_size, s.cr_most))
      (omega (arith, ap nat_abs s.cr_b ∙ size_neg s.cr_b_size, s.cr_most))
      hr hg hb (omega arith)
