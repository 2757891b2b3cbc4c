-- A quotient in units is next to the exact one, p / 2 d: half a number that is p / one but for its rounding, over a divisor that is d / one but for its own.
-- The idea: both are multiplied out with the exact divisor; what the divisor's rounding does to the quotient is at most its share of the quotient.
-- Assumes nothing.
use mathlib.Core.Path.{◌≡◌}
use Prim.Native.Nat.{ℕ, ◌+◌, ◌*◌, ◌^◌, ◌≤◌, ◌<◌}
use native.Mathlib.Nat.{le_of_lt, mul-le-mul_left, mul-le-mul_right, le_of_mul-le-mul_right}
use native.Mathlib.Omega.{arith}
use lib.Dec.{lit<}
use Rattle.yuv_support.specs.declared.YuvRange.{YuvRange}
use Rattle.yuv_support.specs.declared.YuvRange.TheVariants.{Limited, Full}
use Rattle.yuv_support.specs.Range.{yuv_range}
use Rattle.forward_transform.specs.Shape.{chroma_top}
use Rattle.forward_transform.proofs.Units.{per_one}
use Rattle.forward_transform.proofs.Pair.{slack}
use Rattle.exact_weights.specs.Near.{Near}
use Rattle.exact_weights.proofs.Close.{Close}

-- The half lies from lo to hi, the exact one L units about it at most; the divisor from dl to dh, the exact one `slack` about it. 1 - kb is a half at least.
pub record Halves (lo hi dl dh L p one d : ℕ) : Type 0 where
  pub number_low : p * per_one ≤ (2 * lo + L) * one
  pub number_high : 2 * hi * one ≤ p * per_one + L * one
  pub divisor_low : dh * one ≤ d * per_one + slack * one
  pub divisor_high : d * per_one ≤ (dl + slack + 1) * one
  pub divisor_least : dl * one ≤ d * per_one
  pub large : one ≤ 2 * d
  pub part : p ≤ d
  pub L≤ : L ≤ 2 ^ 17

-- what is left once every product has a name
sum_above : (A B C F K N P U : ℕ) → P ≤ 2 * B + 2 * K → B * per_one ≤ A * per_one + F * per_one + slack * C + slack * U → C ≤ per_one * N → slack * U ≤ per_one * N
    → P ≤ 2 * (A + F + K + (slack + 1) * N)
sum_above A B C F K N P U a b c d =
    let h : P * per_one ≤ 2 * (A + F + K + (slack + 1) * N) * per_one = omega arith in
    le_of_mul-le-mul_right h (lit< tt)

sum_below : (A B C E F H K N P : ℕ) → A * per_one ≤ B + (slack + 1) * C → 2 * B ≤ H * per_one + 2 * E → E ≤ F * per_one → H ≤ P + 2 * K → C ≤ per_one * N
    → 2 * A ≤ P + 2 * (F + K + (slack + 1) * N)
sum_below A B C E F H K N P a b c d e =
    let h : 2 * A * per_one ≤ (P + 2 * (F + K + (slack + 1) * N)) * per_one = omega arith in
    le_of_mul-le-mul_right h (lit< tt)

-- the quotient lies from least to most before a rounding that moves it by u, and is c halves at most
module _ (lo hi dl dh L p one d least most u c : ℕ) (h : Halves lo hi dl dh L p one d) (u≤ : u ≤ 2 ^ 15) (c≥ : 1 ≤ c)
    (low : lo * per_one ≤ (least + u + 1) * dh) (high : most * dl ≤ hi * per_one + (u + 1) * dl) (least≤ : least ≤ c * 2 ^ 39) (most≤ : most ≤ c * 2 ^ 39) where
  few : (m : ℕ) → m ≤ c * 2 ^ 39 → m * one ≤ per_one * (c * d)
  few m m≤ = omega (arith, mul-le-mul_right one m≤, mul-le-mul_left c h.large)

  L_few : L * one ≤ 2 * (L * d)
  L_few = omega (arith, mul-le-mul_left L h.large)

  above : p * per_one ≤ (least + (u + 1 + L + c * (slack + 1))) * (2 * d)
  above =
      let u' : (u + 1) * one ≤ (2 ^ 15 + 1) * one = mul-le-mul_right one (omega arith) in
      let n : d ≤ c * d = omega (arith, mul-le-mul_right d c≥) in
      let l = mul-le-mul_left (least + u + 1) h.divisor_low in
      let number : p * per_one ≤ 2 * (lo * one) + 2 * (L * d) = omega (arith, h.number_low, L_few) in
      let quotient = mul-le-mul_right one low in
      let small : slack * ((u + 1) * one) ≤ per_one * (c * d) = omega (arith, u', n, h.large) in
      let sum =
      sum_above (least * d) (lo * one) (least * one) ((u + 1) * d) (L * d) (c * d) (p * per_one) ((u + 1) * one) number (omega (arith, quotient, l))
      (few least least≤) small in
      omega (arith, sum)

  below : most * (2 * d) ≤ p * per_one + (u + 1 + L + c * (slack + 1)) * (2 * d)
  below =
      let divisor : most * d * per_one ≤ most * dl * one + (slack + 1) * (most * one) = omega (arith, mul-le-mul_left most h.divisor_high) in
      let quotient : 2 * (most * dl * one) ≤ 2 * hi * one * per_one + 2 * ((u + 1) * (dl * one)) = omega (arith, mul-le-mul_right one high) in
      let round : (u + 1) * (dl * one) ≤ (u + 1) * d * per_one = omega (arith, mul-le-mul_left (u + 1) h.divisor_least) in
      let number : 2 * hi * one ≤ p * per_one + 2 * (L * d) = omega (arith, h.number_high, L_few) in
      let sum =
      sum_below (most * d) (most * dl * one) (most * one) ((u + 1) * (dl * one)) ((u + 1) * d) (2 * hi * one) (L * d) (c * d) (p * per_one) divisor quotient
      round number (few most most≤) in
      omega (arith, sum)

  pub quotient_Close : Close (u + 1 + L + c * (slack + 1)) least most p (2 * d)
  quotient_Close = (above, below)

-- ---- Next to the top: a quotient that may be more than a half in units is one of p ≤ d that are next to each other, and its weight is that of a half.
module _ (lo hi dl dh L p one d : ℕ) (h : Halves lo hi dl dh L p one d) (over : dl < 2 * hi) where
  tops : d * per_one ≤ p * per_one + 2 ^ 19 * d
  tops = omega (arith, h.divisor_high, h.number_high, h.large, mul-le-mul_right one h.L≤, mul-le-mul_right one (le_of_lt over))

  D : 0 < one → 0 < d
  D O = omega (arith, h.large)

  pub top_units : (e least most : ℕ) → e ≤ 2 ^ 18 → 0 < one → Close e least most p (2 * d) → (per_one ≤ 2 * least + 2 ^ 21) × (2 * most ≤ per_one + 2 ^ 21)
  top_units e least most e≤ O close =
      let n = mul-le-mul_right d e≤ in
      let l : per_one * d ≤ (2 * least + 2 ^ 21) * d = omega (arith, close.0, tops, n) in
      let m : 2 * most * d ≤ (per_one + 2 ^ 21) * d = omega (arith, close.1, h.part, n) in
      (le_of_mul-le-mul_right l (D O), le_of_mul-le-mul_right m (D O))

  pub top_Near : (range : YuvRange) (bound : ℕ) → 50000 ≤ bound → Near bound (chroma_top range) (8192 * ((yuv_range range).range_uv * p)) (255 * (2 * d))
  top_Near Limited bound b = omega (arith, tops, h.part, mul-le-mul_right (255 * (2 * d)) b)
  top_Near Full bound b = omega (arith, tops, h.part, mul-le-mul_right (255 * (2 * d)) b)

pub top_size : (range : YuvRange) (size least most : ℕ) → let n = (yuv_range range).range_uv in per_one ≤ 2 * least + 2 ^ 21 → 2 * most ≤ per_one + 2 ^ 21
    → 16384 * (n * least) ≤ 510 * (size * per_one) + 255 * per_one + 2 ^ 37 → 510 * (size * per_one) ≤ 16384 * (n * most) + 255 * per_one + 2 ^ 37
    → size ≡ chroma_top range
top_size Limited size least most l m a b = omega arith
top_size Full size least most l m a b = omega arith
