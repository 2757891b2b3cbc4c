-- Where rounding to f32 does not matter: an f32 that is below a threshold of few digits stays below it when it is multiplied or divided and rounded.
-- The idea: such a threshold is a whole number of the f32's places. So the f32 is below it by a place at least, which is more than its 2 ^ 24th part; and
-- rounding moves the result by at most its 2 ^ 24th part.
-- Assumes nothing.
use mathlib.Core.Path.{◌≡◌, ap}
use mathlib.Core.Bool.{Bool, true, false, not}
use mathlib.Core.Logic.{◌⊎◌, inl, inr}
use Prim.Native.Nat.{ℕ, zero, suc, ◌+◌, ◌-◌, ◌*◌, ◌/◌, ◌^◌, ◌≤◌, ◌<◌}
use native.Mathlib.Nat.{lt_irrefl, lt_of_lt_of_le, mul-pos, mul-le-mul_right, mul-lt-mul_of_pos_right, lt_of_mul-lt-mul_right, le-div_iff_mul-le}
use native.Mathlib.Omega.{arith}
use lib.Dec.{T, ltb, ltb→lt, nltb→le}
use lib.Pow.{pow-add, pow_pos}
use lib.Ieee.Digits.{size_reaches}
use lib.Ieee.Order.{drop, kept}
use Rattle.forward_transform.proofs.Units.{closest_near}

-- ---- n / c to f32, in its smallest numbers, against h of them that are not few
module _ (n c h : ℕ) (C : 0 < c) (large : 2 ^ 24 ≤ h) where
  abbrev k : ℕ
  k = drop 24 n c

  abbrev grid : ℕ
  grid = kept 24 n c * 2 ^ k

  -- the place is the smallest, or half of it is at most the 2 ^ 24th part of n / c
  place : (2 ^ k ≡ 1) ⊎ (2 ^ 23 * (c * 2 ^ k) ≤ n)
  place = go (ltb 0 k) (ltb→lt 0 k) (nltb→le 0 k)
    where
      go : (b : Bool) → (T b → 0 < k) → (T (not b) → k ≤ 0) → (2 ^ k ≡ 1) ⊎ (2 ^ 23 * (c * 2 ^ k) ≤ n)
      go true some none =
          let reach = size_reaches (n / c) (23 + k) (omega (arith, some tt)) in
          inr (omega (arith, (le-div_iff_mul-le C).0 reach, ap (λ (z : ℕ). z * c) (pow-add 2 23 k)))
      go false some none =
          let z : k ≡ 0 = omega (arith, none tt) in
          inl (ap (λ (i : ℕ). 2 ^ i) z)

  near : (2 * (grid * c) ≤ 2 * n + c * 2 ^ k) × (2 * n ≤ 2 * (grid * c) + c * 2 ^ k)
  near = let m = closest_near n (c * 2 ^ k) (mul-pos C (pow_pos k)) in (omega (arith, m.0), omega (arith, m.1))

  round_below : (2 ^ 24 + 1) * n < 2 ^ 24 * (h * c) → grid < h
  round_below l =
      lt_of_mul-lt-mul_right c (elim place [
        | inl e ↦ omega (arith, l, near.0, ap (λ (z : ℕ). c * z) e, mul-le-mul_right c large)
        | inr m ↦ omega (arith, l, near.0, m)
      ])

  round_above : 2 ^ 24 * (h * c) < (2 ^ 24 - 1) * n → h < grid
  round_above l =
      lt_of_mul-lt-mul_right c (elim place [
        | inl e ↦ omega (arith, l, near.1, ap (λ (z : ℕ). c * z) e, mul-le-mul_right c large)
        | inr m ↦ omega (arith, l, near.1, m)
      ])

-- ---- g lies within m * p of 2 * (m * w * p): with p for 1 / 16,384, a weight w is m times 8,192 times g but for a half
abbrev pub Around : (m w p g : ℕ) → Type 0
Around m w p g = (2 * (m * w * p) ≤ g + m * p) × (g ≤ 2 * (m * w * p) + m * p)

-- an f32 of q places of u each, of which p has P, against h times p
module _ (q u P p h : ℕ) (few : q < 2 ^ 24) (U : 0 < u) (is : p ≡ P * u) where
  gap_below : q * u < h * p → (2 ^ 24 + 1) * (q * u) < 2 ^ 24 * (h * p)
  gap_below l =
      let l' : q * u < h * P * u = omega (arith, l, ap (λ (z : ℕ). h * z) is) in
      let d = lt_of_mul-lt-mul_right u l' in
      let e : (2 ^ 24 + 1) * q < 2 ^ 24 * (h * P) = omega arith in
      omega (arith, mul-lt-mul_of_pos_right e U, ap (λ (z : ℕ). h * z) is)

  gap_above : h * p < q * u → 2 ^ 24 * (h * p) < (2 ^ 24 - 1) * (q * u)
  gap_above l =
      let l' : h * P * u < q * u = omega (arith, l, ap (λ (z : ℕ). h * z) is) in
      let d = lt_of_mul-lt-mul_right u l' in
      let e : 2 ^ 24 * (h * P) < (2 ^ 24 - 1) * q = omega arith in
      omega (arith, mul-lt-mul_of_pos_right e U, ap (λ (z : ℕ). h * z) is)

-- it times a / b is n / c, which is rounded; m' is as much of m
module _ (q u P p m m' w n c e a b : ℕ) (few : q < 2 ^ 24) (U : 0 < u) (is : p ≡ P * u) (p≥ : 2 ^ 24 ≤ p) (C : 0 < c) (E : 0 < a * e) (M : 0 < m')
    (n_is : n ≡ a * (q * u * e)) (c_is : c ≡ b * e) (m_is : m' * b ≡ m * a) where
  same_share : (h : ℕ) → m' * h * p * c ≡ m * h * p * (a * e)
  same_share h = omega (arith, ap (λ (z : ℕ). m' * h * p * z) c_is, ap (λ (z : ℕ). z * (h * p * e)) m_is)

  large : (h : ℕ) → 0 < h → 2 ^ 24 ≤ m' * h * p
  large h H = omega (arith, mul-le-mul_right p (mul-pos M H))

  stays_below : (h : ℕ) → 0 < h → q * u < m * h * p → kept 24 n c * 2 ^ drop 24 n c < m' * h * p
  stays_below h H l =
      round_below n c (m' * h * p) C (large h H)
      (omega (arith, mul-lt-mul_of_pos_right (gap_below q u P p (m * h) few U is l) E, same_share h, n_is))

  stays_above : (h : ℕ) → 0 < h → m * h * p < q * u → m' * h * p < kept 24 n c * 2 ^ drop 24 n c
  stays_above h H l =
      round_above n c (m' * h * p) C (large h H)
      (omega (arith, mul-lt-mul_of_pos_right (gap_above q u P p (m * h) few U is l) E, same_share h, n_is))

  -- so where the rounded number is around w, the f32 is
  pub around : Around m' w p (kept 24 n c * 2 ^ drop 24 n c) → Around m w p (q * u)
  around r = (lower w r.0, upper (ltb (m * (2 * w + 1) * p) (q * u)) (ltb→lt _ _) (nltb→le _ _))
    where
      g : ℕ
      g = kept 24 n c * 2 ^ drop 24 n c

      lower : (w : ℕ) → 2 * (m' * w * p) ≤ g + m' * p → 2 * (m * w * p) ≤ q * u + m * p
      lower zero l = omega arith
      lower (suc w) l = go (ltb (q * u) (m * (2 * w + 1) * p)) (ltb→lt _ _) (nltb→le _ _)
        where
          go : (b : Bool) → (T b → q * u < m * (2 * w + 1) * p) → (T (not b) → m * (2 * w + 1) * p ≤ q * u) → 2 * (m * suc w * p) ≤ q * u + m * p
          go true below above = absurd (lt_irrefl _ (lt_of_lt_of_le (stays_below (2 * w + 1) (omega arith) (below tt)) (omega (arith, l))))
          go false below above = omega (arith, above tt)

      upper : (b : Bool) → (T b → m * (2 * w + 1) * p < q * u) → (T (not b) → q * u ≤ m * (2 * w + 1) * p) → q * u ≤ 2 * (m * w * p) + m * p
      upper true above below = absurd (lt_irrefl _ (lt_of_lt_of_le (stays_above (2 * w + 1) (omega arith) (above tt)) (omega (arith, r.1))))
      upper false above below = omega (arith, below tt)
