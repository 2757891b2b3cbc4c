-- One weight: a number times n / 255, times 8,192 in f32, rounded. It is at most a half off, and what three roundings to f32 add.
-- Assumes nothing.
use Rattle.std.proofs.Common.{◌≡◌, ℕ, ◌+◌, ◌-◌, ◌*◌, ◌/◌, ◌^◌, ◌<◌, ◌≤◌, Bool, false, T, pos, sym, refl, ap, subst, mul-le-mul_right, mul-le-mul, le_of_mul-le-mul_right, arith, lit<, lit≤, le→leb}
use lib.Ieee.{Float, binary32, round, of_int, of_bits}
use lib.Ieee.Back.{round_whole}
use Rattle.forward_transform.specs.Rounding.{nearest_whole, signed, round_half_away}
use Rattle.forward_transform.specs.Transform.{◌*f◌, ◌/f◌, f32, scale, weight}
use Rattle.forward_transform.specs.Small.{small_weight, small}
use Rattle.forward_transform.proofs.Rounding.{Nearest-near}
use Rattle.forward_transform.proofs.Units.{per_one, In, Between, num, den, den_pos, valued}
use Rattle.forward_transform.proofs.Operations.{times, over, times_positive}

-- ---- the constants
pub whole : (n : ℕ) → n ≤ 2 ^ 24 → Between (f32 n) false (n * per_one) (n * per_one)
unfolding of_int
whole n h = valued (round binary32 false n 1) false n 1 (n * per_one) (n * per_one) (lit< tt) (round_whole binary32 false n h) (omega arith, omega arith)

scale_is : Between scale false (8192 * per_one) (8192 * per_one)
unfolding of_bits
scale_is = record { mantissa = 1; exponent = pos 13; is = refl; size = (lit≤ tt, lit≤ tt) }

-- ---- rounded
-- from lo to hi units, to the nearest whole number
nearest_in : (a c lo hi : ℕ) → 0 < c → In lo hi a c → let w = nearest_whole a c in
    (2 * lo ≤ 2 * (w * per_one) + per_one) × (2 * (w * per_one) ≤ 2 * hi + per_one)
nearest_in a c lo hi C h =
    let n = Nearest-near a c C in
    let w = nearest_whole a c in (
      le_of_mul-le-mul_right {m = 2 * lo} {n = 2 * (w * per_one) + per_one} {k = c} (omega (arith, n.1, h.0)) C,
      le_of_mul-le-mul_right {m = 2 * (w * per_one)} {n = 2 * hi + per_one} {k = c} (omega (arith, n.0, h.1)) C,
    )

-- x is n / 255 times a number that lies from lo to hi units, and its weight is `size`, with the sign s.
-- 510 times the weight stands there, so that nothing is divided. Of the 257, 255 are the half by which rounding to a whole number moves it, and 2 are
-- more than the roundings to f32 do.
pub record Weighed (x : Float) (s : Bool) (n lo hi : ℕ) : Type 0 where
  pub size : ℕ
  pub is : weight x ≡ signed s size
  pub small : T (small_weight x)
  pub least : 16384 * (n * lo) ≤ 510 * (size * per_one) + 257 * per_one
  pub most : 510 * (size * per_one) ≤ 16384 * (n * hi) + 257 * per_one

of_scaled : (x : Float) {s : Bool} {a b : ℕ} → Between (x *f scale) s a b → b ≤ 2 ^ 14 * per_one → (n lo hi : ℕ)
    → 16384 * (n * lo) ≤ 510 * a + 2 * per_one → 510 * b ≤ 16384 * (n * hi) + 2 * per_one → Weighed x s n lo hi
unfolding round_half_away
of_scaled x {s} {a} {b} z top n lo hi l h =
    let r = nearest_in (num z) (den z) a b (den_pos z) z.size in
    let few : num z ≤ 2 ^ 14 * den z = omega (arith, mul-le-mul_right (den z) top, z.size.1) in
    record {
      size = nearest_whole (num z) (den z);
      is = ap round_half_away z.is;
      small = subst (λ (y : Float). T (small y)) (sym z.is) (le→leb (num z) (2 ^ 14 * den z) few);
      least = omega (arith, r);
      most = omega (arith, r);
    }

pub weighed : {x : Float} {s : Bool} {lo hi : ℕ} → Between x s lo hi → hi ≤ per_one → (n : ℕ) → n ≤ 255 → Weighed (x *f f32 n /f f32 255) s n lo hi
weighed {x} {s} {lo} {hi} b h n n≤ =
    let top : n * hi ≤ 255 * per_one = mul-le-mul n≤ h in
    let p = times b (whole n (omega arith)) s (times_positive s) 23 (2 ^ 23) (n * lo) (n * hi) (lit≤ tt) (lit≤ tt) (omega arith) (omega arith) (omega arith) in
    let ql = (n * lo - 2 ^ 23) / 255 in
    let qh = (n * hi + 2 ^ 23) / 255 + 1 in
    let q = over p (whole 255 (lit≤ tt)) s (times_positive s) 16 (2 ^ 23) ql qh (lit≤ tt) (lit≤ tt) (omega arith) (lit< tt) (omega arith) (omega arith) in
    let zl = 8192 * (ql - 2 ^ 16) in
    let zh = 8192 * (qh + 2 ^ 16) in
    let z = times q scale_is s (times_positive s) 29 (2 ^ 23) zl zh (lit≤ tt) (lit≤ tt) (omega arith) (omega arith) (omega arith) in
    of_scaled (x *f f32 n /f f32 255) z (omega arith) n lo hi (omega arith) (omega arith)
