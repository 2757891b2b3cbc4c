-- What `*`, `/` and `-` of f32 do to sizes held between units: the ends are multiplied, divided or subtracted, and moved by one rounding.
-- Assumes nothing.
use Rattle.std.proofs.Common.{◌≡◌, ℕ, zero, suc, ◌+◌, ◌-◌, ◌*◌, ◌^◌, ◌<◌, ◌≤◌, min, Bool, true, false, cond, not, T, eqb, ltb, ℤ, refl, ap, ◌∙◌, subst, le_trans, le_refl, le_of_lt, lt_irrefl, mul-le-mul_right, mul_comm, mul-le-mul, mul-le-mul_left, mul-pos, le_of_mul-le-mul_right, arith, lit≤, ltb→lt, nltb→le}
use lib.Dec.{eqb-suc-zero}
use lib.Ieee.{Float, nan, inf, fin, binary32, up, down, unlike, round, mul, div, add, sub, neg, sum}
use lib.Ieee.Fits.{down_pos, up_pos}
use lib.Ieee.Positive.{first_pos}
use Rattle.forward_transform.proofs.Units.{per_one, In, Between, num, den, den_pos, same, wider, sub-mul, rounded}

-- ---- fractions: p / c from lo to hi, and q / d from lo' to hi'
module _ (p c q d lo hi lo' hi' : ℕ) (a : In lo hi p c) (b : In lo' hi' q d) where
  pub product : (least most : ℕ) → least * per_one ≤ lo * lo' → hi * hi' ≤ most * per_one → In least most (p * q) (c * d)
  product least most l h =
      (omega (arith, mul-le-mul_right (c * d) l, mul-le-mul a.0 b.0), omega (arith, mul-le-mul_right (c * d) h, mul-le-mul a.1 b.1))

  pub quotient : (least most : ℕ) → least * hi' ≤ lo * per_one → hi * per_one ≤ most * lo' → In least most (p * d) (q * c)
  quotient least most l h = (
    omega (arith, mul-le-mul_left (least * c) b.1, mul-le-mul_right (c * d) l, mul-le-mul_right d a.0),
    omega (arith, mul-le-mul_left (most * c) b.0, mul-le-mul_right (c * d) h, mul-le-mul_right d a.1),
  )

  difference : q * c ≤ p * d → In (lo - hi') (hi - lo') (p * d - q * c) (c * d)
  difference h = (
    rw (sub-mul lo hi' (c * d)) (omega (arith, mul-le-mul_right d a.0, mul-le-mul_right c b.1)),
    rw (sub-mul hi lo' (c * d)) (omega (arith, mul-le-mul_right d a.1, mul-le-mul_right c b.0)),
  )

-- ---- product and quotient
not_zero : (x y : Float) (n : ℕ) → 0 < n → cond (eqb n 0) x y ≡ y
not_zero x y zero h = absurd (lt_irrefl 0 h)
not_zero x y (suc n) h = ap (λ (z : Bool). cond z x y) (eqb-suc-zero n)

-- the result has the sign r
module _ {x y : Float} {s t : Bool} {lo hi lo' hi' : ℕ} (a : Between x s lo hi) (b : Between y t lo' hi') (r : Bool) (sign : unlike s t ≡ r) where
  pub times_is : mul binary32 x y ≡ round binary32 r (num a * num b) (den a * den b)
  unfolding mul
  times_is = (λ i. mul binary32 (a.is i) (b.is i)) ∙ ap (λ (z : Bool). round binary32 z (num a * num b) (den a * den b)) sign

  m> : 0 < lo' → 0 < b.mantissa
  m> positive = first_pos b.mantissa (up b.exponent) (omega (arith, mul-pos positive (den_pos b), b.size.0))

  pub over_is : 0 < lo' → div binary32 x y ≡ round binary32 r (num a * den b) (num b * den a)
  unfolding div
  over_is positive =
      (λ i. div binary32 (a.is i) (b.is i))
      ∙ not_zero (cond (eqb a.mantissa 0) nan (inf (unlike s t))) (round binary32 (unlike s t) (num a * den b) (num b * den a)) b.mantissa (m> positive)
      ∙ ap (λ (z : Bool). round binary32 z (num a * den b) (num b * den a)) sign

  -- and lies from least to most before it is rounded, at most n times 2 ^ (j + 2)
  module _ (j n least most : ℕ) (j≤ : j ≤ 30) (n≤ : n ≤ 2 ^ 23) (top : most ≤ n * 2 ^ (j + 2)) where
    pub times : least * per_one ≤ lo * lo' → hi * hi' ≤ most * per_one → Between (mul binary32 x y) r (least - 2 ^ j) (min (most + 2 ^ j) (n * 2 ^ (j + 2)))
    times l h =
        same times_is
        (rounded r (num a * num b) (den a * den b) j n least most (mul-pos (den_pos a) (den_pos b)) j≤ n≤ top
        (product (num a) (den a) (num b) (den b) lo hi lo' hi' a.size b.size least most l h))

    pub over : 0 < lo' → least * hi' ≤ lo * per_one → hi * per_one ≤ most * lo'
        → Between (div binary32 x y) r (least - 2 ^ j) (min (most + 2 ^ j) (n * 2 ^ (j + 2)))
    over positive l h =
        same (over_is positive)
        (rounded r (num a * den b) (num b * den a) j n least most (mul-pos (mul-pos (m> positive) (up_pos b.exponent)) (den_pos a)) j≤ n≤ top
        (quotient (num a) (den a) (num b) (den b) lo hi lo' hi' a.size b.size least most l h))

-- the sign of a product with a positive number
pub times_positive : (s : Bool) → unlike s false ≡ s
times_positive true = refl
times_positive false = refl

-- and with a negative one
pub times_negative : (s : Bool) → unlike true s ≡ not s
times_negative true = refl
times_negative false = refl

-- ---- difference, of at most 1
-- x less y, where x lies from lo to hi, y from lo' to hi', and they are at most `most` apart. The result may be a little below 0, with the sign s then
-- true: in that case x is no more than y can be.
abbrev pub Less : Float → ℕ → ℕ → ℕ → Type 0
Less z lo hi' most = (s : Bool) × Between z s (lo - hi' - 2 ^ 15) (min (most + 2 ^ 15) per_one) × (T s → lo ≤ hi')

module _ (p c q d lo hi lo' hi' most : ℕ) (a : In lo hi p c) (b : In lo' hi' q d) (C : 0 < c) (D : 0 < d)
    (apart : hi ≤ most + lo') (apart' : hi' ≤ most + lo) (top : most ≤ per_one) where
  larger : q * c ≤ p * d → Less (round binary32 false (p * d - q * c) (c * d)) lo hi' most
  larger h =
      let i = difference p c q d lo hi lo' hi' a b h in
      let r = rounded false (p * d - q * c) (c * d) 15 (2 ^ 23) (lo - hi') (hi - lo') (mul-pos C D) (lit≤ tt) (lit≤ tt) (omega arith) i in
      (false, wider _ _ r (le_refl _) (omega arith), λ f. absurd f)

  smaller : p * d < q * c → Less (round binary32 true (q * c - p * d) (c * d)) lo hi' most
  smaller h =
      let lo≤' : lo * (c * d) ≤ hi' * (c * d) = omega (arith, mul-le-mul_right d a.0, mul-le-mul_right c b.1) in
      let lo≤ = le_of_mul-le-mul_right lo≤' (mul-pos C D) in
      let i : In (lo' - hi) (hi' - lo) (q * c - p * d) (c * d) = rw (mul_comm c d) (difference q d p c lo' hi' lo hi b a (le_of_lt h)) in
      let r = rounded true (q * c - p * d) (c * d) 15 (2 ^ 23) (lo' - hi) (hi' - lo) (mul-pos C D) (lit≤ tt) (lit≤ tt) (omega arith) i in
      (true, wider _ _ r (omega arith) (omega arith), λ t. lo≤)

  either : (u : Bool) → (T u → p * d < q * c) → (T (not u) → q * c ≤ p * d)
      → Less (cond u (round binary32 true (q * c - p * d) (c * d)) (round binary32 false (p * d - q * c) (c * d))) lo hi' most
  either true h k = smaller (h tt)
  either false h k = larger (k tt)

  -- a zero that is written as negative is added
  unchanged : hi' ≡ 0 → Less (round binary32 false (p * d + q * c) (c * d)) lo hi' most
  unchanged z =
      let lo'≤ : lo' ≤ hi' = le_of_mul-le-mul_right (le_trans b.0 b.1) D in
      let q≤ : q * per_one ≤ 0 * d = subst (λ (n : ℕ). q * per_one ≤ n * d) z b.1 in
      let i : In lo hi (p * d + q * c) (c * d) =
      (omega (arith, mul-le-mul_right d a.0), omega (arith, mul-le-mul_right d a.1, mul-le-mul_right c q≤)) in
      let r = rounded false (p * d + q * c) (c * d) 15 (2 ^ 23) lo hi (mul-pos C D) (lit≤ tt) (lit≤ tt) (omega arith) i in
      (false, wider _ _ r (omega arith) (omega arith), λ f. absurd f)

Less-at : (t : Bool) (m : ℕ) (e : ℤ) (n : ℕ) (f : ℤ) (lo hi lo' hi' most : ℕ) → In lo hi (m * up e) (down e) → In lo' hi' (n * up f) (down f)
    → (T t → hi' ≡ 0) → hi ≤ most + lo' → hi' ≤ most + lo → most ≤ per_one → Less (sub binary32 (fin false m e) (fin t n f)) lo hi' most
unfolding sub add neg sum
Less-at true m e n f lo hi lo' hi' most a b z x y top =
    unchanged (m * up e) (down e) (n * up f) (down f) lo hi lo' hi' most a b (down_pos e) (down_pos f) x y top (z tt)
Less-at false m e n f lo hi lo' hi' most a b z x y top =
    either (m * up e) (down e) (n * up f) (down f) lo hi lo' hi' most a b (down_pos e) (down_pos f) x y top
    (ltb (m * up e * down f) (n * up f * down e)) (ltb→lt _ _) (nltb→le _ _)

-- y is not negative, or is -0
pub less : {x y : Float} {t : Bool} {lo hi lo' hi' : ℕ} → Between x false lo hi → Between y t lo' hi' → (T t → hi' ≡ 0)
    → (most : ℕ) → hi ≤ most + lo' → hi' ≤ most + lo → most ≤ per_one → Less (sub binary32 x y) lo hi' most
less {t = t} {lo = lo} {hi = hi} {lo' = lo'} {hi' = hi'} a b z most p q top =
    let r = Less-at t a.mantissa a.exponent b.mantissa b.exponent lo hi lo' hi' most a.size b.size z p q top in
    (r.0, same (λ i. sub binary32 (a.is i) (b.is i)) r.1, r.2)
