-- Times 8,192 and times -1/2: f32 loses nothing, but below its smallest numbers.
-- The idea: an f32 is m times a power of two, with m below 2 ^ 24, and so is the product.
-- Assumes nothing.
use mathlib.Core.Path.{◌≡◌, sym, ap, ◌∙◌, subst}
use mathlib.Core.Bool.{Bool, true, false, not, ◌&&◌}
use Prim.Native.Nat.{ℕ, zero, suc, ◌+◌, ◌-◌, ◌*◌, ◌/◌, ◌%◌, ◌^◌, ◌≤◌, ◌<◌}
use native.Mathlib.Nat.{le_trans, le_of_eq, le_of_lt, le_of_suc-le-suc, lt_of_le_of_lt, lt_of_not-le, not-le_of_lt, div-mul-le_self, sub-add_cancel}
use native.Mathlib.Nat.{mul_assoc, pow-suc, mul-one, one-mul, mul-pos, mul-le-mul_right, le_of_mul-le-mul_right}
use native.Mathlib.Omega.{arith}
use lib.IntN.{ℤ, pos, negsuc}
use lib.Dec.{T, eqb, ltb, leb, ltb→lt, nltb→le, leb→le, lit≤, lit<}
use lib.Pow.{pow-add, pow-lt}
use lib.Ieee.{Float, fin, binary32, up, down, unlike, mul, neg, of_bits, fits}
use lib.Ieee.Fits.{and_l, and_r, down_pos}
use lib.Ieee.Exact.{HasValue, round_exact}
use Rattle.forward_transform.specs.Transform.{◌*f◌, half, scale}
use Rattle.forward_transform.proofs.Units.{per_one, In, Between, num, den, den_pos, same, wider, valued, rounded}
use Rattle.forward_transform.proofs.Operations.{times_positive, times_negative}

-- m * up e / down e is m times 2 ^ k of the smallest f32
record Held (m : ℕ) (e : ℤ) : Type 0 where
  k : ℕ
  few : m < 2 ^ 24
  is : m * up e * 2 ^ 149 ≡ m * 2 ^ k * down e

place : (e : ℤ) → down e ≤ 2 ^ 149 → (k : ℕ) × (up e * 2 ^ 149 ≡ 2 ^ k * down e)
place (pos i) h = (i + 149, sym (pow-add 2 i 149) ∙ sym (mul-one (2 ^ (i + 149))))
place (negsuc i) h =
    let i≤ : suc i ≤ 149 = le_of_suc-le-suc (lt_of_not-le (λ (g : 150 ≤ suc i). not-le_of_lt (pow-lt g) h)) in
    (149 - suc i, one-mul (2 ^ 149) ∙ sym (ap (λ (z : ℕ). 2 ^ z) (sub-add_cancel i≤)) ∙ pow-add 2 (149 - suc i) (suc i))

held : (s : Bool) (m : ℕ) (e : ℤ) → T (fits binary32 (fin s m e)) → Held m e
unfolding fits
held s zero e h = record { k = 0; few = lit< tt; is = nothing (up e) (2 ^ 149) (down e) }
  where
    nothing : (a b c : ℕ) → 0 * a * b ≡ 0 * 1 * c
    nothing a b c = omega arith
held s (suc m) e h =
    let a = eqb (suc m % 2) 1 in
    let b = ltb (suc m) (2 ^ 24) in
    let c = leb (down e) (2 ^ 149) in
    let abc = and_l (a && b && c) (ltb (suc m * up e) (2 ^ 128 * down e)) h in
    let p = place e (leb→le (down e) (2 ^ 149) (and_r (a && b) c abc)) in
    record {
      k = p.0;
      few = ltb→lt (suc m) (2 ^ 24) (and_r a b (and_l (a && b) c abc));
      is = mul_assoc (suc m) (up e) (2 ^ 149) ∙ ap (λ (z : ℕ). suc m * z) p.1 ∙ sym (mul_assoc (suc m) (2 ^ p.0) (down e));
    }

-- ---- x / d is p of the smallest, f of which are 1 (omega reads no numeral as long as 2 ^ 149)
module _ (f x p d hi : ℕ) (D : 0 < d) (is : x * f ≡ p * d) (h : x * per_one ≤ hi * d) where
  few_units : (t : ℕ) → hi ≤ t * per_one → p ≤ t * f
  few_units t top =
      let x≤ = mul-le-mul_right f (le_trans h (mul-le-mul_right d top)) in
      let l : p * (d * per_one) ≤ t * f * (d * per_one) = omega (arith, x≤, ap (λ (z : ℕ). z * per_one) is) in
      le_of_mul-le-mul_right l (mul-pos D (lit< tt))

  scaled_is : (q : ℕ) → q ≡ p * 8192 → x * (1 * 2 ^ 13) * f ≡ q * (d * 1)
  scaled_is q e = omega (arith, is, ap (λ (z : ℕ). z * d) e)

  halved_is : (q : ℕ) → p ≡ q * 2 → 1 * 1 * x * f ≡ q * (2 * d)
  halved_is q e = omega (arith, is, ap (λ (z : ℕ). z * d) e)

-- an f32 of at most 256, in places of at most 2 ^ 135 of the smallest, which are 1 / 16,384
pub record Placed {x : Float} {s : Bool} {lo hi : ℕ} (b : Between x s lo hi) : Type 0 where
  pub q : ℕ
  pub k : ℕ
  pub few : q < 2 ^ 24
  pub k≤ : k ≤ 135
  pub is : num b * 2 ^ 149 ≡ q * 2 ^ k * den b

pub placed : {x : Float} {s : Bool} {lo hi : ℕ} → T (fits binary32 x) → (b : Between x s lo hi) → hi ≤ 2 ^ 8 * per_one → Placed b
placed {x} {s} {lo} {hi} fit b top =
    let h = held s b.mantissa b.exponent (subst (λ (y : Float). T (fits binary32 y)) b.is fit) in
    go h (ltb h.k 136) (ltb→lt h.k 136) (nltb→le h.k 136)
  where
    go : (h : Held b.mantissa b.exponent) (t : Bool) → (T t → h.k < 136) → (T (not t) → 136 ≤ h.k) → Placed b
    go h true below above = record { q = b.mantissa; k = h.k; few = h.few; k≤ = omega (arith, below tt); is = h.is }
    go h false below above =
        let m = b.mantissa in
        let i = h.k - 135 in
        let e : m * 2 ^ h.k ≡ m * 2 ^ i * 2 ^ 135 =
        ap (λ (z : ℕ). m * z) (ap (λ (z : ℕ). 2 ^ z) (back h.k (above tt)) ∙ pow-add 2 i 135) ∙ sym (mul_assoc m (2 ^ i) (2 ^ 135)) in
        let all = few_units (2 ^ 149) (num b) (m * 2 ^ h.k) (den b) hi (den_pos b) h.is b.size.1 (2 ^ 8) top in
        let q≤ : m * 2 ^ i ≤ 2 ^ 22 = le_of_mul-le-mul_right {m = m * 2 ^ i} {n = 2 ^ 22} {k = 2 ^ 135} (le_trans (le_of_eq (sym e)) all) (lit< tt) in
        record { q = m * 2 ^ i; k = 135; few = lt_of_le_of_lt q≤ (lit< tt); k≤ = lit≤ tt; is = h.is ∙ ap (λ (z : ℕ). z * den b) e }
      where
        back : (a : ℕ) → 136 ≤ a → a ≡ a - 135 + 135
        back a l = omega arith

-- ---- times 8,192
scaled_at : (s : Bool) (m : ℕ) (e : ℤ) (lo hi : ℕ) → Held m e → In lo hi (m * up e) (down e) → hi ≤ 2 * per_one
    → HasValue (fin s m e *f scale) (unlike s false) (m * up e * (1 * 2 ^ 13)) (down e * 1)
unfolding mul of_bits
scaled_at s m e lo hi h i top =
    let k = h.k in
    let x = m * up e in
    let d = down e in
    let q_is : m * 2 ^ (k + 13) ≡ m * 2 ^ k * 8192 = ap (λ (z : ℕ). m * z) (pow-add 2 k 13) ∙ sym (mul_assoc m (2 ^ k) 8192) in
    let q≤ = few_units (2 ^ 149) x (m * 2 ^ k) d hi (down_pos e) h.is i.1 2 top in
    let q< = lt_of_le_of_lt (le_trans (le_of_eq q_is) (mul-le-mul_right 8192 q≤)) (lit< tt) in
    round_exact binary32 (unlike s false) (x * (1 * 2 ^ 13)) (d * 1) m (k + 13) (mul-pos (down_pos e) (lit< tt)) h.few q<
    (scaled_is (2 ^ 149) x (m * 2 ^ k) d hi (down_pos e) h.is i.1 (m * 2 ^ (k + 13)) q_is)

pub scaled : {x : Float} {s : Bool} {lo hi : ℕ} → T (fits binary32 x) → (b : Between x s lo hi) → hi ≤ 2 * per_one
    → HasValue (x *f scale) s (num b * 8192) (den b * 1)
scaled {x} {s} {lo} {hi} fit b top =
    let m = b.mantissa in
    let e = b.exponent in
    subst (λ (y : Float). HasValue (y *f scale) s (num b * 8192) (den b * 1)) (sym b.is)
    (subst (λ (t : Bool). HasValue (fin s m e *f scale) t (num b * 8192) (den b * 1)) (times_positive s)
    (scaled_at s m e lo hi (held s m e (subst (λ (y : Float). T (fits binary32 y)) b.is fit)) b.size top))

-- ---- times -1/2, but for a unit
module _ (s : Bool) (m : ℕ) (e : ℤ) (lo hi : ℕ) (few : m < 2 ^ 24) (i : In lo hi (m * up e) (down e)) (top : hi ≤ 2 * per_one) where
  abbrev x : ℕ
  x = m * up e

  abbrev d : ℕ
  d = down e

  -- x / d is below 2 ^ 24 of the smallest
  tiny : (f : ℕ) → x * (per_one * f) ≡ m * 1 * d → m ≤ f → 0 < f → x * per_one ≤ d
  tiny f is m≤ F =
      let h : x * per_one * f ≤ d * f = omega (arith, is, mul-le-mul_right d m≤) in
      le_of_mul-le-mul_right h F

  halved_at : (k : ℕ) → x * 2 ^ 149 ≡ m * 2 ^ k * d → Between (neg half *f fin s m e) (unlike true s) (lo / 2) (hi / 2 + 2)
  unfolding mul neg of_bits
  halved_at zero is =
      let x≤ = tiny (2 ^ 109) is (le_trans (le_of_lt few) (lit≤ tt)) (lit< tt) in
      let lo≤ : lo ≤ 1 = le_of_mul-le-mul_right {m = lo} {n = 1} {k = d} (omega (arith, i.0, x≤)) (down_pos e) in
      wider (lo / 2) (hi / 2 + 2)
      (rounded (unlike true s) (1 * 1 * x) (2 * d) 0 1 0 1 (mul-pos (lit< tt) (down_pos e)) (lit≤ tt) (lit≤ tt) (lit≤ tt) (omega arith, omega (arith, x≤)))
      (omega arith) (omega arith)
  halved_at (suc k) is =
      let q_is : m * 2 ^ suc k ≡ m * 2 ^ k * 2 = ap (λ (z : ℕ). m * z) (pow-suc 2 k) ∙ sym (mul_assoc m (2 ^ k) 2) in
      let q≤ = few_units (2 ^ 149) x (m * 2 ^ suc k) d hi (down_pos e) is i.1 2 top in
      let q< = lt_of_le_of_lt (le_trans (half≤ (m * 2 ^ k) (m * 2 ^ suc k) q_is) q≤) (lit< tt) in
      valued (neg half *f fin s m e) (unlike true s) (1 * 1 * x) (2 * d) (lo / 2) (hi / 2 + 2) (mul-pos (lit< tt) (down_pos e))
      (round_exact binary32 (unlike true s) (1 * 1 * x) (2 * d) m k (mul-pos (lit< tt) (down_pos e)) few q<
      (halved_is (2 ^ 149) x (m * 2 ^ suc k) d hi (down_pos e) is i.1 (m * 2 ^ k) q_is))
      (omega (arith, i.0, mul-le-mul_right d (div-mul-le_self lo 2)), omega (arith, i.1, mul-le-mul_right d (up≤ hi)))
    where
      half≤ : (p q : ℕ) → q ≡ p * 2 → p ≤ q
      half≤ p q e = omega arith

      up≤ : (a : ℕ) → a ≤ (a / 2 + 2) * 2
      up≤ a = omega arith

pub halved : {x : Float} {s : Bool} {lo hi : ℕ} → T (fits binary32 x) → Between x s lo hi → hi ≤ 2 * per_one
    → Between (neg half *f x) (not s) (lo / 2) (hi / 2 + 2)
halved {x} {s} {lo} {hi} fit b top =
    let h = held s b.mantissa b.exponent (subst (λ (y : Float). T (fits binary32 y)) b.is fit) in
    same (ap (λ (y : Float). neg half *f y) b.is)
    (subst (λ (t : Bool). Between (neg half *f fin s b.mantissa b.exponent) t (lo / 2) (hi / 2 + 2)) (times_negative s)
    (halved_at s b.mantissa b.exponent lo hi h.few b.size top h.k h.is))
