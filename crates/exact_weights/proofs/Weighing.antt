-- One weight: a number times n / 255, times 8,192 in f32, rounded. It is at most a half off, and what the multiplication by n adds; times 255 adds nothing.
-- The idea: halves between weights are thresholds of few digits, so the division by 255 moves no number past one, and neither does a multiplication by 255.
-- Assumes nothing.
use mathlib.Core.Path.{◌≡◌, refl, sym, ap, ◌∙◌, subst}
use mathlib.Core.Bool.{Bool, false}
use Prim.Native.Nat.{ℕ, ◌+◌, ◌-◌, ◌*◌, ◌/◌, ◌^◌, ◌≤◌, ◌<◌, min}
use native.Mathlib.Nat.{le_of_lt, mul-pos, mul-le-mul_left, mul-le-mul_right, le_of_mul-le-mul_right, eq_of_mul-eq-mul_right}
use native.Mathlib.Omega.{arith}
use lib.Dec.{T, lit≤, lit<}
use lib.Pow.{pow-add, pow_pos, pow_mono}
use lib.Ieee.{Float, nan, inf, fin, binary32, up, down, fits}
use lib.Ieee.Fits.{down_pos, mul-fits, div-fits}
use lib.Ieee.Exact.{HasValue}
use lib.Ieee.Order.{drop, kept}
use Rattle.forward_transform.specs.Rounding.{nearest_whole, signed, round_half_away}
use Rattle.forward_transform.specs.Transform.{◌*f◌, ◌/f◌, f32, scale, weight}
use Rattle.forward_transform.proofs.Rounding.{Nearest-near}
use Rattle.forward_transform.proofs.Units.{per_one, Between, num, den, den_pos, round_value}
use Rattle.exact_weights.proofs.Powers.{scaled, Placed, placed}
use Rattle.exact_weights.proofs.Thresholds.{Around, around}
use Rattle.forward_transform.proofs.Operations.{product, quotient, times, times_is, over, over_is, times_positive}
use Rattle.forward_transform.proofs.Weight.{whole}

whole_is : {x : Float} (n : ℕ) (b : Between x false (n * per_one) (n * per_one)) → num b ≡ n * den b
whole_is n b = omega (arith, b.size.0, b.size.1)

-- ---- to a whole number: a / c is at most a half from w
record Rounded (y : Float) (s : Bool) (a c : ℕ) : Type 0 where
  w : ℕ
  is : round_half_away y ≡ signed s w
  least : 2 * (w * c) ≤ 2 * a + c
  most : 2 * a ≤ 2 * (w * c) + c

to_whole : (y : Float) (s : Bool) (a c : ℕ) → 0 < c → HasValue y s a c → Rounded y s a c
unfolding round_half_away
to_whole nan s a c C v = absurd v
to_whole (inf t) s a c C v = absurd v
to_whole (fin t m e) s a c C v =
    let b = m * up e in
    let d = down e in
    let D = down_pos e in
    let w = nearest_whole b d in
    let near = Nearest-near b d D in
    let l : 2 * (w * c) * d ≤ (2 * a + c) * d = omega (arith, mul-le-mul_right c near.0, v.1) in
    let h : 2 * a * d ≤ (2 * (w * c) + c) * d = omega (arith, mul-le-mul_right c (le_of_lt near.1), v.1) in
    record {
      w = w;
      is = ap (λ (u : Bool). signed u w) v.0;
      least = le_of_mul-le-mul_right l D;
      most = le_of_mul-le-mul_right h D;
    }

-- x is n / d, and g of the smallest f32, of which 1 / 16,384 has p
Around-of : (n d g p w : ℕ) → 0 < d → n * (16384 * p) ≡ g * d → 2 * (w * (d * 1)) ≤ 2 * (n * 8192) + d * 1 → 2 * (n * 8192) ≤ 2 * (w * (d * 1)) + d * 1
    → Around 1 w p g
Around-of n d g p w D is l h =
    let l' : 2 * (1 * w * p) * d ≤ (g + 1 * p) * d = omega (arith, mul-le-mul_right p l, is) in
    let h' : g * d ≤ (2 * (1 * w * p) + 1 * p) * d = omega (arith, mul-le-mul_right p h, is) in
    (le_of_mul-le-mul_right l' D, le_of_mul-le-mul_right h' D)

-- and the other way about, with m for 1
in_units : (n d g p m w lo hi : ℕ) → 0 < d → 0 < p → n * (16384 * p) ≡ g * d → lo * d ≤ n * per_one → n * per_one ≤ hi * d → Around m w p g
    → (16384 * lo ≤ 2 * (m * w * per_one) + m * per_one) × (2 * (m * w * per_one) ≤ 16384 * hi + m * per_one)
in_units n d g p m w lo hi D P is l h r =
    let l' : 16384 * lo * (p * d) ≤ (2 * (m * w * per_one) + m * per_one) * (p * d) =
    omega (arith, mul-le-mul_right (16384 * p) l, ap (λ (z : ℕ). z * per_one) is, mul-le-mul_right (d * per_one) r.1) in
    let h' : 2 * (m * w * per_one) * (p * d) ≤ (16384 * hi + m * per_one) * (p * d) =
    omega (arith, mul-le-mul_right (16384 * p) h, ap (λ (z : ℕ). z * per_one) is, mul-le-mul_right (d * per_one) r.0) in
    (le_of_mul-le-mul_right l' (mul-pos P D), le_of_mul-le-mul_right h' (mul-pos P D))

-- ---- what a division or a multiplication by 255 leaves
-- a number n / c of the smallest f32, rounded
abbrev grid : ℕ → ℕ → ℕ
grid n c = kept 24 (n * 2 ^ 149) c * 2 ^ drop 24 (n * 2 ^ 149) c

abbrev W : Between (f32 255) false (255 * per_one) (255 * per_one)
W = whole 255 (lit≤ tt)

W> : 0 < num W
W> = omega (arith, whole_is 255 W, den_pos W)

of_value : {x : Float} {s : Bool} {lo hi : ℕ} (b : Between x s lo hi) (g : ℕ) → HasValue x s g (2 ^ 149) → num b * 2 ^ 149 ≡ g * den b
of_value {s = s} b g v = (subst (λ (y : Float). HasValue y s g (2 ^ 149)) b.is v).1

places : (k : ℕ) → k ≤ 135 → 2 ^ 135 ≡ 2 ^ (135 - k) * 2 ^ k
places k h =
    let e : 135 ≡ 135 - k + k = omega arith in
    ap (λ (z : ℕ). 2 ^ z) e ∙ pow-add 2 (135 - k) k

-- n / d is v of the smallest, f of which are 1
module _ (n d v f N D : ℕ) (is : n * f ≡ v * d) (W_is : N ≡ 255 * D) where
  over_255 : (n * D * f ≡ 1 * (v * (d * D))) × (N * d ≡ 255 * (d * D))
  over_255 = (omega (arith, ap (λ (z : ℕ). z * D) is), omega (arith, ap (λ (z : ℕ). z * d) W_is))

  times_255 : (n * N * f ≡ 255 * (v * (d * D))) × (d * D ≡ 1 * (d * D))
  times_255 = (omega (arith, ap (λ (z : ℕ). z * (255 * D)) is, ap (λ (z : ℕ). n * z * f) W_is), omega arith)

module _ {x : Float} {s : Bool} {lo hi : ℕ} (b : Between x s lo hi) (p : Placed b) (w : ℕ) where
  E : 0 < den b * den W
  E = mul-pos (den_pos b) (den_pos W)

  divided : Around 1 w (2 ^ 135) (grid (num b * den W) (num W * den b)) → Around 255 w (2 ^ 135) (p.q * 2 ^ p.k)
  divided =
      let i = over_255 (num b) (den b) (p.q * 2 ^ p.k) (2 ^ 149) (num W) (den W) p.is (whole_is 255 W) in
      around p.q (2 ^ p.k) (2 ^ (135 - p.k)) (2 ^ 135) 255 1 w (num b * den W * 2 ^ 149) (num W * den b) (den b * den W) 1 255 p.few (pow_pos p.k)
      (places p.k p.k≤) (lit≤ tt) (omega (arith, E, i.1)) (omega (arith, E)) (lit< tt) i.0 i.1 refl

  multiplied : Around 255 w (2 ^ 135) (grid (num b * num W) (den b * den W)) → Around 1 w (2 ^ 135) (p.q * 2 ^ p.k)
  multiplied =
      let i = times_255 (num b) (den b) (p.q * 2 ^ p.k) (2 ^ 149) (num W) (den W) p.is (whole_is 255 W) in
      around p.q (2 ^ p.k) (2 ^ (135 - p.k)) (2 ^ 135) 1 255 w (num b * num W * 2 ^ 149) (den b * den W) (den b * den W) 255 1 p.few (pow_pos p.k)
      (places p.k p.k≤) (lit≤ tt) E (omega (arith, E)) (lit< tt) i.0 i.1 refl

-- ---- x is n / 255 times a number that lies from lo to hi units, and its weight is `size`, with the sign s
-- 510 times the weight stands there, so that nothing is divided: 255 are the half by which rounding to a whole number moves it, and `more` is what f32 does.
pub record Weighed (x : Float) (s : Bool) (n lo hi more : ℕ) : Type 0 where
  pub size : ℕ
  pub is : weight x ≡ signed s size
  pub least : 16384 * (n * lo) ≤ 510 * (size * per_one) + 255 * per_one + more
  pub most : 510 * (size * per_one) ≤ 16384 * (n * hi) + 255 * per_one + more

-- a number of at most 2 ^ (j + 25) units, of which half a place is 2 ^ j
module _ {x : Float} {s : Bool} {lo hi : ℕ} (b : Between x s lo hi) (j : ℕ) (j≤ : j ≤ 15) (top : hi ≤ 2 ^ 25 * 2 ^ j) (n : ℕ) (n≤ : n ≤ 255)
    (N : Between (f32 n) false (n * per_one) (n * per_one)) where
  abbrev u : ℕ
  u = 2 ^ j

  abbrev al : ℕ
  al = n * lo - 2 ^ (j + 8)

  abbrev ah : ℕ
  ah = min (n * hi + 2 ^ (j + 8)) (n * 2 ^ 15 * 2 ^ (j + 8 + 2))

  u≤ : u ≤ 2 ^ 15
  u≤ = pow_mono j≤

  e8 : 2 ^ (j + 8) ≡ u * 2 ^ 8
  e8 = pow-add 2 j 8

  held : n * 2 ^ 15 * 2 ^ (j + 8 + 2) ≡ n * (2 ^ 25 * u)
  held = omega (arith, ap (λ (z : ℕ). n * z) (pow-add 2 (j + 8) 2 ∙ ap (λ (z : ℕ). z * 2 ^ 2) e8))

  hi≤ : n * hi ≤ n * 2 ^ 15 * 2 ^ (j + 8 + 2)
  hi≤ = omega (arith, mul-le-mul_left n top, held)

  ah≤ : ah ≤ 255 * (2 ^ 25 * u)
  ah≤ = omega (arith, held, mul-le-mul_right (2 ^ 25 * u) n≤)

  -- times n
  a : Between (x *f f32 n) s al ah
  a = times b N s (times_positive s) (j + 8) (n * 2 ^ 15) (n * lo) (n * hi) (omega arith) (omega arith) hi≤ (omega arith) (omega arith)

  -- over 255
  qh≤ : (ah + 254) / 255 ≤ 2 ^ 23 * 2 ^ (j + 2)
  qh≤ = omega (arith, ah≤, pow-add 2 j 2)

  q≤ : 2 ^ 23 * 2 ^ (j + 2) ≤ per_one
  q≤ = omega (arith, u≤, pow-add 2 j 2)

  q : Between (x *f f32 n /f f32 255) s (al / 255 - 2 ^ j) (min ((ah + 254) / 255 + 2 ^ j) (2 ^ 23 * 2 ^ (j + 2)))
  q = over a W s (times_positive s) j (2 ^ 23) (al / 255) ((ah + 254) / 255) (omega arith) (lit≤ tt) qh≤ (lit< tt) (omega arith) (omega arith)

  q_value : HasValue (x *f f32 n /f f32 255) s (grid (num a * den W) (num W * den a)) (2 ^ 149)
  q_value =
      subst (λ (z : Float). HasValue z s (grid (num a * den W) (num W * den a)) (2 ^ 149)) (sym (over_is a W s (times_positive s) (lit< tt)))
      (round_value s (num a * den W) (num W * den a) j (2 ^ 23) (al / 255) ((ah + 254) / 255) (mul-pos W> (den_pos a)) (omega arith) (lit≤ tt) qh≤
      (quotient (num a) (den a) (num W) (den W) al ah (255 * per_one) (255 * per_one) a.size W.size (al / 255) ((ah + 254) / 255)
      (omega arith) (omega arith)))

  one≤ : min ((ah + 254) / 255 + 2 ^ j) (2 ^ 23 * 2 ^ (j + 2)) ≤ per_one
  one≤ = omega (arith, q≤)

  -- times 8,192, to a whole number
  r : Rounded (x *f f32 n /f f32 255 *f scale) s (num q * 8192) (den q * 1)
  r =
      to_whole (x *f f32 n /f f32 255 *f scale) s (num q * 8192) (den q * 1) (mul-pos (den_pos q) (lit< tt))
      (scaled (div-fits binary32 (x *f f32 n) (f32 255)) q (omega (arith, one≤)))

  pa : Placed a
  pa = placed (mul-fits binary32 x (f32 n)) a (omega (arith, ah≤, u≤))

  Around-a : Around 255 r.w (2 ^ 135) (pa.q * 2 ^ pa.k)
  Around-a =
      divided a pa r.w
      (Around-of (num q) (den q) (grid (num a * den W) (num W * den a)) (2 ^ 135) r.w (den_pos q) (of_value q _ q_value) r.least r.most)

  of_times : Weighed (x *f f32 n /f f32 255) s n lo hi (2 ^ 22 * u)
  of_times =
      let i = in_units (num a) (den a) (pa.q * 2 ^ pa.k) (2 ^ 135) 255 r.w al ah (den_pos a) (pow_pos 135) pa.is a.size.0 a.size.1 Around-a in
      record { size = r.w; is = r.is; least = omega (arith, i.0, e8); most = omega (arith, i.1, e8) }

pub weighed : {x : Float} {s : Bool} {lo hi : ℕ} → Between x s lo hi → (j : ℕ) → j ≤ 15 → hi ≤ 2 ^ 25 * 2 ^ j → (n : ℕ) → n ≤ 255
    → Weighed (x *f f32 n /f f32 255) s n lo hi (2 ^ 22 * 2 ^ j)
weighed b j j≤ top n n≤ = of_times b j j≤ top n n≤ (whole n (omega arith))

-- an f32 times 255 / 255
module _ {x : Float} {s : Bool} {lo hi : ℕ} (fit : T (fits binary32 x)) (b : Between x s lo hi) (top : hi ≤ 2 ^ 25 * 2 ^ 15) where
  abbrev a255 : Between (x *f f32 255) s (255 * lo - 2 ^ 23) (min (255 * hi + 2 ^ 23) (255 * 2 ^ 15 * 2 ^ 25))
  a255 = a b 15 (lit≤ tt) top 255 (lit≤ tt) W

  abbrev p255 : Placed a255
  p255 = pa b 15 (lit≤ tt) top 255 (lit≤ tt) W

  a_value : HasValue (x *f f32 255) s (grid (num b * num W) (den b * den W)) (2 ^ 149)
  a_value =
      subst (λ (z : Float). HasValue z s (grid (num b * num W) (den b * den W)) (2 ^ 149)) (sym (times_is b W s (times_positive s)))
      (round_value s (num b * num W) (den b * den W) 23 (255 * 2 ^ 15) (255 * lo) (255 * hi) (mul-pos (den_pos b) (den_pos W)) (lit≤ tt) (lit≤ tt)
      (omega (arith, top))
      (product (num b) (den b) (num W) (den W) lo hi (255 * per_one) (255 * per_one) b.size W.size (255 * lo) (255 * hi) (omega arith) (omega arith)))

  a_is : p255.q * 2 ^ p255.k ≡ grid (num b * num W) (den b * den W)
  a_is = eq_of_mul-eq-mul_right (den a255) (den_pos a255) _ _ (sym p255.is ∙ of_value a255 _ a_value)

  pub Weighed-full : Weighed (x *f f32 255 /f f32 255) s 255 lo hi 0
  Weighed-full =
      let t = r b 15 (lit≤ tt) top 255 (lit≤ tt) W in
      let w = t.w in
      let p = placed fit b (omega (arith, top)) in
      let g = subst (Around 255 w (2 ^ 135)) a_is (Around-a b 15 (lit≤ tt) top 255 (lit≤ tt) W) in
      let i = in_units (num b) (den b) (p.q * 2 ^ p.k) (2 ^ 135) 1 w lo hi (den_pos b) (pow_pos 135) p.is b.size.0 b.size.1 (multiplied b p w g) in
      record { size = w; is = t.is; least = omega (arith, i.0); most = omega (arith, i.1) }
