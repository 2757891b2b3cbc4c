-- The size of an f32, held between two whole numbers of units, of which 1 has 2 ^ 40.
-- The idea: rounding to f32 moves a number of at most 2 ^ j by at most 2 ^ (j - 25), half a place of its last digit, and not past a number that f32 holds.
-- Assumes nothing.
use Rattle.std.proofs.Common.{◌≡◌, ℕ, ◌+◌, ◌-◌, ◌*◌, ◌/◌, ◌%◌, ◌^◌, ◌<◌, ◌≤◌, min, Bool, true, false, not, T, ltb, ℤ, sym, ap, ◌∙◌, subst, le_trans, le_of_eq, le_refl, le_of_suc-le-suc, lt_of_le_of_lt, le_of_lt, mul-le-mul_right, mod-lt, mul_assoc, mul_comm, div-lt_iff_lt-mul, mul-le-mul, lt_of_mul-lt-mul_right, mul-le-mul_left, mul-lt-mul_of_pos_right, mul-pos, div-add-mod', le-div_iff_mul-le, le_of_mul-le-mul_right, arith, lit<, eqb→eq, ltb→lt, leb→le, nltb→le, pow_pos, pow_mono, pow-add}
use Prim.Native.Nat.{compare, Ordering}
use native.Mathlib.Nat.{add_right_comm, mul-sub, min-eq_left, min-eq_right}
use lib.Dec.{is_le, compare_is_eq, nleb→lt}
use lib.Pow.{pow-lt}
use lib.Ieee.{Float, nan, inf, fin, binary32, up, down, round, nearest}
use lib.Ieee.Digits.{size-le}
use lib.Ieee.Fits.{down_pos, round_is, nearest-le}
use lib.Ieee.Exact.{HasValue, units_val}
use lib.Ieee.Nearest.{closest, nearest-ge}
use lib.Ieee.Order.{drop, kept}

-- the units in 1
abbrev pub per_one : ℕ
per_one = 2 ^ 40

-- a / c lies from lo to hi units
abbrev pub In : ℕ → ℕ → ℕ → ℕ → Type 0
In lo hi a c = (lo * c ≤ a * per_one) × (a * per_one ≤ hi * c)

-- x is finite, has the sign s, and its size lies from lo to hi units
pub record Between (x : Float) (s : Bool) (lo hi : ℕ) : Type 0 where
  pub mantissa : ℕ
  pub exponent : ℤ
  pub is : x ≡ fin s mantissa exponent
  pub size : In lo hi (mantissa * up exponent) (down exponent)

-- the size as a fraction
abbrev pub num : {x : Float} {s : Bool} {lo hi : ℕ} → Between x s lo hi → ℕ
num b = b.mantissa * up b.exponent

abbrev pub den : {x : Float} {s : Bool} {lo hi : ℕ} → Between x s lo hi → ℕ
den b = down b.exponent

pub den_pos : {x : Float} {s : Bool} {lo hi : ℕ} (b : Between x s lo hi) → 0 < den b
den_pos b = down_pos b.exponent

pub same : {x y : Float} {s : Bool} {lo hi : ℕ} → x ≡ y → Between y s lo hi → Between x s lo hi
same e b = record { mantissa = b.mantissa; exponent = b.exponent; is = e ∙ b.is; size = b.size }

pub wider : {x : Float} {s : Bool} {lo hi : ℕ} (lo' hi' : ℕ) → Between x s lo hi → lo' ≤ lo → hi ≤ hi' → Between x s lo' hi'
wider lo' hi' b l h = record {
  mantissa = b.mantissa;
  exponent = b.exponent;
  is = b.is;
  size = (le_trans (mul-le-mul_right (den b) l) b.size.0, le_trans b.size.1 (mul-le-mul_right (den b) h));
}

pub sub-mul : (a b k : ℕ) → (a - b) * k ≡ a * k - b * k
sub-mul a b k = mul_comm (a - b) k ∙ mul-sub k a b ∙ ap (λ (z : ℕ). z - k * b) (mul_comm k a) ∙ ap (λ (z : ℕ). a * k - z) (mul_comm k b)

-- b / d is of the same size as a / c
across : (lo hi a c b d : ℕ) → 0 < c → b * c ≡ a * d → In lo hi a c → In lo hi b d
across lo hi a c b d C is i =
    let l : lo * d * c ≤ b * per_one * c = omega (arith, mul-le-mul_right d i.0) in
    let h : b * per_one * c ≤ hi * d * c = omega (arith, mul-le-mul_right d i.1) in
    (le_of_mul-le-mul_right l C, le_of_mul-le-mul_right h C)

-- x is a / c in size
pub valued : (x : Float) (s : Bool) (a c lo hi : ℕ) → 0 < c → HasValue x s a c → In lo hi a c → Between x s lo hi
valued nan s a c lo hi C v i = absurd v
valued (inf t) s a c lo hi C v i = absurd v
valued (fin t m e) s a c lo hi C v i =
    record { mantissa = m; exponent = e; is = ap (λ (b : Bool). fin b m e) v.0; size = across lo hi a c (m * up e) (down e) C v.1 i }

-- ---- to the nearest whole number: at most a half away, and no further than a whole number on either side
pub closest_near : (n u : ℕ) → 0 < u → (2 * (closest n u * u) ≤ 2 * n + u) × (2 * n ≤ 2 * (closest n u * u) + u)
closest_near n u U = go (compare (n % u * 2) u) (leb→le (n % u * 2) u) (nleb→lt (n % u * 2) u) (eqb→eq (n % u * 2) u)
  where
    go : (o : Ordering) → (T (is_le o) → n % u * 2 ≤ u) → (T (not (is_le o)) → u < n % u * 2) → (T (compare_is_eq o) → n % u * 2 ≡ u)
        → (2 * (nearest (n / u) o * u) ≤ 2 * n + u) × (2 * n ≤ 2 * (nearest (n / u) o * u) + u)
    go Ordering.lt less more level = (omega (arith, div-add-mod' n u), omega (arith, div-add-mod' n u, less tt))
    go Ordering.eq less more level =
        let q≤ = mul-le-mul_right u (nearest-ge (n / u) Ordering.eq) in
        let ≤q = mul-le-mul_right u (nearest-le (n / u) Ordering.eq) in
        (omega (arith, div-add-mod' n u, level tt, ≤q), omega (arith, div-add-mod' n u, level tt, q≤))
    go Ordering.gt less more level = (omega (arith, div-add-mod' n u, more tt), omega (arith, div-add-mod' n u, mod-lt n U))

closest_most : (n u m : ℕ) → 0 < u → n ≤ m * u → closest n u ≤ m
closest_most n u m U h = le_of_suc-le-suc (lt_of_mul-lt-mul_right u (omega (arith, closest_near n u U)))

closest_least : (n u m : ℕ) → 0 < u → m * u ≤ n → m ≤ closest n u
closest_least n u m U h = le_trans ((le-div_iff_mul-le U).1 h) (nearest-ge (n / u) (compare (n % u * 2) u))

-- ---- rounding
-- n / c to f32, in its smallest numbers. Where it is at most t times 2 ^ (h + 2), which f32 holds, it moves by at most 2 ^ h, and not past that.
module _ (n c h t : ℕ) (C : 0 < c) (t≤ : t ≤ 2 ^ 23) (top : n ≤ t * 2 ^ (h + 2) * c) where
  abbrev k : ℕ
  k = drop 24 n c

  abbrev grid : ℕ
  grid = kept 24 n c * 2 ^ k

  U : 0 < c * 2 ^ k
  U = mul-pos C (pow_pos k)

  all≤ : t * 2 ^ (h + 2) ≤ 2 ^ (h + 25)
  all≤ = le_trans (mul-le-mul_right (2 ^ (h + 2)) t≤) (le_of_eq (sym (pow-add 2 23 (h + 2)) ∙ ap (λ (z : ℕ). 2 ^ z) (omega arith)))

  n≤ : n ≤ 2 ^ (h + 25) * c
  n≤ = le_trans top (mul-le-mul_right c all≤)

  k≤ : k ≤ h + 2
  k≤ = omega (arith, size-le (n / c) (h + 26) ((div-lt_iff_lt-mul C).1 (lt_of_le_of_lt n≤ (mul-lt-mul_of_pos_right (pow-lt (omega arith)) C))))

  -- a power from there on is a multiple of the place, 2 ^ k
  places : (i : ℕ) → h + 2 ≤ i → 2 ^ (i - k) * 2 ^ k ≡ 2 ^ i
  places i h≤ = sym (pow-add 2 (i - k) k) ∙ ap (λ (z : ℕ). 2 ^ z) (omega (arith, k≤))

  grid≤ : grid ≤ t * 2 ^ (h + 2)
  grid≤ =
      let e = ap (λ (z : ℕ). t * z) (places (h + 2) (le_refl _)) in
      let m = closest_most n (c * 2 ^ k) (t * 2 ^ (h + 2 - k)) U (omega (arith, ap (λ (z : ℕ). z * c) e)) in
      omega (arith, mul-le-mul_right (2 ^ k) m, e)

  grid_near : (grid * c ≤ n + 2 ^ h * c) × (n ≤ grid * c + 2 ^ h * c)
  grid_near = go (ltb n (2 ^ (h + 25) * c)) (ltb→lt n (2 ^ (h + 25) * c)) (nltb→le n (2 ^ (h + 25) * c))
    where
      go : (b : Bool) → (T b → n < 2 ^ (h + 25) * c) → (T (not b) → 2 ^ (h + 25) * c ≤ n) → (grid * c ≤ n + 2 ^ h * c) × (n ≤ grid * c + 2 ^ h * c)
      go true below at =
          let k< : k ≤ h + 1 = omega (arith, size-le (n / c) (h + 25) ((div-lt_iff_lt-mul C).1 (below tt))) in
          let p = mul-le-mul_left c (le_trans (pow_mono k<) (le_of_eq (pow-add 2 h 1))) in
          let near = closest_near n (c * 2 ^ k) U in
          (omega (arith, near.0, p), omega (arith, near.1, p))
      go false below at =
          let e = places (h + 25) (omega arith) in
          let m = closest_least n (c * 2 ^ k) (2 ^ (h + 25 - k)) U (omega (arith, at tt, ap (λ (z : ℕ). z * c) e)) in
          let least : 2 ^ (h + 25) ≤ grid = le_trans (le_of_eq (sym e)) (mul-le-mul_right (2 ^ k) m) in
          (omega (arith, mul-le-mul_right c (le_trans grid≤ all≤), at tt), omega (arith, mul-le-mul_right c least, n≤))

-- The smallest f32 is 2 ^ -149, so that a unit has f = 2 ^ 109 of them, and 1 has u * f. (omega reads no numeral that long: f is a variable.)
-- With g of them within `away` units of a / c:
module _ (f u g a c away : ℕ) (C : 0 < c) where
  least_of : (lo : ℕ) → a * (u * f) ≤ g * c + away * f * c → lo * c ≤ a * u → (lo - away) * f ≤ g
  least_of lo above l =
      let h : lo * f * c ≤ (g + away * f) * c = omega (arith, mul-le-mul_right f l) in
      rw (sub-mul lo away f) (omega (arith, le_of_mul-le-mul_right h C))

  most_of : (hi : ℕ) → g * c ≤ a * (u * f) + away * f * c → a * u ≤ hi * c → g ≤ (hi + away) * f
  most_of hi below h =
      let l : g * c ≤ (hi + away) * f * c = omega (arith, mul-le-mul_right f h) in
      le_of_mul-le-mul_right l C

  in_units : (least most : ℕ) → least * f ≤ g → g ≤ most * f → (least * (u * f) ≤ g * u) × (g * u ≤ most * (u * f))
  in_units least most l h = (omega (arith, mul-le-mul_right u l), omega (arith, mul-le-mul_right u h))

at_min : (P : ℕ → Type 0) (a b : ℕ) → P a → P b → P (min a b)
at_min P a b x y = go (ltb a b) (ltb→lt a b) (nltb→le a b)
  where
    go : (t : Bool) → (T t → a < b) → (T (not t) → b ≤ a) → P (min a b)
    go true h k = subst P (sym (min-eq_left (le_of_lt (h tt)))) x
    go false h k = subst P (sym (min-eq_right (k tt))) y

-- the number is at most `most` units; and that is far from the largest f32
under : (f u a c hi most : ℕ) → a * u ≤ hi * c → hi ≤ most → a * (u * f) ≤ most * f * c
under f u a c hi most h top = omega (arith, mul-le-mul_right f (le_trans h (mul-le-mul_right c top)))

room : (f g t p : ℕ) → g ≤ t * p * f → t ≤ 2 ^ 23 → p ≤ 2 ^ 32 → g ≤ 2 ^ 55 * f
room f g t p h a b = le_trans h (mul-le-mul_right f (mul-le-mul a b))

-- ---- a number of at most t times 2 ^ (j + 2) units moves by at most 2 ^ j of them, and not past those
module _ (s : Bool) (a c j t lo hi : ℕ) (C : 0 < c) (j≤ : j ≤ 30) (t≤ : t ≤ 2 ^ 23) (top : hi ≤ t * 2 ^ (j + 2)) (i : In lo hi a c) where
  abbrev f : ℕ
  f = 2 ^ 109

  abbrev n : ℕ
  n = a * 2 ^ 149

  abbrev g : ℕ
  g = kept 24 n c * 2 ^ drop 24 n c

  most_is : t * 2 ^ (j + 109 + 2) ≡ t * 2 ^ (j + 2) * f
  most_is =
      ap (λ (z : ℕ). t * z) (ap (λ (z : ℕ). 2 ^ z) (add_right_comm j 109 2) ∙ pow-add 2 (j + 2) 109) ∙ sym (mul_assoc t (2 ^ (j + 2)) f)

  under_most : n ≤ t * 2 ^ (j + 109 + 2) * c
  under_most = subst (λ (z : ℕ). n ≤ z * c) (sym most_is) (under f per_one a c hi (t * 2 ^ (j + 2)) i.1 top)

  g≤ : g ≤ t * 2 ^ (j + 2) * f
  g≤ = le_trans (grid≤ n c (j + 109) t C t≤ under_most) (le_of_eq most_is)

  pub round_value : HasValue (round binary32 s a c) s g (2 ^ 149)
  round_value =
      let p≤ : 2 ^ (j + 2) ≤ 2 ^ 32 = pow_mono {i = j + 2} {j = 32} (omega arith) in
      subst (λ (x : Float). HasValue x s g (2 ^ 149)) (sym (round_is binary32 s a c))
      (units_val binary32 s (kept 24 n c) (drop 24 n c) (lt_of_le_of_lt (room f g t (2 ^ (j + 2)) g≤ t≤ p≤) (lit< tt)))

  pub rounded : Between (round binary32 s a c) s (lo - 2 ^ j) (min (hi + 2 ^ j) (t * 2 ^ (j + 2)))
  rounded =
      let most = t * 2 ^ (j + 2) in
      let near = subst (λ (z : ℕ). (g * c ≤ n + z * c) × (n ≤ g * c + z * c)) (pow-add 2 j 109) (grid_near n c (j + 109) t C t≤ under_most) in
      valued (round binary32 s a c) s g (2 ^ 149) (lo - 2 ^ j) (min (hi + 2 ^ j) most) (pow_pos 149) round_value
      (in_units f per_one g a c (2 ^ j) C (lo - 2 ^ j) (min (hi + 2 ^ j) most)
      (least_of f per_one g a c (2 ^ j) C lo near.1 i.0)
      (at_min (λ (z : ℕ). g ≤ z * f) (hi + 2 ^ j) most (most_of f per_one g a c (2 ^ j) C hi near.0 i.1) g≤))
