-- The triples of weights of three numbers that add to 1, but for the roundings: the luma weights add to about 8,192 times range / 255, and the two
-- negative weights of a chroma triple to about half of that.
-- The idea: a weight is at most a half off, so three add to the exact sum within 1.5, and two within 1.
-- Assumes nothing.
use Rattle.std.proofs.Common.{◌≡◌, ℕ, ◌+◌, ◌-◌, ◌*◌, ◌/◌, ◌^◌, ◌<◌, ◌≤◌, min, Bool, true, false, not, T, pos, negsuc, neg_ℤ, sym, refl, ap, ◌∙◌, le_of_suc-le-suc, mul-le-mul_right, div-lt_iff_lt-mul, mul-le-mul, div-mul-le_self, le_of_mul-le-mul_right, arith, lit≤, pow-add}
use native.Mathlib.Nat.{lt-div-mul-add}
use lib.Ieee.{Float, neg, of_bits, of_int, mul, div}
use Rattle.yuv_support.specs.declared.YuvRange.{YuvRange}
use Rattle.yuv_support.specs.declared.YuvRange.TheVariants.{Limited, Full}
use Rattle.yuv_support.specs.Range.{yuv_range}
use Rattle.forward_transform.specs.Rounding.{round_half_away, signed}
use Rattle.forward_transform.specs.Transform.{◌*f◌, ◌/f◌, f32, half, weight}
use Rattle.forward_transform.specs.Small.{small_weight}
use Rattle.forward_transform.specs.Shape.{luma_least, luma_most, chroma_top}
use Rattle.forward_transform.proofs.Units.{per_one, Between, wider}
use Rattle.forward_transform.proofs.Operations.{times, over, times_positive, times_negative}
use Rattle.forward_transform.proofs.Weight.{Weighed, weighed}
use Rattle.forward_transform.proofs.Pair.{Number, Divisor}

pub range≤ : (range : YuvRange) → ((yuv_range range).range_y ≤ 255) × ((yuv_range range).range_uv ≤ 255)
range≤ Limited = (lit≤ tt, lit≤ tt)
range≤ Full = (lit≤ tt, lit≤ tt)

-- ---- signs: the weight of a number next to 0 is 0, with either sign
resign : {x : Float} {s : Bool} {n lo hi : ℕ} (t : Bool) → Weighed x s n lo hi → n * hi ≤ 255 * 2 ^ 21 → Weighed x t n lo hi
resign {x} {s} t w h =
    let z : w.size ≡ 0 = omega (arith, w.most) in
    record {
      size = w.size;
      small = w.small;
      least = w.least;
      most = w.most;
      is = w.is ∙ ap (signed s) z ∙ zero_sign s t ∙ sym (ap (signed t) z);
    }
  where
    zero_sign : (s t : Bool) → signed s 0 ≡ signed t 0
    zero_sign true true = refl
    zero_sign true false = refl
    zero_sign false true = refl
    zero_sign false false = refl

module _ {x : Float} {n lo hi : ℕ} where
  not_negative : (s : Bool) → Weighed x s n lo hi → (T s → n * hi ≤ 255 * 2 ^ 21) → Weighed x false n lo hi
  not_negative true w h = resign false w (h tt)
  not_negative false w h = w

  not_positive : (s : Bool) → Weighed x (not s) n lo hi → (T s → n * hi ≤ 255 * 2 ^ 21) → Weighed x true n lo hi
  not_positive true w h = resign true w (h tt)
  not_positive false w h = w

-- ---- luma
pub luma : {x : Float} (k : Number x) (n : ℕ) → n ≤ 255 → Weighed (x *f f32 n /f f32 255) false n k.least k.most
luma k n n≤ = not_negative k.sign (weighed k.size k.top n n≤) (λ t. omega (arith, mul-le-mul n≤ (k.nothing t)))

pub luma_weights_sum : (range : YuvRange) {x y z : Float} {a b c a' b' c' : ℕ} → let n = (yuv_range range).range_y in
    (u : Weighed x false n a a') (v : Weighed y false n b b') (w : Weighed z false n c c')
    → per_one ≤ a + b + c + 2 ^ 19 → a' + b' + c' ≤ per_one + 2 ^ 19
    → (luma_least range ≤ u.size + v.size + w.size) × (u.size + v.size + w.size ≤ luma_most range)
luma_weights_sum Limited u v w l h = (omega (arith, u.least, v.least, w.least), omega (arith, u.most, v.most, w.most))
luma_weights_sum Full u v w l h = (omega (arith, u.least, v.least, w.least), omega (arith, u.most, v.most, w.most))

-- ---- chroma: the positive weight
pub chroma_top_lem : (range : YuvRange) → let x = half *f f32 (yuv_range range).range_uv /f f32 255 in
    (weight x ≡ pos (chroma_top range)) × T (small_weight x)
unfolding of_int of_bits mul div round_half_away
chroma_top_lem Limited = (refl, tt)
chroma_top_lem Full = (refl, tt)

-- ---- chroma: minus a half of x
pub minus_half : Between (neg half) true (2 ^ 39) (2 ^ 39)
unfolding of_bits neg
minus_half = record { mantissa = 1; exponent = negsuc 0; is = refl; size = (lit≤ tt, lit≤ tt) }

halved : {x : Float} (k : Number x) → Between (neg half *f x) (not k.sign) (k.least / 2 - 2 ^ 14) ((k.most + 1) / 2 + 2 ^ 14)
halved k =
    let t = k.top in
    let al = k.least / 2 in
    let ah = (k.most + 1) / 2 in
    wider _ _
    (times minus_half k.size (not k.sign) (times_negative k.sign) 14 (2 ^ 23) al ah (lit≤ tt) (lit≤ tt) (omega arith) (omega arith) (omega arith))
    (omega arith) (omega arith)

-- ---- chroma: over d
-- Where minus the half of x lies from lo to hi units, and d from dl to dh, the quotient lies from least to most, at most 2 ^ (j + 25).
pub record Ratio (x d : Float) (s : Bool) (lo hi dl dh j : ℕ) : Type 0 where
  pub least : ℕ
  pub most : ℕ
  pub size : Between (neg half *f x /f d) s least most
  pub top : most ≤ 2 ^ 25 * 2 ^ j
  pub low : lo * per_one ≤ (least + 2 ^ j + 1) * dh
  pub high : most * dl ≤ hi * per_one + (2 ^ j + 1) * dl

pub ratio : {x d : Float} {s : Bool} {lo hi dl dh : ℕ} → Between (neg half *f x) s lo hi → Divisor d dl dh
    → (j : ℕ) → j ≤ 15 → hi * per_one ≤ 2 ^ 25 * 2 ^ j * dl → Ratio x d s lo hi dl dh j
ratio {s = s} {lo = lo} {hi = hi} {dl = dl} {dh = dh} y v j j≤ top =
    let dl> : 0 < dl = omega (arith, v.half) in
    let dh> : 0 < dh = omega (arith, v.half') in
    let ql = lo * per_one / dh in
    let qh = (hi * per_one + (dl - 1)) / dl in
    let ql≤ = div-mul-le_self (lo * per_one) dh in
    let ql> = lt-div-mul-add {a = lo * per_one} {b = dh} dh> in
    let qh≤ = div-mul-le_self (hi * per_one + (dl - 1)) dl in
    let qh> = lt-div-mul-add {a = hi * per_one + (dl - 1)} {b = dl} dl> in
    let qh< : qh ≤ 2 ^ 25 * 2 ^ j = le_of_suc-le-suc ((div-lt_iff_lt-mul dl>).1 (omega arith)) in
    let e = pow-add 2 j 2 in
    let back : ql ≤ ql - 2 ^ j + 2 ^ j = omega arith in
    let most≤ : min (qh + 2 ^ j) (2 ^ 23 * 2 ^ (j + 2)) ≤ qh + 2 ^ j = omega arith in
    record {
      least = ql - 2 ^ j;
      most = min (qh + 2 ^ j) (2 ^ 23 * 2 ^ (j + 2));
      size = over y v.size s (times_positive s) j (2 ^ 23) ql qh (omega arith) (lit≤ tt) (omega arith) dl> ql≤ (omega arith);
      top = omega arith;
      low = omega (arith, mul-le-mul_right dh back);
      high = omega (arith, mul-le-mul_right dl most≤);
    }

abbrev HalfOf : (x d : Float) → Number x → ℕ → ℕ → Type 0
HalfOf x d k dl dh = Ratio x d (not k.sign) (k.least / 2 - 2 ^ 14) ((k.most + 1) / 2 + 2 ^ 14) dl dh 15

chroma : {x d : Float} {dl dh : ℕ} (k : Number x) (v : Divisor d dl dh) (r : HalfOf x d k dl dh) (n : ℕ) → n ≤ 255
    → Weighed (neg half *f x /f d *f f32 n /f f32 255) true n r.least r.most
chroma {dl = dl} k v r n n≤ = not_positive k.sign (weighed r.size r.top n n≤) (λ t. mul-le-mul n≤ (next t))
  where
    next : T k.sign → r.most ≤ 2 ^ 21
    next t = le_of_mul-le-mul_right {m = r.most} {n = 2 ^ 21} {k = dl} (omega (arith, r.high, k.nothing t, v.half)) (omega (arith, v.half))

chroma_weights_sum : (range : YuvRange) {x y : Float} {a b a' b' : ℕ} → let n = (yuv_range range).range_uv in
    (u : Weighed x true n a a') (v : Weighed y true n b b') → per_one ≤ 2 * (a + b) + 2 ^ 23 → 2 * (a' + b') ≤ per_one + 2 ^ 24
    → (chroma_top range ≤ u.size + v.size + 1) × (u.size + v.size ≤ chroma_top range + 1)
chroma_weights_sum Limited u v l h = (omega (arith, u.least, v.least), omega (arith, u.most, v.most))
chroma_weights_sum Full u v l h = (omega (arith, u.least, v.least), omega (arith, u.most, v.most))

-- two halves, from lo and lo' to hi and hi', whose doubles a and a', or b and b', add to the divisor but for 2 ^ 20
low_sum : (lo lo' a a' least least' dh : ℕ) → lo * per_one ≤ (least + 2 ^ 15 + 1) * dh → lo' * per_one ≤ (least' + 2 ^ 15 + 1) * dh
    → a ≤ 2 * lo + 2 ^ 16 → a' ≤ 2 * lo' + 2 ^ 16 → dh ≤ a + a' + 2 ^ 20 → per_one ≤ 2 * dh → per_one ≤ 2 * (least + least') + 2 ^ 23
low_sum lo lo' a a' least least' dh x y p q sum large =
    let h : per_one * dh ≤ (2 * (least + least') + 2 ^ 23) * dh = omega arith in
    le_of_mul-le-mul_right h (omega arith)

high_sum : (hi hi' b b' most most' dl : ℕ) → most * dl ≤ hi * per_one + (2 ^ 15 + 1) * dl → most' * dl ≤ hi' * per_one + (2 ^ 15 + 1) * dl
    → 2 * hi ≤ b + 2 ^ 16 → 2 * hi' ≤ b' + 2 ^ 16 → b + b' ≤ dl + 2 ^ 20 → per_one ≤ 4 * dl → 2 * (most + most') ≤ per_one + 2 ^ 24
high_sum hi hi' b b' most most' dl x y p q sum large =
    let m : 2 * (most * dl) + 2 * (most' * dl) ≤ (b + b' + 2 ^ 17) * per_one + (2 ^ 17 + 4) * dl = omega (arith, x, y, p, q) in
    let n : (b + b' + 2 ^ 17) * per_one ≤ (dl + 2 ^ 21) * per_one = mul-le-mul_right per_one (omega (arith, sum)) in
    let h : 2 * (most + most') * dl ≤ (per_one + 2 ^ 24) * dl = omega (arith, m, n, large) in
    le_of_mul-le-mul_right h (omega arith)

-- the two negative weights, of x and of y over d, in one range
abbrev Coefficient : YuvRange → Float → Float → Float
Coefficient range x d = neg half *f x /f d *f f32 (yuv_range range).range_uv /f f32 255

pub record Negatives (range : YuvRange) (x y d : Float) : Type 0 where
  pub first : ℕ
  pub second : ℕ
  pub first_is : weight (Coefficient range x d) ≡ neg_ℤ (pos first)
  pub second_is : weight (Coefficient range y d) ≡ neg_ℤ (pos second)
  pub first_small : T (small_weight (Coefficient range x d))
  pub second_small : T (small_weight (Coefficient range y d))
  pub least : chroma_top range ≤ first + second + 1
  pub most : first + second ≤ chroma_top range + 1

pub negatives : (range : YuvRange) {x y d : Float} {dl dh : ℕ} (k : Number x) (k' : Number y) → Divisor d dl dh
    → dh ≤ k.least + k'.least + 2 ^ 20 → k.most + k'.most ≤ dl + 2 ^ 20 → Negatives range x y d
negatives range {dl = dl} {dh = dh} k k' v l h =
    let n = (yuv_range range).range_uv in
    let r = ratio (halved k) v 15 (lit≤ tt) (omega (arith, v.half)) in
    let r' = ratio (halved k') v 15 (lit≤ tt) (omega (arith, v.half)) in
    let w = chroma k v r n (range≤ range).1 in
    let w' = chroma k' v r' n (range≤ range).1 in
    let l' = low_sum _ _ k.least k'.least _ _ dh r.low r'.low (omega arith) (omega arith) l v.half' in
    let h' = high_sum _ _ k.most k'.most _ _ dl r.high r'.high (omega arith) (omega arith) h (omega (arith, v.half)) in
    let sum = chroma_weights_sum range w w' l' h' in
    record {
      first = w.size;
      second = w'.size;
      first_is = w.is;
      second_is = w'.is;
      first_small = w.small;
      second_small = w'.small;
      least = sum.0;
      most = sum.1;
    }
