-- One chroma weight is next to the exact one.
-- The idea: a quotient of at most a half in units is rounded as such; one that may be more is next to the top, where the weight is known.
-- Assumes nothing.
use mathlib.Core.Path.{◌≡◌, sym, subst, ◌∙◌}
use mathlib.Core.Bool.{Bool, true, false, not}
use Prim.Native.Nat.{ℕ, ◌+◌, ◌-◌, ◌*◌, ◌^◌, ◌≤◌, ◌<◌, min}
use native.Mathlib.Nat.{le_trans, mul-le-mul_right, le_of_mul-le-mul_right}
use native.Mathlib.Omega.{arith}
use lib.Dec.{T, ltb, ltb→lt, nltb→le, lit≤}
use lib.IntN.{nat_abs}
use lib.Ieee.{Float, binary32, neg, fits}
use lib.Ieee.Fits.{div-fits}
use Rattle.yuv_support.specs.declared.YuvRange.{YuvRange}
use Rattle.yuv_support.specs.declared.YuvRange.TheVariants.{Limited, Full}
use Rattle.yuv_support.specs.Range.{yuv_range}
use Rattle.forward_transform.specs.Transform.{◌*f◌, ◌/f◌, f32, half, weight}
use Rattle.forward_transform.proofs.Units.{per_one, Between, den_pos}
use Rattle.forward_transform.proofs.Pair.{Divisor, slack}
use Rattle.forward_transform.proofs.Triples.{range≤, ratio}
use Rattle.exact_weights.specs.Near.{Near}
use Rattle.exact_weights.proofs.Weighing.{Weighed, weighed, Weighed-full}
use Rattle.exact_weights.proofs.Close.{Close, Enough, near, size_of}
use Rattle.exact_weights.proofs.Quotient.{Halves, quotient_Close, top_units, top_size, top_Near}

-- the divisor is d / one exactly, and D units; the half lies from lo to hi, its double from least to most but for `loss`, next to p / one
pub record Exact (D one d : ℕ) : Type 0 where
  pub least : D * one ≤ d * per_one
  pub most : d * per_one ≤ (D + 1) * one
  pub large : one ≤ 2 * d

pub halves : (least most lo hi loss D a p one d : ℕ) → Close a least most p one → least ≤ 2 * lo + loss → 2 * hi ≤ most + loss → Exact D one d → p ≤ d
    → loss + a ≤ 2 ^ 17 → Halves lo hi (D - slack) (min (D + slack) per_one) (loss + a) p one d
halves least most lo hi loss D a p one d close l h e part few =
    let dh≤ : min (D + slack) per_one ≤ D + slack = omega arith in
    let dl≤ : D - slack ≤ D = omega arith in
    let D≤ : D + 1 ≤ D - slack + slack + 1 = omega arith in
    record {
      number_low = omega (arith, close.0, mul-le-mul_right one l);
      number_high = omega (arith, close.1, mul-le-mul_right one h);
      divisor_low = omega (arith, mul-le-mul_right one dh≤, e.least);
      divisor_high = le_trans e.most (mul-le-mul_right one D≤);
      divisor_least = le_trans (mul-le-mul_right one dl≤) e.least;
      large = e.large;
      part = part;
      L≤ = few;
    }

-- what the roundings behind the quotient add, in 510ths of a weight
abbrev more : YuvRange → ℕ
more Limited = 2 ^ 36
more Full = 0

chroma_Weighed : (range : YuvRange) {x : Float} {s : Bool} {lo hi : ℕ} → T (fits binary32 x) → Between x s lo hi → hi ≤ 2 ^ 39
    → let n = (yuv_range range).range_uv in Weighed (x *f f32 n /f f32 255) s n lo hi (more range)
chroma_Weighed Limited fit b top = weighed b 14 (lit≤ tt) top 224 (lit≤ tt)
chroma_Weighed Full fit b top = Weighed-full fit b (omega arith)

-- the bound is enough for a half whose double is known to L units
abbrev pub EnoughHalf : YuvRange → ℕ → ℕ → Type 0
EnoughHalf range bound L = Enough (yuv_range range).range_uv bound (more range) (2 ^ 14 + 1 + L + 1 * (slack + 1)) × (50000 ≤ bound)

module _ (range : YuvRange) (x : Float) {v : Float} {s : Bool} {lo hi dl dh : ℕ} (y : Between (neg half *f x) s lo hi)
    (divisor : Divisor v dl dh) (L p one d bound m : ℕ) (h : Halves lo hi dl dh L p one d) (some : 0 < one) (enough : EnoughHalf range bound L)
    (is : nat_abs (weight (neg half *f x /f v *f f32 (yuv_range range).range_uv /f f32 255)) ≡ m) where
  abbrev n : ℕ
  n = (yuv_range range).range_uv

  in_order : {z : Float} {t : Bool} {a b : ℕ} → Between z t a b → a ≤ b
  in_order b = le_of_mul-le-mul_right (le_trans b.size.0 b.size.1) (den_pos b)

  low_quotient : 2 * hi ≤ dl → Near bound m (8192 * (n * p)) (255 * (2 * d))
  low_quotient half≤ =
      let r = ratio y divisor 14 (lit≤ tt) (omega (arith, half≤)) in
      let least≤ = le_trans (in_order r.size) r.top in
      near bound (2 ^ 14 + 1 + L + 1 * (slack + 1)) p (2 * d) m (chroma_Weighed range (div-fits binary32 (neg half *f x) v) r.size r.top) is enough.0
      (quotient_Close lo hi dl dh L p one d r.least r.most (2 ^ 14) 1 h (lit≤ tt) (lit≤ tt) r.low r.high least≤ r.top)

  high_quotient : dl < 2 * hi → Near bound m (8192 * (n * p)) (255 * (2 * d))
  high_quotient over =
      let half≤' : 2 * hi * one ≤ (dl + 2 ^ 18) * one = omega (arith, h.number_high, h.divisor_high, h.part, mul-le-mul_right one h.L≤) in
      let half≤ = le_of_mul-le-mul_right half≤' some in
      let r = ratio y divisor 15 (lit≤ tt) (omega (arith, half≤, divisor.half)) in
      let least≤ = le_trans (in_order r.size) r.top in
      let close = quotient_Close lo hi dl dh L p one d r.least r.most (2 ^ 15) 2 h (lit≤ tt) (lit≤ tt) r.low r.high least≤ r.top in
      let u = top_units lo hi dl dh L p one d h over _ r.least r.most (omega (arith, h.L≤)) some close in
      let w = weighed r.size 15 (lit≤ tt) r.top n (range≤ range).1 in
      let top = top_size range w.size r.least r.most u.0 u.1 w.least w.most in
      subst (λ (z : ℕ). Near bound z (8192 * (n * p)) (255 * (2 * d))) (sym top ∙ size_of w m is)
      (top_Near lo hi dl dh L p one d h over range bound enough.1)

  pub chroma_Near : Near bound m (8192 * (n * p)) (255 * (2 * d))
  chroma_Near = go (ltb dl (2 * hi)) (ltb→lt dl (2 * hi)) (nltb→le dl (2 * hi))
    where
      go : (b : Bool) → (T b → dl < 2 * hi) → (T (not b) → 2 * hi ≤ dl) → Near bound m (8192 * (n * p)) (255 * (2 * d))
      go true above below = high_quotient (above tt)
      go false above below = low_quotient (below tt)
