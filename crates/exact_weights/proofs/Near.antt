-- What specs/Near.antt promises, of every accepted pair.
-- The idea: signs and sums are `computed_Shape`'s; a luma weight is next to the exact one by Weighing, a chroma weight by Chroma.
-- Assumes nothing.
use Rattle.std.proofs.Common.{ℤ}
use mathlib.Core.Path.{◌≡◌, sym, ap, subst, ◌∙◌}
use mathlib.Core.Bool.{Bool, not}
use Prim.Native.Nat.{ℕ, ◌+◌, ◌-◌, ◌*◌, ◌/◌, ◌^◌, ◌≤◌, ◌<◌, min}
use native.Mathlib.Nat.{mul-pos, mul-le-mul_right, lt_of_mul-lt-mul_right}
use native.Mathlib.Omega.{arith}
use lib.Dec.{T, lit≤}
use lib.IntN.{nat_abs}
use lib.Ieee.{Float, nan, inf, fin, binary32, neg, fits}
use lib.Ieee.Fits.{down_pos, sub-fits}
use Rattle.yuv_support.specs.declared.YuvRange.{YuvRange}
use Rattle.yuv_support.specs.declared.YuvRange.TheVariants.{Limited, Full}
use Rattle.yuv_support.specs.declared.YuvBias.{YuvBias}
use Rattle.yuv_support.specs.declared.YuvStandardMatrix.TheVariants.{Custom}
use Rattle.yuv_support.specs.Range.{yuv_range}
use Rattle.yuv_support.specs.Matrix.{in_half}
use Rattle.yuv_support.proofs.Accepted.{FromZeroToHalf, in_half_exactly}
use Rattle.forward_transform.specs.declared.CbCrForwardTransform.{CbCrForwardTransform}
use Rattle.forward_transform.specs.Shape.{Shape, luma_least, luma_most, chroma_top}
use Rattle.forward_transform.specs.Transform.{◌-f◌, ◌*f◌, ◌/f◌, f32, half, computed_weights}
use Rattle.forward_transform.specs.Transform as transform
use Rattle.forward_transform.proofs.Signed.{size_neg}
use Rattle.forward_transform.proofs.Units.{per_one, In, Between, wider}
use Rattle.forward_transform.proofs.Operations.{times, times_negative}
use Rattle.forward_transform.proofs.Pair.{Part, Pair, part, pair, slack, one_less}
use Rattle.forward_transform.proofs.Triples.{range≤, minus_half}
use Rattle.forward_transform.proofs.Computed.{computed_Shape}
use Rattle.built_coefficients.specs.Built.{pair_of}
use Rattle.built_coefficients.proofs.AsComputed.{as_computed, pair_accepted}
use Rattle.exact_weights.specs.Exact.{numerator, denominator}
use Rattle.exact_weights.specs.Exact as exact
use Rattle.exact_weights.specs.Near.{distance, Near, NearWeights, CustomNear, MatrixNear}
use Rattle.exact_weights.specs.Near.{luma_bound, luma_green_bound, chroma_bound, chroma_green_bound, chroma_top_bound, luma_sum_bound, chroma_sum_bound}
use Rattle.exact_weights.proofs.Powers.{halved}
use Rattle.exact_weights.proofs.Weighing.{Weighed, weighed, Weighed-full}
use Rattle.exact_weights.proofs.Close.{Close, Enough, near}
use Rattle.exact_weights.proofs.Quotient.{Halves}
use Rattle.exact_weights.proofs.Chroma.{Exact, halves, EnoughHalf, chroma_Near}

-- ---- what is the same for every pair
chroma_top-Near : (range : YuvRange) → Near (chroma_top_bound range) (chroma_top range) (8192 * (yuv_range range).range_uv) (255 * 2)
chroma_top-Near Limited = lit≤ tt
chroma_top-Near Full = lit≤ tt

luma_sum_near : (range : YuvRange) (n : ℕ) → luma_least range ≤ n → n ≤ luma_most range
    → distance (255 * n) (8192 * (yuv_range range).range_y) ≤ luma_sum_bound range
luma_sum_near Limited n l h = omega arith
luma_sum_near Full n l h = omega arith

-- two chroma weights of the sizes a and b, whose exact ones are p / d and q / d of the top
chroma_sum : (range : YuvRange) (a b p q d : ℕ) → let n = (yuv_range range).range_uv in 0 < d → p + q ≡ d
    → Near (chroma_bound range) a (8192 * (n * p)) (255 * (2 * d)) → Near (chroma_green_bound range) b (8192 * (n * q)) (255 * (2 * d))
    → chroma_top range ≤ a + b + 1 → chroma_top range ≤ a + b + chroma_sum_bound range
chroma_sum Limited a b p q d D is u v sum =
    let l : 3597 * d < (a + b) * d = omega (arith, u, v, is, D) in
    omega (arith, lt_of_mul-lt-mul_right d l)
chroma_sum Full a b p q d D is u v sum = sum

-- kg is an f32, of at most 1
abbrev more : YuvRange → ℕ
more Limited = 2 ^ 37
more Full = 0

green_Weighed : (range : YuvRange) {x : Float} {s : Bool} {lo hi : ℕ} → T (fits binary32 x) → Between x s lo hi → hi ≤ per_one
    → let n = (yuv_range range).range_y in Weighed (x *f f32 n /f f32 255) s n lo hi (more range)
green_Weighed Limited fit b top = weighed b 15 (lit≤ tt) top 219 (lit≤ tt)
green_Weighed Full fit b top = Weighed-full fit b top

-- kr and kb are known to a unit, kg to `off`
abbrev off : ℕ
off = 2 * slack + 2

luma_Enough : (range : YuvRange) → Enough (yuv_range range).range_y (luma_bound range) (2 ^ 36) 1
luma_Enough Limited = lit≤ tt
luma_Enough Full = lit≤ tt

luma_green_Enough : (range : YuvRange) → Enough (yuv_range range).range_y (luma_green_bound range) (more range) off
luma_green_Enough Limited = lit≤ tt
luma_green_Enough Full = lit≤ tt

-- and so the doubles of their halves
abbrev part_half : ℕ
part_half = 2 ^ 14 + 1

abbrev green_half : ℕ
green_half = 4

chroma_enough : (range : YuvRange) → EnoughHalf range (chroma_bound range) (part_half + 1)
chroma_enough Limited = (lit≤ tt, lit≤ tt)
chroma_enough Full = (lit≤ tt, lit≤ tt)

chroma_green_enough : (range : YuvRange) → EnoughHalf range (chroma_green_bound range) (green_half + off)
chroma_green_enough Limited = (lit≤ tt, lit≤ tt)
chroma_green_enough Full = (lit≤ tt, lit≤ tt)

-- ---- a pair over one denominator, in units
exact_half : (k : Float) → FromZeroToHalf k → 2 * numerator k ≤ denominator k
exact_half nan h = absurd h
exact_half (inf s) h = absurd h
exact_half (fin s m e) h = h.1

some_denominator : (k : Float) → FromZeroToHalf k → 0 < denominator k
some_denominator nan h = absurd h
some_denominator (inf s) h = absurd h
some_denominator (fin s m e) h = down_pos e

in_units : {x : Float} {s : Bool} {lo hi : ℕ} → Between x s lo hi → In lo hi (numerator x) (denominator x)
in_units {lo = lo} {hi = hi} b = subst (λ (y : Float). In lo hi (numerator y) (denominator y)) (sym b.is) b.size

-- a / c, which is a d / c d
over_one : {k : Float} (r : Part k) (d : ℕ) → let one = denominator k * d in let p = numerator k * d in
    (p * per_one ≤ r.units * one) × (r.units * one ≤ p * per_one + one)
over_one {k} r d =
    let i = in_units r.size in
    let u : r.units ≤ r.units - 1 + 1 = omega arith in
    (omega (arith, mul-le-mul_right d i.1), omega (arith, mul-le-mul_right d i.0, mul-le-mul_right (denominator k * d) u))

-- the number itself, and 1 less it
part_Close : (units p one : ℕ) → p * per_one ≤ units * one → units * one ≤ p * per_one + one → Close 1 (units - 1) units p one
part_Close units p one l h =
    let u : units ≤ units - 1 + 1 = omega arith in
    (omega (arith, mul-le-mul_right one u), omega arith)

rest_Exact : (units p one D : ℕ) → p * per_one ≤ units * one → units * one ≤ p * per_one + one → D + units ≡ per_one → 2 * p ≤ one → Exact D one (one - p)
rest_Exact units p one D l h is half≥ =
    let a : (D + units) * one ≡ per_one * one = rw is in
    go (one - p) (omega arith) a
  where
    go : (d : ℕ) → d + p ≡ one → (D + units) * one ≡ per_one * one → Exact D one d
    go d e a = record { least = omega arith; most = omega arith; large = omega arith }

green_Close : (R B g r b one least most p : ℕ) → r * per_one ≤ R * one → R * one ≤ r * per_one + one → b * per_one ≤ B * one → B * one ≤ b * per_one + one
    → g + B + R ≡ per_one → p + (r + b) ≡ one → g ≤ least + 2 * slack → most ≤ g + 2 * slack → Close off least most p one
green_Close R B g r b one least most p rl rh bl bh total is l h =
    let a : (g + B + R) * one ≡ per_one * one = rw total in
    (omega (arith, mul-le-mul_right one l), omega (arith, mul-le-mul_right one h))

-- minus its half: a kr or kb of any digits, so that this is rounded too
abbrev half_least : ℕ → ℕ
half_least units = (units - 1) / 2 - 2 ^ 13

abbrev half_most : ℕ → ℕ
half_most units = (units + 1) / 2 + 2 ^ 13

half-Part : {k : Float} (p : Part k) → Between (neg half *f k) (not p.sign) (half_least p.units) (half_most p.units)
half-Part p =
    let h = p.half in
    let s = p.sign in
    let al = (p.units - 1) / 2 in
    let ah = (p.units + 1) / 2 in
    wider _ _ (times minus_half p.size (not s) (times_negative s) 13 (2 ^ 23) al ah (lit≤ tt) (lit≤ tt) (omega arith) (omega arith) (omega arith))
    (omega arith) (omega arith)

-- ---- the nine
module _ (range : YuvRange) (kr kb : Float) (hr : FromZeroToHalf kr) (hb : FromZeroToHalf kb) (p : Pair kr kb)
    (shape : Shape range (computed_weights range (record { kr = kr; kb = kb }))) where
  abbrev one : ℕ
  one = exact.one kr kb

  abbrev red : ℕ
  red = exact.red kr kb

  abbrev blue : ℕ
  blue = exact.blue kr kb

  red_half : 2 * red ≤ one
  red_half = omega (arith, mul-le-mul_right (denominator kb) (exact_half kr hr))

  blue_half : 2 * blue ≤ one
  blue_half = omega (arith, mul-le-mul_right (denominator kr) (exact_half kb hb))

  some_one : 0 < one
  some_one = mul-pos (some_denominator kr hr) (some_denominator kb hb)

  red_in : (red * per_one ≤ p.r.units * one) × (p.r.units * one ≤ red * per_one + one)
  red_in = over_one p.r (denominator kb)

  blue_in : (blue * per_one ≤ p.b.units * one) × (p.b.units * one ≤ blue * per_one + one)
  blue_in = let h = over_one p.b (denominator kr) in (omega (arith, h), omega (arith, h))

  Close-r : Close 1 (p.r.units - 1) p.r.units red one
  Close-r = part_Close p.r.units red one red_in.0 red_in.1

  Close-b : Close 1 (p.b.units - 1) p.b.units blue one
  Close-b = part_Close p.b.units blue one blue_in.0 blue_in.1

  Close-g : Close off p.G.least p.G.most (exact.green kr kb) one
  Close-g =
      green_Close p.r.units p.b.units p.g red blue one p.G.least p.G.most (exact.green kr kb)
      red_in.0 red_in.1 blue_in.0 blue_in.1
      (omega (arith, p.g_is, p.dr_is)) (omega (arith, red_half, blue_half)) p.G≥ p.G≤

  Exact-r : Exact p.dr one (one - red)
  Exact-r = rest_Exact p.r.units red one p.dr red_in.0 red_in.1 p.dr_is red_half

  Exact-b : Exact p.db one (one - blue)
  Exact-b = rest_Exact p.b.units blue one p.db blue_in.0 blue_in.1 p.db_is blue_half

  half_g : Between (neg half *f (transform.one -f kr -f kb)) (not p.G.sign) (p.G.least / 2) (p.G.most / 2 + 2)
  half_g = halved (sub-fits binary32 (transform.one -f kr) kb) p.G.size (omega (arith, p.G.top))

  -- the three halves, over 1 - kr and over 1 - kb
  red_over : Halves (half_least p.r.units) (half_most p.r.units) (p.db - slack) (min (p.db + slack) per_one) (part_half + 1) red one (one - blue)
  red_over = halves _ _ _ _ part_half p.db 1 red one (one - blue) Close-r (omega arith) (omega arith) Exact-b (omega (arith, red_half, blue_half)) (lit≤ tt)

  blue_over : Halves (half_least p.b.units) (half_most p.b.units) (p.dr - slack) (min (p.dr + slack) per_one) (part_half + 1) blue one (one - red)
  blue_over = halves _ _ _ _ part_half p.dr 1 blue one (one - red) Close-b (omega arith) (omega arith) Exact-r (omega (arith, red_half, blue_half)) (lit≤ tt)

  green_over : (D d : ℕ) → Exact D one d → exact.green kr kb ≤ d
      → Halves (p.G.least / 2) (p.G.most / 2 + 2) (D - slack) (min (D + slack) per_one) (green_half + off) (exact.green kr kb) one d
  green_over D d e g≤ = halves p.G.least p.G.most _ _ green_half D off (exact.green kr kb) one d Close-g (omega arith) (omega arith) e g≤ (lit≤ tt)

  cb_r : Near (chroma_bound range) shape.cb_r_size (8192 * ((yuv_range range).range_uv * red)) (255 * (2 * (one - blue)))
  cb_r =
      chroma_Near range kr (half-Part p.r) (one_less p.b p.db p.db_is) (part_half + 1) red one (one - blue) (chroma_bound range) shape.cb_r_size
      red_over some_one (chroma_enough range) (ap nat_abs shape.cb_r ∙ size_neg shape.cb_r_size)

  cb_g : Near (chroma_green_bound range) shape.cb_g_size (8192 * ((yuv_range range).range_uv * exact.green kr kb)) (255 * (2 * (one - blue)))
  cb_g =
      chroma_Near range (transform.one -f kr -f kb) half_g (one_less p.b p.db p.db_is) (green_half + off) (exact.green kr kb) one (one - blue)
      (chroma_green_bound range) shape.cb_g_size (green_over p.db (one - blue) Exact-b (omega arith)) some_one (chroma_green_enough range)
      (ap nat_abs shape.cb_g ∙ size_neg shape.cb_g_size)

  cr_g : Near (chroma_green_bound range) shape.cr_g_size (8192 * ((yuv_range range).range_uv * exact.green kr kb)) (255 * (2 * (one - red)))
  cr_g =
      chroma_Near range (transform.one -f kr -f kb) half_g (one_less p.r p.dr p.dr_is) (green_half + off) (exact.green kr kb) one (one - red)
      (chroma_green_bound range) shape.cr_g_size (green_over p.dr (one - red) Exact-r (omega arith)) some_one (chroma_green_enough range)
      (ap nat_abs shape.cr_g ∙ size_neg shape.cr_g_size)

  cr_b : Near (chroma_bound range) shape.cr_b_size (8192 * ((yuv_range range).range_uv * blue)) (255 * (2 * (one - red)))
  cr_b =
      chroma_Near range kb (half-Part p.b) (one_less p.r p.dr p.dr_is) (part_half + 1) blue one (one - red) (chroma_bound range) shape.cr_b_size
      blue_over some_one (chroma_enough range) (ap nat_abs shape.cr_b ∙ size_neg shape.cr_b_size)

  cb_sum : chroma_top range ≤ shape.cb_r_size + shape.cb_g_size + chroma_sum_bound range
  cb_sum =
      chroma_sum range shape.cb_r_size shape.cb_g_size red (exact.green kr kb) (one - blue) (omega (arith, blue_half, some_one))
      (omega (arith, red_half, blue_half)) cb_r cb_g shape.cb_least

  cr_sum : chroma_top range ≤ shape.cr_g_size + shape.cr_b_size + chroma_sum_bound range
  cr_sum =
      let swapped =
      chroma_sum range shape.cr_b_size shape.cr_g_size blue (exact.green kr kb) (one - red) (omega (arith, red_half, some_one))
      (omega (arith, red_half, blue_half)) cr_b cr_g (omega (arith, shape.cr_least)) in
      omega (arith, swapped)

  nine : NearWeights range kr kb (computed_weights range (record { kr = kr; kb = kb }))
  nine =
      let n = (yuv_range range).range_y in
      let wr = weighed p.r.size 14 (lit≤ tt) (omega (arith, p.r.half)) n (range≤ range).0 in
      let wg = green_Weighed range (sub-fits binary32 (transform.one -f kr) kb) p.G.size p.G.top in
      let wb = weighed p.b.size 14 (lit≤ tt) (omega (arith, p.b.half)) n (range≤ range).0 in
      record {
        shape = shape;
        yr = near (luma_bound range) 1 red one shape.luma_r wr (ap nat_abs shape.yr) (luma_Enough range) Close-r;
        yg = near (luma_green_bound range) off (exact.green kr kb) one shape.luma_g wg (ap nat_abs shape.yg) (luma_green_Enough range) Close-g;
        yb = near (luma_bound range) 1 blue one shape.luma_b wb (ap nat_abs shape.yb) (luma_Enough range) Close-b;
        cb_r = cb_r;
        cb_g = cb_g;
        cb_b = chroma_top-Near range;
        cr_r = chroma_top-Near range;
        cr_g = cr_g;
        cr_b = cr_b;
        luma_sum = luma_sum_near range _ shape.luma_least_lem shape.luma_most_lem;
        cb_sum_most = cb_sum;
        cb_sum_least = shape.cb_most;
        cr_sum_most = cr_sum;
        cr_sum_least = shape.cr_most;
      }

pub computed_near : (range : YuvRange) (bias : YuvBias) → T (in_half bias.kr) → T (in_half bias.kb)
    → NearWeights range bias.kr bias.kb (computed_weights range bias)
computed_near range bias tr tb =
    let hr = (in_half_exactly bias.kr).0 tr in
    let hb = (in_half_exactly bias.kb).0 tb in
    nine range bias.kr bias.kb hr hb (pair (part bias.kr hr) (part bias.kb hb)) (computed_Shape range bias tr tb)

pub matrix_near : MatrixNear
matrix_near range matrix h =
    let p = pair_accepted matrix h in
    subst (λ (t : CbCrForwardTransform ℤ). NearWeights range (pair_of matrix).kr (pair_of matrix).kb t) (sym (as_computed range matrix))
    (computed_near range (pair_of matrix) p.0 p.1)

pub custom_near : CustomNear
custom_near range kr kb h = matrix_near range (Custom kr kb) h
