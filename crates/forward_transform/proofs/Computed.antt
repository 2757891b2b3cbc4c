-- The weights of every accepted pair have the shape of specs/Shape.antt, and are small enough to round.
-- The idea: kr, kg and kb add to 1 but for the roundings, and so do the numbers of each triple to what the triple divides by.
-- Assumes nothing.
use Rattle.std.proofs.Common.{T, arith, Float}
use Rattle.yuv_support.specs.declared.YuvRange.{YuvRange}
use Rattle.yuv_support.specs.declared.YuvBias.{YuvBias}
use Rattle.yuv_support.specs.Range.{yuv_range}
use Rattle.yuv_support.specs.Matrix.{in_half}
use Rattle.yuv_support.proofs.Accepted.{in_half_exactly}
use Rattle.forward_transform.specs.declared.CbCrForwardTransform.{CbCrForwardTransform}
use Rattle.forward_transform.specs.Transform.{coefficients, computed_weights}
use Rattle.forward_transform.specs.Small.{SmallWeights}
use Rattle.forward_transform.specs.Shape.{Shape}
use Rattle.forward_transform.proofs.Pair.{Number, Pair, part, of_part, one_less, pair}
use Rattle.forward_transform.proofs.Triples.{range≤, luma, luma_weights_sum, chroma_top_lem, negatives}

abbrev coefficients_of : YuvRange → YuvBias → CbCrForwardTransform Float
coefficients_of range bias = coefficients 255 (yuv_range range).range_y (yuv_range range).range_uv bias.kr bias.kb

module _ (range : YuvRange) (bias : YuvBias) (p : Pair bias.kr bias.kb) where
  abbrev R : Number bias.kr
  R = of_part p.r

  abbrev B : Number bias.kb
  B = of_part p.b

  both : SmallWeights (coefficients_of range bias) × Shape range (computed_weights range bias)
  both =
      let n = (yuv_range range).range_y in
      let yr = luma R n (range≤ range).0 in
      let yg = luma p.G n (range≤ range).0 in
      let yb = luma B n (range≤ range).0 in
      let y = luma_weights_sum range yr yg yb (omega arith) (omega arith) in
      let cb = negatives range R p.G (one_less p.b p.db p.db_is) (omega arith) (omega arith) in
      let cr = negatives range p.G B (one_less p.r p.dr p.dr_is) (omega arith) (omega arith) in
      let top = chroma_top_lem range in (
        record {
          yr = yr.small;
          yg = yg.small;
          yb = yb.small;
          cb_r = cb.first_small;
          cb_g = cb.second_small;
          cb_b = top.1;
          cr_r = top.1;
          cr_g = cr.first_small;
          cr_b = cr.second_small;
        },
        record {
          luma_r = yr.size;
          luma_g = yg.size;
          luma_b = yb.size;
          cb_r_size = cb.first;
          cb_g_size = cb.second;
          cr_g_size = cr.first;
          cr_b_size = cr.second;
          yr = yr.is;
          yg = yg.is;
          yb = yb.is;
          luma_least_lem = y.0;
          luma_most_lem = y.1;
          cb_r = cb.first_is;
          cb_g = cb.second_is;
          cb_b = top.0;
          cb_least = cb.least;
          cb_most = cb.most;
          cr_r = top.0;
          cr_g = cr.first_is;
          cr_b = cr.second_is;
          cr_least = cr.least;
          cr_most = cr.most;
        },
      )

module _ (range : YuvRange) (bias : YuvBias) (hr : T (in_half bias.kr)) (hb : T (in_half bias.kb)) where
  accepted_both : SmallWeights (coefficients_of range bias) × Shape range (computed_weights range bias)
  accepted_both = both range bias (pair (part bias.kr ((in_half_exactly bias.kr).0 hr)) (part bias.kb ((in_half_exactly bias.kb).0 hb)))

  pub computed_small : SmallWeights (coefficients_of range bias)
  computed_small = accepted_both.0

  pub computed_Shape : Shape range (computed_weights range bias)
  computed_Shape = accepted_both.1
