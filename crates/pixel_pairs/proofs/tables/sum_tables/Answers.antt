-- `sum_tables` meets its contract, a place after the other: the weights are small, so they were handed on as they are.
-- Assumes nothing.
use mathlib.Core.Path.{◌≡◌, ◌∙◌, ap}
use Prim.Native.Nat.{ℕ, ◌*◌}
use native.Mathlib.Omega.{arith}
use lib.IntN.{ℤ, nat_abs}
use Rattle.std.proofs.Common.{rules, length}
use Rattle.yuv_support.specs.declared.YuvChromaRange.{YuvChromaRange}
use Rattle.forward_transform.specs.declared.CbCrForwardTransform.{CbCrForwardTransform}
use Rattle.forward_transform.specs.Shape.{Shape}
use Rattle.definitions.specs.declared.YuvSettings.{YuvSettings}
use Rattle.definitions.specs.Pixel.{bias_y}
use Rattle.pixel_pairs.specs.declared.tables.Weights.{Weights}
use Rattle.pixel_pairs.specs.Weights.{by_place, luma_weights}
use Rattle.pixel_pairs.specs.Tables.{luma_part}
use Rattle.pixel_pairs.proofs.Signed.{kept}
use Rattle.pixel_pairs.proofs.Weights.{Small, luma_Small, placed_Small, placed_kept, size_kept}
use Rattle.pixel_pairs.proofs.TableSums.{Places-none, Places-more}
use Rattle.pixel_pairs.proofs.tables.sum_tables.Goals as goal

-- the luma weights are small, so they stand by their places as they were handed on
small_placed : (s : YuvSettings) {t : CbCrForwardTransform ℤ} {w : Weights} → Shape s.range t → w ≡ by_place s.channels (kept t.yr) (kept t.yg) (kept t.yb)
    → Small w.first w.second w.third
small_placed s shape e = rw (e ∙ placed_kept s.channels (luma_Small shape)) (placed_Small s.channels (luma_Small shape))

pub fill-requires-3 : goal.fill-requires-3
fill-requires-3 c =
    let weights : Weights = c.by_place-weights.result in
    let small = small_placed c.args.frame.settings c.requires.weighed.shape c.by_place-weights.ensures in
    let third_is : c.unsigned_abs-3.result ≡ nat_abs weights.third = size_kept weights.third small.b c.unsigned_abs-3.ensures.value in
    (omega arith, omega (arith, third_is, small.b), omega arith)

pub returns : goal.returns
unfolding luma_part
returns c =
    let weights : Weights = c.by_place-weights.result in
    let weights_are : weights ≡ luma_weights c.args.frame.settings =
    c.by_place-weights.ensures
    ∙ placed_kept c.args.frame.settings.channels (luma_Small c.requires.weighed.shape)
    ∙ ap (λ (t : CbCrForwardTransform ℤ). by_place c.args.frame.settings.channels t.yr t.yg t.yb) c.requires.weighed.weights in
    let small = small_placed c.args.frame.settings c.requires.weighed.shape c.by_place-weights.ensures in
    let bias_is : c.get_yuv_range.result.bias_y ≡ bias_y c.args.frame.settings =
    ap (λ (l : YuvChromaRange). l.bias_y) c.get_yuv_range.ensures in
    let first_is : c.unsigned_abs.result ≡ nat_abs weights.first = size_kept weights.first small.r c.unsigned_abs.ensures.value in
    let second_is : c.unsigned_abs-2.result ≡ nat_abs weights.second = size_kept weights.second small.g c.unsigned_abs-2.ensures.value in
    let third_is : c.unsigned_abs-3.result ≡ nat_abs weights.third = size_kept weights.third small.b c.unsigned_abs-3.ensures.value in
    let first = first_is ∙ ap (λ (w : Weights). nat_abs w.first) weights_are in
    let second = second_is ∙ ap (λ (w : Weights). nat_abs w.second) weights_are in
    let third = third_is ∙ ap (λ (w : Weights). nat_abs w.third) weights_are in
    let long : length c.args.sums.now ≡ 1536 = search rules in
    let none = Places-none c.args.frame.settings long in
    let one = Places-more c.args.linear.now _ _ (omega arith) (λ x. omega (arith, ap (λ (w : ℕ). x * w) first, bias_is)) c.requires.table_of.at none c.fill.ensures in
    let two = Places-more c.args.linear.now _ _ (omega arith) (λ x. omega (arith, ap (λ (w : ℕ). x * w) second)) c.requires.table_of.at one c.fill-2.ensures in
    Places-more c.args.linear.now _ _ (omega arith) (λ x. omega (arith, ap (λ (w : ℕ). x * w) third)) c.requires.table_of.at two c.fill-3.ensures
