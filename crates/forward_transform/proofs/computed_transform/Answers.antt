-- `computed_transform` meets its contract: what `to_integers` asks holds of every accepted pair.
-- Assumes nothing.
use Rattle.std.proofs.Common.{◌≡◌, sym, ap, ◌∙◌, subst, Float}
use Rattle.yuv_support.specs.declared.YuvChromaRange.{YuvChromaRange}
use Rattle.yuv_support.specs.declared.YuvBias.{YuvBias}
use Rattle.yuv_support.specs.Range.{yuv_range}
use Rattle.forward_transform.specs.declared.CbCrForwardTransform.{CbCrForwardTransform}
use Rattle.forward_transform.specs.Transform.{coefficients}
use Rattle.forward_transform.specs.Small.{SmallWeights}
use Rattle.forward_transform.proofs.Computed.{computed_small}
use Rattle.forward_transform.proofs.computed_transform.Goals as goal

-- the coefficients, over a range
abbrev over : YuvChromaRange → YuvBias → CbCrForwardTransform Float
over y bias = coefficients 255 y.range_y y.range_uv bias.kr bias.kb

pub to_integers-requires : goal.to_integers-requires
to_integers-requires c =
    let made : c.get_forward_transform.result ≡ over (yuv_range c.args.range) c.args.bias =
    c.get_forward_transform.ensures ∙ ap (λ (y : YuvChromaRange). over y c.args.bias) c.get_yuv_range-chroma_range.ensures in
    subst (λ (f : CbCrForwardTransform Float). SmallWeights f) (sym made) (computed_small c.args.range c.args.bias c.requires.red c.requires.blue)
