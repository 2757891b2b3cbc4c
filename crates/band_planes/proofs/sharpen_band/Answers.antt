-- `sharpen_band` meets its contract: what it works out once is what the rows ask for, and the conversion is the frame's.
-- Assumes nothing.
use lib.IntN.{ℤ}
use Prim.Native.Nat.{◌+◌}
use mathlib.Core.Path.{◌≡◌, subst, subst⁻¹}
use lib.Dec.{T}
use Rattle.forward_transform.specs.declared.CbCrForwardTransform.{CbCrForwardTransform}
use Rattle.forward_transform.specs.Shape.{Shape}
use Rattle.built_coefficients.proofs.Shapes.{forward_Shape}
use Rattle.yuv_support.specs.Matrix.{accepted}
use Rattle.definitions.specs.declared.YuvSettings.{YuvSettings}
use Rattle.definitions.specs.declared.Band.{Band}
use Rattle.definitions.specs.Pixel.{weights_of}
use Rattle.definitions.specs.Bands.{band_image, Sharpened}
use Rattle.pixel_pairs.specs.declared.tables.Conversion.{Conversion}
use Rattle.pixel_pairs.specs.Weights.{Weighed}
use Rattle.pixel_pairs.proofs.Pairs.{summed_of}
use Rattle.band_planes.proofs.sharpen_band.Goals as goal

-- a band, with the frame of a conversion
abbrev band_by : Band → Conversion → Band
band_by b rows = record { frame = rows.frame; done = b.done; rows = b.rows; stride = b.stride }

-- the weights of an accepted matrix
weighed_of : (s : YuvSettings) {t : CbCrForwardTransform ℤ} → T (accepted s.matrix) → t ≡ weights_of s → Weighed s t
weighed_of s matrix e = record { weights = e; shape = subst⁻¹ (λ (w : CbCrForwardTransform ℤ). Shape s.range w) e (forward_Shape s.range s.matrix matrix) }

pub conversion_of-rows-requires : goal.conversion_of-rows-requires
conversion_of-rows-requires c = weighed_of c.args.band.frame.settings c.requires.lent.sized.matrix c.search_forward_transform-t.ensures

pub sum_tables-requires-clause-weighed : goal.sum_tables-requires-clause-weighed
sum_tables-requires-clause-weighed c =
    weighed_of c.args.band.frame.settings c.requires.lent.sized.matrix c.search_forward_transform-t.ensures

pub invariant_of-luma : goal.invariant_of-luma
invariant_of-luma c =
    let settings = c.args.band.frame.settings in
    record {
      summed = summed_of c.args.band.frame (forward_Shape settings.range settings.matrix c.requires.lent.sized.matrix) c.conversion_of-rows.ensures c.sum_tables.ensures;
    }

pub returns : goal.returns
returns c =
    subst (λ (rows : Conversion). Sharpened rows.frame c.args.band.done (c.args.band.done + c.args.band.rows)
    (band_image (band_by c.args.band rows) c.args.source.now c.args.carried.now) c.args.y.now c.args.u.now c.args.v.now
    c.rows_by_pixel.new.y c.rows_by_pixel.new.u c.rows_by_pixel.new.v) c.conversion_of-rows.ensures c.rows_by_pixel.ensures
