-- For every accepted matrix and range: signs, bounds and the sum of each triple of weights, as forward_transform's specs/Shape.antt has them.
-- The idea: every matrix has the computed weights of some pair, and those have the shape.
-- Assumes nothing.
use Rattle.std.proofs.Common.{ℤ}
use mathlib.Core.Path.{sym, subst}
use lib.Dec.{T}
use Rattle.yuv_support.specs.declared.YuvRange.{YuvRange}
use Rattle.yuv_support.specs.declared.YuvStandardMatrix.{YuvStandardMatrix}
use Rattle.yuv_support.specs.Matrix.{accepted}
use Rattle.forward_transform.specs.declared.CbCrForwardTransform.{CbCrForwardTransform}
use Rattle.forward_transform.specs.Shape.{Shape}
use Rattle.forward_transform.proofs.Computed.{computed_Shape}
use Rattle.built_coefficients.specs.Built.{forward_transform, pair_of}
use Rattle.built_coefficients.proofs.AsComputed.{as_computed, pair_accepted}

pub forward_Shape : (range : YuvRange) (matrix : YuvStandardMatrix) → T (accepted matrix) → Shape range (forward_transform range matrix)
forward_Shape range matrix h =
    let p = pair_accepted matrix h in
    subst (λ (t : CbCrForwardTransform ℤ). Shape range t) (sym (as_computed range matrix)) (computed_Shape range (pair_of matrix) p.0 p.1)
