-- What `to_integers` asks of nine numbers: that the weights are small enough to be worked out with an integer cast. No meaning of a weight
-- stands here; `proofs/Computed.antt` shows it of every accepted pair.
-- Assumes nothing.
use Rattle.std.specs.Prelude.{◌*◌, ◌^◌, Bool, false, T, pos, nat_le, Float}
use Rattle.std.specs.Float.{nan, inf, fin}
use Rattle.std.specs.Float.Ieee.{up, down}
use Rattle.forward_transform.specs.declared.CbCrForwardTransform.{CbCrForwardTransform}
use Rattle.forward_transform.specs.Transform.{◌*f◌, scale}

abbrev pub zero : Float
zero = fin false 0 (pos 0)

-- finite, and at most 2 ^ 14 in size
abbrev pub small : Float → Bool
small nan = false
small (inf s) = false
small (fin s m e) = nat_le (m * up e) (2 ^ 14 * down e)

abbrev pub small_weight : Float → Bool
small_weight x = small (x *f scale)

pub record SmallWeights (f : CbCrForwardTransform Float) : Type 0 where
  pub yr : T (small_weight f.yr)
  pub yg : T (small_weight f.yg)
  pub yb : T (small_weight f.yb)
  pub cb_r : T (small_weight f.cb_r)
  pub cb_g : T (small_weight f.cb_g)
  pub cb_b : T (small_weight f.cb_b)
  pub cr_r : T (small_weight f.cr_r)
  pub cr_g : T (small_weight f.cr_g)
  pub cr_b : T (small_weight f.cr_b)
