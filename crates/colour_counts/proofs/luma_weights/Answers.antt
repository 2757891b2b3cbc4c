-- No luma weight of an accepted matrix is negative, and no luma is past a byte.
-- Assumes nothing.
use Rattle.std.proofs.Common.{rules}
use Rattle.colour_counts.proofs.Weights.{byte_luma, weighs}
use Rattle.colour_counts.proofs.luma_weights.Goals as goal

pub invariant_of-result : goal.invariant_of-result
invariant_of-result c =
    record { byte_luma = byte_luma c.args.range c.args.matrix c.requires _ _ _ _ (search rules) (search rules) (search rules) (search rules) }

pub returns : goal.returns
returns c = weighs c.args.range c.args.matrix c.requires _ (search rules) (search rules) (search rules) (search rules)
