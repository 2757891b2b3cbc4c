-- An accepted matrix has weights that give each colour its luma.
-- Assumes nothing.
use Rattle.std.proofs.Common.{rules}
use Rattle.definitions.proofs.Painted.{Painted-like}
use Rattle.colour_counts.specs.Known.{luma_by}
use Rattle.colour_counts.proofs.Counting.{count_like}
use Rattle.colour_counts.proofs.colour_counts.Goals as goal

pub returns : goal.returns
returns c = record {
  answered = search rules;
  counts = Painted-like (λ y l. count_like (luma_by c.luma_weights.result) _ 16777216 y c.luma_weights.ensures.luma) c.count_all.ensures;
}
