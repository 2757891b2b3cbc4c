-- The counts of a call that finished are those of the definition, and they add to the number of colours (colour_counts' Total).
-- Assumes nothing.
use mathlib.Core.Path.{refl, ◌∙◌}
use Rattle.yuv_error.specs.Rules.{matrix_rules}
use Rattle.yuv_error.proofs.First.{finished_number}
use Rattle.yuv_error.proofs.Accepted.{none_holds, is_accepted}
use Rattle.definitions.proofs.Painted.{Painted-at}
use Rattle.colour_counts.proofs.Total as total
use Rattle.frame_calls.proofs.Counts.{counts_accepted}
use Rattle.demands.specs.Demands.{Counts}

pub counts : Counts
counts = record {
  counted = λ range matrix before a after p is. Painted-at (rw is at p.counts);
  add_up = λ range matrix before a after p is.
      let all = rw is at p.counts in
      let accepted = is_accepted matrix _ (none_holds (matrix_rules matrix) refl (finished_number (matrix_rules matrix) is p.answered) 4) in
      total.sum_like _ _ 256 (Painted-at all) ∙ total.total range matrix accepted;
  linked = λ k p z. Painted-at (counts_accepted p z).counts;
  total = total.total;
  every_colour = total.every_colour;
  by_range_and_matrix = total.by_range_and_matrix;
}
