-- The table is filled run by run: when byte k comes, all runs before it are written.
-- Assumes nothing.
use lib.ListN.{get_or}
use Rattle.sharp_gamma.proofs.Filled.{FilledBy}
use Rattle.sharp_gamma.proofs.gamma_map_table.Given as goal

abbrev pub invariant-loop-k : goal.invariant-loop-k
invariant-loop-k l = FilledBy l.first l.table (get_or l.first l.k 0) l.k
