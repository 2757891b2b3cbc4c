-- `pair_rows` meets its contract. The invariant: k pairs of rows are walked.
-- Assumes nothing.
use Prim.Native.Nat.{◌+◌, ◌*◌}
use Rattle.band_steps.specs.Steps.{band_of}
use Rattle.band_planes.proofs.Walked.{Walked}
use Rattle.band_planes.proofs.pair_rows.Given as goal

abbrev pub invariant-loop-k : goal.invariant-loop-k
invariant-loop-k g l = Walked (band_of l.fn.work) l.from (l.from + 2 * l.k) l.fn.work.source.now l.fn.y l.fn.u l.fn.v l.y l.u l.v
