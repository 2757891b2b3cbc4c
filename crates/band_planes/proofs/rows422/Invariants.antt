-- `rows422` meets its contract. The invariant: the rows up to `row` are walked.
-- Assumes nothing.
use Rattle.band_steps.specs.Steps.{band_of}
use Rattle.band_planes.proofs.Walked.{Walked}
use Rattle.band_planes.proofs.rows422.Given as goal

abbrev pub invariant-loop-row : goal.invariant-loop-row
invariant-loop-row g l = Walked (band_of l.fn.work) l.fn.work.rows.done l.row l.fn.work.source.now l.fn.y l.fn.u l.fn.v l.y l.u l.v
