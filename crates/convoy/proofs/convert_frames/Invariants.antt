-- `convert_frames` meets its contract. The invariant: so many frames are finished, and what the others come to is what all of them come to.
-- Assumes nothing.
use Rattle.convoy.specs.Run.{planes_of}
use Rattle.convoy.proofs.Walked.{Walked}
use Rattle.convoy.proofs.convert_frames.Given as goal

abbrev pub invariant-loop-done : goal.invariant-loop-done
invariant-loop-done l = Walked l.source l.frames l.done (planes_of l.initial.y l.initial.u l.initial.v) (planes_of l.y l.u l.v)
