-- Assumes nothing.
use native.Mathlib.Omega.{arith}
use Rattle.y4m_reader.proofs.Files.{file_said, picture_here}
use Rattle.y4m_reader.proofs.Places.{first_Stood}
use Rattle.y4m_reader.proofs.place_of.Goals as goal

pub loop-init : goal.loop-init
loop-init c = rw c.past_line-at.ensures.place (first_Stood _ (file_said c.args.file.now).is_file_lem)

pub loop-preserved : goal.loop-preserved
loop-preserved c =
    (picture_here c.args.file.now _ c.plane_sizes-sizes.ensures c.loop.counter c.loop.at _ (omega arith) c.loop.invariant c.past_line.ensures.place).next
