-- What is told is the first of: the sizes, Y, U, V. Assumes nothing.
use Rattle.std.proofs.Common.{rules}
use Rattle.record_difference.proofs.Compared.{sizes_differ, told_sizes, planes_tell}
use Rattle.record_difference.proofs.compare_records.Goals as goal

pub returns-then-ne : goal.returns-then-ne
returns-then-ne c = told_sizes _ _ _ _ _ _ c.of-a.ensures.size c.of-b.ensures.size (sizes_differ _ _ c.if-ne.ensures)

pub loop-plane-init : goal.loop-plane-init
loop-plane-init c = planes_tell _ _ _ _ _ _ c.of-a.ensures.size c.of-b.ensures.size (search rules)
