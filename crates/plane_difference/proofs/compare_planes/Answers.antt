-- Where bytes differ the front ends, and the loops are left by their label; where they are not left, it reaches the end. Assumes nothing.
use Rattle.std.proofs.Common.{arith, ◌∙◌, ◌+◌, ◌*◌}
use native.Mathlib.Nat.{mul-le-mul_left}
use Rattle.plane_difference.proofs.Front.{front_more, front_ends, row_end, differs_at, nowhere}
use Rattle.plane_difference.proofs.compare_planes.Goals as goal

-- left by the label
pub returns-then-ours-at : goal.returns-then-ours-at
returns-then-ours-at c =
    let within = row_end c.args.width c.rows.row c.args.height c.rows-test.true in
    differs_at c.args.width c.args.ours.now c.args.theirs.now c.rows.row c.loop-column.column (omega arith) (omega arith)
    (front_ends _ _ _ c.if-ours-at.true c.loop-column.invariant.1)

-- not left
pub returns-after-rows : goal.returns-after-rows
returns-after-rows c =
    let all = mul-le-mul_left {m = c.args.height} {n = c.rows.row} c.args.width (omega arith) in
    c.rows.invariant.0 ∙ nowhere c.args.width _ _ (omega arith)

pub loop-column-preserved : goal.loop-column-preserved
loop-column-preserved c =
    let within = row_end c.args.width c.rows.row c.args.height c.rows-test.true in
    let more = front_more _ _ (c.args.width * c.rows.row + c.loop-column.column) (omega arith) (omega arith) c.if-ours-at.false c.loop-column.invariant.1 in
    (c.loop-column.invariant.0, omega arith)
