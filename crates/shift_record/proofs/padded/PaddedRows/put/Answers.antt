-- `put` meets its contract: the rows left to copy, copied from here on, are all of them copied from the start.
-- Assumes nothing.
use native.Mathlib.Omega.{arith}
use Prim.Native.Nat.{◌+◌, ◌*◌, ◌-◌, ◌≤◌}
use mathlib.Core.Path.{◌≡◌, sym, ap, ◌∙◌}
use native.Mathlib.Nat.{mul-zero, add-zero, sub-zero}
use lib.ListN.{length, drop, length-drop}
use lib.Seq.{length-take-le}
use Rattle.shift_record.proofs.Rows.{with_row, rows_more, rows_done}
use Rattle.shift_record.proofs.padded.PaddedRows.put.Goals.{In-loop-row}
use Rattle.shift_record.proofs.padded.PaddedRows.put.Goals as goal

-- the next row is there, and has room
inside : (c : In-loop-row) → (c.args.self.now.stride * c.loop-row.row + c.args.self.now.size ≤ length c.args.self.now.bytes.now)
    × (c.args.at + c.args.self.now.size * c.loop-row.row + c.args.self.now.size ≤ length c.args.output.now)
inside c = (
  omega (arith, c.args.self.now.wide, c.args.self.now.whole, with_row c.args.self.now.stride c.loop-row.row c.args.self.now.count c.loop-row-test.true),
  omega (arith, c.requires, with_row c.args.self.now.size c.loop-row.row c.args.self.now.count c.loop-row-test.true),
)

pub loop-row-init : goal.loop-row-init
loop-row-init c = rw (mul-zero, mul-zero, add-zero, sub-zero)

pub overflow_mul-from : goal.overflow_mul-from
overflow_mul-from c = omega (arith, inside (goal.at.overflow_mul-from c).In-loop-row)

pub overflow_mul-to : goal.overflow_mul-to
overflow_mul-to c = omega (arith, inside (goal.at.overflow_mul-to c).In-loop-row)

pub overflow_add-to : goal.overflow_add-to
overflow_add-to c = omega (arith, inside (goal.at.overflow_add-to c).In-loop-row)

pub part_of-requires : goal.part_of-requires
part_of-requires c = omega (arith, inside (goal.at.part_of-requires c).In-loop-row)

pub put-requires : goal.put-requires
put-requires c =
    let row_size : length c.part_of.result.now ≡ c.args.self.now.size =
    ap length c.part_of.ensures
    ∙ length-take-le c.args.self.now.size (drop (c.args.self.now.stride * c.loop-row.row) c.args.self.now.bytes.now) (rw length-drop (omega (arith, inside (goal.at.put-requires c).In-loop-row))) in
    omega (arith, row_size, inside (goal.at.put-requires c).In-loop-row)

pub loop-row-preserved : goal.loop-row-preserved
loop-row-preserved c =
    rw (c.put.ensures, c.part_of.ensures)
    (rows_more _ _ c.args.self.now.wide _ _ c.args.at c.loop-row.row c.args.self.now.count c.loop-row-test.true (omega (arith, c.args.self.now.whole)) ∙ c.loop-row.invariant)

pub returns : goal.returns
returns c = sym (rows_done _ _ c.args.self.now.wide _ _ _ (c.args.self.now.count - c.loop-row.row) (omega arith)) ∙ c.loop-row.invariant
