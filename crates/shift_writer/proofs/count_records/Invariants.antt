-- `count_records` meets its contract: the records counted and the count of what is left are the count from the start.
-- Assumes nothing.
use Rattle.shift_writer.proofs.Count.{Reached}
use Rattle.shift_writer.proofs.count_records.Given as goal

abbrev pub invariant-loop-count : goal.invariant-loop-count
invariant-loop-count l = Reached l.form l.records l.at l.count
