-- `are_plain` meets its contract: the records left to look at decide as all of them do.
-- Assumes nothing.
use mathlib.Core.Path.{◌≡◌}
use lib.ListN.{drop}
use Rattle.shift_file.specs.Read.{records_in}
use Rattle.shift_move.specs.Move.{are_plain}
use Rattle.shift_move.proofs.are_plain.Given as goal

abbrev pub invariant-loop-k : goal.invariant-loop-k
invariant-loop-k l = let rs = records_in l.file.form l.file.bytes.now in are_plain (drop l.k rs) ≡ are_plain rs
