-- `fill` meets its contract. The invariant: the first x entries of the place are painted in both tables.
-- Assumes nothing.
use Prim.Native.Nat.{◌+◌, ◌*◌}
use lib.ListN.{get_or}
use Rattle.pixel_pairs.specs.Tables.{left_entry, right_entry}
use Rattle.pixel_pairs.specs.Rows.{TwoPainted}
use Rattle.pixel_pairs.proofs.tables.fill.Given as goal

abbrev pub invariant-loop-x : goal.invariant-loop-x
invariant-loop-x l =
    TwoPainted l.at (768 + l.at) l.x (λ x'. left_entry (x' * l.weight + l.start) (get_or l.linear x' 0))
    (λ x'. right_entry (x' * l.weight + l.start) (get_or l.linear x' 0)) l.fn.sums l.sums
