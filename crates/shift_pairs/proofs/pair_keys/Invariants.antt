-- The invariant is a walk under way. Each turn is one of its steps; after the last one the pairs are all. Assumes nothing.
use Prim.Native.Nat.{◌+◌, ◌-◌, ◌≤◌}
use mathlib.Core.List.{map}
use lib.ListN.{length}
use Rattle.crossing_keys.specs.Keys.{number_of}
use Rattle.shift_pairs.specs.Pairing.{files_of}
use Rattle.shift_pairs.proofs.Walking.{Walking}
use Rattle.shift_pairs.proofs.pair_keys.Given as goal

abbrev pub invariant-loop-i : goal.invariant-loop-i
invariant-loop-i l =
    let f = l.ours.file in
    let g = l.theirs.file in
    (l.i ≤ length l.a) × (l.j ≤ length l.b)
    × Walking (files_of f.form f.bytes.now g.form g.bytes.now) (map number_of l.ours.keys.now) (map number_of l.theirs.keys.now) l.i l.j l.tally

abbrev pub decreases-loop-i : goal.decreases-loop-i
decreases-loop-i l = (length l.a - l.i) + (length l.b - l.j)
