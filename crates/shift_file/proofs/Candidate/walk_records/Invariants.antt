-- `walk_records` meets its contract: the walk from here is the walk from the start.
-- Assumes nothing.
use Prim.Native.Nat.{◌+◌, ◌*◌, ◌-◌, ◌≤◌}
use mathlib.Core.Path.{◌≡◌}
use lib.ListN.{length}
use Rattle.shift_file.specs.Check.{walk}
use Rattle.shift_file.proofs.Candidate.walk_records.Given as goal

abbrev pub invariant-loop-k : goal.invariant-loop-k
invariant-loop-k l = record {
  same : walk l.self.form l.self.bytes.now (l.first_pair + 12 * l.k) l.at (l.count - l.k) ≡ walk l.self.form l.self.bytes.now l.first_pair l.first l.count;
  inside : l.at ≤ length l.self.bytes.now;
}
