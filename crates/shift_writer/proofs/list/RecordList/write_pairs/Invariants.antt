-- `write_pairs` meets its contract: the pairs left to write, written from here on, are all of them written from the start.
-- Assumes nothing.
use Prim.Native.Nat.{◌+◌, ◌*◌, ◌-◌, ◌≤◌}
use mathlib.Core.Path.{◌≡◌}
use lib.ListN.{length}
use lib.Seq.{sets}
use Rattle.shift_file.specs.File.{pairs_of}
use Rattle.shift_file.specs.Read.{records_from}
use Rattle.shift_writer.specs.Records.{records_back}
use Rattle.shift_writer.specs.Known.{Counted}
use Rattle.shift_writer.proofs.list.RecordList.write_pairs.Given as goal

abbrev pub invariant-loop-k : goal.invariant-loop-k
invariant-loop-k l = record {
  same : sets l.output (l.first_pair + 12 * l.k) (pairs_of (l.first + l.at) (records_from l.self.form l.self.bytes.now l.at (l.self.count - l.k)))
      ≡ sets l.initial.output l.first_pair (pairs_of l.first (records_back l.self.form l.self.bytes.now));
  inside : l.at ≤ length l.self.bytes.now;
  counted : Counted l.self.form l.self.bytes.now l.at (l.self.count - l.k);
}
