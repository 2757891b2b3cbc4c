-- `put_records` meets its contract: the records left to put, put from here on, are all of them put from the start.
-- Assumes nothing.
use Prim.Native.Nat.{◌+◌, ◌≤◌}
use mathlib.Core.Path.{◌≡◌}
use lib.ListN.{length, drop}
use lib.Seq.{sets}
use Rattle.shift_file.specs.File.{record_bytes}
use Rattle.shift_file.specs.Read.{records_in}
use Rattle.shift_move.specs.Move.{other_form, moved}
use Rattle.shift_move.proofs.put_records.Given as goal

abbrev pub invariant-loop-k : goal.invariant-loop-k
invariant-loop-k l =
    let rs = records_in l.file.form l.file.bytes.now in
    let to = other_form l.file.form in
    record {
      same : sets l.output l.at (record_bytes (moved to (drop l.k rs))) ≡ sets l.initial.output l.first (record_bytes (moved to rs));
      room : l.at + length (record_bytes (moved to (drop l.k rs))) ≤ length l.initial.output;
    }
