-- `write_pairs` meets its contract: the pairs left to write, written from here on, are all of them written from the start.
-- Assumes nothing.
use Prim.Native.Nat.{◌+◌, ◌*◌}
use mathlib.Core.Path.{◌≡◌}
use lib.ListN.{length, drop}
use lib.Seq.{sets}
use Rattle.shift_file.specs.File.{pairs_of, record_bytes}
use Rattle.shift_file.specs.Read.{records_in}
use Rattle.shift_move.specs.Move.{other_form, moved}
use Rattle.shift_move.proofs.write_pairs.Given as goal

abbrev pub invariant-loop-k : goal.invariant-loop-k
invariant-loop-k l =
    let rs = records_in l.file.form l.file.bytes.now in
    let to = other_form l.file.form in
    record {
      same : sets l.output (l.first_pair + 12 * l.k) (pairs_of l.at (moved to (drop l.k rs))) ≡ sets l.initial.output l.first_pair (pairs_of l.first (moved to rs));
      here : l.at + length (record_bytes (moved to (drop l.k rs))) ≡ l.first + length (record_bytes (moved to rs));
    }
