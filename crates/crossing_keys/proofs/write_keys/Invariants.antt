-- The invariant: the first keys are those of the first records. Then all are sorted. Assumes nothing.
use Rattle.std.proofs.Common.{◌≡◌, map, take}
use Rattle.merge_sort.specs.Ascending.{keys_from}
use Rattle.shift_file.specs.Read.{records_in}
use Rattle.crossing_keys.specs.Keys.{crossings_of, number_of}
use Rattle.crossing_keys.proofs.write_keys.Given as goal

abbrev pub invariant-loop-place : goal.invariant-loop-place
invariant-loop-place l = map number_of (take l.place l.keys) ≡ take l.place (keys_from 0 (crossings_of (records_in l.file.form l.file.bytes.now)))
