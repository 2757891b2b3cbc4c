-- The invariant: the records passed and the first of a crossing among the rest are the first of all. Assumes nothing.
use Rattle.std.proofs.Common.{◌≡◌, ◌+◌, drop}
use Rattle.shift_file.specs.Read.{records_in}
use Rattle.summary_calls.specs.Found.{place_of_first}
use Rattle.summary_calls.proofs.first_of.Given as goal

abbrev pub invariant-loop-k : goal.invariant-loop-k
invariant-loop-k l =
    let rs = records_in l.file.form l.file.bytes.now in
    l.k + place_of_first l.crossing (drop l.k rs) ≡ place_of_first l.crossing rs
