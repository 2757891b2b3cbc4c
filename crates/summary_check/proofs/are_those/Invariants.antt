-- The invariant: whether the entries from place i on are those that the keys name is what is asked. Assumes nothing.
use Rattle.std.proofs.Common.{◌≡◌, length}
use Rattle.summary_entry.specs.Entry.{entries_in}
use Rattle.shift_file.specs.Read.{records_in}
use Rattle.shift_summary.specs.Summary.{entries_of}
use Rattle.summary_check.proofs.Tests.{same_from}
use Rattle.summary_check.proofs.are_those.Given as goal

abbrev pub invariant-loop-i : goal.invariant-loop-i
invariant-loop-i l =
    let f = l.ordered.file in
    let keys = l.ordered.keys.now in
    let es = entries_in (length keys) l.summary in
    let fs = entries_of f.form (records_in f.form f.bytes.now) in
    same_from keys es fs l.i ≡ same_from keys es fs 0
