-- The invariant: the entries that are left to write complete the whole. Each key names a record. Assumes nothing.
use Rattle.std.proofs.Common.{◌≡◌, ◌*◌, map, drop}
use lib.Seq.{sets}
use Rattle.merge_sort.specs.Ascending.{by_keys}
use Rattle.summary_entry.specs.Entry.{entries_bytes, no_entry}
use Rattle.shift_file.specs.Read.{records_in}
use Rattle.crossing_keys.specs.Keys.{number_of}
use Rattle.shift_summary.specs.Summary.{entries_of}
use Rattle.shift_summary.proofs.write_entries.Given as goal

abbrev pub invariant-loop-i : goal.invariant-loop-i
invariant-loop-i l =
    let f = l.ordered.file in
    let es = entries_of f.form (records_in f.form f.bytes.now) in
    let names = map number_of l.ordered.keys.now in
    sets l.summary (13 * l.i) (entries_bytes (by_keys no_entry (drop l.i names) es)) ≡ sets l.initial.summary 0 (entries_bytes (by_keys no_entry names es))
