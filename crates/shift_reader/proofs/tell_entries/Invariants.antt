-- `tell_entries` meets its contract: as many entries stand at the front as were told.
-- Assumes nothing.
use mathlib.Core.Path.{◌≡◌}
use lib.Seq.{sets}
use Rattle.shift_file.specs.Read.{records_in}
use Rattle.shift_reader.specs.Entry.{entries_of}
use Rattle.shift_reader.proofs.tell_entries.Given as goal

abbrev pub invariant-loop-i : goal.invariant-loop-i
invariant-loop-i l = l.entries ≡ sets l.initial.entries 0 (entries_of l.kind l.file.form (records_in l.file.form l.file.bytes.now) l.first l.i)
