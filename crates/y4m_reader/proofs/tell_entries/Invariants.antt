-- `tell_entries` meets its contract: the entries left to tell, told from here on, are all of them told from the start.
-- Assumes nothing.
use Rattle.std.proofs.Common.{◌≡◌, ◌+◌, ◌-◌, ◌*◌, length}
use Rattle.std.proofs.lemmas.List.Edits.{sets}
use Rattle.y4m_file.specs.Read.{file_in}
use Rattle.y4m_reader.specs.Entry.{entries_of}
use Rattle.y4m_reader.specs.Known.{Stood}
use Rattle.y4m_reader.proofs.tell_entries.Given as goal

abbrev pub invariant-loop-i : goal.invariant-loop-i
invariant-loop-i l =
    (sets l.entries (6 * l.i) (entries_of (file_in l.file.bytes.now) (l.first + l.i) (l.count - l.i))
    ≡ sets l.initial.entries 0 (entries_of (file_in l.file.bytes.now) l.first l.count))
    × (length l.entries ≡ length l.initial.entries) × Stood l.file.bytes.now (l.first + l.i) l.at
