-- A file's entries in order, as they are computed: docs/RULES.md, 12.4.
-- Assumes nothing.
use Rattle.std.specs.Prelude.{ℕ, List}
use Rattle.merge_sort.specs.Ascending.{ascending}
use Rattle.summary_entry.specs.declared.SummaryEntry.{SummaryEntry}
use Rattle.summary_entry.specs.Entry.{entries_bytes, no_entry}
use Rattle.shift_file.specs.declared.ShiftForm.{ShiftForm}
use Rattle.shift_file.specs.File.{ShiftRecord, HasFile}
use Rattle.shift_summary.specs.Summary.{entries_of, IsSummary}

abbrev pub crossing_of : SummaryEntry → ℕ
crossing_of e = e.crossing

-- RULES 12.4: the entries by crossing, equal ones as they stand in the file
abbrev pub in_order : ShiftForm → List ShiftRecord → List SummaryEntry
in_order form rs = ascending no_entry crossing_of (entries_of form rs)

-- RULES 12.4: their bytes
abbrev pub summary_of : ShiftForm → List ShiftRecord → List ℕ
summary_of form rs = entries_bytes (in_order form rs)

-- RULES 12.4: are a summary of the file
abbrev pub Built : Type 0
Built = (form : ShiftForm) (rs : List ShiftRecord) → HasFile form rs → IsSummary form rs (summary_of form rs)
