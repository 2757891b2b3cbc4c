-- The summary of a shift file: the entries of its records, and which bytes are its summary. docs/RULES.md, 12.1 to 12.3.
-- Assumes nothing.
use Rattle.std.specs.Prelude.{ℕ, ◌+◌, ◌*◌, ◌/◌, ◌≡◌, List, [], ◌∷◌, length}
use Rattle.merge_sort.specs.Order.{Ordered}
use Rattle.luma_mean.specs.Mean.{sum}
use Rattle.summary_entry.specs.declared.SummaryEntry.{SummaryEntry}
use Rattle.summary_entry.specs.Entry.{entries_bytes}
use Rattle.summary_entry.specs.Order.{InOrder}
use Rattle.shift_file.specs.declared.ShiftForm.{ShiftForm}
use Rattle.shift_file.specs.File.{ShiftRecord, HasFile, bytes_of, records_at}

-- RULES 12.2: the mean of w × h luma bytes, rounded down
abbrev pub mean_of : ShiftRecord → ℕ
mean_of r = sum r.y / (r.width * r.height)

-- RULES 12.1: the entry of a record that stands at `at`
abbrev pub entry_of : (at : ℕ) → ShiftRecord → SummaryEntry
entry_of at r = record { crossing = r.crossing; offset = at; mean = mean_of r }

-- RULES 12.1: the entries of records that stand back to back from `at` on
unfoldable pub entries_from : (at : ℕ) → List ShiftRecord → List SummaryEntry
entries_from at [] = []
entries_from at (r ∷ rs) = entry_of at r ∷ entries_from (at + length (bytes_of r)) rs

-- RULES 12.1: the entries of a file's records, as they stand in the file
abbrev pub entries_of : ShiftForm → List ShiftRecord → List SummaryEntry
entries_of form rs = entries_from (records_at form (length rs)) rs

-- RULES 12.3: these bytes are those of the entries in order. `OneSummary` says that a file has one summary
pub record IsSummary (form : ShiftForm) (rs : List ShiftRecord) (bytes : List ℕ) : Type 0 where
  pub entries : List SummaryEntry
  pub ordered : Ordered InOrder (entries_of form rs) entries
  pub same : entries_bytes entries ≡ bytes

-- RULES 12.3: byte for byte
abbrev pub OneSummary : Type 0
OneSummary = (form : ShiftForm) (rs : List ShiftRecord) (a b : List ℕ) → HasFile form rs → IsSummary form rs a → IsSummary form rs b → a ≡ b
