-- Which bytes are a summary of a file, as it is computed: docs/RULES.md, 12.5. `Checked` says that it is `IsSummary`.
-- Assumes nothing.
use Rattle.std.specs.Prelude.{ℕ, ◌*◌, ◌≤◌, ◌≡◌, Bool, true, false, ◌&&◌, List, [], ◌∷◌, ◌↔◌, leb, length, take}
use Rattle.little_endian.specs.Number.{Bytes}
use Rattle.summary_entry.specs.declared.SummaryEntry.{SummaryEntry}
use Rattle.summary_entry.specs.Entry.{entries_in, same_entry}
use Rattle.shift_file.specs.declared.ShiftForm.{ShiftForm}
use Rattle.shift_file.specs.File.{ShiftRecord, HasFile}
use Rattle.shift_summary.specs.Summary.{IsSummary}
use Rattle.shift_summary.specs.Built.{in_order}

-- RULES 12.5
unfoldable pub same_entries : List SummaryEntry → List SummaryEntry → Bool
same_entries [] [] = true
same_entries [] (b ∷ m) = false
same_entries (a ∷ l) [] = false
same_entries (a ∷ l) (b ∷ m) = same_entry a b && same_entries l m

-- RULES 12.5: the entries are those of the file, in order
abbrev pub are_entries : ShiftForm → List ShiftRecord → List SummaryEntry → Bool
are_entries form rs es = same_entries es (in_order form rs)

-- RULES 12.5: the summary is the first 13 × count bytes lent
unfoldable pub is_summary : ShiftForm → List ShiftRecord → (summary : List ℕ) → Bool
is_summary form rs summary = leb (13 * length rs) (length summary) && are_entries form rs (entries_in (length rs) summary)

-- RULES 12.5: the check says yes exactly where they are a summary
abbrev pub Checked : Type 0
Checked = (form : ShiftForm) (rs : List ShiftRecord) (summary : List ℕ) → HasFile form rs → Bytes summary
    → (is_summary form rs summary ≡ true) ↔ ((13 * length rs ≤ length summary) × IsSummary form rs (take (13 * length rs) summary))
