-- A summary after one record more at the file's end: docs/RULES.md, 12.7.
-- Assumes nothing.
use Rattle.std.specs.Prelude.{ℕ, ◌+◌, ◌*◌, ◌≡◌, Bool, true, not, ◌&&◌, List, [], ◌∷◌, ◌++◌, map, ltb, leb, eqb, length, Result}
use Rattle.little_endian.specs.Number.{Bytes}
use Rattle.yuv_error.specs.declared.YuvError.{YuvError}
use Rattle.yuv_error.specs.Numbers.{numbers_of}
use Rattle.yuv_error.specs.Rules.{Rule, rule, first_numbers}
use Rattle.shift_file.specs.declared.ShiftForm.{ShiftForm}
use Rattle.shift_file.specs.File.{ShiftRecord, HasFile}
use Rattle.shift_file.specs.Read.{size_at, record_at, records_in}
use Rattle.shift_file.specs.Check.{record_stands, is_file}
use Rattle.shift_writer.specs.Output.{overwritten}
use Rattle.summary_entry.specs.declared.SummaryEntry.{SummaryEntry}
use Rattle.summary_entry.specs.Entry.{entries_bytes, entries_in}
use Rattle.summary_entry.specs.Grown.{grown, place}
use Rattle.shift_summary.specs.Summary.{entry_of, IsSummary}
use Rattle.shift_summary.specs.Built.{summary_of}
use Rattle.summary_check.specs.Check.{is_summary}

-- RULES 12.7: these bytes are one whole record
unfoldable pub is_record : ShiftForm → List ℕ → Bool
is_record form l = record_stands form l && eqb (size_at form l) (length l)

-- RULES 12.7: a file that may grow by a record
unfoldable pub may_grow : ShiftForm → (file added : List ℕ) → Bool
may_grow form file added = is_file form file && (is_record form added && ltb (length (records_in form file)) 4096)

-- RULES 12.7: the records of the grown file
abbrev pub grown_records : ShiftForm → (file added : List ℕ) → List ShiftRecord
grown_records form file added = records_in form file ++ record_at form added ∷ []

-- RULES 12.7: the new record stands where the file ended, after the new pair
abbrev pub new_entry : ShiftForm → (file added : List ℕ) → SummaryEntry
new_entry form file added = entry_of (length file + 12) (record_at form added)

-- RULES 12.7: old offsets grow by the new pair, and the new entry is put in its place
abbrev pub updated : ShiftForm → (file added summary : List ℕ) → List ℕ
updated form file added summary = entries_bytes (place (new_entry form file added) (map grown (entries_in (length (records_in form file)) summary)))

-- RULES 12.7: a summary of the file, with room for one entry more
abbrev pub may_take : ShiftForm → (file summary : List ℕ) → Bool
may_take form file summary = let rs = records_in form file in leb (13 * (length rs + 1)) (length summary) && is_summary form rs summary

-- RULES 12.7: 15, then 17
abbrev pub update_rules : ShiftForm → (file added summary : List ℕ) → List Rule
update_rules form file added summary = rule 15 (not (may_grow form file added)) 0 0 ∷ rule 17 (not (may_take form file summary)) 0 0 ∷ []

-- RULES 12.7: everything of a call: its answer, and each byte lent to it
pub record UpdatePost (form : ShiftForm) (file added before : List ℕ) (answer : Result Unit YuvError) (after : List ℕ) : Type 0 where
  pub answered : numbers_of answer ≡ first_numbers (update_rules form file added before)
  pub written : after ≡ overwritten answer (updated form file added before) before

-- RULES 12.7: the grown records have a file, and what an update writes is a summary of it
pub record Updates : Type 0 where
  pub grows : (form : ShiftForm) (file added : List ℕ) → Bytes file → Bytes added → may_grow form file added ≡ true → HasFile form (grown_records form file added)
  pub summary : (form : ShiftForm) (file added before : List ℕ) → Bytes file → Bytes added → may_grow form file added ≡ true
      → is_summary form (records_in form file) before ≡ true → IsSummary form (grown_records form file added) (updated form file added before)
  -- byte for byte the one that is built of it
  pub fresh : (form : ShiftForm) (file added before : List ℕ) → Bytes file → Bytes added → may_grow form file added ≡ true
      → is_summary form (records_in form file) before ≡ true → updated form file added before ≡ summary_of form (grown_records form file added)
