-- What reading a shift file promises: docs/RULES.md, 11.3, 11.4 and 11.7.
-- Assumes nothing.
use Rattle.std.specs.Prelude.{ℕ, ◌*◌, ◌-◌, ◌/◌, min, ◌≡◌, not, List, [], ◌∷◌, ◌++◌, length, drop, Result, Ok}
use Rattle.std.specs.Result.{result_and, result_unwrap_or}
use Rattle.yuv_error.specs.declared.YuvError.{YuvError}
use Rattle.yuv_error.specs.Numbers.{numbers_of}
use Rattle.yuv_error.specs.Rules.{Rule, rule, first_numbers}
use Rattle.yuv_error.specs.Lent.{taken}
use Rattle.shift_file.specs.declared.ShiftForm.{ShiftForm}
use Rattle.shift_file.specs.Read.{records_in}
use Rattle.shift_file.specs.Check.{is_file}
use Rattle.shift_reader.specs.declared.EntryKind.{EntryKind}
use Rattle.shift_reader.specs.declared.ShiftReading.{ShiftReading}
use Rattle.shift_reader.specs.Entry.{entry_size, entries_of}

-- RULES 11.3: 15, these bytes are no file
abbrev pub file_rules : ShiftForm → (file : List ℕ) → List Rule
file_rules form file = rule 15 (not (is_file form file)) 0 0 ∷ []

-- RULES 11.4: the answer of a call: finished, or its refusal
abbrev pub read_outcome : Result ShiftReading YuvError → Result Unit YuvError
read_outcome r = result_and r (Ok tt)

-- RULES 11.4: what it tells beside: 0 and 0 with a refusal
abbrev pub reading_of : Result ShiftReading YuvError → ShiftReading
reading_of r = result_unwrap_or r (record { count = 0; told = 0 })

-- RULES 11.4: everything of a call: its answer, the file's count, how many entries were written, and each number lent to it. An answer of 15 has
-- count 0 and no entry.
pub record ReadPost (kind : EntryKind) (form : ShiftForm) (file : List ℕ) (first : ℕ) (before : List ℕ) (r : Result ShiftReading YuvError) (after : List ℕ) : Type 0 where
  pub answered : numbers_of (read_outcome r) ≡ first_numbers (file_rules form file)
  pub count : (reading_of r).count ≡ taken (read_outcome r) (length (records_in form file))
  pub told : (reading_of r).told ≡ taken (read_outcome r) (min (length (records_in form file) - first) (length before / entry_size kind))
  pub entries : after ≡ entries_of kind form (records_in form file) first (reading_of r).told ++ drop (entry_size kind * (reading_of r).told) before
