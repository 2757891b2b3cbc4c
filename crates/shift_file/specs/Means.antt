-- What the check and the reading mean: docs/RULES.md, 11.3 and 11.4.
-- Assumes nothing.
use Rattle.std.specs.Prelude.{◌≡◌, true, List, ◌↔◌, ℕ}
use Rattle.little_endian.specs.Number.{Bytes}
use Rattle.shift_file.specs.declared.ShiftForm.{ShiftForm}
use Rattle.shift_file.specs.declared.ShiftForm.TheVariants.{WithoutSettings, WithSettings}
use Rattle.shift_file.specs.File.{ShiftRecord, HasFile, IsFileOf, file_of}
use Rattle.shift_file.specs.Read.{records_in}
use Rattle.shift_file.specs.Check.{is_file, form_in}

-- RULES 11.3: bytes are a file exactly where some list of records has them
abbrev pub SomeList : Type 0
SomeList = (form : ShiftForm) (file : List ℕ) → Bytes file → (is_file form file ≡ true) ↔ ((rs : List ShiftRecord) × IsFileOf form file rs)

-- RULES 11.3: a file has one list of records
abbrev pub OneList : Type 0
OneList = (form : ShiftForm) (file : List ℕ) (rs ss : List ShiftRecord) → IsFileOf form file rs → IsFileOf form file ss → rs ≡ ss

-- RULES 11.4: written, then read, they are the same records
abbrev pub ReadBack : Type 0
ReadBack = (form : ShiftForm) (rs : List ShiftRecord) → HasFile form rs → records_in form (file_of form rs) ≡ rs

-- RULES 11.4, 11.5: read, then written, it is the same file
abbrev pub Rewritten : Type 0
Rewritten = (form : ShiftForm) (file : List ℕ) → Bytes file → is_file form file ≡ true → file_of form (records_in form file) ≡ file

-- RULES 11.7: no bytes are a file of both forms
abbrev pub OneForm : Type 0
OneForm = (file : List ℕ) → is_file WithSettings file ≡ true → is_file WithoutSettings file ≡ true → ⊥

-- RULES 11.7: the form of a file is the one that its first bytes tell
abbrev pub FormOfFile : Type 0
FormOfFile = (form : ShiftForm) (file : List ℕ) → is_file form file ≡ true → form_in file ≡ form

-- RULES 11.7: bytes are a file of the form that they tell exactly where they are one of some form
abbrev pub SomeForm : Type 0
SomeForm = (file : List ℕ) → (is_file (form_in file) file ≡ true) ↔ ((form : ShiftForm) × (is_file form file ≡ true))
