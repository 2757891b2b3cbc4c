-- Records back to back, and which are a list that has a file: docs/RULES.md, 11.5.
-- Assumes nothing.
use Rattle.std.specs.Prelude.{ℕ, zero, suc, ◌+◌, ◌≡◌, Bool, true, cond, List, Option, Some, None, ◌↔◌, eqb, leb, length, drop}
use Rattle.little_endian.specs.Number.{Bytes}
use Rattle.shift_file.specs.declared.ShiftForm.{ShiftForm}
use Rattle.shift_file.specs.File.{ShiftRecord, HasFile, record_bytes, file_of}
use Rattle.shift_file.specs.Read.{size_at, records_from}
use Rattle.shift_file.specs.Check.{record_stands}

-- RULES 11.5: how many records stand from a place to the end, where they are at most n; else n + 1
unfoldable pub count_from : ShiftForm → List ℕ → (at n : ℕ) → ℕ
count_from form b at zero = cond (eqb at (length b)) 0 1
count_from form b at (suc n) =
    cond (eqb at (length b)) 0 (cond (record_stands form (drop at b)) (suc (count_from form b (at + size_at form (drop at b)) n)) (suc (suc n)))

-- RULES 11.5: these bytes are a list of records that has a file
abbrev pub are_records : ShiftForm → List ℕ → Bool
are_records form b = leb (count_from form b 0 4096) 4096

-- RULES 11.5: these records
abbrev pub records_back : ShiftForm → List ℕ → List ShiftRecord
records_back form b = records_from form b 0 (count_from form b 0 4096)

-- RULES 11.5: and their file
abbrev pub file_made : ShiftForm → List ℕ → List ℕ
file_made form b = file_of form (records_back form b)

-- RULES 11.5: how many they are, where they are a list of records that has a file
abbrev pub count_back : ShiftForm → List ℕ → Option ℕ
count_back form b = cond (are_records form b) (Some (count_from form b 0 4096)) None

-- ---- what this means

-- RULES 11.5: these bytes are these records back to back
pub record BackToBack (form : ShiftForm) (b : List ℕ) (rs : List ShiftRecord) : Type 0 where
  pub has : HasFile form rs
  pub same : record_bytes rs ≡ b

-- RULES 11.5: bytes are records exactly where some list of records that has a file has them back to back
abbrev pub SomeRecords : Type 0
SomeRecords = (form : ShiftForm) (b : List ℕ) → Bytes b → (are_records form b ≡ true) ↔ ((rs : List ShiftRecord) × BackToBack form b rs)

-- RULES 11.5: and that list is the one whose file is written
abbrev pub TheseRecords : Type 0
TheseRecords = (form : ShiftForm) (b : List ℕ) (rs : List ShiftRecord) → BackToBack form b rs → records_back form b ≡ rs
