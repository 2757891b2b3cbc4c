-- What writing a shift file promises: docs/RULES.md, 11.5.
-- Assumes nothing.
use Rattle.std.specs.Prelude.{ℕ, ◌≡◌, not, List, ◌∷◌, length, Result}
use Rattle.yuv_error.specs.Numbers.{numbers_of}
use Rattle.yuv_error.specs.Rules.{Rule, rule, first_numbers}
use Rattle.shift_file.specs.declared.ShiftForm.{ShiftForm}
use Rattle.shift_writer.specs.declared.NotWritten.{NotWritten}
use Rattle.shift_writer.specs.Records.{are_records, file_made}
use Rattle.shift_writer.specs.Output.{outcome_of, size_of, overwritten, size_told, output_rules}

-- RULES 11.5: 15, then 16
abbrev pub write_rules : ShiftForm → (records : List ℕ) → (room : ℕ) → List Rule
write_rules form records room = rule 15 (not (are_records form records)) 0 0 ∷ output_rules (length (file_made form records)) room

-- RULES 11.5: everything of a call: its answer, the file's size, and each byte lent to it
pub record WritePost (form : ShiftForm) (records before : List ℕ) (r : Result ℕ NotWritten) (after : List ℕ) : Type 0 where
  pub answered : numbers_of (outcome_of r) ≡ first_numbers (write_rules form records (length before))
  pub size : size_of r ≡ size_told (outcome_of r) (length (file_made form records))
  pub written : after ≡ overwritten (outcome_of r) (file_made form records) before
