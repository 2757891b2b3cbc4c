-- What moving a shift file to the other form promises: docs/RULES.md, 11.8.
-- Assumes nothing.
use Rattle.std.specs.Prelude.{ℕ, ◌≡◌, not, List, [], ◌∷◌, ◌++◌, length, Result}
use Rattle.yuv_error.specs.Numbers.{numbers_of}
use Rattle.yuv_error.specs.Rules.{Rule, rule, first_numbers}
use Rattle.shift_file.specs.declared.ShiftForm.{ShiftForm}
use Rattle.shift_file.specs.declared.ShiftForm.TheVariants.{WithoutSettings, WithSettings}
use Rattle.shift_file.specs.File.{ShiftRecord}
use Rattle.shift_file.specs.Read.{records_in}
use Rattle.shift_file.specs.Check.{is_file}
use Rattle.shift_writer.specs.declared.NotWritten.{NotWritten}
use Rattle.shift_writer.specs.Output.{outcome_of, size_of, overwritten, size_told, output_rules}
use Rattle.shift_move.specs.Move.{are_plain, moved_file}

-- RULES 11.8: 20, of moving back alone: a record has 4:2:2 or a recorded setting
abbrev pub recorded_rules : (from : ShiftForm) → List ShiftRecord → List Rule
recorded_rules WithoutSettings rs = []
recorded_rules WithSettings rs = rule 20 (not (are_plain rs)) 0 0 ∷ []

-- RULES 11.8: 15, then 20, then 16
abbrev pub move_rules : (from : ShiftForm) → (file : List ℕ) → (room : ℕ) → List Rule
move_rules from file room =
    rule 15 (not (is_file from file)) 0 0 ∷ (recorded_rules from (records_in from file) ++ output_rules (length (moved_file from file)) room)

-- RULES 11.8: everything of a call: its answer, the moved file's size, and each byte lent to it
pub record MovePost (from : ShiftForm) (file before : List ℕ) (r : Result ℕ NotWritten) (after : List ℕ) : Type 0 where
  pub answered : numbers_of (outcome_of r) ≡ first_numbers (move_rules from file (length before))
  pub size : size_of r ≡ size_told (outcome_of r) (length (moved_file from file))
  pub written : after ≡ overwritten (outcome_of r) (moved_file from file) before
