-- What building, checking and looking up promise: docs/RULES.md, 12.4 to 12.6.
-- Assumes nothing.
use Rattle.std.specs.Prelude.{ℕ, ◌*◌, ◌≡◌, Bool, false, not, ◌&&◌, List, [], ◌∷◌, ◌++◌, ltb, length, Option, None, Result, Ok, Err, IfOk}
use Rattle.std.specs.Result.{result_unwrap_or}
use Rattle.yuv_error.specs.declared.YuvError.{YuvError}
use Rattle.yuv_error.specs.Numbers.{numbers_of}
use Rattle.yuv_error.specs.Rules.{Rule, rule, first_numbers}
use Rattle.shift_file.specs.declared.ShiftForm.{ShiftForm}
use Rattle.shift_file.specs.Read.{records_in}
use Rattle.shift_file.specs.Check.{is_file}
use Rattle.shift_reader.specs.Reading.{file_rules}
use Rattle.shift_writer.specs.Output.{overwritten}
use Rattle.shift_summary.specs.Built.{summary_of}
use Rattle.summary_check.specs.Check.{is_summary}
use Rattle.summary_calls.specs.Found.{found_among}

-- RULES 12.4: 15, then 17, the summary has less room than 13 bytes a record
abbrev pub build_rules : ShiftForm → (file : List ℕ) → (room : ℕ) → List Rule
build_rules form file room = file_rules form file ++ rule 17 (ltb room (13 * length (records_in form file))) 0 0 ∷ []

-- RULES 12.4: everything of a call: its answer, and each byte lent to it
pub record BuildPost (form : ShiftForm) (file before : List ℕ) (answer : Result Unit YuvError) (after : List ℕ) : Type 0 where
  pub answered : numbers_of answer ≡ first_numbers (build_rules form file (length before))
  pub written : after ≡ overwritten answer (summary_of form (records_in form file)) before

-- RULES 7.1: a refusal, or that the work is done, whatever came of it
abbrev pub outcome : {A : Type 0} → Result A YuvError → Result Unit YuvError
outcome (Ok said) = Ok tt
outcome (Err e) = Err e

-- RULES 12.5: a refused check says no
abbrev pub says_yes : Result Bool YuvError → Bool
says_yes r = result_unwrap_or r false

-- RULES 12.5: 15; then yes exactly where it is a summary
pub record CheckPost (form : ShiftForm) (file summary : List ℕ) (r : Result Bool YuvError) : Type 0 where
  pub answered : numbers_of (outcome r) ≡ first_numbers (file_rules form file)
  pub verdict : says_yes r ≡ (is_file form file && is_summary form (records_in form file) summary)

-- RULES 12.6: 15, then 17, it is no summary
abbrev pub find_rules : ShiftForm → (file summary : List ℕ) → List Rule
find_rules form file summary = file_rules form file ++ rule 17 (not (is_summary form (records_in form file) summary)) 0 0 ∷ []

-- RULES 12.6: a refusal finds nothing
abbrev pub found_in : Result (Option ℕ) YuvError → Option ℕ
found_in r = result_unwrap_or r None

-- RULES 12.6
pub record FindPost (form : ShiftForm) (file summary : List ℕ) (crossing : ℕ) (r : Result (Option ℕ) YuvError) : Type 0 where
  pub answered : numbers_of (outcome r) ≡ first_numbers (find_rules form file summary)
  pub found : IfOk r (λ found. found ≡ found_among crossing (records_in form file))
