-- What pairing two files promises: docs/RULES.md, 13.4.
-- Assumes nothing.
use Rattle.std.specs.Prelude.{ℕ, ◌≡◌, Bool, cond, not, List, [], ◌∷◌, Option, Some, None, Result, Ok, Err, IfOk}
use Rattle.std.specs.Result.{result_err}
use Rattle.yuv_error.specs.declared.YuvError.{YuvError}
use Rattle.yuv_error.specs.declared.YuvError.TheVariants.{MalformedShiftFile}
use Rattle.yuv_error.specs.Numbers.{numbers_of}
use Rattle.yuv_error.specs.Rules.{Rule, rule, first_numbers}
use Rattle.shift_file.specs.declared.ShiftForm.{ShiftForm}
use Rattle.shift_file.specs.Read.{records_in}
use Rattle.shift_file.specs.Check.{is_file}
use Rattle.shift_pairs.specs.declared.PairReport.{PairReport}
use Rattle.shift_pairs.specs.declared.BrokenFile.{BrokenFile}
use Rattle.shift_pairs.specs.declared.BrokenFile.TheVariants.{Ours, Theirs}
use Rattle.shift_pairs.specs.Pairs.{Files}
use Rattle.shift_pairs.specs.Report.{report_of}

-- RULES 13.4: the records that two byte sequences have
abbrev pub files_of : (our_form : ShiftForm) → (ours : List ℕ) → (their_form : ShiftForm) → (theirs : List ℕ) → Files
files_of our_form ours their_form theirs =
    record { our_form = our_form; ours = records_in our_form ours; their_form = their_form; theirs = records_in their_form theirs }

-- RULES 13.4: 15, ours first
abbrev pub pairing_rules : (our_form : ShiftForm) → (ours : List ℕ) → (their_form : ShiftForm) → (theirs : List ℕ) → List Rule
pairing_rules our_form ours their_form theirs =
    rule 15 (not (is_file our_form ours)) 0 0 ∷
    rule 15 (not (is_file their_form theirs)) 0 0 ∷ []

-- RULES 13.4: 15 for either file
abbrev pub pairing_outcome : Result PairReport BrokenFile → Result Unit YuvError
pairing_outcome (Ok report) = Ok tt
pairing_outcome (Err broken) = Err MalformedShiftFile

-- RULES 13.4: ours where ours is no file, else theirs where theirs is none
abbrev pub broken_file : (ours theirs : Bool) → Option BrokenFile
broken_file ours theirs = cond ours (cond theirs None (Some Theirs)) (Some Ours)

-- RULES 13.4: 1 for ours, 2 for theirs
abbrev pub broken_number : BrokenFile → ℕ
broken_number Ours = 1
broken_number Theirs = 2

-- RULES 13.4: and 0 where both are files
abbrev pub broken_told : Result PairReport BrokenFile → ℕ
broken_told (Ok report) = 0
broken_told (Err broken) = broken_number broken

-- RULES 13.4: everything of a call
pub record PairingPost (our_form : ShiftForm) (ours : List ℕ) (their_form : ShiftForm) (theirs : List ℕ) (r : Result PairReport BrokenFile) : Type 0 where
  pub answered : numbers_of (pairing_outcome r) ≡ first_numbers (pairing_rules our_form ours their_form theirs)
  pub broken : result_err r ≡ broken_file (is_file our_form ours) (is_file their_form theirs)
  pub reported : IfOk r (λ report. report ≡ report_of (files_of our_form ours their_form theirs))
