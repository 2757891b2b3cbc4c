-- What is known of records that were counted. This serves the contracts between functions: no meaning stands here.
-- Assumes nothing.
use Rattle.std.specs.Prelude.{ℕ, ◌≡◌, List, drop}
use Rattle.shift_file.specs.declared.ShiftForm.{ShiftForm}
use Rattle.shift_file.specs.File.{EachAllowed, record_bytes}
use Rattle.shift_file.specs.Read.{records_from}

-- n allowed records stand from a place to the end
pub record Counted (form : ShiftForm) (b : List ℕ) (at n : ℕ) : Type 0 where
  pub each : EachAllowed form (records_from form b at n)
  pub bytes : drop at b ≡ record_bytes (records_from form b at n)
