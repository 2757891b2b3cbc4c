-- Two shift files paired for C and Rust: what `segvartin_call_shift_pairs` answers and leaves, which is the promise of `pair_files` in the forms
-- that the files have. docs/RULES.md, 10.7.
-- Assumes nothing.
use Rattle.std.specs.Prelude.{ℕ, ◌≡◌, List, [], ◌∷◌, Result}
use Rattle.yuv_error.specs.Numbers.{numbers_of}
use Rattle.yuv_error.specs.Rules.{Rule}
use Rattle.shift_file.specs.Check.{form_in}
use Rattle.shift_pairs.specs.declared.PairReport.{PairReport}
use Rattle.shift_pairs.specs.declared.BrokenFile.{BrokenFile}
use Rattle.shift_pairs.specs.Pairing.{pairing_rules, pairing_outcome, broken_told, PairingPost}
use Rattle.report_numbers.specs.Numbers.{pairing_numbers}

-- RULES 10.7: what a call was given, the number that it returned, and what it was lent as it left it
pub record ExportedPairing : Type 0 where
  pub ours : List ℕ
  pub theirs : List ℕ
  pub report : List ℕ
  pub number : ℕ
  pub told : List ℕ
  pub report' : List ℕ

-- RULES 10.7
abbrev pub exported_pairing : (ours theirs report : List ℕ) (number : ℕ) (told report' : List ℕ) → ExportedPairing
exported_pairing ours theirs report number told report' =
    record { ours = ours; theirs = theirs; report = report; number = number; told = told; report' = report' }

-- RULES 10.7: 15
abbrev pub rules_of_pairing : ExportedPairing → List Rule
rules_of_pairing k = pairing_rules (form_in k.ours) k.ours (form_in k.theirs) k.theirs

-- RULES 10.7: the promise of `pair_files`; told is the file that is none, and the report is in its numbers
pub record PairingKept (k : ExportedPairing) : Type 0 where
  pub pairing : Result PairReport BrokenFile
  pub number : k.number ≡ (numbers_of (pairing_outcome pairing)).number
  pub told : k.told ≡ broken_told pairing ∷ []
  pub report : k.report' ≡ pairing_numbers pairing k.report
  pub paired : PairingPost (form_in k.ours) k.ours (form_in k.theirs) k.theirs pairing
