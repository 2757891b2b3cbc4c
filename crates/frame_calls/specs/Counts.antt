-- `segvartin_call_luma_counts`: what it answers and leaves. docs/RULES.md, 10.4.
-- Assumes nothing.
use Rattle.std.specs.Prelude.{ℕ, ◌≡◌, List, [], ◌∷◌, Float, get_or, Result, Err}
use Rattle.yuv_support.specs.declared.YuvRange.{YuvRange}
use Rattle.yuv_support.specs.declared.YuvRange.TheVariants.{Limited}
use Rattle.yuv_support.specs.declared.YuvStandardMatrix.{YuvStandardMatrix}
use Rattle.yuv_error.specs.declared.YuvError.TheVariants.{MalformedRequest}
use Rattle.yuv_error.specs.declared.YuvError.{YuvError}
use Rattle.yuv_error.specs.Numbers.{numbers_of}
use Rattle.yuv_error.specs.Rules.{Rule, rule, matrix_rules}
use Rattle.band_lists.specs.BandLists.{Either}
use Rattle.setting_codes.specs.Codes.{range_codes}
use Rattle.call_numbers.specs.Codes.{at, matrix_of, is_malformed_range_and_matrix}
use Rattle.colour_counts.specs.Counts.{CountsPost}

-- RULES 10.4: what a call was given, the number that it returned, and what it was lent as it left it
pub record ExportedCounts : Type 0 where
  pub numbers : List ℕ
  pub custom : List Float
  pub counts : List ℕ
  pub number : ℕ
  pub told : List ℕ
  pub counts' : List ℕ

-- RULES 10.4
abbrev pub exported_counts : (numbers : List ℕ) (custom : List Float) (counts : List ℕ) (number : ℕ) (told counts' : List ℕ) → ExportedCounts
exported_counts numbers custom counts number told counts' =
    record { numbers = numbers; custom = custom; counts = counts; number = number; told = told; counts' = counts' }

-- RULES 10.4
abbrev pub range_of_counts : ExportedCounts → YuvRange
range_of_counts k = get_or range_codes (at k.numbers 0) Limited

-- RULES 10.4
abbrev pub matrix_of_counts : ExportedCounts → YuvStandardMatrix
matrix_of_counts k = matrix_of (at k.numbers 1) k.custom

-- RULES 10.4: refusal 1, then 4
abbrev pub rules_of_counts : ExportedCounts → List Rule
rules_of_counts k = rule 1 (is_malformed_range_and_matrix k.numbers) 0 0 ∷ matrix_rules (matrix_of_counts k)

-- RULES 10.4: the promise of `colour_counts`, with refusal 1 before it
abbrev pub CountsAnswered : ExportedCounts → Result Unit YuvError → Type 0
CountsAnswered k answer =
    Either (is_malformed_range_and_matrix k.numbers) ((answer ≡ Err MalformedRequest) × (k.counts' ≡ k.counts))
    (CountsPost (range_of_counts k) (matrix_of_counts k) k.counts answer k.counts')

-- RULES 10.4
pub record CountsKept (k : ExportedCounts) : Type 0 where
  pub answer : Result Unit YuvError
  pub number : k.number ≡ (numbers_of answer).number
  pub told : k.told ≡ (numbers_of answer).expected ∷ (numbers_of answer).received ∷ []
  pub answered : CountsAnswered k answer
