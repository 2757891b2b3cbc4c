-- What reading a Y4M file promises: docs/RULES.md, 14.4 and 14.5.
-- Assumes nothing.
use Rattle.std.specs.Prelude.{ℕ, ◌*◌, ◌-◌, ◌/◌, min, ◌≡◌, not, List, [], ◌∷◌, ◌++◌, length, drop, Result, Ok}
use Rattle.std.specs.Result.{result_and, result_unwrap_or}
use Rattle.yuv_support.specs.Codes.{sampling_code}
use Rattle.yuv_support.specs.declared.YuvChromaSubsampling.TheVariants.{Yuv420}
use Rattle.yuv_error.specs.declared.YuvError.{YuvError}
use Rattle.yuv_error.specs.Numbers.{numbers_of}
use Rattle.yuv_error.specs.Rules.{Rule, rule, first_numbers}
use Rattle.yuv_error.specs.Lent.{taken}
use Rattle.y4m_file.specs.Check.{is_y4m}
use Rattle.y4m_file.specs.Read.{file_in}
use Rattle.y4m_reader.specs.declared.Y4mReading.{Y4mReading}
use Rattle.y4m_reader.specs.Entry.{entries_of}

-- RULES 14.4: 19, these bytes are no file
abbrev pub file_rules : (file : List ℕ) → List Rule
file_rules file = rule 19 (not (is_y4m file)) 0 0 ∷ []

-- RULES 14.5: the answer of a call: finished, or its refusal
abbrev pub y4m_outcome : Result Y4mReading YuvError → Result Unit YuvError
y4m_outcome r = result_and r (Ok tt)

-- RULES 14.5: what it tells beside: each number 0 with a refusal, the code of 4:2:0 too
abbrev pub y4m_reading_of : Result Y4mReading YuvError → Y4mReading
y4m_reading_of r = result_unwrap_or r (record { header = record { width = 0; height = 0; sampling = Yuv420 }; count = 0; told = 0 })

-- RULES 14.5: everything of a call: its answer, the file's sides, sampling and count, how many entries were written, and each number lent to it. An
-- answer of 19 has every number 0 and no entry.
pub record ReadPost (file : List ℕ) (first : ℕ) (before : List ℕ) (r : Result Y4mReading YuvError) (after : List ℕ) : Type 0 where
  pub answered : numbers_of (y4m_outcome r) ≡ first_numbers (file_rules file)
  pub width : (y4m_reading_of r).header.width ≡ taken (y4m_outcome r) (file_in file).width
  pub height : (y4m_reading_of r).header.height ≡ taken (y4m_outcome r) (file_in file).height
  pub sampling : sampling_code (y4m_reading_of r).header.sampling ≡ taken (y4m_outcome r) (sampling_code (file_in file).sampling)
  pub count : (y4m_reading_of r).count ≡ taken (y4m_outcome r) (length (file_in file).pictures)
  pub told : (y4m_reading_of r).told ≡ taken (y4m_outcome r) (min (length (file_in file).pictures - first) (length before / 6))
  pub entries : after ≡ entries_of (file_in file) first (y4m_reading_of r).told ++ drop (6 * (y4m_reading_of r).told) before
