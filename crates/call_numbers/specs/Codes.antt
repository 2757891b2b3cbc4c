-- The numbers that C passes for a description, and beside them kr and kb: docs/RULES.md, 1.2, 10.1, 10.2 and 10.4.
-- The rounding and the window may be left out: then it is Truncated, and the window is the whole source. Where another number is missing or a code has no
-- meaning, 0 or the first one stands here: refusal 1 is first, so no answer turns on it.
-- Assumes nothing.
use Rattle.std.specs.Prelude.{ℕ, ◌+◌, Bool, true, cond, ◌||◌, List, [], ◌∷◌, ltb, leb, eqb, Float, length, get_or, drop, Option, Some, None, Result, Ok, Err}
use Rattle.std.specs.Float.{nan}
use Rattle.yuv_support.specs.declared.YuvSourceChannels.TheVariants.{Rgb}
use Rattle.yuv_support.specs.declared.YuvChromaSubsampling.TheVariants.{Yuv420}
use Rattle.yuv_support.specs.declared.YuvRange.{YuvRange}
use Rattle.yuv_support.specs.declared.YuvRange.TheVariants.{Limited}
use Rattle.yuv_support.specs.declared.YuvStandardMatrix.{YuvStandardMatrix}
use Rattle.yuv_support.specs.declared.YuvStandardMatrix.TheVariants.{Bt601, Custom}
use Rattle.sharp_gamma.specs.declared.SharpYuvGammaTransfer.TheVariants.{Srgb}
use Rattle.sharp_gamma.specs.declared.TableRounding.TheVariants.{Truncated}
use Rattle.definitions.specs.declared.YuvSettings.{YuvSettings}
use Rattle.definitions.specs.declared.Window.{Window}
use Rattle.definitions.specs.declared.FrameDescription.{FrameDescription}
use Rattle.definitions.specs.Image.{whole_source}
use Rattle.yuv_error.specs.declared.YuvError.{YuvError}
use Rattle.yuv_error.specs.declared.YuvError.TheVariants.{MalformedRequest}
use Rattle.yuv_error.specs.Rules.{Rule, rule}
use Rattle.setting_codes.specs.Codes.{channels_codes, sampling_codes, range_codes, matrix_codes, transfer_codes, rounding_codes, custom_code}

-- RULES 10.1: number i of a call, 0 where it is not given
abbrev pub at : List ℕ → ℕ → ℕ
at numbers i = get_or numbers i 0

-- RULES 1.2, 10.1: kr, then kb, looked at for a Custom matrix only
abbrev pub matrix_of : ℕ → (custom : List Float) → YuvStandardMatrix
matrix_of code custom = cond (eqb code custom_code) (Custom (get_or custom 0 nan) (get_or custom 1 nan)) (get_or matrix_codes code Bt601)

-- RULES 1.2, 10.1
unfoldable pub settings_of : (numbers : List ℕ) → (custom : List Float) → YuvSettings
settings_of numbers custom = record {
  channels = get_or channels_codes (at numbers 2) Rgb;
  sampling = get_or sampling_codes (at numbers 3) Yuv420;
  range = get_or range_codes (at numbers 4) Limited;
  matrix = matrix_of (at numbers 5) custom;
  transfer = get_or transfer_codes (at numbers 6) Srgb;
  rounding = get_or rounding_codes (at numbers 10) Truncated;
}

-- RULES 10.1: fewer than fifteen numbers have the whole source as window
unfoldable pub window_of : (numbers : List ℕ) → Window
window_of numbers =
    cond (ltb (length numbers) 15) (whole_source (at numbers 0) (at numbers 1))
    (record { left = at numbers 11; top = at numbers 12; source_width = at numbers 13; source_height = at numbers 14 })

-- RULES 10.1: the frame that a description's numbers describe
abbrev pub description_of : (numbers : List ℕ) → (custom : List Float) → FrameDescription
description_of numbers custom = record {
  width = at numbers 0;
  height = at numbers 1;
  window = window_of numbers;
  settings = settings_of numbers custom;
  y_stride = at numbers 7;
  u_stride = at numbers 8;
  v_stride = at numbers 9;
}

-- RULES 10.2: a description with a code without a meaning
abbrev pub is_unknown : List ℕ → Bool
is_unknown numbers =
    leb (length channels_codes) (at numbers 2)
    || leb (length sampling_codes) (at numbers 3)
    || leb (length range_codes) (at numbers 4)
    || ltb custom_code (at numbers 5)
    || leb (length transfer_codes) (at numbers 6)
    || leb (length rounding_codes) (at numbers 10)

-- RULES 10.1: so many numbers before a description, which has 10, or 11 with the rounding, or 15 with the window too
abbrev pub is_counted : (before count : ℕ) → Bool
is_counted before count = eqb count (before + 10) || eqb count (before + 11) || eqb count (before + 15)

-- RULES 10.2: another count of numbers, or a code without a meaning
unfoldable pub is_malformed : (before : ℕ) → List ℕ → Bool
is_malformed before numbers = cond (is_counted before (length numbers)) (is_unknown (drop before numbers)) true

-- RULES 10.1, 10.2: the frame that a call's numbers describe, or refusal 1
abbrev pub described : (before : ℕ) → (numbers : List ℕ) → (custom : List Float) → Result FrameDescription YuvError
described before numbers custom = cond (is_malformed before numbers) (Err MalformedRequest) (Ok (description_of (drop before numbers) custom))

-- RULES 10.2: refusal 1, first of all
abbrev pub number_rules : (before : ℕ) → List ℕ → List Rule
number_rules before numbers = rule 1 (is_malformed before numbers) 0 0 ∷ []

-- RULES 10.4: the two numbers of a count of colours are a range and a matrix
unfoldable pub is_malformed_range_and_matrix : List ℕ → Bool
is_malformed_range_and_matrix numbers = cond (eqb (length numbers) 2) (leb (length range_codes) (at numbers 0) || ltb custom_code (at numbers 1)) true

-- RULES 10.2, 10.4: nothing where the numbers are malformed
abbrev pub range_and_matrix : (numbers : List ℕ) → (custom : List Float) → Option (YuvRange × YuvStandardMatrix)
range_and_matrix numbers custom =
    cond (is_malformed_range_and_matrix numbers) None (Some (get_or range_codes (at numbers 0) Limited, matrix_of (at numbers 1) custom))
