-- The numbers that C passes for a convoy, sixteen for each frame, and beside them kr and kb, offsets and lengths: docs/RULES.md, 10.9.
-- What is not given stands here as codes without a meaning, NaN, or 0.
-- Assumes nothing.
use Rattle.std.specs.Prelude.{ℕ, ◌+◌, ◌*◌, cond, Option, None, Some, List, [], ◌∷◌, ltb, Float, length, get_or, take, drop, map}
use Rattle.std.specs.List.{range_with_len}
use Rattle.std.specs.Float.{nan}
use Rattle.definitions.specs.declared.FrameDescription.{FrameDescription}
use Rattle.call_numbers.specs.Codes.{at, description_of, is_malformed}
use Rattle.buffer_parts.specs.declared.BufferPart.{BufferPart}
use Rattle.convoy_parts.specs.declared.ConvoyFrame.{ConvoyFrame}

-- RULES 10.9: the sixteen numbers of frame k: its source's stride, then a description with rounding and window
abbrev pub numbers_at : (numbers : List ℕ) → (k : ℕ) → List ℕ
numbers_at numbers k = take 16 (drop (16 * k) numbers)

-- RULES 10.9: its kr and kb
abbrev pub custom_at : (customs : List Float) → (k : ℕ) → List Float
custom_at customs k = get_or customs (2 * k) nan ∷ get_or customs (2 * k + 1) nan ∷ []

-- RULES 10.9: an offset and the length after it, from number i on
abbrev pub part_at : (parts : List ℕ) → (i : ℕ) → BufferPart
part_at parts i = record { offset = at parts i; length = at parts (i + 1) }

-- RULES 10.2, 10.9: what sixteen numbers describe, as those of a single call do
abbrev pub described_by : (numbers : List ℕ) → (custom : List Float) → Option FrameDescription
described_by numbers custom = cond (is_malformed 1 numbers) None (Some (description_of (drop 1 numbers) custom))

-- RULES 10.9: what frame k's numbers describe; nothing where fewer than sixteen are left for it
abbrev pub described_of : (k : ℕ) → (numbers : List ℕ) → (custom : List Float) → Option FrameDescription
described_of k numbers custom = cond (ltb (length numbers) (16 * k + 16)) None (described_by (numbers_at numbers k) custom)

-- RULES 10.9: frame k, with its parts of the source and of Y, U and V
unfoldable pub frame_of : (numbers : List ℕ) (customs : List Float) (parts : List ℕ) → (k : ℕ) → ConvoyFrame
frame_of numbers customs parts k = record {
  described = described_of k numbers (custom_at customs k);
  stride = at numbers (16 * k);
  source = part_at parts (8 * k);
  y = part_at parts (8 * k + 2);
  u = part_at parts (8 * k + 4);
  v = part_at parts (8 * k + 6);
}

-- RULES 10.9: the frames of the convoy
unfoldable pub convoy_of : (count : ℕ) (numbers : List ℕ) (customs : List Float) (parts : List ℕ) → List ConvoyFrame
convoy_of count numbers customs parts = map (frame_of numbers customs parts) (range_with_len 0 count)
