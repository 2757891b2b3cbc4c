-- What is read of a stored list, told by the bytes that are left of it. Past their end each number is 0.
use Rattle.std.specs.Prelude.{◌≡◌, ℕ, zero, suc, ◌-◌, ◌%◌, ◌≤◌, ◌<◌, min, cond, ltb, List, [], ◌∷◌, ◌++◌, length, take, drop, replicate, slice_index, Float, from_bits}
use Rattle.std.specs.Float.{nan, binary32}
use Rattle.std.specs.Int.{from_le_bytes, w32, w64}
use Rattle.definitions.specs.declared.FrameDescription.{FrameDescription}
use Rattle.call_numbers.specs.Codes.{description_of}

-- the next so many bytes, with zeros past the end
abbrev pub next_bytes : ℕ → (left : List ℕ) → List ℕ
next_bytes n left = take n (left ++ replicate n 0)

-- a buffer over which the next bytes were written: past the end it is as it was
abbrev pub read_over : (left before : List ℕ) → List ℕ
read_over left before = take (length before) left ++ drop (length left) before

-- the next number of four bytes, low byte first
abbrev pub next_number : (left : List ℕ) → ℕ
next_number left = from_le_bytes w32 (next_bytes 4 left)

-- the same of eight bytes
abbrev pub next_wide : (left : List ℕ) → ℕ
next_wide left = from_le_bytes w64 (next_bytes 8 left)

-- the next number, at most `most`
abbrev pub next_room : (most : ℕ) → (left : List ℕ) → ℕ
next_room most left = min (next_number left) most

-- the float of these bits; one NaN where they are above those of infinity, the sign aside
abbrev pub float_of : ℕ → Float
float_of n = cond (ltb 0x7f80_0000 (n % 0x8000_0000)) nan (from_bits binary32 n)

-- the next number, as the bits of a float
abbrev pub next_float : (left : List ℕ) → Float
next_float left = float_of (next_number left)

-- so many numbers, or floats, one behind the other
unfoldable pub next_numbers : ℕ → (left : List ℕ) → List ℕ
next_numbers zero left = []
next_numbers (suc n) left = next_number left ∷ next_numbers n (drop 4 left)

unfoldable pub next_floats : ℕ → (left : List ℕ) → List Float
next_floats zero left = []
next_floats (suc n) left = next_float left ∷ next_floats n (drop 4 left)

-- the fifteen numbers of a description, with the bits of kr and kb behind the code of the matrix
abbrev pub next_frame : (left : List ℕ) → FrameDescription
next_frame left = description_of (next_numbers 6 left ++ next_numbers 9 (drop 32 left)) (next_floats 2 (drop 24 left))

-- what was read of what was left, and what is left then
abbrev pub IsNumber : (old new : List ℕ) → ℕ → Type 0
IsNumber old new n = (n ≡ next_number old) × (new ≡ drop 4 old)

abbrev pub IsWide : (old new : List ℕ) → ℕ → Type 0
IsWide old new n = (n ≡ next_wide old) × (new ≡ drop 8 old)

abbrev pub IsFloat : (old new : List ℕ) → Float → Type 0
IsFloat old new x = (x ≡ next_float old) × (new ≡ drop 4 old)

abbrev pub IsFrame : (old new : List ℕ) → FrameDescription → Type 0
IsFrame old new d = (d ≡ next_frame old) × (new ≡ drop 68 old)

-- from `block` on a buffer repeats what stands `block` bytes before
abbrev pub Repeats : ℕ → List ℕ → Type 0
Repeats block buffer = (k : ℕ) → block ≤ k → k < length buffer → slice_index buffer k ≡ slice_index buffer (k - block)

-- a buffer was filled with the next block, which is repeated: its length comes first, at most the buffer's, and then its bytes; a block of
-- none leaves the buffer as it was
pub record IsFilled (old new before buffer : List ℕ) : Type 0 where
  pub as_long : length buffer ≡ length before
  pub front : let block = next_room (length before) old in take block buffer ≡ read_over (drop 4 old) (take block before)
  pub repeats : Repeats (next_room (length before) old) buffer
  pub none : next_room (length before) old ≡ 0 → buffer ≡ before
  pub left : new ≡ drop (next_room (length before) old) (drop 4 old)

-- each of three planes was filled, Y first
pub record AreFilled (old new : List ℕ) (before after : List ℕ × List ℕ × List ℕ) : Type 0 where
  pub behind_y : List ℕ
  pub behind_u : List ℕ
  pub y_filled : IsFilled old behind_y before.0 after.0
  pub u_filled : IsFilled behind_y behind_u before.1 after.1
  pub v_filled : IsFilled behind_u new before.2 after.2
