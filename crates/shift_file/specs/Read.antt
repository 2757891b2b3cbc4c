-- The records that bytes have, read: docs/RULES.md, 11.4. `Means` says that of a file these are its records.
-- Assumes nothing.
use Rattle.std.specs.Prelude.{ℕ, zero, suc, ◌+◌, ◌*◌, List, [], ◌∷◌, take, drop}
use Rattle.little_endian.specs.Number.{number_in}
use Rattle.shift_file.specs.declared.ShiftForm.{ShiftForm}
use Rattle.shift_file.specs.File.{ShiftRecord, mark_size, settings_size, header_size, chroma_bytes, records_at}

-- ---- a record, from what stands from it on

-- RULES 11.2
abbrev pub width_at : List ℕ → ℕ
width_at l = number_in 2 (drop 4 l)

-- RULES 11.2
abbrev pub height_at : List ℕ → ℕ
height_at l = number_in 2 (drop 6 l)

-- RULES 11.7
abbrev pub settings_at : ShiftForm → List ℕ → List ℕ
settings_at form l = take (settings_size form) (drop 8 l)

-- RULES 11.2
abbrev pub luma_at : List ℕ → ℕ
luma_at l = width_at l * height_at l

-- RULES 11.2
abbrev pub chroma_at : ShiftForm → List ℕ → ℕ
chroma_at form l = chroma_bytes form (settings_at form l) (width_at l) (height_at l)

-- RULES 11.2: the bytes of the record that a header tells
unfoldable pub size_at : ShiftForm → List ℕ → ℕ
size_at form l = header_size form + (luma_at l + 2 * chroma_at form l)

-- RULES 11.2, 11.4
unfoldable pub record_at : ShiftForm → List ℕ → ShiftRecord
record_at form l = record {
  crossing = number_in 4 l;
  width = width_at l;
  height = height_at l;
  settings = settings_at form l;
  y = take (luma_at l) (drop (header_size form) l);
  u = take (chroma_at form l) (drop (header_size form + luma_at l) l);
  v = take (chroma_at form l) (drop (header_size form + luma_at l + chroma_at form l) l);
}

-- ---- records back to back, and those of a file

-- RULES 11.4: n records from a place on
unfoldable pub records_from : ShiftForm → List ℕ → (at n : ℕ) → List ShiftRecord
records_from form b at zero = []
records_from form b at (suc n) = record_at form (drop at b) ∷ records_from form b (at + size_at form (drop at b)) n

-- RULES 11.1
unfoldable pub count_at : ShiftForm → List ℕ → ℕ
count_at form b = number_in 4 (drop (mark_size form) b)

-- RULES 11.4: the records of a file
abbrev pub records_in : ShiftForm → List ℕ → List ShiftRecord
records_in form b = records_from form b (records_at form (count_at form b)) (count_at form b)
