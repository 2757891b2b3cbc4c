-- Which bytes are a shift file, as it is computed: the pairs and headers are looked at and the planes are not. docs/RULES.md, 11.3. `Means` says
-- that it is true exactly where some list of records has these bytes.
-- Assumes nothing.
use Rattle.std.specs.Prelude.{ℕ, zero, suc, ◌+◌, Bool, true, cond, ◌&&◌, List, Option, Some, None, leb, eqb, length, drop}
use Rattle.little_endian.specs.Number.{number_in}
use Rattle.shift_file.specs.declared.ShiftForm.{ShiftForm}
use Rattle.shift_file.specs.declared.ShiftForm.TheVariants.{WithoutSettings, WithSettings}
use Rattle.shift_file.specs.File.{header_size, pairs_at, records_at, is_side, codes_allowed}
use Rattle.shift_file.specs.Read.{width_at, height_at, settings_at, size_at, count_at}

-- RULES 11.2: the sizes and settings of a header are allowed
unfoldable pub shape_allowed : ShiftForm → List ℕ → Bool
shape_allowed form l = is_side (width_at l) && (is_side (height_at l) && codes_allowed form (settings_at form l))

-- RULES 11.3: an allowed record stands at the front, whole
unfoldable pub record_stands : ShiftForm → List ℕ → Bool
record_stands form l = leb (header_size form) (length l) && (shape_allowed form l && leb (size_at form l) (length l))

-- RULES 11.3: the pair at the front is this one
unfoldable pub pair_is : List ℕ → (at size : ℕ) → Bool
pair_is l at size = eqb (number_in 8 l) at && eqb (number_in 4 (drop 8 l)) size

-- RULES 11.3: n pairs from one place on and n records from another belong together, and the file ends with them
unfoldable pub walk : ShiftForm → List ℕ → (pair at n : ℕ) → Bool
walk form b pair at zero = eqb at (length b)
walk form b pair at (suc n) =
    record_stands form (drop at b)
    && (pair_is (drop pair b) at (size_at form (drop at b)) && walk form b (pair + 12) (at + size_at form (drop at b)) n)

-- the bytes of the record at the front, where an allowed one stands there, whole
unfoldable pub size_standing : ShiftForm → List ℕ → Option ℕ
size_standing form l = cond (record_stands form l) (Some (size_at form l)) None

-- the bytes of the record at a place, where it is whole and has that pair: what one step of the walk looks for
unfoldable pub next_size : ShiftForm → List ℕ → (pair at : ℕ) → Option ℕ
next_size form b pair at =
    cond (record_stands form (drop at b) && pair_is (drop pair b) at (size_at form (drop at b))) (Some (size_at form (drop at b))) None

-- RULES 11.7
abbrev pub is_marked : ShiftForm → List ℕ → Bool
is_marked WithoutSettings b = true
is_marked WithSettings b = eqb (number_in 4 b) 4294967295

-- RULES 11.3: n pairs have room, and they and the records belong together
unfoldable pub records_follow : ShiftForm → List ℕ → (n : ℕ) → Bool
records_follow form b n = leb (records_at form n) (length b) && walk form b (pairs_at form) (records_at form n) n

-- RULES 11.3: these bytes are a file
unfoldable pub is_file : ShiftForm → List ℕ → Bool
is_file form b =
    leb (pairs_at form) (length b) && (is_marked form b && (leb (count_at form b) 4096 && records_follow form b (count_at form b)))

-- RULES 11.7: the form that bytes have, by the mark; whether they are a file of it is the check's to say
unfoldable pub form_in : List ℕ → ShiftForm
form_in b = cond (leb 4 (length b) && eqb (number_in 4 b) 4294967295) WithSettings WithoutSettings
