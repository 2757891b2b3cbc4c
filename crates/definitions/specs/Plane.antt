-- A plane with some of its rows written, the first w or cw bytes of each: docs/RULES.md, 2.4.
-- Assumes nothing.
use Rattle.std.specs.Prelude.{ℕ, ◌+◌, ◌*◌, ◌/◌, ◌%◌, ◌<◌, ◌≡◌, Bool, cond, ◌&&◌, List, ltb, leb, length, get_or}

-- RULES 2.4: byte p stands in a row from `from` up to `to`, among the row's first n bytes
unfoldable pub written : (from to stride n p : ℕ) → Bool
written from to stride n p = leb from (p / stride) && ltb (p / stride) to && ltb (p % stride) n

-- RULES 2.4: `after` is `before` with bytes f row column there, and no other byte changed
pub record PlaneIs (from to stride n : ℕ) (f : ℕ → ℕ → ℕ) (before after : List ℕ) : Type 0 where
  pub size : length after ≡ length before
  pub byte : (p : ℕ) → get_or after p 0 ≡ cond (written from to stride n p) (f (p / stride) (p % stride)) (get_or before p 0)

-- RULES 2.3, 8.9: the first n bytes of each of the first `rows` rows are equal in two planes, each with its own stride
abbrev pub RowsEqual : (rows n stride stride' : ℕ) → (plane plane' : List ℕ) → Type 0
RowsEqual rows n stride stride' plane plane' = (r x : ℕ) → r < rows → x < n → get_or plane (r * stride + x) 0 ≡ get_or plane' (r * stride' + x) 0
