-- The first byte at which two planes of one size differ: docs/RULES.md, 13.3.
-- Assumes nothing.
use Rattle.std.specs.Prelude.{ℕ, suc, ◌+◌, ◌*◌, ◌/◌, ◌%◌, ◌<◌, ◌≡◌, cond, List, [], ◌∷◌, ◌↔◌, ltb, eqb, length, get_or, Option, Some, None}

-- RULES 13.3: how many bytes are equal before the first that is not
unfoldable pub equal_front : (a b : List ℕ) → ℕ
equal_front [] b = 0
equal_front (x ∷ a) [] = 0
equal_front (x ∷ a) (y ∷ b) = cond (eqb x y) (suc (equal_front a b)) 0

-- RULES 13.3: byte k of rows of w bytes stands in row k / w and column k % w
abbrev pub place_of : (w k : ℕ) → ℕ × ℕ
place_of w k = (k / w, k % w)

-- RULES 13.3: row and column of the first unequal byte of two planes with rows of w bytes, or none
unfoldable pub plane_difference : (w : ℕ) → (a b : List ℕ) → Option (ℕ × ℕ)
plane_difference w a b = cond (ltb (equal_front a b) (length a)) (Some (place_of w (equal_front a b))) None

-- ---- what it means

-- RULES 13.3: the byte of a row and column, in rows of w bytes
abbrev pub byte_at : (w : ℕ) → (plane : List ℕ) → (row column : ℕ) → ℕ
byte_at w plane row column = get_or plane (w * row + column) 0

-- RULES 13.3: this byte of two planes of w × h differs; the rows above it, and its row up to it, are equal
pub record FirstByte (w h : ℕ) (a b : List ℕ) (row column : ℕ) : Type 0 where
  pub row_inside : row < h
  pub column_inside : column < w
  pub differs : byte_at w a row column ≡ byte_at w b row column → ⊥
  pub above : (r c : ℕ) → r < row → c < w → byte_at w a r c ≡ byte_at w b r c
  pub left : (c : ℕ) → c < column → byte_at w a row c ≡ byte_at w b row c

-- RULES 13.3: a place is told exactly where that byte is the first that differs
abbrev pub FirstByteTold : Type 0
FirstByteTold = (w h : ℕ) (a b : List ℕ) → length a ≡ w * h → length b ≡ w * h → (row column : ℕ)
    → (plane_difference w a b ≡ Some (row, column)) ↔ FirstByte w h a b row column
