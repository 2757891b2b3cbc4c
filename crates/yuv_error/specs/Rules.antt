-- The conditions of docs/RULES.md, chapter 7, each with its number, expected and received, in the order in which they are asked.
-- Assumes nothing.
use Rattle.std.specs.Prelude.{ℕ, ◌+◌, ◌*◌, ◌-◌, Bool, cond, not, ◌||◌, List, [], ◌∷◌, ◌++◌, ltb, eqb}
use Rattle.yuv_support.specs.declared.YuvStandardMatrix.{YuvStandardMatrix}
use Rattle.yuv_support.specs.Matrix.{accepted}
use Rattle.yuv_error.specs.declared.LentBuffer.{LentBuffer}
use Rattle.yuv_error.specs.Numbers.{Numbers, numbers}

-- RULES 7.1: a condition, and what it answers
pub record Rule : Type 0 where
  pub holds : Bool
  pub says : Numbers

-- RULES 7.1
abbrev pub rule : (number : ℕ) → Bool → (expected received : ℕ) → Rule
rule n b e r = record { holds = b; says = numbers n e r }

-- RULES 7.1: what the first rule that holds says; 0 where none holds
abbrev pub first_numbers : List Rule → Numbers
first_numbers [] = numbers 0 0 0
first_numbers (r ∷ rs) = cond r.holds r.says (first_numbers rs)

-- RULES 7.3: 3, of a frame's size and of its source's
abbrev pub large_rules : (w h : ℕ) → List Rule
large_rules w h = rule 3 (ltb 16384 w || ltb 16384 h) 0 0 ∷ []

-- RULES 7.3: 2 and 3 of a frame's size
abbrev pub size_rules : (w h : ℕ) → List Rule
size_rules w h = rule 2 (eqb w 0 || eqb h 0) 0 0 ∷ large_rules w h

-- RULES 7.4
abbrev pub matrix_rules : YuvStandardMatrix → List Rule
matrix_rules m = rule 4 (not (accepted m)) 0 0 ∷ []

-- RULES 7.5, 7.6: stride × (rows − 1) + row, the least that holds the rows
abbrev pub least_of : LentBuffer → ℕ
least_of b = b.stride * (b.rows - 1) + b.row

-- RULES 7.6, 7.7: stride × rows
abbrev pub whole_of : LentBuffer → ℕ
whole_of b = b.stride * b.rows

-- RULES 7.5, 7.6
abbrev pub too_short : LentBuffer → Bool
too_short b = ltb b.len (least_of b)

-- RULES 7.5, 7.6
abbrev pub too_narrow : LentBuffer → Bool
too_narrow b = ltb b.stride b.row

-- RULES 7.7
abbrev pub not_whole : LentBuffer → Bool
not_whole b = not (eqb b.len (whole_of b))

-- RULES 7.5: 6, 7
abbrev pub source_rules : LentBuffer → List Rule
source_rules s =
    rule 6 (too_short s) (least_of s) s.len ∷
    rule 7 (too_narrow s) s.row s.stride ∷ []

-- RULES 7.6: 8 and 9 of Y, 10 and 10 of U, 11 and 11 of V
abbrev pub plane_rules : (narrow short : ℕ) → LentBuffer → List Rule
plane_rules narrow short b =
    rule narrow (too_narrow b) (b.row * b.rows) (whole_of b) ∷
    rule short (too_short b) (least_of b) b.len ∷ []

-- RULES 7.7: 12
abbrev pub whole_rules : LentBuffer → List Rule
whole_rules b = rule 12 (not_whole b) (whole_of b) b.len ∷ []

-- RULES 11.6: 8 to 12 of planes alone, in order
abbrev pub planes_rules : (y u v : LentBuffer) → List Rule
planes_rules y u v = plane_rules 8 9 y ++ plane_rules 10 10 u ++ plane_rules 11 11 v ++ whole_rules y ++ whole_rules u ++ whole_rules v

-- RULES 7.1, 7.5, 7.6, 7.7: 6 to 12, in order
abbrev pub buffer_rules : (source y u v : LentBuffer) → List Rule
buffer_rules source y u v =
    source_rules source ++ plane_rules 8 9 y ++ plane_rules 10 10 u ++ plane_rules 11 11 v
    ++ whole_rules source ++ whole_rules y ++ whole_rules u ++ whole_rules v
