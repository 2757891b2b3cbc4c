-- The rounding of a weight, halves away from zero: docs/RULES.md, 4.5.
-- A finite f32 is `fin s m e`: m × 2 ^ e exactly, that is m * up e / down e, and negative where s is true.
-- Assumes nothing.
use Rattle.std.specs.Prelude.{ℕ, ◌+◌, ◌*◌, ◌/◌, ◌%◌, Bool, true, false, cond, ℤ, pos, neg_ℤ, nat_lt, Float}
use Rattle.std.specs.Float.{nan, inf, fin}
use Rattle.std.specs.Float.Ieee.{up, down}

-- RULES 4.5: a / c to the nearest whole number, a half upward: its whole part, and one more where what is left of c is a half or more
abbrev pub nearest_whole : ℕ → ℕ → ℕ
nearest_whole a c = cond (nat_lt (2 * (a % c)) c) (a / c) (a / c + 1)

-- RULES 4.5: the whole number, with a sign
abbrev pub signed : Bool → ℕ → ℤ
signed true n = neg_ℤ (pos n)
signed false n = pos n

-- RULES 4.5. No NaN and no infinity is ever rounded here.
unfoldable pub round_half_away : Float → ℤ
round_half_away nan = pos 0
round_half_away (inf s) = pos 0
round_half_away (fin s m e) = signed s (nearest_whole (m * up e) (down e))
