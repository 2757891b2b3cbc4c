-- The exact coefficients of a pair kr, kb, over the fractions that the two numbers are: docs/RULES.md, 4.6. Nothing is rounded here.
-- Assumes nothing.
use Rattle.std.specs.Prelude.{ℕ, ◌+◌, ◌*◌, ◌-◌, Float}
use Rattle.std.specs.Float.{nan, inf, fin}
use Rattle.std.specs.Float.Ieee.{up, down}

-- RULES 4.6: a number from 0 to 1 / 2 is numerator / denominator, exactly
abbrev pub numerator : Float → ℕ
numerator nan = 0
numerator (inf s) = 0
numerator (fin s m e) = m * up e

-- RULES 4.6
abbrev pub denominator : Float → ℕ
denominator nan = 1
denominator (inf s) = 1
denominator (fin s m e) = down e

-- ---- kr, kb and kg = 1 - kr - kb over one denominator, so that 1 is one / one
-- RULES 4.6
abbrev pub one : (kr kb : Float) → ℕ
one kr kb = denominator kr * denominator kb

-- RULES 4.6
abbrev pub red : (kr kb : Float) → ℕ
red kr kb = numerator kr * denominator kb

-- RULES 4.6
abbrev pub blue : (kr kb : Float) → ℕ
blue kr kb = numerator kb * denominator kr

-- RULES 4.6
abbrev pub green : (kr kb : Float) → ℕ
green kr kb = one kr kb - (red kr kb + blue kr kb)
