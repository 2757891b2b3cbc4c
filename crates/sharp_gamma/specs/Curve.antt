-- The curve of each transfer and its inverse: docs/RULES.md, 3.1 to 3.3. Powers are compared by raising both sides.
-- Assumes nothing.
use Rattle.std.specs.Prelude.{ℕ, Bool, cond}
use Rattle.sharp_gamma.specs.declared.SharpYuvGammaTransfer.{SharpYuvGammaTransfer}
use Rattle.sharp_gamma.specs.declared.SharpYuvGammaTransfer.TheVariants.{Srgb, Rec709, Gamma2p2, Gamma2p8}
use Rattle.sharp_gamma.specs.Fraction.{Fraction, whole, decimal, ◌plus◌, ◌less◌, ◌times◌, ◌divided_by◌, power, ◌not_above◌, ◌below◌}

-- RULES 3.1: the four decimals of a transfer and its power, up / down
pub record Curve : Type 0 where
  pub slope : Fraction
  pub break : Fraction
  pub offset : Fraction
  pub scale : Fraction
  pub up : ℕ
  pub down : ℕ

-- RULES 3.1: a row of the table. The offset is the scale less 1; no scale is below 1.
abbrev pub row : (slope break scale : Fraction) (up down : ℕ) → Curve
row s b c u d = record { slope = s; break = b; offset = c less whole 1; scale = c; up = u; down = d }

-- RULES 3.1: the decimals are exact. A pure power breaks at 0, so that nothing of it is straight.
abbrev pub curve_of : SharpYuvGammaTransfer → Curve
curve_of Srgb = row (decimal 12_92 2) (decimal 0_003041282560128 15) (decimal 1_055010718947587 15) 12 5
curve_of Rec709 = row (decimal 4_5 1) (decimal 0_018053968510807 15) (decimal 1_099296826809442 15) 20 9
curve_of Gamma2p2 = row (whole 1) (whole 0) (whole 1) 11 5
curve_of Gamma2p8 = row (whole 1) (whole 0) (whole 1) 14 5

-- RULES 3.2, 3.3: at 0 and at 1 by themselves, straight below an end and curved from there on
pub data Branch : Type 0 where
  at_zero straight curved at_one : Branch

-- RULES 3.2, 3.3
abbrev pub branch_at : Fraction → Fraction → Branch
branch_at x end = cond (x not_above whole 0) at_zero (cond (whole 1 not_above x) at_one (cond (x below end) straight curved))

-- RULES 3.2, 3.4: y is not above the curve at x, which is x / slope, or ((x + offset) / scale) ^ (up / down)
abbrev pub under_curve_on : Branch → Curve → Fraction → Fraction → Bool
under_curve_on at_zero c y x = y not_above whole 0
under_curve_on straight c y x = y not_above x divided_by c.slope
under_curve_on curved c y x = power y c.down not_above power ((x plus c.offset) divided_by c.scale) c.up
under_curve_on at_one c y x = y not_above whole 1

-- RULES 3.2, 3.4: its straight part ends at slope × break
unfoldable pub under_curve : Curve → Fraction → Fraction → Bool
under_curve c y x = under_curve_on (branch_at x (c.slope times c.break)) c y x

-- RULES 3.3, 3.5: x is not above the inverse at y, which is slope * y, or scale * y ^ (down / up) - offset, with offset and scale taken to x's side
-- before both sides are raised
abbrev pub under_inverse_on : Branch → Curve → Fraction → Fraction → Bool
under_inverse_on at_zero c x y = x not_above whole 0
under_inverse_on straight c x y = x not_above c.slope times y
under_inverse_on curved c x y = power ((x plus c.offset) divided_by c.scale) c.up not_above power y c.down
under_inverse_on at_one c x y = x not_above whole 1

-- RULES 3.3, 3.5: its straight part ends at break, a test of its own
unfoldable pub under_inverse : Curve → Fraction → Fraction → Bool
under_inverse c x y = under_inverse_on (branch_at y c.break) c x y
