-- What is not above a curve, or its inverse, stays so when it is made smaller: powers rise, so this is algebra and no digit of a curve matters.
-- Assumes nothing.
use Prim.Native.Nat.{ℕ, ◌*◌, ◌^◌, ◌≤◌}
use native.Mathlib.Nat.{le_refl, le_trans, add-le-add, mul-le-mul_right, pow-le-pow_left}
use lib.Dec.{T, leb→le, le→leb}
use Rattle.sharp_gamma.specs.Fraction.{Fraction, ◌over◌, whole, ◌plus◌, ◌times◌, ◌divided_by◌, power, ◌not_above◌}
use Rattle.sharp_gamma.specs.Curve.{Curve, Branch, at_zero, straight, curved, at_one, branch_at, under_curve_on, under_curve, under_inverse_on, under_inverse}

lower : {m n : ℕ} (d : ℕ) (z : Fraction) → m ≤ n → T (n over d not_above z) → T (m over d not_above z)
lower d z h t = le→leb _ _ (le_trans (mul-le-mul_right z.den h) (leb→le _ _ t))

module _ (c : Curve) (d : ℕ) {m n : ℕ} (h : m ≤ n) where
  curve_down_on : (b : Branch) (x : Fraction) → T (under_curve_on b c (n over d) x) → T (under_curve_on b c (m over d) x)
  curve_down_on at_zero x = lower d (whole 0) h
  curve_down_on straight x = lower d (x divided_by c.slope) h
  curve_down_on curved x = lower (d ^ c.down) (power ((x plus c.offset) divided_by c.scale) c.up) (pow-le-pow_left h c.down)
  curve_down_on at_one x = lower d (whole 1) h

  pub curve_down : (x : Fraction) → T (under_curve c (n over d) x) → T (under_curve c (m over d) x)
  unfolding under_curve
  curve_down x = curve_down_on (branch_at x (c.slope times c.break)) x

  inverse_down_on : (b : Branch) (y : Fraction) → T (under_inverse_on b c (n over d) y) → T (under_inverse_on b c (m over d) y)
  inverse_down_on at_zero y = lower d (whole 0) h
  inverse_down_on straight y = lower d (c.slope times y) h
  inverse_down_on curved y =
      lower _ (power y c.down)
      (pow-le-pow_left (mul-le-mul_right c.scale.den (add-le-add (mul-le-mul_right c.offset.den h) (le_refl (c.offset.num * d)))) c.up)
  inverse_down_on at_one y = lower d (whole 1) h

  pub inverse_down : (y : Fraction) → T (under_inverse c (n over d) y) → T (under_inverse c (m over d) y)
  unfolding under_inverse
  inverse_down y = inverse_down_on (branch_at y c.break) y
