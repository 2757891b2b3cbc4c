-- The inverse rises: what is not above it at an index is not above it at any later one. Within a branch this is algebra. Where one branch gives way to
-- the next it hangs on a curve's digits, so there it is a computed test of the fraction at hand.
-- Assumes nothing.
use mathlib.Core.Bool.{Bool, true, false, not, ◌&&◌, cond}
use Prim.Native.Nat.{ℕ, zero, suc, ◌*◌, ◌^◌, ◌≤◌, ◌<◌}
use native.Mathlib.Nat.{le_refl, mul-le-mul, mul-le-mul_right, le_of_mul-le-mul_right, one-le-pow, pow-zero, pow-suc}
use native.Mathlib.Omega.{arith}
use lib.Dec.{T, ltb, lit<, leb→le, le→leb, ltb→lt, nleb→lt, nltb→le}
use mir.Facts.{and_yes}
use Rattle.sharp_gamma.specs.Fraction.{Fraction, ◌over◌, whole, ◌times◌, power, ◌not_above◌, ◌below◌}
use Rattle.sharp_gamma.specs.Curve.{Curve, Branch, at_zero, straight, curved, at_one, branch_at, under_inverse_on, under_inverse}

-- the break's denominator is not 0, and if x is not above the straight branch at the break, it is not above the curved one there
abbrev pub crosses : Curve → Fraction → Bool
crosses c x = ltb 0 c.break.den && cond (x not_above c.slope times c.break) (under_inverse_on curved c x c.break) true

-- besides, x is not above 1
abbrev pub steady : Curve → Fraction → Bool
steady c x = crosses c x && x not_above whole 1

power_rises : (y z : Fraction) (k : ℕ) → y.num * z.den ≤ z.num * y.den → y.num ^ k * z.den ^ k ≤ z.num ^ k * y.den ^ k
power_rises y z zero h = simp pow-zero (le_refl 1)
power_rises y z (suc k) h = simp pow-suc (omega (arith, mul-le-mul (power_rises y z k h) h))

through : (x y z : Fraction) → 0 < y.den → T (x not_above y) → y.num * z.den ≤ z.num * y.den → T (x not_above z)
through x y z pos t h =
    le→leb (x.num * z.den) (z.num * x.den)
    (le_of_mul-le-mul_right (omega (arith, mul-le-mul_right z.den (leb→le _ (y.num * x.den) t), mul-le-mul_right x.den h)) pos)

then : (a b : Bool) → T (cond a b true) → T a → T b
then true b t u = t
then false b t u = absurd u

-- what the tests that chose a branch, at 0, at 1 and below the end, say on it
abbrev Chosen : Bool → Bool → Bool → Branch → Type 0
Chosen z o b at_zero = T z
Chosen z o b straight = T (not z) × T (not o) × T b
Chosen z o b curved = T (not z) × T (not o) × T (not b)
Chosen z o b at_one = T (not z) × T o

chosen : (z o b : Bool) → Chosen z o b (cond z at_zero (cond o at_one (cond b straight curved)))
chosen true o b = tt
chosen false true b = (tt, tt)
chosen false false true = (tt, tt, tt)
chosen false false false = (tt, tt, tt)

module _ (c : Curve) (x : Fraction) where
  abbrev At : ℕ → Branch → Type 0
  At i = Chosen (i over 65535 not_above whole 0) (whole 1 not_above i over 65535) (i over 65535 below c.break)

  at : (i : ℕ) → At i (branch_at (i over 65535) c.break)
  at i = chosen (i over 65535 not_above whole 0) (whole 1 not_above i over 65535) (i over 65535 below c.break)

  under_zero : (z : Fraction) → T (x not_above whole 0) → T (x not_above z)
  under_zero z u = through x (whole 0) z (lit< tt) u (omega arith)

  curved_up : (y z : Fraction) → 0 < y.den → y.num * z.den ≤ z.num * y.den → T (under_inverse_on curved c x y) → T (under_inverse_on curved c x z)
  curved_up y z pos h u = through _ (power y c.down) (power z c.down) (one-le-pow c.down y.den pos) u (power_rises y z c.down h)

  module _ (cross : T (crosses c x)) (i j : ℕ) (h : i ≤ j) where
    crossed : T (not (j over 65535 below c.break)) → T (x not_above c.slope times c.break) → T (under_inverse_on curved c x (j over 65535))
    crossed b u =
        let t = and_yes (ltb 0 c.break.den) (cond (x not_above c.slope times c.break) (under_inverse_on curved c x c.break) true) cross in
        curved_up c.break (j over 65535) (ltb→lt 0 c.break.den t.0) (nltb→le _ _ b)
        (then (x not_above c.slope times c.break) (under_inverse_on curved c x c.break) t.1 u)

    rises_on :
        (T (whole 1 not_above j over 65535) → T (x not_above whole 1)) → (p q : Branch) → At i p → At j q →
        T (under_inverse_on p c x (i over 65535)) → T (under_inverse_on q c x (j over 65535))
    rises_on end at_zero at_zero a b u = u
    rises_on end straight at_zero a b u = absurd (omega (arith, leb→le, nleb→lt))
    rises_on end curved at_zero a b u = absurd (omega (arith, leb→le, nleb→lt))
    rises_on end at_one at_zero a b u = absurd (omega (arith, leb→le, nleb→lt))
    rises_on end at_zero straight a b u = under_zero _ u
    rises_on end straight straight a b u = omega (arith, leb→le, le→leb, mul-le-mul_right (c.slope.num * x.den) h)
    rises_on end curved straight a b u = absurd (omega (arith, ltb→lt, nltb→le, mul-le-mul_right c.break.den h))
    rises_on end at_one straight a b u = absurd (omega (arith, leb→le, nleb→lt))
    rises_on end at_zero curved a b u = crossed b.2 (under_zero _ u)
    rises_on end straight curved a b u =
        let l = leb→le _ (c.slope.num * i * x.den) u in
        let g = ltb→lt _ (c.break.num * 65535) a.2 in
        crossed b.2 (omega (arith, le→leb, mul-le-mul_right c.break.den l, mul-le-mul_right (c.slope.num * x.den) g))
    rises_on end curved curved a b u = curved_up (i over 65535) (j over 65535) (lit< tt) (mul-le-mul_right 65535 h) u
    rises_on end at_one curved a b u = absurd (omega (arith, leb→le, nleb→lt))
    rises_on end p at_one a b u = end b.1

    pub rises_to : (T (whole 1 not_above j over 65535) → T (x not_above whole 1)) → T (under_inverse c x (i over 65535)) → T (under_inverse c x (j over 65535))
    unfolding under_inverse
    rises_to end = rises_on end (branch_at (i over 65535) c.break) (branch_at (j over 65535) c.break) (at i) (at j)

  pub inverse_rises : T (steady c x) → (i j : ℕ) → i ≤ j → T (under_inverse c x (i over 65535)) → T (under_inverse c x (j over 65535))
  inverse_rises s i j h =
      let t = and_yes (crosses c x) (x not_above whole 1) s in
      rises_to t.0 i j h (λ _. t.1)
