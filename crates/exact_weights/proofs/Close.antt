-- From units to exact fractions: the weight of a number that lies from lo to hi units, next to p / q, is next to 8,192 × n / 255 × p / q.
-- Assumes nothing.
use mathlib.Core.Path.{◌≡◌, sym, ap, subst, ◌∙◌}
use mathlib.Core.Bool.{Bool, true, false}
use Prim.Native.Nat.{ℕ, ◌+◌, ◌*◌, ◌≤◌}
use native.Mathlib.Nat.{mul-le-mul_left, mul-le-mul_right, le_of_mul-le-mul_right}
use native.Mathlib.Omega.{arith}
use lib.Dec.{lit<}
use lib.IntN.{pos, nat_abs}
use lib.Ieee.{Float}
use Rattle.forward_transform.specs.Rounding.{signed}
use Rattle.forward_transform.specs.Transform.{weight}
use Rattle.forward_transform.proofs.Signed.{size_neg}
use Rattle.forward_transform.proofs.Units.{per_one}
use Rattle.exact_weights.specs.Near.{distance, Near}
use Rattle.exact_weights.proofs.Weighing.{Weighed}

-- p / q lies from lo to hi units, but for e of them at either end
abbrev pub Close : (e lo hi p q : ℕ) → Type 0
Close e lo hi p q = (p * per_one ≤ (lo + e) * q) × (hi * q ≤ p * per_one + e * q)

-- 510 times the weight is 255 off for the half, `more` for the last roundings, and e units of the number
abbrev pub Enough : (n bound more e : ℕ) → Type 0
Enough n bound more e = 100000 * (255 * per_one + more + 16384 * (n * e)) ≤ bound * (510 * per_one)

module _ (bound more e size n lo hi p q : ℕ) (enough : Enough n bound more e) (close : Close e lo hi p q) where
  off : 100000 * (255 * per_one * q + more * q + 16384 * (n * (e * q))) ≤ bound * (510 * per_one) * q
  off = omega (arith, mul-le-mul_right q enough)

  not_above : 16384 * (n * lo) ≤ 510 * (size * per_one) + 255 * per_one + more → 100000 * (8192 * (n * p)) ≤ 100000 * (size * (255 * q)) + bound * (255 * q)
  not_above least =
      let h : 100000 * (8192 * (n * p)) * (2 * per_one) ≤ (100000 * (size * (255 * q)) + bound * (255 * q)) * (2 * per_one) =
      omega (arith, off, mul-le-mul_left n close.0, mul-le-mul_right q least) in
      le_of_mul-le-mul_right h (lit< tt)

  not_below : 510 * (size * per_one) ≤ 16384 * (n * hi) + 255 * per_one + more → 100000 * (size * (255 * q)) ≤ 100000 * (8192 * (n * p)) + bound * (255 * q)
  not_below most =
      let h : 100000 * (size * (255 * q)) * (2 * per_one) ≤ (100000 * (8192 * (n * p)) + bound * (255 * q)) * (2 * per_one) =
      omega (arith, off, mul-le-mul_left n close.1, mul-le-mul_right q most) in
      le_of_mul-le-mul_right h (lit< tt)

within : (a p b : ℕ) → 100000 * p ≤ 100000 * a + b → 100000 * a ≤ 100000 * p + b → 100000 * distance a p ≤ b
within a p b l h = omega arith

size_signed : (s : Bool) (n : ℕ) → nat_abs (signed s n) ≡ n
size_signed true n = size_neg n
size_signed false n = ap nat_abs (λ i. pos n)

-- the size of a weight, whatever its sign
pub size_of : {x : Float} {s : Bool} {n lo hi more : ℕ} (w : Weighed x s n lo hi more) (m : ℕ) → nat_abs (weight x) ≡ m → w.size ≡ m
size_of {s = s} w m is = sym (ap nat_abs w.is ∙ size_signed s w.size) ∙ is

pub near : {x : Float} {s : Bool} {n lo hi more : ℕ} (bound e p q m : ℕ) → Weighed x s n lo hi more → nat_abs (weight x) ≡ m → Enough n bound more e
    → Close e lo hi p q → Near bound m (8192 * (n * p)) (255 * q)
near {n = n} {lo = lo} {hi = hi} {more = more} bound e p q m w is enough close =
    subst (λ (k : ℕ). Near bound k (8192 * (n * p)) (255 * q)) (size_of w m is)
    (within (w.size * (255 * q)) (8192 * (n * p)) (bound * (255 * q)) (not_above bound more e w.size n lo hi p q enough close w.least)
    (not_below bound more e w.size n lo hi p q enough close w.most))
