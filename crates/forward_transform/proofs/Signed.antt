-- Signed sums and products: how large they are, and what they are where the signs are known.
-- Assumes nothing.
use Rattle.std.proofs.Common.{◌≡◌, ℕ, zero, suc, ◌+◌, ◌-◌, ◌*◌, ◌^◌, ◌<◌, ◌≤◌, Bool, true, false, ltb, ℤ, pos, negsuc, ◌+ℤ◌, ◌*ℤ◌, neg_ℤ, nat_abs, refl, ap, le_refl, mul-zero, arith, w32, SFits, ltb-true, le-ltb}
use lib.IntN.{sub_ℕ}

-- an i32 holds whatever is below 2 ^ 31 in size
pub fits_i32 : (z : ℤ) → nat_abs z < 2 ^ 31 → SFits w32 z
fits_i32 (pos n) h = record { sfits = h }
fits_i32 (negsuc n) h = record { sfits = omega arith }

pub size_neg : (n : ℕ) → nat_abs (neg_ℤ (pos n)) ≡ n
size_neg zero = refl
size_neg (suc n) = refl

size_sub : (a b : ℕ) → nat_abs (sub_ℕ a b) ≤ a + b
size_sub a b = go (ltb a b) refl
  where
    go : (t : Bool) → ltb a b ≡ t → nat_abs (sub_ℕ a b) ≤ a + b
    go true e = simp e (omega (arith, ltb-true a b e))
    go false e = simp e (omega arith)

pub size_add : (x y : ℤ) → nat_abs (x +ℤ y) ≤ nat_abs x + nat_abs y
size_add (pos a) (pos b) = le_refl _
size_add (pos a) (negsuc b) = size_sub a (suc b)
size_add (negsuc a) (pos b) = omega (arith, size_sub b (suc a))
size_add (negsuc a) (negsuc b) = omega arith

pub mul_neg : (v n : ℕ) → pos v *ℤ neg_ℤ (pos n) ≡ neg_ℤ (pos (v * n))
mul_neg v zero = rw (mul-zero v)
mul_neg v (suc n) = refl

-- a number less one that is no larger
pub add_neg : (a b : ℕ) → b ≤ a → pos a +ℤ neg_ℤ (pos b) ≡ pos (a - b)
add_neg a zero h = ap pos (omega arith)
add_neg a (suc b) h = simp (le-ltb a (suc b) h)
