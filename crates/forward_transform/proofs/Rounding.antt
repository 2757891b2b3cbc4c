-- The definition of rounding is what it says: no whole number is nearer, and a half goes away from zero.
-- Assumes nothing.
use Rattle.std.proofs.Common.{◌≡◌, ℕ, ◌+◌, ◌-◌, ◌*◌, ◌/◌, ◌%◌, ◌<◌, ◌≤◌, Bool, true, false, cond, not, T, ltb, sym, ap, inl, inr, le_of_eq, lt_of_lt_of_le, le_of_lt, lt_irrefl, mul-le-mul_right, mod-lt, eq-or-lt_of_le, div-add-mod', arith, ltb→lt, nltb→le, le-ltb, lt-ltb}
use Rattle.forward_transform.specs.Rounding.{nearest_whole}

-- ---- nearest, and at a half the larger
-- n - 1/2 ≤ a / c < n + 1/2
abbrev Nearest : ℕ → ℕ → ℕ → Type 0
Nearest n a c = (2 * (n * c) ≤ 2 * a + c) × (2 * a < 2 * (n * c) + c)

pub Nearest-near : (a c : ℕ) → 0 < c → Nearest (nearest_whole a c) a c
Nearest-near a c C = go (ltb (2 * (a % c)) c) (ltb→lt (2 * (a % c)) c) (nltb→le (2 * (a % c)) c)
  where
    go : (b : Bool) → (T b → 2 * (a % c) < c) → (T (not b) → c ≤ 2 * (a % c)) → Nearest (cond b (a / c) (a / c + 1)) a c
    go true h k = let r = h tt in (omega (arith, div-add-mod' a c), omega (arith, div-add-mod' a c))
    go false h k = let r = k tt in (omega (arith, div-add-mod' a c), omega (arith, div-add-mod' a c, mod-lt a C))

-- the whole part, or one more
pub nearest_down : (a c : ℕ) → 2 * (a % c) < c → nearest_whole a c ≡ a / c
nearest_down a c h = ap (λ (b : Bool). cond b (a / c) (a / c + 1)) (lt-ltb (2 * (a % c)) c h)

pub nearest_up : (a c : ℕ) → c ≤ 2 * (a % c) → nearest_whole a c ≡ a / c + 1
nearest_up a c h = ap (λ (b : Bool). cond b (a / c) (a / c + 1)) (le-ltb (2 * (a % c)) c h)

abbrev pub distance : ℕ → ℕ → ℕ
distance a b = a - b + (b - a)

-- x is at most a half of c from a; a y on either side of it, c away or more, is no nearer, and on the upper side further
module _ (x y a c : ℕ) (below : 2 * x ≤ 2 * a + c) (above : 2 * a < 2 * x + c) where
  upper_further : x + c ≤ y → distance x a < distance y a
  upper_further h = omega arith

  lower_no_nearer : y + c ≤ x → distance x a ≤ distance y a
  lower_no_nearer h = omega arith

-- no whole number is nearer to a / c, and one that is as near is smaller: a half goes away from zero
pub nearest_of_all : (a c k : ℕ) → 0 < c
    → (distance (nearest_whole a c * c) a ≤ distance (k * c) a)
    × (distance (k * c) a ≡ distance (nearest_whole a c * c) a → k ≤ nearest_whole a c)
nearest_of_all a c k C =
    let n = nearest_whole a c in
    go n (Nearest-near a c C) (ltb n k) (ltb→lt n k) (nltb→le n k)
  where
    go : (n : ℕ) → Nearest n a c → (b : Bool) → (T b → n < k) → (T (not b) → k ≤ n)
        → (distance (n * c) a ≤ distance (k * c) a) × (distance (k * c) a ≡ distance (n * c) a → k ≤ n)
    go n h true l m =
        let d = upper_further (n * c) (k * c) a c h.0 h.1 (omega (arith, mul-le-mul_right c (l tt))) in
        (le_of_lt d, λ e. absurd (lt_irrefl _ (lt_of_lt_of_le d (le_of_eq e))))
    go n h false l m = (
      elim (eq-or-lt_of_le (m tt)) [
        | inl e ↦ le_of_eq (ap (λ (z : ℕ). distance (z * c) a) (sym e))
        | inr i ↦ lower_no_nearer (n * c) (k * c) a c h.0 h.1 (omega (arith, mul-le-mul_right c i))
      ],
      λ e. m tt,
    )
