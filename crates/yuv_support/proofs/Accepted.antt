-- Refusal 4's condition, exactly: a number passes where its value lies from 0 to 1 / 2, and a Custom matrix where both its numbers do.
-- The idea: between finite values an IEEE comparison is one of whole numbers, cross-multiplied.
-- Assumes nothing.
use mathlib.Core.Path.{◌≡◌, refl}
use mathlib.Core.Bool.{Bool, true, false, not, ◌&&◌, ◌||◌}
use mathlib.Core.Logic.{◌↔◌}
use Prim.Native.Nat.{ℕ, ◌+◌, ◌*◌, ◌≤◌, ◌<◌}
use native.Mathlib.Nat.{le_of_lt, le_of_eq, le_antisymm}
use native.Mathlib.Omega.{arith}
use lib.IntN.{pos, negsuc}
use lib.Dec.{T, ltb, eqb, ltb→lt, lt→ltb, nltb→le, eqb→eq}
use lib.Ieee.{Float, nan, inf, fin, binary32, up, down, le, of_bits}
use lib.Ieee.Fits.{and_i, and_l, and_r, eq→eqb, down_pos}
use Rattle.yuv_support.specs.declared.YuvStandardMatrix.{YuvStandardMatrix}
use Rattle.yuv_support.specs.declared.YuvStandardMatrix.TheVariants.{Bt601, Bt709, Bt2020, Smpte240, Bt470_6, Fcc, Custom}
use Rattle.yuv_support.specs.Matrix.{in_half, accepted, kr_kb}

-- The value of k lies from 0 to 1 / 2. `fin s m e` is m * up e / down e in size, negative where s is true: so it is not negative unless it is 0,
-- and twice its size is at most 1. No NaN lies there, and no infinity.
abbrev pub FromZeroToHalf : Float → Type 0
FromZeroToHalf nan = ⊥
FromZeroToHalf (inf s) = ⊥
FromZeroToHalf (fin s m e) = (T s → m * up e ≡ 0) × (2 * (m * up e) ≤ down e)

-- below or level, of two numbers that are not negative
at_most : (a b : ℕ) → T (ltb a b || (eqb a b && true)) ↔ (a ≤ b)
at_most a b = go (ltb a b) (ltb→lt a b) (nltb→le a b)
  where
    go : (t : Bool) → (T t → a < b) → (T (not t) → b ≤ a) → T (t || (eqb a b && true)) ↔ (a ≤ b)
    go true h k = (λ u. le_of_lt (h tt), λ l. tt)
    go false h k = (λ u. le_of_eq (eqb→eq a b (and_l (eqb a b) true u)), λ l. and_i (eqb a b) true (eq→eqb (le_antisymm l (k tt))) tt)

-- 0 level with a number written as negative
level_zero : (a d : ℕ) → T (eqb (0 * d) (a * 1) && (false || eqb (0 * d) 0)) ↔ (a ≡ 0)
level_zero a d = (
  λ u. omega (arith, eqb→eq (0 * d) (a * 1) (and_l (eqb (0 * d) (a * 1)) (false || eqb (0 * d) 0) u)),
  λ z. and_i (eqb (0 * d) (a * 1)) (false || eqb (0 * d) 0) (eq→eqb {a = 0 * d} {b = a * 1} (omega arith)) (eq→eqb {a = 0 * d} {b = 0} (omega arith)),
)

or_l : (a b : Bool) → T a → T (a || b)
or_l true b t = tt
or_l false b t = absurd t

abbrev zero : Float
zero = fin false 0 (pos 0)

abbrev half : Float
half = fin false 1 (negsuc 0)

pub in_half_exactly : (k : Float) → T (in_half k) ↔ FromZeroToHalf k
unfolding le of_bits
in_half_exactly nan = (λ t. absurd t, λ h. absurd h)
in_half_exactly (inf true) = (λ t. absurd t, λ h. absurd h)
in_half_exactly (inf false) = (λ t. absurd t, λ h. absurd h)
in_half_exactly (fin false m e) =
    let k = fin false m e in
    let least = at_most (0 * down e) (m * up e * 1) in
    let most = at_most (m * up e * 2) (1 * down e) in (
      λ t. ((λ f. absurd f), omega (arith, most.0 (and_r (le zero k) (le k half) t))),
      λ h. and_i (le zero k) (le k half) (least.1 (omega arith)) (most.1 (omega (arith, h.1))),
    )
in_half_exactly (fin true m e) =
    let k = fin true m e in
    let none = level_zero (m * up e) (down e) in
    let b = m * up e * 2 + 1 * down e in (
      λ t. let z = none.0 (and_l (le zero k) (le k half) t) in ((λ u. z), omega (arith, down_pos e)),
      λ h. and_i (le zero k) (le k half) (none.1 (h.0 tt)) (or_l (ltb 0 b) _ (lt→ltb 0 b (omega (arith, down_pos e)))),
    )

pub custom_exactly : (kr kb : Float) → T (accepted (Custom kr kb)) ↔ (FromZeroToHalf kr × FromZeroToHalf kb)
custom_exactly kr kb = (
  λ t. ((in_half_exactly kr).0 (and_l (in_half kr) (in_half kb) t), (in_half_exactly kb).0 (and_r (in_half kr) (in_half kb) t)),
  λ h. and_i (in_half kr) (in_half kb) ((in_half_exactly kr).1 h.0) ((in_half_exactly kb).1 h.1),
)

-- both numbers of every accepted matrix pass
pub accepted_pair : (matrix : YuvStandardMatrix) → T (accepted matrix) → T (in_half (kr_kb matrix).kr) × T (in_half (kr_kb matrix).kb)
unfolding le of_bits
accepted_pair Bt601 t = (tt, tt)
accepted_pair Bt709 t = (tt, tt)
accepted_pair Bt2020 t = (tt, tt)
accepted_pair Smpte240 t = (tt, tt)
accepted_pair Bt470_6 t = (tt, tt)
accepted_pair Fcc t = (tt, tt)
accepted_pair (Custom kr kb) t = (and_l (in_half kr) (in_half kb) t, and_r (in_half kr) (in_half kb) t)

-- 0.5 passes and so does -0; the next f32 above 0.5, the next below 0, an infinity and a NaN do not
pub ends :
    (in_half (of_bits binary32 0x3f00_0000) ≡ true)
    × (in_half (of_bits binary32 0x8000_0000) ≡ true)
    × (in_half (of_bits binary32 0x3f00_0001) ≡ false)
    × (in_half (of_bits binary32 0x8000_0001) ≡ false)
    × (in_half (of_bits binary32 0x7f80_0000) ≡ false)
    × (in_half (of_bits binary32 0x7fc0_0000) ≡ false)
unfolding le of_bits
ends = (refl, refl, refl, refl, refl, refl)
