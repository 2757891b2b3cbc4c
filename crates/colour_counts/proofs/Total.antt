-- The counts of all lumas add to the number of colours, since the luma of each colour is a byte; and every colour has one number.
-- The idea: a colour more adds one to the count of its luma, and to no other.
-- Assumes nothing.
use Prim.Native.Nat.{ℕ, zero, suc, ◌+◌, ◌<◌}
use mathlib.Core.Path.{◌≡◌, refl, sym, ap, ◌∙◌}
use native.Mathlib.Omega.{arith}
use lib.Dec.{T}
use Rattle.yuv_support.specs.declared.YuvRange.{YuvRange}
use Rattle.yuv_support.specs.declared.YuvStandardMatrix.{YuvStandardMatrix}
use Rattle.yuv_support.specs.Matrix.{accepted}
use Rattle.forward_transform.proofs.Sums.{luma_sum}
use Rattle.built_coefficients.proofs.Shapes.{forward_Shape}
use Rattle.definitions.specs.Pixel.{luma_of}
use Rattle.definitions.proofs.Pixel.{luma_is}
use Rattle.definitions.proofs.Planes.{below?, equal?}
use Rattle.colour_counts.specs.Counts.{settings_of, luma_of_colour, count_below, sum_below, Total, EveryColour, ByRangeAndMatrix}
use Rattle.colour_counts.proofs.Counting.{count_none, count_one, count_other}
use Rattle.colour_counts.proofs.Weights.{bytes, read_back}

sum_none : (f : ℕ → ℕ) → sum_below f 0 ≡ 0
unfolding sum_below
sum_none f = refl

sum_one : (f : ℕ → ℕ) (m : ℕ) → sum_below f (suc m) ≡ sum_below f m + f m
unfolding sum_below
sum_one f m = refl

-- two sums that agree
pub sum_like : (f g : ℕ → ℕ) (m : ℕ) → ((y : ℕ) → y < m → f y ≡ g y) → sum_below f m ≡ sum_below g m
sum_like f g zero same = sum_none f ∙ sym (sum_none g)
sum_like f g (suc m) same =
    sum_one f m ∙ omega (arith, sum_like f g m (λ y l. same y (omega arith)), same m (omega arith)) ∙ sym (sum_one g m)

-- two sums of which one has 1 more at v
sum_more : (f g : ℕ → ℕ) (v m : ℕ) → v < m → f v ≡ g v + 1 → ((y : ℕ) → (y ≡ v → ⊥) → f y ≡ g y) → sum_below f m ≡ sum_below g m + 1
sum_more f g v zero l one same = absurd (omega arith)
sum_more f g v (suc m) l one same =
    equal? v m
    (λ e. sum_one f m ∙ omega (arith, rw e at one, sum_like f g m (λ y h. same y (λ i. omega arith))) ∙ ap (λ (n : ℕ). n + 1) (sym (sum_one g m)))
    (λ e. sum_one f m ∙ omega (arith, sum_more f g v m (omega (arith, other v m l e)) one same, same m (λ i. e (sym i)))
    ∙ ap (λ (n : ℕ). n + 1) (sym (sum_one g m)))
  where
    other : (v m : ℕ) → v < suc m → (v ≡ m → ⊥) → v < m
    other v m l e = below? v m (λ h. h) (λ h. absurd (e (omega arith)))

sum_zeros : (f : ℕ → ℕ) (m : ℕ) → ((y : ℕ) → f y ≡ 0) → sum_below f m ≡ 0
sum_zeros f zero none = sum_none f
sum_zeros f (suc m) none = sum_one f m ∙ omega (arith, sum_zeros f m none, none m)

pub sum_counts : (f : ℕ → ℕ) (m n : ℕ) → ((c : ℕ) → c < n → f c < m) → sum_below (count_below f n) m ≡ n
sum_counts f m zero few = sum_zeros (count_below f 0) m (count_none f)
sum_counts f m (suc n) few =
    sum_more (count_below f (suc n)) (count_below f n) (f n) m (few n (omega arith)) (count_one f n (f n) refl) (λ y e. count_other f n y (λ i. e (sym i)))
    ∙ omega (arith, sum_counts f m n (λ c l. few c (omega arith)))

-- the luma of a colour is a byte
pub luma_byte : (range : YuvRange) (matrix : YuvStandardMatrix) → T (accepted matrix) → (c : ℕ) → c < 16777216 → luma_of_colour range matrix c < 256
luma_byte range matrix a c l =
    let n = bytes c l in
    let shape = forward_Shape range matrix a in
    rw (luma_is (settings_of range matrix) shape _ _ _ n.0 n.1 n.2) (omega (arith, (luma_sum shape _ _ _ n.0 n.1 n.2).below))

pub total : Total
total range matrix a = sum_counts (luma_of_colour range matrix) 256 16777216 (luma_byte range matrix a)

pub every_colour : EveryColour
every_colour = (λ r g b hr hg hb. omega arith, λ c l. ((bytes c l).0, read_back c))

pub by_range_and_matrix : ByRangeAndMatrix
unfolding luma_of
by_range_and_matrix s r g b = refl
