-- The entries of the two tables of each transfer and rounding: docs/RULES.md, 3.4 and 3.5.
-- Assumes nothing.
use Rattle.std.specs.Prelude.{◌≡◌, Bool, cond, List, ℕ, zero, suc, ◌<◌, get_or, length}
use Rattle.sharp_gamma.specs.declared.SharpYuvGammaTransfer.{SharpYuvGammaTransfer}
use Rattle.sharp_gamma.specs.declared.TableRounding.{TableRounding}
use Rattle.sharp_gamma.specs.declared.TableRounding.TheVariants.{Truncated, Nearest}
use Rattle.sharp_gamma.specs.Fraction.{Fraction, ◌over◌, whole, ◌less◌, ◌divided_by◌}
use Rattle.sharp_gamma.specs.Curve.{curve_of, under_curve, under_inverse}

-- RULES 3.4, 3.5: the largest number from 0 to m that passes the test p, and 0 where none does
unfoldable pub largest : (ℕ → Bool) → ℕ → ℕ
largest p zero = 0
largest p (suc m) = cond (p (suc m)) (suc m) (largest p m)

-- RULES 3.4, 3.5: what is taken off an entry before it is compared: with one half, the nearest entry is the largest, and of two the upper
abbrev pub taken_off : TableRounding → Fraction
taken_off Truncated = whole 0
taken_off Nearest = 1 over 2

-- RULES 3.4, 3.5: where entry n of a table with entries from 0 to `last` stands between 0 and 1, to be compared with the curve there
abbrev pub place : TableRounding → (last n : ℕ) → Fraction
place r last n = (whole n less taken_off r) divided_by whole last

-- RULES 3.4: the largest n whose place is not above the curve at v / 255
unfoldable pub linear_entry : SharpYuvGammaTransfer → TableRounding → ℕ → ℕ
linear_entry t r v = largest (λ n. under_curve (curve_of t) (place r 65535 n) (v over 255)) 65535

-- RULES 3.5: the largest k whose place is not above the inverse at i / 65,535
unfoldable pub gamma_entry : SharpYuvGammaTransfer → TableRounding → ℕ → ℕ
gamma_entry t r i = largest (λ k. under_inverse (curve_of t) (place r 255 k) (i over 65535)) 255

-- RULES 3.4, 3.5: the list has n entries, and the one at i is f i
pub record TableOf (n : ℕ) (f : ℕ → ℕ) (l : List ℕ) : Type 0 where
  pub size : length l ≡ n
  pub at : (i : ℕ) → i < n → get_or l i 0 ≡ f i
