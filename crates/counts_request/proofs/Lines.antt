-- Laws of the lines: a line has at most 13 bytes, luma after luma brings one line more, and equal counts make equal lines.
-- Assumes nothing.
use Prim.Native.Nat.{ℕ, zero, suc, ◌+◌, ◌≤◌, ◌<◌}
use mathlib.Core.Path.{◌≡◌, refl}
use mathlib.Core.List.{[], ◌++◌}
use native.Mathlib.Numerals.{add-one}
use native.Mathlib.Omega.{arith}
use lib.ListN.{length, length-append}
use Rattle.counts_request.specs.Reply.{decimal, line, lines}
use Rattle.counts_request.proofs.Decimal.{decimal_3, decimal_8}

pub length_of_line : (y n : ℕ) → length (line y n) ≡ length (decimal y) + length (decimal n) + 2
unfolding line
length_of_line y n = simp length-append (omega arith)

-- 3 digits, a space, 8 digits, a newline
pub line_size : (y n : ℕ) → y < 1000 → n < 100000000 → length (line y n) ≤ 13
line_size y n p q = omega (arith, length_of_line y n, decimal_3 y p, decimal_8 n q)

pub lines_like : (f g : ℕ → ℕ) (n : ℕ) → ((y : ℕ) → y < n → f y ≡ g y) → lines f n ≡ lines g n
unfolding lines
lines_like f g zero same = refl
lines_like f g (suc n) same = rw (lines_like f g n (λ y h. same y (omega arith)), same n (omega arith))

pub lines_none : (f : ℕ → ℕ) → lines f 0 ≡ []
unfolding lines
lines_none f = refl

pub lines_more : (f : ℕ → ℕ) (n : ℕ) → lines f (n + 1) ≡ lines f n ++ line n (f n)
unfolding lines
lines_more f n = rw (add-one n)
