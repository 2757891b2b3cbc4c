-- A row with its first bytes written: docs/RULES.md, 2.4.
-- Assumes nothing.
use Rattle.std.specs.Prelude.{ℕ, ◌≡◌, cond, List, ltb, length, get_or}

-- RULES 2.4: `after` is `before` with its first n bytes f 0, f 1, .., and no other byte changed
pub record Painted (n : ℕ) (f : ℕ → ℕ) (before after : List ℕ) : Type 0 where
  pub size : length after ≡ length before
  pub byte : (k : ℕ) → get_or after k 0 ≡ cond (ltb k n) (f k) (get_or before k 0)
