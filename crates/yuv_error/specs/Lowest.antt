-- What the first rule that holds has to do with the sentence that the lowest number whose condition holds is answered, and no number without its
-- condition: docs/RULES.md, 7.1. The lowest is the one that stands first in the order.
-- Assumes nothing.
use Rattle.std.specs.Prelude.{ℕ, ◌≤◌, ◌<◌, Bool, true, false, cond, ◌&&◌, ◌||◌, List, [], ◌∷◌, ◌↔◌, ◌≡◌, leb, ltb, eqb, length}
use Rattle.yuv_error.specs.Numbers.{Numbers}
use Rattle.yuv_error.specs.Order.{order, rank}
use Rattle.yuv_error.specs.Rules.{Rule, first_numbers}

-- RULES 7.1: condition n holds where a rule of number n does
abbrev pub condition_holds : List Rule → ℕ → Bool
condition_holds [] n = false
condition_holds (r ∷ rs) n = eqb r.says.number n && r.holds || condition_holds rs n

-- RULES 7.1: the rules of number n, in order
abbrev pub of_number : ℕ → List Rule → List Rule
of_number n [] = []
of_number n (r ∷ rs) = cond (eqb r.says.number n) (r ∷ of_number n rs) (of_number n rs)

-- RULES 7.1: the rules stand in the order of the refusals, from place k on
abbrev pub in_order : ℕ → List Rule → Bool
in_order k [] = true
in_order k (r ∷ rs) = let place = rank r.says.number in leb k place && (ltb place (length order) && in_order place rs)

-- RULES 7.1: n's condition holds, and that of no number before it
abbrev pub IsLowest : List Rule → ℕ → Type 0
IsLowest rs n = (condition_holds rs n ≡ true) × ((m : ℕ) → rank m < rank n → condition_holds rs m ≡ false)

-- RULES 7.1
abbrev pub NoneHolds : List Rule → Type 0
NoneHolds rs = (n : ℕ) → condition_holds rs n ≡ false

-- RULES 7.1: x is the right answer to the rules: a refusal exactly when its number is the lowest whose condition holds, finished work exactly when
-- no condition holds; expected and received are those of the first rule of that number that holds
pub record Lowest (rs : List Rule) (x : Numbers) : Type 0 where
  pub refused : (n : ℕ) → 1 ≤ n → (x.number ≡ n) ↔ IsLowest rs n
  pub finished : (x.number ≡ 0) ↔ NoneHolds rs
  pub sizes : x ≡ first_numbers (of_number x.number rs)

-- RULES 7.1: the first rule that holds is the right answer, and no other is, wherever the rules stand in order
abbrev pub FirstIsLowest : Type 0
FirstIsLowest = (rs : List Rule) (x : Numbers) → in_order 0 rs ≡ true → (x ≡ first_numbers rs) ↔ Lowest rs x
