-- The order in which refusals are asked. It stands here alone: a refusal that comes later has its own place in it, whatever its number.
-- Assumes nothing.
use Rattle.std.specs.Prelude.{ℕ, suc, cond, List, [], ◌∷◌, eqb}

-- RULES 7.1: the numbers of the refusals, the first to be asked first
abbrev pub order : List ℕ
order = 15 ∷ 17 ∷ 19 ∷ 21 ∷ 22 ∷ 23 ∷ 18 ∷ 1 ∷ 2 ∷ 3 ∷ 4 ∷ 14 ∷ 5 ∷ 6 ∷ 7 ∷ 8 ∷ 9 ∷ 10 ∷ 11 ∷ 12 ∷ 13 ∷ 20 ∷ 16 ∷ []

-- RULES 7.1: the place of n in a list; the list's length where n is not in it
abbrev pub place_in : List ℕ → ℕ → ℕ
place_in [] n = 0
place_in (m ∷ ms) n = cond (eqb m n) 0 (suc (place_in ms n))

-- RULES 7.1
abbrev pub rank : ℕ → ℕ
rank n = place_in order n
