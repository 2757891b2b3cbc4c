-- Worked lines of docs/RULES.md, 9.4, computed.
-- Assumes nothing.
use Prim.Native.Nat.{◌+◌, ◌*◌}
use mathlib.Core.Path.{◌≡◌, refl}
use mathlib.Core.Bool.{true, false}
use mathlib.Core.List.{[], ◌∷◌}
use Rattle.counts_request.specs.Reply.{malformed, digits, decimal, line, lines}

-- one zero, the number of all colours, and the largest u32
zero_is : decimal 0 ≡ 48 ∷ []
unfolding decimal digits
zero_is = refl

colours_are : decimal 16777216 ≡ 49 ∷ 54 ∷ 55 ∷ 55 ∷ 55 ∷ 50 ∷ 49 ∷ 54 ∷ []
unfolding decimal digits
colours_are = refl

largest_is : decimal 4294967295 ≡ 52 ∷ 50 ∷ 57 ∷ 52 ∷ 57 ∷ 54 ∷ 55 ∷ 50 ∷ 57 ∷ 53 ∷ []
unfolding decimal digits
largest_is = refl

-- `0 7` and `1 59`, as for Bt601 Full
lines_are : lines (λ y. 7 + 52 * y) 2 ≡ 48 ∷ 32 ∷ 55 ∷ 10 ∷ 49 ∷ 32 ∷ 53 ∷ 57 ∷ 10 ∷ []
unfolding lines line decimal digits
lines_are = refl

-- Full and Bt601; nothing, a byte too few, a byte too many; no range, no matrix
taken : malformed (1 ∷ 0 ∷ []) ≡ false
unfolding malformed
taken = refl

refused : (malformed [] ≡ true) × (malformed (1 ∷ []) ≡ true) × (malformed (1 ∷ 0 ∷ 0 ∷ []) ≡ true)
unfolding malformed
refused = (refl, refl, refl)

unknown : (malformed (2 ∷ 0 ∷ []) ≡ true) × (malformed (1 ∷ 6 ∷ []) ≡ true)
unfolding malformed
unknown = (refl, refl)
