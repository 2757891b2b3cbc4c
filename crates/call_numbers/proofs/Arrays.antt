-- Arrays whose every place was written.
-- Assumes nothing.
use Prim.Native.Nat.{ℕ, suc}
use mathlib.Core.Path.{◌≡◌, refl, ap, ◌∙◌}
use mathlib.Core.List.{List, [], ◌∷◌}
use native.Mathlib.Omega.{arith}
use lib.ListN.{length, set}

-- the values written from place i on, one after the other
abbrev pub written : (i : ℕ) → (values : List ℕ) → List ℕ → List ℕ
written i [] l = l
written i (y ∷ ys) l = written (suc i) ys (set l i y)

behind : (i : ℕ) (ys : List ℕ) (x : ℕ) (l : List ℕ) → written (suc i) ys (x ∷ l) ≡ x ∷ written i ys l
behind i [] x l = refl
behind i (y ∷ ys) x l = behind (suc i) ys x (set l i y)

pub all_written : (ys l : List ℕ) → length l ≡ length ys → written 0 ys l ≡ ys
all_written [] [] e = refl
all_written [] (x ∷ l) e = absurd (omega arith)
all_written (y ∷ ys) [] e = absurd (omega arith)
all_written (y ∷ ys) (x ∷ l) e = behind 0 ys y l ∙ ap (λ (z : List ℕ). y ∷ z) (all_written ys l (omega arith))

pub two_told : (l : List ℕ) (a b : ℕ) → length l ≡ 2 → set (set l 0 a) 1 b ≡ a ∷ b ∷ []
two_told l a b e = all_written (a ∷ b ∷ []) l e

pub three_told : (l : List ℕ) (a b c : ℕ) → length l ≡ 3 → set (set (set l 0 a) 1 b) 2 c ≡ a ∷ b ∷ c ∷ []
three_told l a b c e = all_written (a ∷ b ∷ c ∷ []) l e
