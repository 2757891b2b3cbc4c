-- Computed tests: what a passed `&&` says, and what a test that a whole list passes says of each entry.
-- Assumes nothing.
use mathlib.Core.Bool.{Bool, true, ◌&&◌}
use mathlib.Core.List.{List, [], ◌∷◌}
use Prim.Native.Nat.{ℕ, zero, suc, ◌<◌}
use native.Mathlib.Nat.{le_of_suc-le-suc, not-suc-le-zero}
use lib.Dec.{T}
use lib.ListN.{length, get_or}
use mir.Facts.{and_yes}

pub three : (a b c : Bool) → T (a && b && c) → T a × T b × T c
three a b c t =
    let p = and_yes (a && b) c t in
    let q = and_yes a b p.0 in
    (q.0, q.1, p.1)

-- the test f passes at each index of the list and the entry there
abbrev pub every : (ℕ → ℕ → Bool) → List ℕ → Bool
every f [] = true
every f (x ∷ xs) = f 0 x && every (λ i. f (suc i)) xs

pub every_at : (f : ℕ → ℕ → Bool) (xs : List ℕ) → T (every f xs) → (i : ℕ) → i < length xs → T (f i (get_or xs i 0))
every_at f [] t i h = absurd (not-suc-le-zero h)
every_at f (x ∷ xs) t zero h = (and_yes (f 0 x) (every (λ i. f (suc i)) xs) t).0
every_at f (x ∷ xs) t (suc i) h = every_at (λ i. f (suc i)) xs (and_yes (f 0 x) (every (λ i. f (suc i)) xs) t).1 i (le_of_suc-le-suc h)
