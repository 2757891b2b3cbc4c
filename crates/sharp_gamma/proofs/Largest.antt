-- What `largest` means: it is at most the bound, it passes, and no number up to the bound that passes is larger. Where every number below a passing one
-- passes and the bound's successor does not, the bound is no limit: the numbers that pass are those up to the largest.
-- Assumes nothing.
use mathlib.Core.Path.{◌≡◌, subst}
use mathlib.Core.Bool.{Bool, true, false, cond}
use mathlib.Core.Logic.{◌↔◌}
use Prim.Native.Nat.{ℕ, zero, suc, ◌≤◌, zero-le}
use native.Mathlib.Omega.{arith}
use native.Mathlib.Decide.{dec_le}
use lib.Dec.{T}
use Rattle.sharp_gamma.specs.Entry.{largest}

module _ (p : ℕ → Bool) where
  pub largest-le : (m : ℕ) → largest p m ≤ m
  unfolding largest
  largest-le zero = zero-le
  largest-le (suc m) = go (p (suc m)) (largest-le m)
    where
      go : (b : Bool) → largest p m ≤ m → cond b (suc m) (largest p m) ≤ suc m
      go true h = omega arith
      go false h = omega arith

  pub largest_passes : T (p 0) → (m : ℕ) → T (p (largest p m))
  unfolding largest
  largest_passes t zero = t
  largest_passes t (suc m) = go (p (suc m)) (λ u. u) (largest_passes t m)
    where
      go : (b : Bool) → (T b → T (p (suc m))) → T (p (largest p m)) → T (p (cond b (suc m) (largest p m)))
      go true f h = f tt
      go false f h = h

  pub largest_most : (m n : ℕ) → n ≤ m → T (p n) → n ≤ largest p m
  unfolding largest
  largest_most zero n h t = h
  largest_most (suc m) n h t = go (p (suc m)) (λ e. subst (λ (x : ℕ). T (p x)) e t) (λ l. largest_most m n l t)
    where
      go : (b : Bool) → (n ≡ suc m → T b) → (n ≤ m → n ≤ largest p m) → n ≤ cond b (suc m) (largest p m)
      go true f r = h
      go false f r = r (let g : n ≡ suc m → ⊥ = f in omega (arith, g))

  pub largest_means : ((a b : ℕ) → a ≤ b → T (p b) → T (p a)) → T (p 0) → (m : ℕ) → (T (p (suc m)) → ⊥) → (n : ℕ) → T (p n) ↔ n ≤ largest p m
  largest_means down z m end n = (λ t. go t (dec_le n m), λ h. down n (largest p m) h (largest_passes z m))
    where
      go : T (p n) → Dec (n ≤ m) → n ≤ largest p m
      go t (yes h) = largest_most m n h t
      go t (no h) = absurd (end (down (suc m) n (omega arith) t))
