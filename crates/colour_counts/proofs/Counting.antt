-- Laws of counting how often a number comes among f 0, .., f (n − 1).
-- Assumes nothing.
use Prim.Native.Nat.{ℕ, zero, suc, ◌+◌, ◌≤◌, ◌<◌}
use mathlib.Core.Path.{◌≡◌, refl, sym, ap, ◌∙◌}
use mathlib.Core.List.{List}
use native.Mathlib.Omega.{arith}
use native.Mathlib.Numerals.{add-one}
use borrow.Author.Tests.{eq-eqb, ne_eqb}
use lib.ListN.{length, get_or, set, length-set}
use lib.Seq.{get_or-set_same, get_or-set_other}
use Rattle.definitions.specs.Painted.{Painted}
use Rattle.definitions.proofs.Painted.{painted, Painted-at, Painted-other}
use Rattle.definitions.proofs.Planes.{equal?}
use Rattle.colour_counts.specs.Counts.{count_below}

-- one number more
module _ (f : ℕ → ℕ) (n y : ℕ) where
  pub count_one : f n ≡ y → count_below f (suc n) y ≡ count_below f n y + 1
  unfolding count_below
  count_one e = rw (eq-eqb (f n) y e)

  pub count_other : (f n ≡ y → ⊥) → count_below f (suc n) y ≡ count_below f n y
  unfolding count_below
  count_other e = rw (ne_eqb (f n) y e) (omega arith)

pub count_none : (f : ℕ → ℕ) (y : ℕ) → count_below f 0 y ≡ 0
unfolding count_below
count_none f y = refl

pub count_le : (f : ℕ → ℕ) (n y : ℕ) → count_below f n y ≤ n
count_le f zero y = omega (arith, count_none f y)
count_le f (suc n) y = equal? (f n) y
    (λ e. omega (arith, count_one f n y e, count_le f n y))
    (λ e. omega (arith, count_other f n y e, count_le f n y))

-- the same numbers
pub count_like : (f g : ℕ → ℕ) (n y : ℕ) → ((c : ℕ) → c < n → f c ≡ g c) → count_below f n y ≡ count_below g n y
count_like f g zero y same = count_none f y ∙ sym (count_none g y)
count_like f g (suc n) y same =
    let before = count_like f g n y (λ c l. same c (omega arith)) in
    let last = same n (omega arith) in
    equal? (f n) y
    (λ e. count_one f n y e ∙ ap (λ (k : ℕ). k + 1) before ∙ sym (count_one g n y (sym last ∙ e)))
    (λ e. count_other f n y e ∙ before ∙ sym (count_other g n y (λ h. e (last ∙ h))))

-- a list that holds the counts of the first n, with one more at f n, holds those of the first n + 1
pub counted : {m n : ℕ} (f : ℕ → ℕ) {before l : List ℕ} → f n < m → m ≤ length l → Painted m (count_below f n) before l
    → Painted m (count_below f (n + 1)) before (set l (f n) (get_or l (f n) 0 + 1))
counted {m} {n} f {before} {l} inside long p =
    painted (length-set l (f n) _ ∙ p.size) new (λ k h. get_or-set_other l (f n) k _ 0 (omega arith) ∙ Painted-other p k h)
  where
    new : (y : ℕ) → y < m → get_or (set l (f n) (get_or l (f n) 0 + 1)) y 0 ≡ count_below f (n + 1) y
    new y h = rw (add-one n) (equal? (f n) y
        (λ e. rw e (get_or-set_same l y (get_or l y 0 + 1) 0 (omega arith) ∙ ap (λ (k : ℕ). k + 1) (Painted-at p y h) ∙ sym (count_one f n y e)))
        (λ e. get_or-set_other l (f n) y _ 0 (λ h. e (sym h)) ∙ Painted-at p y h ∙ sym (count_other f n y e)))
