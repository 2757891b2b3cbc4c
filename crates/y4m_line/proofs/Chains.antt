-- The first item of a chain of iterators, from the list that the chain gives. Assumes nothing.
use Prim.Native.Nat.{ℕ}
use mathlib.Core.Path.{◌≡◌, refl, ap, sym, subst}
use mathlib.Core.List.{List, [], ◌∷◌}
use denote.Ref.{Bor}
use Rattle.std.specs.Prelude.{Option, Some, None, MatchOption}
use Rattle.std.specs.Iterator.{AlwaysYields}
use Rattle.std.specs.Option.{unwrap_or}
use Rattle.std.proofs.lemmas.Iterator.{YieldsList}

module _ {S A B : Type 0} {steps : S → Option A → S → Type 0} {v : A → B} {s : S} (all : List B) (chain : YieldsList steps v s all) where
  -- an item comes where one is left, and the others are left after it
  pub next_some : (y : B) (ys : List B) → all ≡ y ∷ ys → (r : Option A) (t : S) → steps s r t
      → MatchOption r ⊥ (λ x. (v x ≡ y) × YieldsList steps v t ys)
  next_some y ys e None t k = (subst (AlwaysYields steps v s) e chain.runs).0 t k
  next_some y ys e (Some x) t k =
      let m = (subst (AlwaysYields steps v s) e chain.runs).1 x t k in
      (m.0, record { runs = m.1 })

  -- the same, of a chain of which it is known what came
  pub next_came : (r : Option A) (x : A) (t : S) → r ≡ Some x → steps s r t → (ys : List B) × ((all ≡ v x ∷ ys) × YieldsList steps v t ys)
  next_came r x t is k = came all chain.runs (subst (λ q. steps s q t) is k)
    where
      came : (l : List B) → AlwaysYields steps v s l → steps s (Some x) t → (ys : List B) × ((l ≡ v x ∷ ys) × YieldsList steps v t ys)
      came [] m j = absurd (m x t j)
      came (y ∷ ys) m j = let n = m.1 x t j in (ys, (ap (λ z. z ∷ ys) (sym n.0), record { runs = n.1 }))

  pub next_none : (r : Option A) (t : S) → r ≡ None → steps s r t → all ≡ []
  next_none r t is k = gone all chain.runs (subst (λ q. steps s q t) is k)
    where
      gone : (l : List B) → AlwaysYields steps v s l → steps s None t → l ≡ []
      gone [] m j = refl
      gone (y ∷ ys) m j = absurd (m.0 t j)

pub now_of_first : (P : Bor (List ℕ) → Type 0) (r : Option (Bor (List ℕ))) (other : Bor (List ℕ)) (y : List ℕ)
    → MatchOption r ⊥ (λ x. (x.now ≡ y) × P x) → (unwrap_or r other).now ≡ y
now_of_first P None other y m = absurd m
now_of_first P (Some x) other y m = m.0
