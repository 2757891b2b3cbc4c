-- A walk over two sorted lists of keys makes the pairs crossing by crossing, the first with the first: what a step passes over has no partner left.
-- Assumes nothing.
use Prim.Native.Nat.{ℕ, zero, suc, ◌/◌, ◌%◌, ◌≤◌, ◌<◌}
use mathlib.Core.Path.{◌≡◌, refl, sym, ◌∙◌, ap, ap₂}
use mathlib.Core.Bool.{Bool, true, false, cond}
use mathlib.Core.List.{List, [], ◌∷◌, ◌++◌}
use native.Mathlib.Omega.{arith}
use borrow.Author.Tests.{eqb-true, eq-eqb, ne_eqb, ltb-true, ltb-false}
use lib.Dec.{ltb, eqb}
use Rattle.merge_sort.specs.Order.{All, Sorted}
use Rattle.merge_sort.proofs.Permuted.{all_map}
use Rattle.shift_file.specs.File.{ShiftRecord}
use Rattle.shift_pairs.specs.Pairs.{Pair, places_of, zip, pairs_below}
use Rattle.shift_pairs.proofs.Named.{named, named_none}

-- the pair that two keys name
abbrev pub pair_at : (x y : ℕ) → Pair
pair_at x y = record { ours = x % 4096; theirs = y % 4096 }

-- a walk over two lists, and its pairs
pub data Walk : List ℕ → List ℕ → List Pair → Type 0 where
  no_ours : {b : List ℕ} → Walk [] b []
  no_theirs : {a : List ℕ} → Walk a [] []
  ours_only : {x y : ℕ} {a b : List ℕ} {ps : List Pair} → x / 4096 < y / 4096 → Walk a (y ∷ b) ps → Walk (x ∷ a) (y ∷ b) ps
  theirs_only : {x y : ℕ} {a b : List ℕ} {ps : List Pair} → y / 4096 < x / 4096 → Walk (x ∷ a) b ps → Walk (x ∷ a) (y ∷ b) ps
  both : {x y : ℕ} {a b : List ℕ} {ps : List Pair} → x / 4096 ≡ y / 4096 → Walk a b ps → Walk (x ∷ a) (y ∷ b) (pair_at x y ∷ ps)

-- ---- the pairs of the crossings below n, by keys

pub named_below : (n : ℕ) → (a b : List ℕ) → List Pair
named_below zero a b = []
named_below (suc n) a b = named_below n a b ++ zip (named n a) (named n b)

below_same : (n : ℕ) (a b a' b' : List ℕ) → ((c : ℕ) → zip (named c a) (named c b) ≡ zip (named c a') (named c b'))
    → named_below n a b ≡ named_below n a' b'
unfolding named_below
below_same zero a b a' b' h = refl
below_same (suc n) a b a' b' h = ap₂ ◌++◌ (below_same n a b a' b' h) (h n)

below_none : (n : ℕ) (a b : List ℕ) → ((c : ℕ) → c < n → zip (named c a) (named c b) ≡ []) → named_below n a b ≡ []
unfolding named_below
below_none zero a b h = refl
below_none (suc n) a b h = ap₂ ◌++◌ (below_none n a b (λ c l. h c (omega arith))) (h n (omega arith))

zip_none : (a : List ℕ) → zip a [] ≡ []
unfolding zip
zip_none [] = refl
zip_none (x ∷ a) = refl

zip_no_ours : (b : List ℕ) → zip [] b ≡ []
unfolding zip
zip_no_ours b = refl

-- every later key of a sorted list has this crossing or a later one
above : (c y : ℕ) (l : List ℕ) → c < y / 4096 → Sorted ◌≤◌ (y ∷ l) → All (λ k. c < k / 4096) (y ∷ l)
unfolding All Sorted
above c y l h s = (h, all_map l (λ k q. omega arith) s.0)

later_none : (c y : ℕ) (l : List ℕ) → c < y / 4096 → Sorted ◌≤◌ (y ∷ l) → (named c (y ∷ l) ≡ []) × (named c l ≡ [])
unfolding All
later_none c y l h s = let all = above c y l h s in (named_none c (y ∷ l) all, named_none c l all.1)

-- ---- the steps

module _ (c : ℕ) where
  skip_ours : (x : ℕ) (a b : List ℕ) → (x / 4096 ≡ c → named c b ≡ []) → zip (named c (x ∷ a)) (named c b) ≡ zip (named c a) (named c b)
  unfolding named
  skip_ours x a b h = at (eqb (x / 4096) c) refl
    where
      at : (t : Bool) → eqb (x / 4096) c ≡ t
          → zip (cond (eqb (x / 4096) c) (x % 4096 ∷ named c a) (named c a)) (named c b) ≡ zip (named c a) (named c b)
      at true e = let none = h (eqb-true _ _ e) in rw (none, zip_none (cond (eqb (x / 4096) c) (x % 4096 ∷ named c a) (named c a)), zip_none (named c a))
      at false e = rw e

  skip_theirs : (y : ℕ) (a b : List ℕ) → (y / 4096 ≡ c → named c a ≡ []) → zip (named c a) (named c (y ∷ b)) ≡ zip (named c a) (named c b)
  unfolding named
  skip_theirs y a b h = at (eqb (y / 4096) c) refl
    where
      at : (t : Bool) → eqb (y / 4096) c ≡ t
          → zip (named c a) (cond (eqb (y / 4096) c) (y % 4096 ∷ named c b) (named c b)) ≡ zip (named c a) (named c b)
      at true e = let none = h (eqb-true _ _ e) in rw (none, zip_no_ours (cond (eqb (y / 4096) c) (y % 4096 ∷ named c b) (named c b)), zip_no_ours (named c b))
      at false e = rw e

module _ (x y : ℕ) (a b : List ℕ) (same : x / 4096 ≡ y / 4096) (s : Sorted ◌≤◌ (x ∷ a)) (t : Sorted ◌≤◌ (y ∷ b)) where
  -- the two are the next of their crossing
  pair_here : zip (named (x / 4096) (x ∷ a)) (named (x / 4096) (y ∷ b)) ≡ pair_at x y ∷ zip (named (x / 4096) a) (named (x / 4096) b)
  unfolding named zip
  pair_here = rw (eq-eqb (x / 4096) (x / 4096) refl, eq-eqb (y / 4096) (x / 4096) (sym same))

  pair_there : (n : ℕ) → x / 4096 < n → zip (named n (x ∷ a)) (named n (y ∷ b)) ≡ zip (named n a) (named n b)
  unfolding named
  pair_there n h = rw (ne_eqb (x / 4096) n (λ e. omega arith), ne_eqb (y / 4096) n (λ e. omega arith))

  none_before : (n : ℕ) → n ≤ x / 4096 → (named_below n (x ∷ a) (y ∷ b) ≡ []) × (named_below n a b ≡ [])
  none_before n h = (
    below_none n (x ∷ a) (y ∷ b) (λ c l. rw (later_none c x a (omega arith) s).0 (zip_no_ours (named c (y ∷ b)))),
    below_none n a b (λ c l. rw (later_none c x a (omega arith) s).1 (zip_no_ours (named c b))),
  )

  pair_first : (n : ℕ) → x / 4096 < n → named_below n (x ∷ a) (y ∷ b) ≡ pair_at x y ∷ named_below n a b
  unfolding named_below
  pair_first zero h = absurd (omega arith)
  pair_first (suc n) h = at (λ l. pair_first n l) (ltb (x / 4096) n) refl
    where
      at : (x / 4096 < n → named_below n (x ∷ a) (y ∷ b) ≡ pair_at x y ∷ named_below n a b) → (u : Bool) → ltb (x / 4096) n ≡ u
          → named_below n (x ∷ a) (y ∷ b) ++ zip (named n (x ∷ a)) (named n (y ∷ b)) ≡ pair_at x y ∷ (named_below n a b ++ zip (named n a) (named n b))
      at later true e = let l = ltb-true (x / 4096) n e in ap₂ ◌++◌ (later l) (pair_there n l)
      at later false e =
          let here : x / 4096 ≡ n = omega (arith, ltb-false (x / 4096) n e) in
          let none = none_before n (omega arith) in
          rw (none.0, none.1, ← here) pair_here

pub Walk-pairs : (n : ℕ) {a b : List ℕ} {ps : List Pair} → Walk a b ps → Sorted ◌≤◌ a → Sorted ◌≤◌ b → All (λ k. k / 4096 < n) a
    → ps ≡ named_below n a b
unfolding Sorted All named
Walk-pairs n (no_ours {b}) s t h = sym (below_none n [] b (λ c l. zip_no_ours (named c b)))
Walk-pairs n (no_theirs {a}) s t h = sym (below_none n a [] (λ c l. zip_none (named c a)))
Walk-pairs n (ours_only {x} {y} {a} {b} l w) s t h =
    Walk-pairs n w s.1 t h.1
    ∙ sym (below_same n (x ∷ a) (y ∷ b) a (y ∷ b) (λ c. skip_ours c x a (y ∷ b) (λ e. (later_none c y b (omega arith) t).0)))
Walk-pairs n (theirs_only {x} {y} {a} {b} l w) s t h =
    Walk-pairs n w s t.1 h
    ∙ sym (below_same n (x ∷ a) (y ∷ b) (x ∷ a) b (λ c. skip_theirs c y (x ∷ a) b (λ e. (later_none c x a (omega arith) s).0)))
Walk-pairs n (both {x} {y} {a} {b} e w) s t h =
    ap (λ ps. pair_at x y ∷ ps) (Walk-pairs n w s.1 t.1 h.1) ∙ sym (pair_first x y a b e s t n h.0)

-- ---- these are the pairs of the records

pub named_pairs : (n : ℕ) (a b : List ℕ) (ours theirs : List ShiftRecord) → ((c : ℕ) → named c a ≡ places_of c ours)
    → ((c : ℕ) → named c b ≡ places_of c theirs) → named_below n a b ≡ pairs_below n ours theirs
unfolding named_below pairs_below
named_pairs zero a b ours theirs h k = refl
named_pairs (suc n) a b ours theirs h k = ap₂ ◌++◌ (named_pairs n a b ours theirs h k) (ap₂ zip (h n) (k n))
