-- Sorted keys, crossing by crossing: an insertion passes only keys of other crossings, so the places of each crossing stay in file order.
-- Assumes nothing.
use Prim.Native.Nat.{ℕ, ◌+◌, ◌/◌, ◌%◌, ◌≤◌, ◌<◌}
use mathlib.Core.Path.{◌≡◌, refl, sym, ◌∙◌}
use mathlib.Core.Bool.{Bool, true, false, cond}
use mathlib.Core.List.{List, [], ◌∷◌}
use native.Mathlib.Omega.{arith}
use borrow.Author.Tests.{eqb-true, ne_eqb, leb-false}
use lib.Dec.{leb, eqb}
use lib.ListN.{length}
use Rattle.merge_sort.specs.Order.{All}
use Rattle.merge_sort.specs.Ascending.{insert, sorted, key, keys_from}
use Rattle.merge_sort.proofs.Permuted.{all_map}
use Rattle.merge_sort.proofs.Insertion.{sorted_all}
use Rattle.merge_sort.proofs.Keys.{keys_rise}
use Rattle.shift_file.specs.File.{ShiftRecord}
use Rattle.crossing_keys.specs.Keys.{crossings_of}
use Rattle.shift_pairs.specs.Pairs.{places_from}

-- the places of the keys of a crossing
unfoldable pub named : (crossing : ℕ) → List ℕ → List ℕ
named crossing [] = []
named crossing (k ∷ l) = cond (eqb (k / 4096) crossing) (k % 4096 ∷ named crossing l) (named crossing l)

pub named_none : (c : ℕ) (l : List ℕ) → All (λ k. c < k / 4096) l → named c l ≡ []
unfolding named All
named_none c [] h = refl
named_none c (k ∷ l) h = rw (ne_eqb (k / 4096) c (λ e. omega (arith, h.0))) (named_none c l h.1)

-- two keys that are not both of the crossing may stand in either order
swapped : (t u : Bool) (i j : ℕ) (l : List ℕ) → (t ≡ true → u ≡ true → ⊥)
    → cond u (j ∷ cond t (i ∷ l) l) (cond t (i ∷ l) l) ≡ cond t (i ∷ cond u (j ∷ l) l) (cond u (j ∷ l) l)
swapped true true i j l h = absurd (h refl refl)
swapped true false i j l h = refl
swapped false true i j l h = refl
swapped false false i j l h = refl

insert-named : (c x : ℕ) (l : List ℕ) → All (λ k. k / 4096 ≡ x / 4096 → x ≤ k) l
    → named c (insert x l) ≡ cond (eqb (x / 4096) c) (x % 4096 ∷ named c l) (named c l)
unfolding named insert All
insert-named c x [] h = refl
insert-named c x (y ∷ l) h = at (insert-named c x l h.1) (leb x y) refl
  where
    at : named c (insert x l) ≡ cond (eqb (x / 4096) c) (x % 4096 ∷ named c l) (named c l) → (t : Bool) → leb x y ≡ t
        → named c (cond t (x ∷ y ∷ l) (y ∷ insert x l)) ≡ cond (eqb (x / 4096) c) (x % 4096 ∷ named c (y ∷ l)) (named c (y ∷ l))
    at later true e = refl
    at later false e =
        rw later
        (swapped (eqb (x / 4096) c) (eqb (y / 4096) c) (x % 4096) (y % 4096) (named c l)
        (λ p q. omega (arith, leb-false x y e, h.0 (eqb-true _ _ q ∙ sym (eqb-true _ _ p)))))

pub sorted-named : (c i : ℕ) (rs : List ShiftRecord) → i + length (crossings_of rs) ≤ 4096
    → named c (sorted (keys_from i (crossings_of rs))) ≡ places_from i c rs
unfolding named sorted keys_from places_from
sorted-named c i [] h = refl
sorted-named c i (r ∷ rs) h =
    let later = sorted (keys_from (i + 1) (crossings_of rs)) in
    let x = key r.crossing i in
    let after : (k : ℕ) → i + 1 ≤ k % 4096 → k / 4096 ≡ x / 4096 → x ≤ k = λ k q same. omega arith in
    let behind = all_map later after (sorted_all _ _ (keys_rise (i + 1) (crossings_of rs) (omega arith)).0) in
    let crossing : x / 4096 ≡ r.crossing = omega arith in
    let place : x % 4096 ≡ i = omega arith in
    insert-named c x later behind ∙ rw (crossing, place, sorted-named c (i + 1) rs (omega arith))
