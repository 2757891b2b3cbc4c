-- Both counts of pairs make all pairs. A record's place stands once among those of its own crossing and never among another's, so it has one pair or
-- none; then the pairs and the records without one make the file. Assumes nothing.
use Prim.Native.Nat.{ℕ, zero, suc, ◌+◌, ◌^◌, ◌≤◌, ◌<◌}
use mathlib.Core.Path.{◌≡◌, refl, ap}
use mathlib.Core.Bool.{Bool, true, false, cond, not}
use mathlib.Core.List.{List, [], ◌∷◌, ◌++◌}
use native.Mathlib.Nat.{le_trans}
use native.Mathlib.Omega.{arith}
use borrow.Author.Tests.{eqb-true, eqb-false, eq-eqb, ne_eqb, ltb-true, ltb-false, lt-ltb}
use lib.Dec.{ltb, eqb}
use lib.ListN.{length}
use Rattle.merge_sort.specs.Order.{one, count, All}
use Rattle.merge_sort.proofs.Permuted.{count-append, all_map}
use Rattle.shift_file.specs.File.{ShiftRecord}
use Rattle.shift_pairs.specs.Pairs.{Files, Pair, places_from, places_of, zip, pairs_of, pairs_below, all_pairs}
use Rattle.shift_pairs.specs.Report.{is_equal, equal_pairs, differing_pairs, with_ours, with_theirs, without, report_of}
use Rattle.shift_pairs.specs.Means.{OneOrNone, CountsAddUp}

pub pairs_counted : (f : Files) (ps : List Pair) → equal_pairs f ps + differing_pairs f ps ≡ length ps
unfolding count
pairs_counted f [] = refl
pairs_counted f (p ∷ ps) = at (pairs_counted f ps) (is_equal f p)
  where
    at : equal_pairs f ps + differing_pairs f ps ≡ length ps → (t : Bool) → (one t + equal_pairs f ps) + (one (not t) + differing_pairs f ps) ≡ suc (length ps)
    at later true = omega arith
    at later false = omega arith

-- ---- one pair or none

-- a zip has each number no oftener than its list
zip_ours : (k : ℕ) (a b : List ℕ) → with_ours k (zip a b) ≤ count (eqb k) a
unfolding zip count
zip_ours k [] b = omega arith
zip_ours k (x ∷ a) [] = omega arith
zip_ours k (x ∷ a) (y ∷ b) = omega (arith, zip_ours k a b)

zip_theirs : (k : ℕ) (a b : List ℕ) → with_theirs k (zip a b) ≤ count (eqb k) b
unfolding zip count
zip_theirs k [] b = omega arith
zip_theirs k (x ∷ a) [] = omega arith
zip_theirs k (x ∷ a) (y ∷ b) = omega (arith, zip_theirs k a b)

-- how often k is the place of a record of a crossing below n; the first record has place i
placed : (n i k : ℕ) → List ShiftRecord → ℕ
placed n i k [] = 0
placed n i k (r ∷ rs) = cond (ltb r.crossing n) (one (eqb k i)) 0 + placed n (i + 1) k rs

placed_early : (n i k : ℕ) (rs : List ShiftRecord) → k < i → placed n i k rs ≡ 0
unfolding placed
placed_early n i k [] h = refl
placed_early n i k (r ∷ rs) h = rw (ne_eqb k i (λ e. omega arith)) (at (placed_early n (i + 1) k rs (omega arith)) (ltb r.crossing n))
  where
    at : placed n (i + 1) k rs ≡ 0 → (t : Bool) → cond t 0 0 + placed n (i + 1) k rs ≡ 0
    at later true = omega arith
    at later false = omega arith

placed_once : (n i k : ℕ) (rs : List ShiftRecord) → placed n i k rs ≤ 1
unfolding placed
placed_once n i k [] = omega arith
placed_once n i k (r ∷ rs) = at (placed_once n (i + 1) k rs) (ltb r.crossing n) (eqb k i) refl
  where
    at : placed n (i + 1) k rs ≤ 1 → (t u : Bool) → eqb k i ≡ u → cond t (one u) 0 + placed n (i + 1) k rs ≤ 1
    at later true true e = let is = eqb-true k i e in omega (arith, placed_early n (i + 1) k rs (omega arith))
    at later true false e = omega arith
    at later false u e = omega arith

-- one crossing more
placed_more : (n i k : ℕ) (rs : List ShiftRecord) → placed n i k rs + count (eqb k) (places_from i n rs) ≤ placed (suc n) i k rs
unfolding placed count places_from
placed_more n i k [] = omega arith
placed_more n i k (r ∷ rs) =
    at (placed_more n (i + 1) k rs) (ltb r.crossing n) (eqb r.crossing n) (ltb r.crossing (suc n)) refl refl refl
  where
    at : placed n (i + 1) k rs + count (eqb k) (places_from (i + 1) n rs) ≤ placed (suc n) (i + 1) k rs → (t u v : Bool) → ltb r.crossing n ≡ t
        → eqb r.crossing n ≡ u → ltb r.crossing (suc n) ≡ v
        → (cond t (one (eqb k i)) 0 + placed n (i + 1) k rs) + count (eqb k) (cond u (i ∷ places_from (i + 1) n rs) (places_from (i + 1) n rs))
        ≤ cond v (one (eqb k i)) 0 + placed (suc n) (i + 1) k rs
    at later true true v et eu ev = absurd (omega (arith, ltb-true r.crossing n et, eqb-true r.crossing n eu))
    at later true false true et eu ev = omega arith
    at later true false false et eu ev = absurd (omega (arith, ltb-true r.crossing n et, ltb-false r.crossing (suc n) ev))
    at later false true true et eu ev = omega arith
    at later false true false et eu ev = absurd (omega (arith, eqb-true r.crossing n eu, ltb-false r.crossing (suc n) ev))
    at later false false v et eu ev = omega arith

below_once : (n k : ℕ) (ours theirs : List ShiftRecord)
    → (with_ours k (pairs_below n ours theirs) ≤ placed n 0 k ours) × (with_theirs k (pairs_below n ours theirs) ≤ placed n 0 k theirs)
unfolding pairs_below count
below_once zero k ours theirs = (omega arith, omega arith)
below_once (suc n) k ours theirs =
    let before = below_once n k ours theirs in
    let a = places_of n ours in
    let b = places_of n theirs in (
      omega (arith, count-append (λ (p : Pair). eqb k p.ours) (pairs_below n ours theirs) (zip a b), zip_ours k a b, placed_more n 0 k ours),
      omega (arith, count-append (λ (p : Pair). eqb k p.theirs) (pairs_below n ours theirs) (zip a b), zip_theirs k a b, placed_more n 0 k theirs),
    )

-- ---- pairs are of the files' records

places_inside : (i crossing m : ℕ) (rs : List ShiftRecord) → i + length rs ≤ m → All (λ k. k < m) (places_from i crossing rs)
unfolding places_from All
places_inside i crossing m [] h = tt
places_inside i crossing m (r ∷ rs) h = at (places_inside (i + 1) crossing m rs (omega arith)) (eqb r.crossing crossing)
  where
    at : All (λ k. k < m) (places_from (i + 1) crossing rs) → (t : Bool)
        → All (λ k. k < m) (cond t (i ∷ places_from (i + 1) crossing rs) (places_from (i + 1) crossing rs))
    at later true = (omega arith, later)
    at later false = later

zip-All : (P Q : ℕ → Type 0) (a b : List ℕ) → All P a → All Q b → All (λ p. P p.ours × Q p.theirs) (zip a b)
unfolding zip All
zip-All P Q [] b h g = tt
zip-All P Q (x ∷ a) [] h g = tt
zip-All P Q (x ∷ a) (y ∷ b) h g = ((h.0, g.0), zip-All P Q a b h.1 g.1)

all_append : (P : Pair → Type 0) (a b : List Pair) → All P a → All P b → All P (a ++ b)
unfolding All
all_append P [] b h g = g
all_append P (x ∷ a) b h g = (h.0, all_append P a b h.1 g)

below_inside : (n : ℕ) (ours theirs : List ShiftRecord)
    → All (λ p. (p.ours < length ours) × (p.theirs < length theirs)) (pairs_below n ours theirs)
unfolding pairs_below All
below_inside zero ours theirs = tt
below_inside (suc n) ours theirs =
    all_append _ (pairs_below n ours theirs) (pairs_of n ours theirs) (below_inside n ours theirs)
    (zip-All (λ k. k < length ours) (λ k. k < length theirs) (places_of n ours) (places_of n theirs)
    (places_inside 0 n (length ours) ours (omega arith)) (places_inside 0 n (length theirs) theirs (omega arith)))

pub one_or_none : OneOrNone
unfolding all_pairs
one_or_none f = record {
  ours = λ k. le_trans (below_once (256 ^ 4) k f.ours f.theirs).0 (placed_once (256 ^ 4) 0 k f.ours);
  theirs = λ k. le_trans (below_once (256 ^ 4) k f.ours f.theirs).1 (placed_once (256 ^ 4) 0 k f.theirs);
  inside = below_inside (256 ^ 4) f.ours f.theirs;
}

-- ---- the records without a pair

-- a record is in one pair, or without
one_of_two : (m : ℕ) → m ≤ 1 → m + one (eqb m 0) ≡ 1
one_of_two zero h = omega (arith, ap one (eq-eqb 0 0 refl))
one_of_two (suc m) h = omega (arith, ap one (ne_eqb (suc m) 0 (λ e. omega arith)))

module _ (place : Pair → ℕ) where
  -- one place more
  below_more : (n : ℕ) (ps : List Pair) → count (λ p. ltb (place p) (suc n)) ps ≡ count (λ p. ltb (place p) n) ps + count (λ p. eqb n (place p)) ps
  unfolding count
  below_more n [] = refl
  below_more n (p ∷ ps) = at (below_more n ps) (ltb (place p) (suc n)) (ltb (place p) n) (eqb n (place p)) refl refl refl
    where
      at : count (λ q. ltb (place q) (suc n)) ps ≡ count (λ q. ltb (place q) n) ps + count (λ q. eqb n (place q)) ps → (t u v : Bool)
          → ltb (place p) (suc n) ≡ t → ltb (place p) n ≡ u → eqb n (place p) ≡ v
          → one t + count (λ q. ltb (place q) (suc n)) ps
          ≡ (one u + count (λ q. ltb (place q) n) ps) + (one v + count (λ q. eqb n (place q)) ps)
      at later true true true et eu ev = absurd (omega (arith, ltb-true (place p) n eu, eqb-true n (place p) ev))
      at later true true false et eu ev = omega arith
      at later true false true et eu ev = omega arith
      at later true false false et eu ev =
          absurd (eqb-false n (place p) ev (omega (arith, ltb-true (place p) (suc n) et, ltb-false (place p) n eu)))
      at later false true v et eu ev = absurd (omega (arith, ltb-false (place p) (suc n) et, ltb-true (place p) n eu))
      at later false false true et eu ev = absurd (omega (arith, ltb-false (place p) (suc n) et, eqb-true n (place p) ev))
      at later false false false et eu ev = omega arith

  none_below : (ps : List Pair) → count (λ p. ltb (place p) 0) ps ≡ 0
  unfolding count
  none_below [] = refl
  none_below (p ∷ ps) = at (none_below ps) (ltb (place p) 0) refl
    where
      at : count (λ q. ltb (place q) 0) ps ≡ 0 → (t : Bool) → ltb (place p) 0 ≡ t → one t + count (λ q. ltb (place q) 0) ps ≡ 0
      at later true e = absurd (omega (arith, ltb-true (place p) 0 e))
      at later false e = omega arith

  All-below : (n : ℕ) (ps : List Pair) → All (λ p. place p < n) ps → count (λ p. ltb (place p) n) ps ≡ length ps
  unfolding count All
  All-below n [] h = refl
  All-below n (p ∷ ps) h = rw (lt-ltb (place p) n h.0) (omega (arith, All-below n ps h.1))

  module _ (ps : List Pair) (once : (k : ℕ) → count (λ p. eqb k (place p)) ps ≤ 1) where
    -- each place has its pair, or is without one
    with_or_without : (n : ℕ) → count (λ p. ltb (place p) n) ps + without n (λ k. count (λ p. eqb k (place p)) ps) ≡ n
    unfolding without
    with_or_without zero = omega (arith, none_below ps)
    with_or_without (suc n) =
        omega (arith, with_or_without n, below_more n ps, one_of_two (count (λ p. eqb n (place p)) ps) (once n))

    its_pairs : (n : ℕ) → All (λ p. place p < n) ps → length ps + without n (λ k. count (λ p. eqb k (place p)) ps) ≡ n
    its_pairs n h = omega (arith, All-below n ps h, with_or_without n)

-- pairs and leftovers make each file
pub file_whole : (f : Files)
    → (length (all_pairs f) + without (length f.ours) (λ k. with_ours k (all_pairs f)) ≡ length f.ours)
    × (length (all_pairs f) + without (length f.theirs) (λ k. with_theirs k (all_pairs f)) ≡ length f.theirs)
file_whole f =
    let one = one_or_none f in (
      its_pairs (λ p. p.ours) (all_pairs f) one.ours (length f.ours) (all_map (all_pairs f) (λ p h. h.0) one.inside),
      its_pairs (λ p. p.theirs) (all_pairs f) one.theirs (length f.theirs) (all_map (all_pairs f) (λ p h. h.1) one.inside),
    )

pub counts_add_up : CountsAddUp
unfolding report_of
counts_add_up f =
    let whole = file_whole f in
    let all = pairs_counted f (all_pairs f) in
    record { ours = omega arith; theirs = omega arith }
