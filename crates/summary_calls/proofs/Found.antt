-- The first record of a crossing: by induction on the records; and as a walk that has passed k of them. Assumes nothing.
use Prim.Native.Nat.{ℕ, zero, suc, ◌+◌, ◌≤◌, ◌<◌}
use mathlib.Core.Path.{◌≡◌, refl}
use mathlib.Core.Bool.{Bool, true, false, cond}
use mathlib.Core.List.{List, [], ◌∷◌}
use native.Mathlib.Numerals.{add-one}
use native.Mathlib.Omega.{arith}
use borrow.Author.Tests.{eqb-true, eqb-false, eq-eqb, ne_eqb, ltb-true, ltb-false}
use lib.Dec.{eqb, ltb}
use lib.ListN.{length, drop, drop_of_length-le}
use lib.Seq.{drop-cons}
use Rattle.shift_file.specs.File.{ShiftRecord}
use Rattle.shift_reader.specs.Entry.{no_record, nth}
use Rattle.std.specs.Prelude.{Some, None}
use Rattle.std.proofs.lemmas.Option.{cond_some}
use Rattle.shift_writer.proofs.Count.{not_standing}
use Rattle.summary_calls.specs.Found.{place_of_first, found_among, IsFirst, Finds}

module _ (crossing : ℕ) where
  -- no record before the first has the number
  before_first : (rs : List ShiftRecord) (i : ℕ) → i < place_of_first crossing rs → i < length rs → (nth rs i).crossing ≡ crossing → ⊥
  unfolding place_of_first
  before_first [] i h n e = omega arith
  before_first (r ∷ rs) i h n e = at (λ j p. before_first rs j p) (eqb r.crossing crossing) refl i h n e
    where
      at : ((j : ℕ) → j < place_of_first crossing rs → j < length rs → (nth rs j).crossing ≡ crossing → ⊥) → (t : Bool) → eqb r.crossing crossing ≡ t
          → (i : ℕ) → i < cond t 0 (suc (place_of_first crossing rs)) → i < suc (length rs) → (nth (r ∷ rs) i).crossing ≡ crossing → ⊥
      at later true q i h n e = omega arith
      at later false q zero h n e = eqb-false r.crossing crossing q e
      at later false q (suc i) h n e = later i (omega arith) (omega arith) e

  first_has : (rs : List ShiftRecord) → place_of_first crossing rs < length rs → (nth rs (place_of_first crossing rs)).crossing ≡ crossing
  unfolding place_of_first
  first_has [] h = absurd (omega arith)
  first_has (r ∷ rs) h = at (first_has rs) (eqb r.crossing crossing) refl h
    where
      at : (place_of_first crossing rs < length rs → (nth rs (place_of_first crossing rs)).crossing ≡ crossing) → (t : Bool) → eqb r.crossing crossing ≡ t
          → cond t 0 (suc (place_of_first crossing rs)) < suc (length rs) → (nth (r ∷ rs) (cond t 0 (suc (place_of_first crossing rs)))).crossing ≡ crossing
      at later true q h = eqb-true r.crossing crossing q
      at later false q h = later (omega arith)

  -- ---- a walk that has passed k records

  module _ (rs : List ShiftRecord) (k : ℕ) where
    pub first_more : k < length rs → ((nth rs k).crossing ≡ crossing → ⊥) → (k + 1) + place_of_first crossing (drop (k + 1) rs) ≡ k + place_of_first crossing (drop k rs)
    unfolding place_of_first
    first_more h n = rw (drop-cons rs k no_record h, ne_eqb (nth rs k).crossing crossing n, add-one) (omega arith)

    pub first_here : k < length rs → (nth rs k).crossing ≡ crossing → k ≡ k + place_of_first crossing (drop k rs)
    unfolding place_of_first
    first_here h e = rw (drop-cons rs k no_record h, eq-eqb (nth rs k).crossing crossing e) (omega arith)

    pub first_none : length rs ≤ k → k ≡ k + place_of_first crossing (drop k rs)
    unfolding place_of_first
    first_none h = rw (drop_of_length-le rs h) (omega arith)

pub finds : Finds
finds = record { some = some; none = none }
  where
    some : (c : ℕ) (rs : List ShiftRecord) (k : ℕ) → found_among c rs ≡ Some k → IsFirst c rs k
    some c rs k e =
        let p = cond_some (ltb (place_of_first c rs) (length rs)) (place_of_first c rs) k e in
        let below = ltb-true _ _ p.0 in
        rw (← p.1) (record { below = below; has = first_has c rs below; before = λ i h. before_first c rs i h (omega arith) })

    none : (c : ℕ) (rs : List ShiftRecord) → found_among c rs ≡ None → (i : ℕ) → i < length rs → (nth rs i).crossing ≡ c → ⊥
    none c rs e i h =
        let all = ltb-false _ _ (not_standing (ltb (place_of_first c rs) (length rs)) (place_of_first c rs) e) in
        before_first c rs i (omega arith) h
