-- The pairs of two lists of records: docs/RULES.md, 13.1.
-- Assumes nothing.
use Rattle.std.specs.Prelude.{ℕ, zero, suc, ◌+◌, ◌^◌, cond, List, [], ◌∷◌, ◌++◌, eqb}
use Rattle.shift_file.specs.declared.ShiftForm.{ShiftForm}
use Rattle.shift_file.specs.File.{ShiftRecord}

-- RULES 13.1: the records of two files, and the files' forms
pub record Files : Type 0 where
  pub our_form : ShiftForm
  pub ours : List ShiftRecord
  pub their_form : ShiftForm
  pub theirs : List ShiftRecord

-- RULES 13.1: a record of ours and one of theirs, by their places in the lists, from 0
pub record Pair : Type 0 where
  pub ours : ℕ
  pub theirs : ℕ

-- RULES 13.1: the places of a crossing's records, in file order; the first record of the list has place i
unfoldable pub places_from : (i crossing : ℕ) → List ShiftRecord → List ℕ
places_from i crossing [] = []
places_from i crossing (r ∷ rs) = cond (eqb r.crossing crossing) (i ∷ places_from (i + 1) crossing rs) (places_from (i + 1) crossing rs)

-- RULES 13.1
abbrev pub places_of : (crossing : ℕ) → List ShiftRecord → List ℕ
places_of crossing rs = places_from 0 crossing rs

-- RULES 13.1: the first with the first, the second with the second, to the end of the shorter list
unfoldable pub zip : (ours theirs : List ℕ) → List Pair
zip [] theirs = []
zip (i ∷ ours) [] = []
zip (i ∷ ours) (j ∷ theirs) = record { ours = i; theirs = j } ∷ zip ours theirs

-- RULES 13.1: the pairs of one crossing
abbrev pub pairs_of : (crossing : ℕ) → (ours theirs : List ShiftRecord) → List Pair
pairs_of crossing ours theirs = zip (places_of crossing ours) (places_of crossing theirs)

-- RULES 13.1: the pairs of crossings 0, 1, .., n - 1, one behind the other
unfoldable pub pairs_below : (n : ℕ) → (ours theirs : List ShiftRecord) → List Pair
pairs_below zero ours theirs = []
pairs_below (suc n) ours theirs = pairs_below n ours theirs ++ pairs_of n ours theirs

-- RULES 13.1: a crossing has 32 bits
unfoldable pub all_pairs : Files → List Pair
all_pairs f = pairs_below (256 ^ 4) f.ours f.theirs
