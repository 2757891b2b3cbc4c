-- What the pairs and the report mean: docs/RULES.md, 13.1 to 13.3.
-- Assumes nothing.
use Rattle.std.specs.Prelude.{ℕ, ◌+◌, ◌≤◌, ◌<◌, ◌≡◌, List, ◌∷◌, ◌++◌, length, Some, None}
use Rattle.merge_sort.specs.Order.{All}
use Rattle.shift_pairs.specs.declared.DifferingPair.{DifferingPair}
use Rattle.shift_pairs.specs.Pairs.{Files, Pair, all_pairs}
use Rattle.shift_pairs.specs.Report.{difference_of, told, with_ours, with_theirs, report_of}

-- RULES 13.1: a record has one pair or none, and pairs are of the files' records
pub record OnePair (f : Files) : Type 0 where
  pub ours : (k : ℕ) → with_ours k (all_pairs f) ≤ 1
  pub theirs : (k : ℕ) → with_theirs k (all_pairs f) ≤ 1
  pub inside : All (λ p. (p.ours < length f.ours) × (p.theirs < length f.theirs)) (all_pairs f)

-- RULES 13.1
abbrev pub OneOrNone : Type 0
OneOrNone = (f : Files) → OnePair f

-- RULES 13.2: both pair counts and a file's own leftovers are that file's count
pub record AddUp (f : Files) : Type 0 where
  pub ours : (report_of f).equal + (report_of f).differing + (report_of f).only_ours ≡ length f.ours
  pub theirs : (report_of f).equal + (report_of f).differing + (report_of f).only_theirs ≡ length f.theirs

-- RULES 13.2
abbrev pub CountsAddUp : Type 0
CountsAddUp = (f : Files) → AddUp f

-- RULES 13.3: what is told of a pair that differs, where all pairs before it are equal
pub record FirstPair (f : Files) (d : DifferingPair) : Type 0 where
  pub before : List Pair
  pub pair : Pair
  pub after : List Pair
  pub in_order : before ++ pair ∷ after ≡ all_pairs f
  pub equal : All (λ p. difference_of f p ≡ None) before
  pub differs : difference_of f pair ≡ None → ⊥
  pub is_told : Some d ≡ told f pair

-- RULES 13.3: the first pair that differs, or none
pub record FirstTold (f : Files) : Type 0 where
  pub first : 1 ≤ (report_of f).differing → (d : DifferingPair) × ((report_of f).first ≡ Some d) × FirstPair f d
  pub none : (report_of f).differing ≡ 0 → All (λ p. difference_of f p ≡ None) (all_pairs f) × ((report_of f).first ≡ None)

-- RULES 13.3
abbrev pub FirstOrNone : Type 0
FirstOrNone = (f : Files) → FirstTold f
