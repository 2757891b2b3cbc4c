-- The report of two files: docs/RULES.md, 13.2 and 13.3.
-- Assumes nothing.
use Rattle.std.specs.Prelude.{ℕ, zero, suc, ◌+◌, Bool, cond, not, List, [], ◌∷◌, eqb, length, Option, Some, None}
use Rattle.std.specs.Option.{is_none}
use Rattle.merge_sort.specs.Order.{one, count}
use Rattle.shift_reader.specs.Entry.{nth}
use Rattle.record_difference.specs.declared.Difference.{Difference}
use Rattle.record_difference.specs.Record.{record_difference}
use Rattle.shift_pairs.specs.declared.DifferingPair.{DifferingPair}
use Rattle.shift_pairs.specs.declared.PairReport.{PairReport}
use Rattle.shift_pairs.specs.Pairs.{Files, Pair, all_pairs}

-- RULES 13.2: how the records of a pair differ
abbrev pub difference_of : Files → Pair → Option Difference
difference_of f p = record_difference f.our_form (nth f.ours p.ours) f.their_form (nth f.theirs p.theirs)

-- RULES 13.2
abbrev pub is_equal : Files → Pair → Bool
is_equal f p = is_none (difference_of f p)

-- RULES 13.3: a pair, its crossing, and how it differs, where it does
abbrev pub with_difference : Files → Pair → Option Difference → Option DifferingPair
with_difference f p None = None
with_difference f p (Some d) = Some (record { crossing = (nth f.ours p.ours).crossing; ours = p.ours; theirs = p.theirs; difference = d })

-- RULES 13.3
abbrev pub told : Files → Pair → Option DifferingPair
told f p = with_difference f p (difference_of f p)

-- RULES 13.3: the first of these pairs that differs, or none
unfoldable pub first_differing : Files → List Pair → Option DifferingPair
first_differing f [] = None
first_differing f (p ∷ ps) = cond (is_equal f p) (first_differing f ps) (told f p)

-- RULES 13.2
abbrev pub equal_pairs : Files → List Pair → ℕ
equal_pairs f ps = count (is_equal f) ps

-- RULES 13.2
abbrev pub differing_pairs : Files → List Pair → ℕ
differing_pairs f ps = count (λ p. not (is_equal f p)) ps

-- RULES 13.2: how many of these pairs have record k of ours
abbrev pub with_ours : (k : ℕ) → List Pair → ℕ
with_ours k ps = count (λ p. eqb k p.ours) ps

-- RULES 13.2: and record k of theirs
abbrev pub with_theirs : (k : ℕ) → List Pair → ℕ
with_theirs k ps = count (λ p. eqb k p.theirs) ps

-- RULES 13.2: how many of records 0, 1, .., n - 1 are without a pair, where record k is in so many
unfoldable pub without : (n : ℕ) → (pairs : ℕ → ℕ) → ℕ
without zero pairs = 0
without (suc n) pairs = without n pairs + one (eqb (pairs n) 0)

-- RULES 13.2, 13.3: pairs that are equal and that differ, records that are in no pair, and the first pair that differs
unfoldable pub report_of : Files → PairReport
report_of f =
    let ps = all_pairs f in
    record {
      equal = equal_pairs f ps;
      differing = differing_pairs f ps;
      only_ours = without (length f.ours) (λ k. with_ours k ps);
      only_theirs = without (length f.theirs) (λ k. with_theirs k ps);
      first = first_differing f ps;
    }
