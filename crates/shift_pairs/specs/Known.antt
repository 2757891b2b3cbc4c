-- The tally of the pairs so far. This serves contracts: no meaning stands here.
-- Assumes nothing.
use Rattle.std.specs.Prelude.{◌≡◌, List, [], ◌∷◌, ◌++◌}
use Rattle.shift_pairs.specs.declared.Tally.{Tally}
use Rattle.shift_pairs.specs.Pairs.{Files, Pair}
use Rattle.shift_pairs.specs.Report.{equal_pairs, differing_pairs, first_differing}

unfoldable pub tally_of : Files → List Pair → Tally
tally_of f ps = record { equal = equal_pairs f ps; differing = differing_pairs f ps; first = first_differing f ps }

-- a tally, and that of one pair more
pub record OneMore (f : Files) (p : Pair) (before after : Tally) : Type 0 where
  pub tallied : (done : List Pair) → before ≡ tally_of f done → after ≡ tally_of f (done ++ p ∷ [])
