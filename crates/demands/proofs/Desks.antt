-- The front desk: the laws of its crates, put together.
-- Assumes nothing.
use Rattle.desk_places.proofs.Means.{tests_are_exact}
use Rattle.desk_places.proofs.Exact.{turn_is_exact}
use Rattle.desk.proofs.Right.{steps_are_right}
use Rattle.desk_lists.proofs.Fairness.{fairness}
use Rattle.desk_lists.proofs.Isolation.{isolation}
use Rattle.desk_lists.proofs.OwnBands.{planes_of_own_bands}
use Rattle.desk_lists.proofs.FromNumbers.{numbers_are_calls, numbered_fairness, numbered_planes}
use Rattle.demands.specs.Demands.{Desks}

pub desks : Desks
desks = record {
  tests_are_exact = tests_are_exact;
  turn_is_exact = turn_is_exact;
  steps_are_right = steps_are_right;
  fairness = fairness;
  isolation = isolation;
  planes = planes_of_own_bands;
  linked = numbers_are_calls;
  linked_fairness = numbered_fairness;
  linked_planes = numbered_planes;
}
