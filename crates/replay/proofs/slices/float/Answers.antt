-- Of a slice only its own bytes may be left.
use Rattle.replay.specs.Stored.{IsFloat}
use Rattle.replay.proofs.OfSlices.{of_slice}
use Rattle.replay.proofs.slices.float.Goals as goal

pub returns : goal.returns
returns c = of_slice _ _ (λ old new. IsFloat old new c.float.result) c.float.ensures
