-- Of a slice only its own bytes may be left.
use Rattle.replay.specs.Stored.{IsNumber}
use Rattle.replay.proofs.OfSlices.{of_slice}
use Rattle.replay.proofs.slices.number.Goals as goal

pub returns : goal.returns
returns c = of_slice _ _ (λ old new. IsNumber old new c.number.result) c.number.ensures
