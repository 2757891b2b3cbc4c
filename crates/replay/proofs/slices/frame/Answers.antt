-- Of a slice only its own bytes may be left.
use Rattle.replay.specs.Stored.{IsFrame}
use Rattle.replay.proofs.OfSlices.{of_slice}
use Rattle.replay.proofs.slices.frame.Goals as goal

pub returns : goal.returns
returns c = of_slice _ _ (λ old new. IsFrame old new c.frame.result) c.frame.ensures
