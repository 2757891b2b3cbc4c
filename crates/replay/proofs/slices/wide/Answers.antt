-- Of a slice only its own bytes may be left.
use Rattle.replay.specs.Stored.{IsWide}
use Rattle.replay.proofs.OfSlices.{of_slice}
use Rattle.replay.proofs.slices.wide.Goals as goal

pub returns : goal.returns
returns c = of_slice _ _ (λ old new. IsWide old new c.wide.result) c.wide.ensures
