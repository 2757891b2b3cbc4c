-- Of a slice only its own bytes may be left.
use Rattle.replay.specs.Stored.{IsFilled}
use Rattle.replay.proofs.OfSlices.{of_slice}
use Rattle.replay.proofs.slices.fill.Goals as goal

pub returns : goal.returns
returns c = of_slice _ _ (λ old new. IsFilled old new c.args.buffer.now c.fill.new.buffer) c.fill.ensures.filled
