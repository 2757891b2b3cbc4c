-- Of a slice only its own bytes may be left.
use Rattle.replay.specs.Stored.{AreFilled}
use Rattle.replay.proofs.OfSlices.{of_slice}
use Rattle.replay.proofs.slices.fill_planes.Goals as goal

pub returns : goal.returns
returns c =
    let before = c.args.planes.now in
    let after = c.fill_planes.new.planes in
    of_slice _ _ (λ old new. AreFilled old new (before.y.items, before.u.items, before.v.items) (after.y.items, after.u.items, after.v.items)) c.fill_planes.ensures.filled
