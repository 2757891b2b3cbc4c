-- Of a slice only its own bytes may be left.
use Rattle.std.proofs.Common.{◌≡◌, drop, replicate}
use Rattle.replay.specs.Stored.{next_room}
use Rattle.replay.proofs.OfSlices.{of_slice, if_ok}
use Rattle.replay.proofs.slices.buffer.Goals as goal

pub returns-clause-zeros : goal.returns-clause-zeros
returns-clause-zeros c =
    if_ok c.buffer.result (λ buffer p. of_slice _ _ (λ old new. buffer.items ≡ replicate (next_room c.args.most old) 0) p) c.buffer.ensures.zeros

pub returns-clause-left : goal.returns-clause-left
returns-clause-left c = of_slice _ _ (λ old new. new ≡ drop 4 old) c.buffer.ensures.left
