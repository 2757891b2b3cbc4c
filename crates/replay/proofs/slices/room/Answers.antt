-- Of a slice only its own bytes may be left.
use Rattle.std.proofs.Common.{◌≡◌, drop}
use Rattle.replay.specs.Stored.{next_room}
use Rattle.replay.proofs.OfSlices.{of_slice}
use Rattle.replay.proofs.slices.room.Goals as goal

pub returns-clause-value : goal.returns-clause-value
returns-clause-value c = (of_slice _ _ (λ old new. (c.room.result ≡ next_room c.args.most old) × (new ≡ drop 4 old)) c.room.ensures.value).0

pub returns-clause-left : goal.returns-clause-left
returns-clause-left c = (of_slice _ _ (λ old new. (c.room.result ≡ next_room c.args.most old) × (new ≡ drop 4 old)) c.room.ensures.value).1
