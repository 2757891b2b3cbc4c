-- `buffer` meets its contract: as many zeros as the number that was read.
use Rattle.std.proofs.Common.{◌≡◌, drop}
use Rattle.replay.proofs.Sources.{reads}
use Rattle.replay.proofs.list.List.buffer.Goals as goal

pub returns-clause-left : goal.returns-clause-left
returns-clause-left g c = reads _ _ _ (λ old new. new ≡ drop 4 old) c.room-length.ensures.value (λ xs ys h. h.1)
