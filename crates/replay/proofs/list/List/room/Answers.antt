-- `room` meets its contract: it is the number that was read, or the most.
use Rattle.std.proofs.Common.{rules}
use Rattle.replay.proofs.Values.{room_read}
use Rattle.replay.proofs.list.List.room.Goals as goal

pub returns-clause-value : goal.returns-clause-value
returns-clause-value g c = room_read _ _ c.args.most c.number.result _ (search rules) c.number.ensures
