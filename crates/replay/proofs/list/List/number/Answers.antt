-- `number` meets its contract: the number is that of the next four bytes.
use Rattle.std.proofs.Common.{rules}
use Rattle.replay.proofs.Values.{number_read}
use Rattle.replay.proofs.list.List.number.Goals as goal

pub returns : goal.returns
returns g c = number_read _ _ c.array.result _ (search rules) c.array.ensures
