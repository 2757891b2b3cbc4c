-- `float` meets its contract: the number that was read is the float's bits.
use Rattle.std.proofs.Common.{rules}
use Rattle.replay.proofs.Values.{float_read}
use Rattle.replay.proofs.list.List.float.Goals as goal

pub returns : goal.returns
returns g c = float_read _ _ c.number.result _ (search rules) c.number.ensures
