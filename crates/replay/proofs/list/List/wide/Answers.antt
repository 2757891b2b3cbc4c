-- `wide` meets its contract: the number is that of the next eight bytes.
use Rattle.std.proofs.Common.{rules}
use Rattle.replay.proofs.Values.{wide_read}
use Rattle.replay.proofs.list.List.wide.Goals as goal

pub returns : goal.returns
returns g c = wide_read _ _ c.array.result _ (search rules) c.array.ensures
