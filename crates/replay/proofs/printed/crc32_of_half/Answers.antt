-- The table's entries are four bits of the CRC each.
use Rattle.replay.proofs.Crc.{of_half}
use Rattle.replay.proofs.printed.crc32_of_half.Goals as goal

pub returns : goal.returns
returns c = of_half c.args.crc
