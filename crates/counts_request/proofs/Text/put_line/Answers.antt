-- What is put down, one behind the other, is the line.
-- Assumes nothing.
use Rattle.std.proofs.Common.{arith}
use Rattle.counts_request.specs.Reply.{line}
use Rattle.counts_request.proofs.Puts.{PutsInto-more}
use Rattle.counts_request.proofs.Text.put_line.Goals as goal

pub returns : goal.returns
unfolding line
returns c =
    PutsInto-more (omega arith) (PutsInto-more (omega arith) (PutsInto-more (omega arith) c.put_decimal.ensures c.put_byte.ensures) c.put_decimal-2.ensures) c.put_byte-2.ensures
