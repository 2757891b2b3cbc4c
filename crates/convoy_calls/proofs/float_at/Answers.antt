-- `float_at` meets its contract: past its end a list has NaN, which 0 / 0 is.
-- Assumes nothing.
use Rattle.std.proofs.Common.{rules}
use lib.Ieee.{of_bits, div}
use Rattle.convoy_calls.proofs.float_at.Goals as goal

pub returns : goal.returns
unfolding div of_bits
returns c = search rules
