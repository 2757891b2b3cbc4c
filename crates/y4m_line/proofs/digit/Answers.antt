-- `digit` meets its contract: `to_digit` finds a digit where it stands. Assumes nothing.
use Rattle.y4m_line.proofs.Decimal.{digit_told}
use Rattle.y4m_line.proofs.digit.Goals as goal

pub returns-clause-value : goal.returns-clause-value
returns-clause-value c = digit_told c.args.byte c.to_digit.result c.to_digit.ensures.value
