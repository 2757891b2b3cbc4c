-- `is_line` meets its contract: the first word, then all of them. Assumes nothing.
use Rattle.y4m_line.proofs.Header.{line_is, line_not}
use Rattle.y4m_line.proofs.is_line.Goals as goal

pub returns-then-eq : goal.returns-then-eq
returns-then-eq c = line_is c.args.word.now c.args.line.now _ _ c.first_word.ensures c.eq.ensures _ c.if-eq.true c.all_filled.ensures

pub returns-else-eq : goal.returns-else-eq
returns-else-eq c = line_not c.args.word.now c.args.line.now _ _ c.first_word.ensures c.eq.ensures c.if-eq.false
