-- `line_end` meets its contract: the first newline of the first 256 bytes. Assumes nothing.
use Rattle.std.proofs.Common.{rules, tests, eqb, refl}
use Rattle.std.proofs.lemmas.Iterator.{YieldsList-from_slice}
use Rattle.std.proofs.lemmas.Iterator.Search.{position_from_yields_List}
use Rattle.y4m_line.proofs.Header.{line_end_is}
use Rattle.y4m_line.proofs.line_end.Goals as goal

pub returns-clause-value : goal.returns-clause-value
returns-clause-value c =
    line_end_is c.args.bytes.now c.min.result c.min.ensures _ refl c.position.result
    (position_from_yields_List (λ b. eqb b 10) _ _ _ c.position.ensures.ran (YieldsList-from_slice _ c.iter.ensures.rest) (λ x b q k. search (rules, tests)))
