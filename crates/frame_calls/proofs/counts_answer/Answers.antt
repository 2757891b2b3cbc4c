-- `counts_answer` meets its contract: numbers without a meaning are refused before the counting, whose promise is kept.
-- Assumes nothing.
use mathlib.Core.Path.{refl, sym, ◌∙◌}
use Rattle.call_numbers.proofs.Numbers.{range_and_matrix_some, range_and_matrix_none}
use Rattle.frame_calls.proofs.Answered.{holds, fails}
use Rattle.frame_calls.proofs.counts_answer.Goals as goal

pub returns-in_default : goal.returns-in_default
returns-in_default c =
    holds _ (range_and_matrix_none c.args.numbers.now c.args.custom.now (sym c.range_and_matrix.ensures ∙ c.in_default.is)) (refl, refl)

pub returns : goal.returns
returns c =
    let p = range_and_matrix_some c.args.numbers.now c.args.custom.now (sym c.range_and_matrix.ensures ∙ c.in-Some.is) in
    fails _ p.0 (rw (← p.1, ← p.2) at c.colour_counts.ensures)
