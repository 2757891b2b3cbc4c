-- `tell_answer` meets its contract: what it writes and returns are the numbers of the answer.
-- Assumes nothing.
use mathlib.Core.Path.{ap}
use Rattle.yuv_error.specs.Numbers.{Numbers}
use Rattle.call_numbers.proofs.tell_answer.Goals as goal

pub returns : goal.returns
returns c = (ap (λ (x : Numbers). x.number) c.answer_numbers-numbered.ensures, rw (← c.answer_numbers-numbered.ensures))
