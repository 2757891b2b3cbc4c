-- `call_frame` meets its contract: what it tells is the answer of `frame_answer`.
-- Assumes nothing.
use mathlib.Core.Path.{◌∙◌}
use Rattle.call_numbers.proofs.Arrays.{two_told}
use Rattle.frame_calls.proofs.call_frame.Goals as goal

pub returns : goal.returns
returns c =
    record {
      answer = c.frame_answer.result;
      number = c.tell_answer.ensures.0;
      told = c.tell_answer.ensures.1 ∙ two_told c.args.told.now _ _ c.tell_answer-arg-1.given.0.1;
      answered = c.frame_answer.ensures;
    }
