-- `call_open` meets its contract: what it tells is what `opening_answer` answers, and no row done.
-- Assumes nothing.
use mathlib.Core.Path.{◌∙◌}
use Rattle.call_numbers.proofs.Arrays.{three_told}
use Rattle.frame_calls.proofs.call_open.Goals as goal

pub returns : goal.returns
returns c =
    record {
      answer = c.opening_answer.result;
      done = 0;
      number = c.tell.ensures.0;
      told = c.tell.ensures.1 ∙ three_told c.args.told.now _ _ _ c.tell-arg-1.given.0.1;
      answered = c.opening_answer.ensures;
    }
