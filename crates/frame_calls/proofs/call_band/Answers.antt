-- `call_band` meets its contract: what it tells is what `band_told` has to tell.
-- Assumes nothing.
use mathlib.Core.Path.{◌∙◌}
use Rattle.call_numbers.proofs.Arrays.{three_told}
use Rattle.frame_calls.proofs.call_band.Goals as goal

pub returns : goal.returns
returns c =
    record {
      answer = c.band_told.result.answer;
      done = c.band_told.result.done;
      number = c.tell.ensures.0;
      told = c.tell.ensures.1 ∙ three_told c.args.told.now _ _ _ c.tell-arg-1.given.0.1;
      answered = c.band_told.ensures;
    }
