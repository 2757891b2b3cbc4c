-- `call_desk_step` meets its contract: the desk is the one that the numbers are, and what is left is the place of the camera that was served.
-- Assumes nothing.
use Rattle.std.proofs.Common.{rules}
use Rattle.desk.specs.DeskCall.{step_result}
use Rattle.desk_calls.proofs.Below.{served_below}
use Rattle.desk_steps.proofs.call_desk_step.Goals as goal

pub put_served-requires : goal.put_served-requires
put_served-requires c = served_below _ c.step-served.ensures

pub returns : goal.returns
returns c =
    record {
      result = step_result c.step-served.new.self c.step-served.result;
      number = c.tell_served.ensures.number;
      told = c.tell_served.ensures.told;
      stepped = rw c.desk-desk.ensures at c.step-served.ensures;
      after = search (rules, c.put_served.ensures.numbers, c.put_served.ensures.lent_numbers, c.put_served.ensures.lent_customs, c.put_served.ensures.lent_parts);
    }
