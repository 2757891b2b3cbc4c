-- `call_desk_open` meets its contract: the desk is the one that the numbers are, and what is left is its place.
-- Assumes nothing.
use Rattle.std.proofs.Common.{rules, ◌≡◌, length}
use mathlib.Core.Path.{◌∙◌}
use Rattle.call_numbers.proofs.Arrays.{two_told}
use Rattle.desk.specs.DeskCall.{desk_answer}
use Rattle.desk_calls.proofs.Below.{opened_below, on_finished}
use Rattle.desk_calls.proofs.call_desk_open.Goals as goal

pub put_answer-requires : goal.put_answer-requires
put_answer-requires c = on_finished c.open_described-answer.result (opened_below _ _ _ _ _ _ _ c.open_described-answer.ensures)

pub returns : goal.returns
returns c =
    let size : length c.args.told.now ≡ 2 = search rules in
    record {
      result = desk_answer c.open_described-answer.new.desk c.open_described-answer.result;
      number = c.tell_answer.ensures.0;
      told = c.tell_answer.ensures.1 ∙ two_told c.args.told.now _ _ size;
      opened = rw (c.desk-desk.ensures, c.parts_at.ensures, c.lengths_of.ensures) at c.open_described-answer.ensures;
      after = search (rules, c.put_answer.ensures.numbers, c.put_answer.ensures.lent_numbers, c.put_answer.ensures.lent_customs, c.put_answer.ensures.lent_parts);
    }
