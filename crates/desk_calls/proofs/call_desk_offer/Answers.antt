-- `call_desk_offer` meets its contract: the desk is the one that the numbers are, and what is left is its place.
-- Assumes nothing.
use Rattle.std.proofs.Common.{rules}
use mathlib.Core.Path.{ap}
use Rattle.yuv_error.specs.Numbers.{Numbers}
use Rattle.desk.specs.DeskCall.{desk_answer}
use Rattle.desk_calls.proofs.Below.{offered_below, on_finished}
use Rattle.desk_calls.proofs.call_desk_offer.Goals as goal

pub put_answer-requires : goal.put_answer-requires
put_answer-requires c = on_finished c.offer-answer.result (offered_below _ c.offer-answer.ensures)

pub returns : goal.returns
returns c =
    record {
      result = desk_answer c.offer-answer.new.self c.offer-answer.result;
      number = ap (λ (x : Numbers). x.number) c.answer_numbers.ensures;
      offered = rw (c.desk-desk.ensures, c.part_at.ensures, c.as_place.ensures) at c.offer-answer.ensures;
      after = search (rules, c.put_answer.ensures.numbers, c.put_answer.ensures.lent_numbers, c.put_answer.ensures.lent_customs, c.put_answer.ensures.lent_parts);
    }
