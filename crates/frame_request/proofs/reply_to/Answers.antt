-- `reply_to` meets its contract: planes stand where `answer_request` promised them, and a refusal's line is put over an unchanged output.
-- Assumes nothing.
use Rattle.std.proofs.Common.{rules, arith, ◌≡◌, length}
use Rattle.frame_request.proofs.Reply.{planes_replied, refused_below, refused_replied}
use Rattle.frame_request.proofs.reply_to.Goals as goal

pub put_refusal-requires : goal.put_refusal-requires
put_refusal-requires c = refused_below c.answer_request.ensures c.in-Err.is c.error_numbers.ensures

pub returns-in-Ok : goal.returns-in-Ok
returns-in-Ok c =
    let size : length c.args.output.now ≡ 49152 = search rules in
    planes_replied c.answer_request.ensures c.in-Ok.is (omega (arith, size))

pub returns-in-Err : goal.returns-in-Err
returns-in-Err c = refused_replied c.answer_request.ensures c.in-Err.is c.error_numbers.ensures c.put_refusal.ensures
