-- `reply_to_line` meets its contract: the call of the line's request was made between its name and a newline.
use Rattle.std.proofs.lemmas.Result.{on_ok_weaker}
use Rattle.replay_text.proofs.Made.{replies}
use Rattle.replay_text.proofs.reply_to_line.Goals as goal

pub returns-clause-replied : goal.returns-clause-replied
returns-clause-replied g c =
    let named = c.in_ok-write_all.ensures.bytes in
    let barred = c.in_ok-write_all-2.ensures.bytes in
    on_ok_weaker c.write_all-3.result
    (replies g.F.FnMut g.W.Write.contents _ _ c.cut.ensures c.read_request-request.ensures.value named barred c.call.ensures c.in_ok-call.was)
    c.write_all-3.ensures.bytes
