-- The reply to what was read is the reply to all that the reader had: what stands past the buffer changes no byte of it.
use Rattle.std.proofs.Common.{rules, ◌≡◌, Ok, length, take, arith, length-take-le}
use Rattle.standard_streams.proofs.Replied.{replied, replied_start, behind}
use Rattle.frame_request.specs.Reply.{reply}
use Rattle.frame_request.proofs.Reply.{reply_enough}
use Rattle.frame.proofs.answer.Goals as goal

pub returns-clause-cut : goal.returns-clause-cut
returns-clause-cut g c = λ _.
    let is : c.read_input.result ≡ Ok c.in_ok-size.size = search rules in
    let within = rw is at c.read_input.ensures.within in
    let bytes = take c.in_ok-size.size c.read_input.new.buffer in
    let size : length bytes ≡ c.in_ok-size.size = length-take-le _ _ within in
    replied_start reply 65546 reply_enough (g.R.Read.remaining c.args.reader.now) (g.R.Read.remaining c.read_input.new.reader) (g.W.Write.contents c.args.writer.now) (g.W.Write.contents c.write_reply.new.writer)
    bytes (rw is at c.read_input.ensures.bytes) (omega (arith, size, within, c.read_input.auto.buffer)) (λ short. (rw is at c.read_input.ensures.whole) (omega (arith, short, size, c.read_input.auto.buffer))) c.write_reply.ensures.start

pub returns-clause-answered : goal.returns-clause-answered
returns-clause-answered g c =
    let is : c.read_input.result ≡ Ok c.in_ok-size.size = search rules in
    let within = rw is at c.read_input.ensures.within in
    let bytes = take c.in_ok-size.size c.read_input.new.buffer in
    let size : length bytes ≡ c.in_ok-size.size = length-take-le _ _ within in
    behind c.write_reply.result c.map_err-2.result (λ x e. search rules)
    (replied reply 65546 reply_enough (g.R.Read.remaining c.args.reader.now) (g.R.Read.remaining c.read_input.new.reader) (g.W.Write.contents c.args.writer.now) (g.W.Write.contents c.write_reply.new.writer)
    bytes (rw is at c.read_input.ensures.bytes) (omega (arith, size, within, c.read_input.auto.buffer)) (λ short. (rw is at c.read_input.ensures.whole) (omega (arith, short, size, c.read_input.auto.buffer))))
    c.write_reply.ensures.all
