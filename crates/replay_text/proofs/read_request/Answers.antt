-- `read_request` meets its contract: the bytes stand before the star, and their number behind it.
use Rattle.std.proofs.Common.{◌∙◌, length}
use Rattle.replay_text.specs.Lines.{bytes_of, repeated}
use Rattle.replay_text.proofs.Stars.{before_star, behind_star}
use Rattle.replay_text.proofs.read_request.Goals as goal

pub returns-clause-value : goal.returns-clause-value
returns-clause-value c =
    let room = c.read_bytes-given.auto.room in
    let bytes = c.read_bytes-given.ensures.bytes ∙ (λ i. bytes_of (before_star c.cut.ensures i) (length c.args.room.now)) in
    let number = c.read_number.ensures ∙ behind_star c.cut.ensures in
    c.repeat-size.ensures.bytes ∙ (λ i. repeated (bytes i) (number i) (room i))
