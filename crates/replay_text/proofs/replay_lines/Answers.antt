-- `replay_lines` meets its contract: a line more was cut off, and its call made between its name and a newline.
use Rattle.std.proofs.Common.{◌++◌, ◌∷◌, ◌<◌, [], length, length-append, arith, ◌∙◌}
use Rattle.std.proofs.lemmas.Fn.{FoldsTo-push}
use Rattle.replay_text.specs.Lines.{IsLine, Replies}
use Rattle.replay_text.proofs.Cuts.{line_cut}
use Rattle.replay_text.proofs.replay_lines.Goals as goal

pub loop-rest-preserved : goal.loop-rest-preserved
loop-rest-preserved g c =
    let before = c.loop-rest.invariant in
    let lines = before.2.0 in
    let rest = c.loop-rest.rest.now in
    let line = c.cut.result.0.now in
    let some : 0 < length rest = grind arith in
    let replied = rw before.1 at c.in_ok-reply_to_line.ensures.replied in (
      c.reply_to_line.ensures.callable,
      c.reply_to_line.auto.room ∙ before.1,
      (
        lines ++ line ∷ [],
        FoldsTo-push IsLine _ lines _ line _ before.2.1 (line_cut c.cut.ensures some),
        FoldsTo-push (Replies g.F.FnMut g.W.Write.contents (length c.args.room.now)) _ lines _ line _ before.2.2 replied,
        omega (arith, length-append lines (line ∷ []), before.2.3),
      ),
    )
