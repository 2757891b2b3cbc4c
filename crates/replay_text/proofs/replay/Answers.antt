-- `replay` meets its contract: a line more was read, and its call made between its name and a newline.
use Rattle.std.proofs.Common.{◌++◌, ◌∷◌, [], length-append, rules, arith, of_calls, refl, ◌∙◌, OnOk, Result, Ok, Err}
use Rattle.std.proofs.lemmas.Fn.{FoldsTo-push}
use Rattle.std.specs.Vec.{vec_items}
use Rattle.replay_text.specs.Lines.{IsLine, Replies}
use Rattle.replay_text.proofs.Made.{line_read}
use Rattle.replay_text.proofs.replay.Goals as goal

pub loop-line-init : goal.loop-line-init
loop-line-init g c = (λ a. a, search rules, c.in_ok-room.ensures.len, ([], search rules, refl, refl))

pub loop-line-preserved : goal.loop-line-preserved
loop-line-preserved g c =
    let before = c.loop-line.invariant in
    let lines = before.3.0 in
    let line = c.in_ok-line.line.items in
    let replied = rw (c.deref.ensures.value, c.deref_mut.ensures.len ∙ before.2) at c.in_ok-reply_to_line.ensures.replied in (
      search of_calls,
      c.next.ensures.steps.1 ∙ before.1,
      before.2,
      (
        lines ++ line ∷ [],
        FoldsTo-push IsLine _ lines _ line _ before.3.1 (line_read vec_items _ _ _ c.in_ok-line.line _ c.in-Some.ensures.steps.2 c.in_ok-line.was before.1),
        FoldsTo-push (Replies g.F.FnMut g.W.Write.contents c.args.most) _ lines _ line _ before.3.2 replied,
        omega (arith, length-append lines (line ∷ []), before.3.3),
      ),
    )

on_ok : {E P : Type 0} (r : Result Unit E) → P → OnOk r P
on_ok (Ok done) p = p
on_ok (Err e) p = tt

pub returns : goal.returns
returns g c =
    let after = c.loop-line.invariant in
    on_ok c.flush.result (
      after.3.0,
      c.loop-line.call,
      c.loop-line.out,
      c.writeln.new.self,
      (_, after.3.1, c.in-None.ensures.steps.2),
      after.3.2,
      rw after.3.3 at c.in_ok-writeln.ensures.bytes,
      c.flush.ensures.bytes,
    )
