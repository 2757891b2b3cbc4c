-- `convert_numbered` meets its contract: more frames than there is room for are refused, and so many are the first of them.
-- Assumes nothing.
use mathlib.Core.Path.{refl, sym, ◌∙◌}
use mathlib.Core.Bool.{true≢false}
use Rattle.yuv_error.specs.Lent.{lengths_of}
use Rattle.convoy_calls.proofs.Frames.{convoy_first, convoy_many}
use Rattle.convoy_calls.proofs.convert_numbered.Goals as goal

pub returns-then-count-gt-MAX_FRAMES : goal.returns-then-count-gt-MAX_FRAMES
returns-then-count-gt-MAX_FRAMES c =
    record {
      broken = λ _. (refl, refl);
      run = λ e. absurd (true≢false (sym (convoy_many c.args.given.now.numbers.now c.args.given.now.customs.now c.args.given.now.parts.now c.args.count c.if-count-gt-MAX_FRAMES.true
          (lengths_of c.args.source.now c.args.y.now c.args.u.now c.args.v.now)) ∙ e));
    }

pub returns : goal.returns
returns c =
    rw (convoy_first c.args.given.now.numbers.now c.args.given.now.customs.now c.args.given.now.parts.now c.args.count c.if-count-gt-MAX_FRAMES.false)
    at (rw c.frames-frames.ensures at c.convert_convoy.ensures)
