-- `convert_convoy` meets its contract: 18 is asked first, and where it does not hold every frame's parts lie inside.
-- Assumes nothing.
use mathlib.Core.Path.{refl, sym, ◌∙◌}
use mathlib.Core.Bool.{true≢false}
use Rattle.yuv_error.specs.Lent.{lengths_of}
use Rattle.convoy_parts.proofs.Broken.{unbroken}
use Rattle.convoy.proofs.Calls.{all_inside}
use Rattle.convoy.proofs.convert_convoy.Goals as goal

pub returns-then-is_broken : goal.returns-then-is_broken
returns-then-is_broken c =
    record {
      broken = λ _. (refl, refl);
      run = λ f. absurd (true≢false (sym c.if-is_broken.true ∙ c.is_broken.ensures ∙ f));
    }

pub convert_frames-requires : goal.convert_frames-requires
convert_frames-requires c =
    let n = lengths_of c.args.source.now c.args.y.now c.args.u.now c.args.v.now in
    let u = unbroken c.args.frames.now n (sym c.is_broken.ensures ∙ c.if-is_broken.false) in
    all_inside c.args.frames.now n u

pub returns : goal.returns
returns c =
    record {
      broken = λ t. absurd (true≢false (sym t ∙ sym c.is_broken.ensures ∙ c.if-is_broken.false));
      run = λ _. c.convert_frames.ensures;
    }
