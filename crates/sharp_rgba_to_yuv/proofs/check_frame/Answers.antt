-- `check_frame` meets its contract: the rules of 6 to 12 are asked once those of 2, 3, 4 and 14 do not hold.
-- Assumes nothing.
use Rattle.std.proofs.Common.{rules, ◌≡◌}
use mathlib.Core.Path.{refl, sym, ◌∙◌}
use Rattle.yuv_error.specs.Numbers.{numbers_of}
use Rattle.yuv_error.specs.Lent.{opening_rules, lent_rules}
use Rattle.yuv_error.proofs.First.{after_refused, after_finished}
use Rattle.sharp_rgba_to_yuv.proofs.check_frame.Goals as goal

pub returns-in_err-check_opening-clause-numbers : goal.returns-in_err-check_opening-clause-numbers
returns-in_err-check_opening-clause-numbers c =
    let lent = lent_rules c.args.frame c.args.frame.window.source_height c.args.stride c.args.lent in
    let same : numbers_of c.from_residual.result ≡ numbers_of c.check_opening.result = search rules in
    same ∙ after_refused (opening_rules c.args.frame) lent refl c.in_err-check_opening.was c.check_opening.ensures.numbers

pub returns-clause-numbers : goal.returns-clause-numbers
returns-clause-numbers c =
    let lent = lent_rules c.args.frame c.args.frame.window.source_height c.args.stride c.args.lent in
    c.check_lent.ensures.numbers ∙ sym (after_finished (opening_rules c.args.frame) lent refl c.in_ok-check_opening.was c.check_opening.ensures.numbers)
