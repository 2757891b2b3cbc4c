-- `frame_answer` meets its contract: numbers without a meaning are refused before the frame call, and the frame call's promise is kept.
-- Assumes nothing.
use Rattle.std.proofs.Common.{rules, ◌≡◌}
use Rattle.std.specs.Prelude.{Err}
use mathlib.Core.Path.{refl, sym, ◌∙◌}
use Rattle.call_numbers.proofs.Numbers.{described_ok, described_err}
use Rattle.frame_calls.proofs.Answered.{holds, fails}
use Rattle.frame_calls.proofs.frame_answer.Goals as goal

pub returns-in_err-frame : goal.returns-in_err-frame
returns-in_err-frame c =
    let p = described_err 1 c.args.numbers.now c.args.custom.now (sym c.described.ensures.value ∙ c.in_err-frame.was) in
    let same : c.from_residual.result ≡ Err c.in_err-frame.field-0.0 = search rules in
    holds _ p.0 (rw (same, p.1), (refl, refl, refl))

pub returns : goal.returns
returns c =
    let p = described_ok 1 c.args.numbers.now c.args.custom.now (sym c.described.ensures.value ∙ c.in_ok-frame.was) in
    fails _ p.0 (rw p.1 c.rgbx_to_sharp_yuv.ensures)
