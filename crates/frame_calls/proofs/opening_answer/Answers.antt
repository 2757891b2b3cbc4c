-- `opening_answer` meets its contract: numbers without a meaning are refused before the opening, and the opening's promise is kept.
-- Assumes nothing.
use Rattle.std.proofs.Common.{rules, ◌≡◌}
use Rattle.std.specs.Prelude.{Err}
use mathlib.Core.Path.{refl, sym, ◌∙◌}
use Rattle.call_numbers.proofs.Numbers.{described_ok, described_err}
use Rattle.frame_calls.proofs.Answered.{holds, fails, opened}
use Rattle.frame_calls.proofs.opening_answer.Goals as goal

pub returns-in_err-frame : goal.returns-in_err-frame
returns-in_err-frame c =
    let p = described_err 0 c.args.numbers.now c.args.custom.now (sym c.described.ensures.value ∙ c.in_err-frame.was) in
    let same : c.from_residual.result ≡ Err c.in_err-frame.field-0.0 = search rules in
    holds _ p.0 (rw (same, p.1), refl)

pub returns : goal.returns
returns c =
    let p = described_ok 0 c.args.numbers.now c.args.custom.now (sym c.described.ensures.value ∙ c.in_ok-frame.was) in
    fails _ p.0 (opened (sym p.1) c.open.ensures)
