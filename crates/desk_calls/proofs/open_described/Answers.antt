-- `open_described` meets its contract: 1 stands between the checks of number and parts and the opening's own.
-- Assumes nothing.
use Rattle.std.proofs.Common.{rules, ◌≡◌, ◌++◌}
use mathlib.Core.Path.{refl, sym, ◌∙◌}
use mathlib.Core.List.{List}
use Rattle.yuv_error.specs.Numbers.{numbers_of}
use Rattle.yuv_error.specs.Rules.{Rule}
use Rattle.yuv_error.specs.Lent.{opening_rules}
use Rattle.yuv_error.proofs.First.{after_refused, after_finished}
use Rattle.call_numbers.specs.Codes.{description_of, number_rules as code_rules}
use Rattle.call_numbers.proofs.Numbers.{described_ok}
use Rattle.desk.specs.DeskCall.{number_rules, part_rules}
use Rattle.desk_calls.proofs.open_described.Goals as goal

pub returns-in_err-check_parts-in-Err : goal.returns-in_err-check_parts-in-Err
returns-in_err-check_parts-in-Err c =
    let later : List Rule = code_rules 0 c.args.described.now ++ opening_rules (description_of c.args.described.now c.args.custom.now) in
    let same : numbers_of c.from_residual-in_err-check_parts-in-Err.result ≡ numbers_of c.check_parts.result = search rules in
    record {
      answered = same
          ∙ after_refused (part_rules c.args.desk.now.places c.args.parts c.args.lens) later refl
          c.in_err-check_parts-in-Err.was c.check_parts.ensures
          ∙ sym (after_finished (number_rules c.args.desk.now.places c.args.camera)
          (part_rules c.args.desk.now.places c.args.parts c.args.lens ++ later) refl
          c.in_ok-check_number-in-Err.was c.check_number.ensures.numbers);
      desk = search rules;
    }

pub returns-in-Ok : goal.returns-in-Ok
returns-in-Ok c =
    let meant = described_ok 0 c.args.described.now c.args.custom.now (sym c.described.ensures.value ∙ c.in-Ok.is) in
    record {
      answered = rw meant.0 (rw (← meant.1) at c.open.ensures.answered);
      desk = rw (← meant.1) at c.open.ensures.desk;
    }
