-- `open` meets its contract: the first check that refuses answers, and each is asked once those before it did not.
-- Assumes nothing.
use Rattle.std.proofs.Common.{rules, ◌≡◌, ◌++◌}
use mathlib.Core.Path.{refl, sym, ◌∙◌}
use Rattle.yuv_error.specs.Numbers.{numbers_of}
use Rattle.yuv_error.specs.Lent.{opening_rules}
use Rattle.yuv_error.proofs.First.{after_refused, after_finished}
use Rattle.desk.specs.DeskCall.{number_rules, part_rules}
use Rattle.desk.proofs.Desk.open.Goals as goal

pub returns-in_err-check_number : goal.returns-in_err-check_number
returns-in_err-check_number c =
    let same : numbers_of c.from_residual.result ≡ numbers_of c.check_number.result = search rules in
    record {
      answered = same ∙ after_refused (number_rules c.args.self.now.places c.args.camera)
          (part_rules c.args.self.now.places c.args.parts c.args.lens ++ opening_rules c.args.frame) refl
          c.in_err-check_number.was c.check_number.ensures.numbers;
      desk = search rules;
    }

pub returns-in_err-check_parts : goal.returns-in_err-check_parts
returns-in_err-check_parts c =
    let same : numbers_of c.from_residual-in_err-check_parts.result ≡ numbers_of c.check_parts.result = search rules in
    record {
      answered = same
          ∙ after_refused (part_rules c.args.self.now.places c.args.parts c.args.lens) (opening_rules c.args.frame) refl
          c.in_err-check_parts.was c.check_parts.ensures
          ∙ sym (after_finished (number_rules c.args.self.now.places c.args.camera)
          (part_rules c.args.self.now.places c.args.parts c.args.lens ++ opening_rules c.args.frame) refl
          c.in_ok-check_number.was c.check_number.ensures.numbers);
      desk = search rules;
    }
