-- `check_opening` meets its contract: the matrix is asked after both sizes, and before the window.
-- Assumes nothing.
use Rattle.std.proofs.Common.{rules, ◌≡◌, ◌++◌}
use mathlib.Core.Path.{refl, sym, ◌∙◌}
use Rattle.yuv_error.specs.Numbers.{numbers_of}
use Rattle.yuv_error.specs.Rules.{first_numbers, matrix_rules}
use Rattle.yuv_error.specs.Lent.{window_rules, opening_rules}
use Rattle.yuv_error.proofs.First.{after_refused}
use Rattle.yuv_error.proofs.check_opening.Goals as goal

pub returns-in_err-check_matrix-clause-numbers : goal.returns-in_err-check_matrix-clause-numbers
returns-in_err-check_matrix-clause-numbers c =
    let d = c.args.frame in
    let sizes : first_numbers (opening_rules d) ≡ first_numbers (matrix_rules d.settings.matrix ++ window_rules d) = search rules in
    let same : numbers_of c.from_residual-in_err-check_matrix.result ≡ numbers_of c.check_matrix.result = search rules in
    same ∙ after_refused (matrix_rules d.settings.matrix) (window_rules d) refl c.in_err-check_matrix.was c.check_matrix.ensures.numbers ∙ sym sizes
