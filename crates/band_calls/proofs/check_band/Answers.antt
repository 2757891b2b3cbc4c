-- `check_band` meets its contract: the rules of one check are asked once those of the checks before it do not hold.
-- Assumes nothing.
use Rattle.std.proofs.Common.{rules, ◌≡◌}
use mathlib.Core.Path.{refl, sym, ◌∙◌}
use mathlib.Core.List.{◌++◌}
use Rattle.yuv_error.specs.Numbers.{numbers_of}
use Rattle.yuv_error.specs.Lent.{opening_rules, lent_rules}
use Rattle.yuv_error.proofs.First.{after_refused, after_finished}
use Rattle.band_calls.specs.BandCall.{row_rules, carried_rules}
use Rattle.band_calls.proofs.check_band.Goals as goal

pub returns-in_err-check_opening-clause-numbers : goal.returns-in_err-check_opening-clause-numbers
returns-in_err-check_opening-clause-numbers c =
    let d = c.args.state.frame in
    let last = carried_rules d.width c.args.carried in
    let lent = lent_rules d c.args.rows c.args.stride c.args.lent ++ last in
    let row = row_rules d.height c.args.state.done c.args.rows in
    let same : numbers_of c.from_residual.result ≡ numbers_of c.check_opening.result = search rules in
    same ∙ after_refused (opening_rules d) (row ++ lent) refl c.in_err-check_opening.was c.check_opening.ensures.numbers

pub returns-in_err-check_rows-clause-numbers : goal.returns-in_err-check_rows-clause-numbers
returns-in_err-check_rows-clause-numbers c =
    let d = c.args.state.frame in
    let last = carried_rules d.width c.args.carried in
    let lent = lent_rules d c.args.rows c.args.stride c.args.lent ++ last in
    let row = row_rules d.height c.args.state.done c.args.rows in
    let same : numbers_of c.from_residual-in_err-check_rows.result ≡ numbers_of c.check_rows.result = search rules in
    same ∙ after_refused row lent refl c.in_err-check_rows.was c.check_rows.ensures.numbers
    ∙ sym (after_finished (opening_rules d) (row ++ lent) refl c.in_ok-check_opening.was c.check_opening.ensures.numbers)

pub returns-in_err-check_lent-clause-numbers : goal.returns-in_err-check_lent-clause-numbers
returns-in_err-check_lent-clause-numbers c =
    let d = c.args.state.frame in
    let last = carried_rules d.width c.args.carried in
    let lent = lent_rules d c.args.rows c.args.stride c.args.lent in
    let row = row_rules d.height c.args.state.done c.args.rows in
    let same : numbers_of c.from_residual-in_err-check_lent.result ≡ numbers_of c.check_lent.result = search rules in
    same ∙ after_refused lent last refl c.in_err-check_lent.was c.check_lent.ensures.numbers
    ∙ sym (after_finished row (lent ++ last) refl c.in_ok-check_rows.was c.check_rows.ensures.numbers)
    ∙ sym (after_finished (opening_rules d) (row ++ lent ++ last) refl c.in_ok-check_opening.was c.check_opening.ensures.numbers)

pub returns-clause-numbers : goal.returns-clause-numbers
returns-clause-numbers c =
    let d = c.args.state.frame in
    let last = carried_rules d.width c.args.carried in
    let lent = lent_rules d c.args.rows c.args.stride c.args.lent in
    let row = row_rules d.height c.args.state.done c.args.rows in
    c.check_carried.ensures.numbers ∙ sym (after_finished lent last refl c.in_ok-check_lent.was c.check_lent.ensures.numbers)
    ∙ sym (after_finished row (lent ++ last) refl c.in_ok-check_rows.was c.check_rows.ensures.numbers)
    ∙ sym (after_finished (opening_rules d) (row ++ lent ++ last) refl c.in_ok-check_opening.was c.check_opening.ensures.numbers)
