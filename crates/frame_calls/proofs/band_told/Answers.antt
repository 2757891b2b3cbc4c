-- `band_told` meets its contract: numbers without a meaning are refused before the band call, and the band call's promise is kept.
-- Assumes nothing.
use mathlib.Core.Path.{refl, sym, ◌∙◌}
use Rattle.call_numbers.proofs.Numbers.{described_ok, described_err}
use Rattle.frame_calls.proofs.Answered.{holds, fails, banded}
use Rattle.frame_calls.proofs.band_told.Goals as goal

pub returns-in-Err : goal.returns-in-Err
returns-in-Err c =
    let p = described_err 3 c.args.numbers.now c.args.custom.now (sym c.described.ensures.value ∙ c.in-Err.is) in
    holds _ p.0 (rw p.1, (c.number_at.ensures, refl, refl, refl, refl))

pub returns-in-Ok : goal.returns-in-Ok
returns-in-Ok c =
    let p = described_ok 3 c.args.numbers.now c.args.custom.now (sym c.described.ensures.value ∙ c.in-Ok.is) in
    fails _ p.0 (banded (sym p.1) c.band-converted.ensures)
