-- `first_row` meets its contract: the band's image has the carried row above its own rows, so its first row is written from both.
-- Assumes nothing.
use Prim.Native.Nat.{◌+◌, ◌-◌, ◌<◌}
use native.Mathlib.Nat.{le_refl}
use native.Mathlib.Omega.{arith}
use Rattle.definitions.specs.Bands.{band_image}
use Rattle.definitions.proofs.Bands.{band_carried}
use Rattle.band_steps.specs.Steps.{band_of}
use Rattle.band_steps.proofs.Places.{row_is, inside, source_at, y_at, chroma_at}
use Rattle.band_steps.proofs.Steps.{Sees-own, first_stepped}
use Rattle.band_planes.proofs.first_row.Goals as goal

pub luma_step-requires : goal.luma_step-requires
luma_step-requires g c =
    let some : c.args.work.now.rows.done < c.args.work.now.rows.done + c.args.work.now.rows.count = omega (arith, c.requires.for_rows.lent.given.rows_least) in
    record {
      source_at = source_at (band_of c.args.work.now) c.requires.for_rows.lent (le_refl _) some c.step_at-step.ensures c.requires.for_rows.pixel;
      in_y = y_at (band_of c.args.work.now) c.requires.for_rows.lent (le_refl _) some c.step_at-step.ensures;
    }

pub carried_step-requires-clause-for_step : goal.carried_step-requires-clause-for_step
carried_step-requires-clause-for_step g c =
    let some : c.args.work.now.rows.done < c.args.work.now.rows.done + c.args.work.now.rows.count = omega (arith, c.requires.for_rows.lent.given.rows_least) in
    record {
      sampling = c.requires.for_rows.sampling;
      in_source = source_at (band_of c.args.work.now) c.requires.for_rows.lent (le_refl _) some c.step_at-step.ensures c.requires.for_rows.pixel;
      in_chroma = chroma_at (band_of c.args.work.now) c.requires.for_rows.lent (le_refl _) some c.step_at-step.ensures;
    }

pub returns : goal.returns
returns g c =
    let some : c.args.work.now.rows.done < c.args.work.now.rows.done + c.args.work.now.rows.count = omega (arith, c.requires.for_rows.lent.given.rows_least) in
    let row = row_is (band_of c.args.work.now) c.step_at-step.ensures in
    let image = band_image (band_of c.args.work.now) c.args.work.now.source.now c.args.carried.now in
    let sees = Sees-own (band_of c.args.work.now) c.args.work.now.source.now c.args.carried.now in
    let before : c.step_at-step.result.row - 1 < c.args.work.now.rows.done = omega (arith, row, c.requires.odd_start) in
    let above = band_carried (band_of c.args.work.now) c.args.work.now.source.now c.args.carried.now _ before in
    first_stepped c.requires.for_rows.sampling c.requires.odd_start (inside (band_of c.args.work.now) c.requires.for_rows.lent (le_refl _) some) (rw row at (c.luma_step.ensures image sees))
    (rw row at (c.carried_step.ensures image sees above))
