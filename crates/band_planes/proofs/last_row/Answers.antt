-- `last_row` meets its contract: the row's luma, and its chroma where the frame ends with it.
-- Assumes nothing.
use Prim.Native.Nat.{◌+◌, ◌<◌}
use native.Mathlib.Omega.{arith}
use Rattle.band_steps.specs.Steps.{band_of}
use Rattle.band_steps.proofs.Places.{row_is, inside, source_at, y_at, chroma_at}
use Rattle.band_steps.proofs.Steps.{last_stepped, open_stepped}
use Rattle.band_planes.proofs.last_row.Goals as goal

pub luma_step-requires : goal.luma_step-requires
luma_step-requires g c =
    let most : c.args.row < c.args.work.now.rows.done + c.args.work.now.rows.count = omega (arith, c.requires.last_row.1) in
    record {
      source_at = source_at (band_of c.args.work.now) c.requires.for_rows.lent c.requires.last_row.0 most c.step_at-step.ensures c.requires.for_rows.pixel;
      in_y = y_at (band_of c.args.work.now) c.requires.for_rows.lent c.requires.last_row.0 most c.step_at-step.ensures;
    }

pub alone_step-requires-clause-for_step : goal.alone_step-requires-clause-for_step
alone_step-requires-clause-for_step g c =
    let most : c.args.row < c.args.work.now.rows.done + c.args.work.now.rows.count = omega (arith, c.requires.last_row.1) in
    record {
      sampling = c.requires.for_rows.sampling;
      in_source = source_at (band_of c.args.work.now) c.requires.for_rows.lent c.requires.last_row.0 most c.step_at-step.ensures c.requires.for_rows.pixel;
      in_chroma = chroma_at (band_of c.args.work.now) c.requires.for_rows.lent c.requires.last_row.0 most c.step_at-step.ensures;
    }

pub returns-then-row-work : goal.returns-then-row-work
returns-then-row-work g c =
    let row = row_is (band_of c.args.work.now) c.step_at-step.ensures in
    λ image sees. last_stepped c.requires.for_rows.sampling c.requires.last_row.2 c.if-row-work.true (rw row at (c.luma_step.ensures image sees))
    (rw row at (c.alone_step.ensures image sees))

pub returns-else-row-work : goal.returns-else-row-work
returns-else-row-work g c =
    let most : c.args.row < c.args.work.now.rows.done + c.args.work.now.rows.count = omega (arith, c.requires.last_row.1) in
    let row = row_is (band_of c.args.work.now) c.step_at-step.ensures in
    let goes_on : c.args.row + 1 < c.args.work.now.tables.luma.rows.frame.height = omega (arith, inside (band_of c.args.work.now) c.requires.for_rows.lent c.requires.last_row.0 most, c.if-row-work.false) in
    λ image sees. open_stepped c.args.u.now c.args.v.now c.requires.for_rows.sampling c.requires.last_row.2 goes_on (rw row at (c.luma_step.ensures image sees))
