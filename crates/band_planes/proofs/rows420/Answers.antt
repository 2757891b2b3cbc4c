-- `rows420` meets its contract: a first row alone, pairs, a last row alone, each where the band has it.
-- Assumes nothing.
use Prim.Native.Nat.{◌+◌}
use mathlib.Core.Path.{◌≡◌}
use native.Mathlib.Omega.{arith}
use Rattle.definitions.specs.Image.{Image}
use Rattle.definitions.specs.Bands.{band_image, Sharpened}
use Rattle.definitions.proofs.Bands.{Sharpened-then}
use Rattle.band_steps.specs.Steps.{band_of, frame_of, Sees}
use Rattle.band_steps.proofs.Steps.{Sees-own}
use Rattle.band_planes.proofs.Walked.{Sharpened-to}
use Rattle.band_planes.proofs.rows420.Goals as goal

pub returns-then-row-end : goal.returns-then-row-end
returns-then-row-end g c =
    let image : Image = band_image (band_of c.args.work.now) c.args.work.now.source.now c.args.carried.now in
    let sees : Sees (band_of c.args.work.now) c.args.work.now.source.now image = Sees-own (band_of c.args.work.now) c.args.work.now.source.now c.args.carried.now in
    let pairs : Sharpened (frame_of c.args.work.now) c.args.work.now.rows.done c.pair_rows-row.result image c.args.y.now c.args.u.now c.args.v.now
    c.pair_rows-row.new.y c.pair_rows-row.new.u c.pair_rows-row.new.v =
    Sharpened-then c.pairs_start-from.ensures.even_start.0 c.pair_rows-row.ensures.row_after.0 (omega (arith, c.pair_rows-row.ensures.row_after.1, c.requires.for_rows.lent.given.rows_most)) c.pairs_start-from.ensures.sharpened
    (c.pair_rows-row.ensures.sharpened image sees) in
    let end : c.pair_rows-row.result + 1 ≡ c.args.work.now.rows.done + c.args.work.now.rows.count = omega (arith, c.pair_rows-row.ensures.row_after, c.if-row-end.true) in
    Sharpened-to end (Sharpened-then (omega (arith, c.pair_rows-row.ensures.row_after, c.pairs_start-from.ensures.even_start)) (omega arith) (omega (arith, end, c.requires.for_rows.lent.given.rows_most)) pairs
    (c.last_row.ensures image sees))

pub returns-else-row-end : goal.returns-else-row-end
returns-else-row-end g c =
    let image : Image = band_image (band_of c.args.work.now) c.args.work.now.source.now c.args.carried.now in
    let sees : Sees (band_of c.args.work.now) c.args.work.now.source.now image = Sees-own (band_of c.args.work.now) c.args.work.now.source.now c.args.carried.now in
    let pairs : Sharpened (frame_of c.args.work.now) c.args.work.now.rows.done c.pair_rows-row.result image c.args.y.now c.args.u.now c.args.v.now
    c.pair_rows-row.new.y c.pair_rows-row.new.u c.pair_rows-row.new.v =
    Sharpened-then c.pairs_start-from.ensures.even_start.0 c.pair_rows-row.ensures.row_after.0 (omega (arith, c.pair_rows-row.ensures.row_after.1, c.requires.for_rows.lent.given.rows_most)) c.pairs_start-from.ensures.sharpened
    (c.pair_rows-row.ensures.sharpened image sees) in
    let end : c.pair_rows-row.result ≡ c.args.work.now.rows.done + c.args.work.now.rows.count = omega (arith, c.pair_rows-row.ensures.row_after, c.if-row-end.false) in
    Sharpened-to end pairs
