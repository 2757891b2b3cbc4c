-- `pair_step` meets its contract: both parts of the source are rows of the image, both luma rows are painted where they stand in the part that was lent,
-- and both chroma rows come back painted.
-- Assumes nothing.
use Prim.Native.Nat.{◌+◌, ◌*◌, ◌-◌, ◌/◌, min}
use mathlib.Core.Path.{◌≡◌, ap, ◌∙◌}
use native.Mathlib.Omega.{arith}
use Rattle.band_steps.specs.Steps.{band_of}
use Rattle.band_steps.proofs.Steps.{row_seen, next_seen, lumas_are, chroma_420, pair_stepped}
use Rattle.band_steps.proofs.pair_step.Goals as goal

pub returns : goal.returns
returns g c =
    let first : c.args.step.row ≡ 2 * (c.args.step.row / 2) = omega (arith, c.requires.pair_at.even) in
    let below : c.args.step.row + 1 ≡ min (2 * (c.args.step.row / 2) + 1) (c.args.work.now.tables.luma.rows.frame.height - 1) = omega (arith, c.requires.pair_at.even, c.requires.pair_at.height) in
    λ image sees.
    let this = row_seen (band_of c.args.work.now) c.args.work.now.source.now image c.requires.for_step.in_source sees in
    let next = next_seen (band_of c.args.work.now) c.args.work.now.source.now image c.requires.for_step.in_source sees in
    pair_stepped c.requires.for_step.sampling c.requires.pair_at.even c.requires.pair_at.height
    (lumas_are (band_of c.args.work.now) c.args.step image c.requires.in_y c.requires.pair_at this next c.sharpen_rows420.ensures.lumas_written)
    (chroma_420 (band_of c.args.work.now) c.args.step image c.requires.for_step.sampling c.requires.for_step.in_chroma (this ∙ ap image first) (next ∙ ap image below) c.sharpen_rows420.ensures.chroma_written)
