-- `carried_step` meets its contract: the carried row is the image's row above, the part of the source its row, and both chroma rows come back painted.
-- Assumes nothing.
use Prim.Native.Nat.{◌+◌, ◌*◌, ◌-◌, ◌/◌, min}
use mathlib.Core.Path.{◌≡◌, ap, ◌∙◌}
use native.Mathlib.Omega.{arith}
use Rattle.band_steps.specs.Steps.{band_of}
use Rattle.band_steps.proofs.Steps.{row_seen, chroma_420}
use Rattle.band_steps.proofs.carried_step.Goals as goal

pub returns : goal.returns
returns g c =
    let above : c.args.step.row - 1 ≡ 2 * (c.args.step.row / 2) = omega (arith, c.requires.first_row) in
    let here : c.args.step.row ≡ min (2 * (c.args.step.row / 2) + 1) (c.args.work.now.tables.luma.rows.frame.height - 1) = omega (arith, c.requires.first_row) in
    λ image sees carried. chroma_420 (band_of c.args.work.now) c.args.step image c.requires.for_step.sampling c.requires.for_step.in_chroma (carried ∙ ap image above)
    (row_seen (band_of c.args.work.now) c.args.work.now.source.now image c.requires.for_step.in_source sees ∙ ap image here) c.chroma_row420.ensures
