-- `alone_step` meets its contract: the row stands for itself and for the row below, and both chroma rows come back painted.
-- Assumes nothing.
use Prim.Native.Nat.{◌+◌, ◌*◌, ◌-◌, ◌/◌, min}
use mathlib.Core.Path.{◌≡◌, ap, ◌∙◌}
use native.Mathlib.Omega.{arith}
use Rattle.band_steps.specs.Steps.{band_of}
use Rattle.band_steps.proofs.Steps.{row_seen, chroma_420}
use Rattle.band_steps.proofs.alone_step.Goals as goal

pub returns : goal.returns
returns g c =
    let first : c.args.step.row ≡ 2 * (c.args.step.row / 2) = omega (arith, c.requires.last_row) in
    let below : c.args.step.row ≡ min (2 * (c.args.step.row / 2) + 1) (c.args.work.now.tables.luma.rows.frame.height - 1) = omega (arith, c.requires.last_row) in
    λ image sees. let seen = row_seen (band_of c.args.work.now) c.args.work.now.source.now image c.requires.for_step.in_source sees in
    chroma_420 (band_of c.args.work.now) c.args.step image c.requires.for_step.sampling c.requires.for_step.in_chroma (seen ∙ ap image first) (seen ∙ ap image below) c.chroma_row420.ensures
