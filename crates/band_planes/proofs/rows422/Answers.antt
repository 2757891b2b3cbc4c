use Prim.Native.Nat.{◌+◌, ◌<◌}
use native.Mathlib.Omega.{arith}
use lib.ListN.{length}
use Rattle.yuv_error.specs.Known.{Lent}
use Rattle.band_steps.specs.Steps.{band_of}
use Rattle.band_steps.proofs.Places.{row_is, source_at, y_at, chroma_at}
use Rattle.band_planes.proofs.Walked.{walked_none, walked_then, Walked-some, Lent-after, Sharpened-to}
use Rattle.band_planes.proofs.rows422.Goals as goal

pub loop-row-init : goal.loop-row-init
loop-row-init g c = walked_none _ _ _ _ _ _ (omega arith)

pub row_step-requires : goal.row_step-requires
row_step-requires g c =
    let lent : Lent (band_of c.args.work.now) (length c.args.work.now.source.now)
    (length c.loop-row.y) (length c.loop-row.u) (length c.loop-row.v) =
    Lent-after (Walked-some c.loop-row.invariant) c.requires.lent in
    let most : c.loop-row.row < c.args.work.now.rows.done + c.args.work.now.rows.count = omega arith in
    record {
      for_step = record {
        sampling = c.requires.sampling;
        in_source = source_at (band_of c.args.work.now) lent c.loop-row.invariant.least most c.step_at-step.ensures c.requires.pixel;
        in_chroma = chroma_at (band_of c.args.work.now) lent c.loop-row.invariant.least most c.step_at-step.ensures;
      };
      in_y = y_at (band_of c.args.work.now) lent c.loop-row.invariant.least most c.step_at-step.ensures;
    }

pub loop-row-preserved : goal.loop-row-preserved
loop-row-preserved g c =
    let row = row_is (band_of c.args.work.now) c.step_at-step.ensures in
    walked_then c.requires.lent.given.rows_most c.loop-row.invariant (omega arith) (omega arith) (λ image sees. rw row at (c.row_step.ensures image sees))

pub returns : goal.returns
returns g c = λ image sees. Sharpened-to (omega arith) (c.loop-row.invariant.sharpened image sees)
