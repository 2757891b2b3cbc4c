use Prim.Native.Nat.{◌+◌, ◌*◌, ◌≤◌, ◌<◌}
use native.Mathlib.Omega.{arith}
use lib.ListN.{length}
use Rattle.yuv_error.specs.Known.{Lent}
use Rattle.band_steps.specs.Steps.{band_of}
use Rattle.band_steps.proofs.Places.{row_is, source_at, y_at, chroma_at, pair_at}
use Rattle.band_planes.proofs.Walked.{walked_none, walked_then, Walked-to, Walked-some, Lent-after}
use Rattle.band_planes.proofs.pair_rows.Goals as goal

pub loop-k-init : goal.loop-k-init
loop-k-init g c = Walked-to (omega arith) (walked_none _ _ _ _ _ _ c.requires.even_start.1)

pub pair_step-requires : goal.pair_step-requires
pair_step-requires g c =
    let least : c.args.work.now.rows.done ≤ c.args.from + 2 * c.loop-k.k = omega (arith, c.requires.even_start.0) in
    let most : c.args.from + 2 * c.loop-k.k + 2 ≤ c.args.work.now.rows.done + c.args.work.now.rows.count = omega arith in
    let lent : Lent (band_of c.args.work.now) (length c.args.work.now.source.now) (length c.loop-k.y) (length c.loop-k.u)
    (length c.loop-k.v) =
    Lent-after (Walked-some c.loop-k.invariant) c.requires.for_rows.lent in
    let one : c.args.from + 2 * c.loop-k.k < c.args.work.now.rows.done + c.args.work.now.rows.count = omega (arith, most) in
    record {
      for_step = record {
        sampling = c.requires.for_rows.sampling;
        in_source = source_at (band_of c.args.work.now) lent least one c.step_at-step.ensures c.requires.for_rows.pixel;
        in_chroma = chroma_at (band_of c.args.work.now) lent least one c.step_at-step.ensures;
      };
      in_y = y_at (band_of c.args.work.now) lent least one c.step_at-step.ensures;
      pair_at = pair_at (band_of c.args.work.now) lent least most (omega (arith, c.requires.even_start.2)) c.step_at-step.ensures;
    }

pub loop-k-preserved : goal.loop-k-preserved
loop-k-preserved g c =
    let most : c.args.from + 2 * c.loop-k.k + 2 ≤ c.args.work.now.rows.done + c.args.work.now.rows.count = omega arith in
    let row = row_is (band_of c.args.work.now) c.step_at-step.ensures in
    Walked-to (omega arith) (walked_then c.requires.for_rows.lent.given.rows_most c.loop-k.invariant (omega arith) most (λ image sees. rw row at (c.pair_step.ensures image sees)))

pub returns-clause-sharpened : goal.returns-clause-sharpened
returns-clause-sharpened g c =
    (Walked-to (omega arith) c.loop-k.invariant).sharpened
