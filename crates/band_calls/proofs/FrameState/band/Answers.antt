-- `band` meets its contract: the check decides; an accepted band's rows go into the planes, and then its last row is carried.
-- Assumes nothing.
use mathlib.Core.Path.{refl, sym, ap, ◌∙◌}
use Rattle.std.specs.Prelude.{Ok, Err}
use Rattle.yuv_error.specs.Numbers.{numbers_of}
use Rattle.band_calls.proofs.Post.{refused, finished}
use Rattle.band_calls.proofs.FrameState.band.Goals as goal

pub returns-in-Err : goal.returns-in-Err
returns-in-Err c =
    refused c.args.self c.args.rows c.args.stride c.args.source.now c.args.y.now c.args.u.now c.args.v.now c.args.carried.now
    (Err c.before.in-Err.e) (sym (ap numbers_of c.in-Err.is) ∙ c.check_band.ensures.numbers) refl

pub returns-in-Ok : goal.returns-in-Ok
returns-in-Ok c =
    finished c.args.self c.args.rows c.args.stride c.args.source.now c.args.y.now c.args.u.now c.args.v.now c.args.carried.now
    (Ok tt) (sym (ap numbers_of c.in-Ok.is) ∙ c.check_band.ensures.numbers) refl c.sharpen_band.ensures c.carry_band.ensures
