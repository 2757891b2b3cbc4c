-- `rgbx_to_sharp_yuv` meets its contract: the check decides, and the work of an accepted frame is that of a band of all its rows.
-- Assumes nothing.
use Rattle.std.proofs.Common.{rules, ◌≡◌}
use Rattle.std.specs.Prelude.{Ok, Err}
use Rattle.yuv_error.specs.Numbers.{numbers_of}
use Rattle.yuv_error.specs.Lent.{lengths_of}
use Rattle.sharp_rgba_to_yuv.proofs.Accepted.{Accepted, answered}
use Rattle.sharp_rgba_to_yuv.proofs.Post.{refused, finished}
use Prim.Native.Nat.{◌*◌}
use mathlib.Core.Path.{refl, sym, ap, ◌∙◌}
use native.Mathlib.Omega.{arith}
use lib.ListN.{length-drop}
use Rattle.sharp_rgba_to_yuv.proofs.rgbx_to_sharp_yuv.Goals.{In_ok-check_frame}
use Rattle.std.proofs.lemmas.List.{take_rest}
use Rattle.sharp_rgba_to_yuv.proofs.rgbx_to_sharp_yuv.Goals as goal

-- an accepted frame, and what it is lent
its_frame : (c : In_ok-check_frame) → Accepted c.args.frame c.args.stride (lengths_of c.args.source.now c.args.y.now c.args.u.now c.args.v.now)
its_frame c = answered _ _ _ c.in_ok-check_frame.was c.check_frame.ensures.numbers

pub returns-in_err-check_frame : goal.returns-in_err-check_frame
returns-in_err-check_frame c =
    let is : c.from_residual.result ≡ Err c.in_err-check_frame.field-0.0 = search rules in
    let same : numbers_of c.from_residual.result ≡ numbers_of c.check_frame.result = search rules in
    refused c.args.frame c.args.stride c.args.source.now c.args.y.now c.args.u.now c.args.v.now c.from_residual.result
    (same ∙ c.check_frame.ensures.numbers) is

pub overflow_mul-at : goal.overflow_mul-at
overflow_mul-at c = omega (arith, (its_frame (goal.at.overflow_mul-at c).In_ok-check_frame).inside)

pub slice_bounds-sharpen_band-count : goal.slice_bounds-sharpen_band-count
slice_bounds-sharpen_band-count c = omega (arith, (its_frame (goal.at.slice_bounds-sharpen_band-count c).In_ok-check_frame).inside)

pub slice_bounds-sharpen_band-start : goal.slice_bounds-sharpen_band-start
slice_bounds-sharpen_band-start c = omega (arith, (its_frame (goal.at.slice_bounds-sharpen_band-start c).In_ok-check_frame).inside)

pub sharpen_band-requires : goal.sharpen_band-requires
sharpen_band-requires c =
    let f = its_frame (goal.at.sharpen_band-requires c).In_ok-check_frame in
    let at = c.args.frame.window.top * c.args.stride in
    record {
      lent = rw (take_rest c.args.source.now at, length-drop at c.args.source.now) f.lent;
      width_in_bounds = f.carried;
    }

pub returns : goal.returns
returns c =
    finished c.args.frame c.args.stride c.args.source.now c.args.y.now c.args.u.now c.args.v.now (Ok tt)
    (sym (ap numbers_of c.in_ok-check_frame.was) ∙ c.check_frame.ensures.numbers) refl _ _ _
    (rw (take_rest c.args.source.now (c.args.frame.window.top * c.args.stride)) at c.sharpen_band.ensures)
