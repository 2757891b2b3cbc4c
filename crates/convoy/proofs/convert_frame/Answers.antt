-- `convert_frame` meets its contract: the parts that are lent to the frame call are the frame's, and come back in their places.
-- Assumes nothing.
use Rattle.std.proofs.Common.{rules, ◌≡◌}
use Rattle.std.specs.Prelude.{Some}
use Rattle.buffer_parts.proofs.Parts.{part_size}
use Rattle.convoy.proofs.Calls.{made}
use Rattle.convoy.proofs.convert_frame.Goals as goal

pub returns : goal.returns
returns c =
    let some : c.args.frame.described ≡ Some c.in_ok-description.description = search rules in
    made c.args.frame c.args.source.now c.args.y.now c.args.u.now c.args.v.now _ c.rgbx_to_sharp_yuv.result _ _ _ _ _ _ _
    (part_size c.args.frame.source) (part_size c.args.frame.y) (part_size c.args.frame.u) (part_size c.args.frame.v) some c.rgbx_to_sharp_yuv.ensures
