-- `convert` meets its contract: the three planes are parts of the output, one behind the other.
-- Assumes nothing.
use Rattle.std.proofs.Common.{rules, ◌≡◌, length}
use Rattle.frame_request.proofs.Call.{call_painted}
use Rattle.frame_request.proofs.PackedFrame.convert.Goals as goal

pub returns-clause-painted : goal.returns-clause-painted
returns-clause-painted c =
    let y = c.split_at_mut-y.ensures in
    let u = c.split_at_mut-u.ensures in
    let room : length c.args.output.now ≡ 49152 = search rules in
    rw (u.back, y.back, c.luma_size-luma.ensures, c.chroma_size-chroma.ensures)
    (call_painted c.args.self.frame _ c.args.source.now c.args.output.now c.rgbx_to_sharp_yuv.result _ _ _ c.args.self.packed room
    (rw (y.front, u.front, u.back, y.back, c.source_stride.ensures, c.luma_size-luma.ensures, c.chroma_size-chroma.ensures) at c.rgbx_to_sharp_yuv.ensures))
