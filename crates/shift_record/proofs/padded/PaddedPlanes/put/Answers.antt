-- `put` meets its contract: the three planes, one after the other. Assumes nothing.
use native.Mathlib.Omega.{arith}
use Prim.Native.Nat.{◌+◌, ◌*◌, ◌≤◌}
use mathlib.Core.Path.{◌≡◌, ◌∙◌}
use lib.ListN.{length}
use Rattle.yuv_support.specs.Sampling.{chroma_width, chroma_height}
use Rattle.shift_record.proofs.Unpadded.{length-planes, planes_put}
use Rattle.shift_record.proofs.padded.PaddedPlanes.put.Goals.{After-unpadded_size-2}
use Rattle.shift_record.proofs.padded.PaddedPlanes.put.Goals as goal

-- the bytes of Y, of U and of V, which have room
sizes : (c : After-unpadded_size-2) → let s = c.args.self.now.shape in let chroma = chroma_width s.width * chroma_height s.sampling s.height in
    (c.unpadded_size.result ≡ s.width * s.height) × (c.unpadded_size-2.result ≡ chroma)
    × (c.chroma_width-chroma_width.result * c.chroma_height-chroma_height.result ≡ chroma)
    × (c.args.at + (s.width * s.height + 2 * chroma) ≤ length c.args.output.now)
sizes c =
    let p = c.args.self.now in
    let chroma : c.chroma_width-chroma_width.result * c.chroma_height-chroma_height.result ≡ chroma_width p.shape.width * chroma_height p.shape.sampling p.shape.height
    = rw (c.chroma_width-chroma_width.ensures, c.chroma_height-chroma_height.ensures) in
    (c.unpadded_size.ensures, c.unpadded_size-2.ensures ∙ chroma, chroma, rw (length-planes p.shape p.y.now p.u.now p.v.now p.whole) at c.requires)

pub overflow_add-v_at : goal.overflow_add-v_at
overflow_add-v_at c = omega (arith, sizes (goal.at.overflow_add-v_at c).After-unpadded_size-2)

pub put-requires : goal.put-requires
put-requires c = omega (arith, sizes (goal.at.put-requires c).After-unpadded_size-2)

pub put-requires-2 : goal.put-requires-2
put-requires-2 c = omega (arith, sizes (goal.at.put-requires-2 c).After-unpadded_size-2, c.put.auto.output)

pub put-requires-3 : goal.put-requires-3
put-requires-3 c = omega (arith, sizes (goal.at.put-requires-3 c).After-unpadded_size-2, c.put-2.auto.output, c.put.auto.output)

pub returns : goal.returns
returns c =
    let p = c.args.self.now in
    let n = sizes (goal.at.returns c).After-unpadded_size-2 in
    rw (c.put-3.ensures, c.put-2.ensures, c.put.ensures, c.chroma_width-chroma_width.ensures, c.chroma_height-chroma_height.ensures)
    (planes_put p.shape p.y.now p.u.now p.v.now p.whole c.args.output.now _ _ _ (omega (arith, n)) (omega (arith, n)))
