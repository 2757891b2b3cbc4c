use native.Mathlib.Omega.{arith}
use Prim.Native.Nat.{◌+◌, ◌<◌}
use mathlib.Core.Path.{◌≡◌, refl, sym, ◌∙◌}
use lib.ListN.{length}
use Rattle.y4m_line.specs.Line.{line_of, text_of, tag_bytes}
use Rattle.y4m_writer.proofs.Frames.{frames_left, length_next, put_next, frames_done}
use Rattle.y4m_writer.proofs.planes.WholePictures.put.Goals.{In-Some}
use Rattle.y4m_writer.proofs.planes.WholePictures.put.Goals as goal

pub loop-picture-init : goal.loop-picture-init
loop-picture-init c =
    rw (
      c.into_iter-picture-iterator.ensures.into_iter_gives,
      c.chunks_exact-picture-items.ensures.rest,
      c.chunks_exact-picture-items.ensures.size,
      c.plane_bytes-planes.ensures.value,
    ) (refl, refl, refl, omega (arith, c.requires))

-- a picture and its line are put where they have room
next : (c : In-Some) → length (frames_left c.plane_bytes-planes.result c.loop-picture.picture-iterator.rest.now)
    ≡ 6 + c.plane_bytes-planes.result + length (frames_left c.plane_bytes-planes.result c.next.new.self.rest.now)
next c =
    length_next c.plane_bytes-planes.result (omega (arith, c.plane_bytes-planes.ensures.bounds)) c.in-Some.picture.now c.next.new.self.rest.now
    c.loop-picture.picture-iterator.rest.now c.in-Some.ensures.steps.1.0 (c.in-Some.ensures.steps.1.1 ∙ c.loop-picture.invariant.2)

pub put-requires : goal.put-requires
put-requires c = omega (arith, next (goal.at.put-requires c).In-Some, c.loop-picture.invariant.1, c.loop-picture.invariant.3)

pub overflow_add-to : goal.overflow_add-to
overflow_add-to c = omega (arith, next (goal.at.overflow_add-to c).In-Some, c.loop-picture.invariant.3)

pub put-requires-in-loop-picture : goal.put-requires-in-loop-picture
put-requires-in-loop-picture c =
    omega (
      arith,
      next (goal.at.put-requires-in-loop-picture c).In-Some,
      c.in-Some.ensures.steps.1.1,
      c.loop-picture.invariant.1,
      c.loop-picture.invariant.2,
      c.loop-picture.invariant.3,
      c.put.auto.output,
    )

pub overflow_add-to-in-loop-picture-2 : goal.overflow_add-to-in-loop-picture-2
overflow_add-to-in-loop-picture-2 c = omega (arith, next (goal.at.overflow_add-to-in-loop-picture-2 c).In-Some, c.loop-picture.invariant.3)

pub loop-picture-preserved : goal.loop-picture-preserved
unfolding line_of text_of tag_bytes
loop-picture-preserved c =
    let some : 0 < c.plane_bytes-planes.result = omega (arith, c.plane_bytes-planes.ensures.bounds) in (
      rw (c.put-in-loop-picture.ensures, c.put.ensures)
          (put_next c.plane_bytes-planes.result some c.in-Some.picture.now c.next.new.self.rest.now c.loop-picture.picture-iterator.rest.now
          c.in-Some.ensures.steps.1.0 (c.in-Some.ensures.steps.1.1 ∙ c.loop-picture.invariant.2) c.loop-picture.output c.loop-picture.to
          ∙ c.loop-picture.invariant.0),
      c.put-in-loop-picture.auto.output ∙ c.put.auto.output ∙ c.loop-picture.invariant.1,
      c.in-Some.ensures.steps.0 ∙ c.loop-picture.invariant.2,
      omega (arith, next (goal.at.loop-picture-preserved c).In-Some, c.loop-picture.invariant.3),
    )

pub returns : goal.returns
returns c =
    sym (frames_done c.plane_bytes-planes.result c.loop-picture.to _ c.loop-picture.output (omega (arith, c.in-None.ensures.steps.1.0, c.loop-picture.invariant.2)))
    ∙ c.loop-picture.invariant.0
