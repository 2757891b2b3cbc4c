-- `frames` meets its contract: each frame is made at its place.
-- Assumes nothing.
use Rattle.std.proofs.Common.{rules}
use Rattle.convoy_parts.specs.Parts.{no_frame}
use Rattle.convoy_calls.specs.Numbers.{frame_of, convoy_of}
use Rattle.convoy_calls.proofs.Made.{made_map}
use Rattle.convoy_calls.proofs.ConvoyNumbers.frames.Goals as goal

pub returns : goal.returns
unfolding convoy_of
returns c =
    made_map _ _ (frame_of c.args.self.now.numbers.now c.args.self.now.customs.now c.args.self.now.parts.now) (λ i y q k. search rules) no_frame c.from_fn.result 64
    c.from_fn.ensures.items
