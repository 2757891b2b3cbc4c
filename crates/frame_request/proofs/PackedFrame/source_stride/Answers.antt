-- `source_stride` meets its contract: three or four bytes a pixel.
-- Assumes nothing.
use Prim.Native.Nat.{ℕ, ◌*◌}
use mathlib.Core.Path.{ap}
use native.Mathlib.Omega.{arith}
use Rattle.definitions.proofs.Numbers.{three_or_four, size_small}
use Rattle.frame_request.proofs.PackedFrame.source_stride.Goals as goal

pub overflow_cast-result : goal.overflow_cast-result
overflow_cast-result c = omega (arith, c.get_channels_count.ensures, three_or_four c.args.self.frame.settings.channels)

pub overflow_mul-result : goal.overflow_mul-result
overflow_mul-result c =
    omega (
      arith,
      size_small c.args.self.frame.width c.get_channels_count.result c.args.self.packed.width_most
          (omega (arith, c.get_channels_count.ensures, three_or_four c.args.self.frame.settings.channels)),
    )

pub returns : goal.returns
returns c = ap (λ (n : ℕ). c.args.self.frame.width * n) c.get_channels_count.ensures
