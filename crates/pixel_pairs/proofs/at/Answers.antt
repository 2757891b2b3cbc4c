-- `at` meets its contract: each byte is read where the definition reads it.
-- Assumes nothing.
use mathlib.Core.Path.{◌≡◌}
use Prim.Native.Nat.{◌+◌, ◌*◌}
use native.Mathlib.Omega.{arith}
use Rattle.definitions.specs.Row.{pixels_of}
use Rattle.pixel_pairs.proofs.at.Goals as goal

pub returns : goal.returns
unfolding pixels_of
returns g c =
    let first : c.args.x * g.row.N + 0 ≡ c.args.x * g.row.N = omega arith in
    rw first
