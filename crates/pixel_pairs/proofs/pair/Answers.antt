-- `pair` meets its contract, place by place.
-- Assumes nothing.
use Prim.Native.Nat.{◌+◌, ◌*◌}
use native.Mathlib.Omega.{arith}
use Rattle.definitions.specs.Row.{pixels_of}
use Rattle.pixel_pairs.proofs.pair.Goals as goal

pub returns : goal.returns
unfolding pixels_of
returns g c =
    record {
      left = λ i h. omega (arith, c.type_inv.row (c.args.x * g.row.N + i));
      right = λ i h. omega (arith, c.type_inv.row (c.args.next * g.row.N + i));
      e0 = rw (c.at-a.ensures, c.at-b.ensures) at c.entries.ensures;
      e1 = rw (c.at-a.ensures, c.at-b.ensures) at c.entries-2.ensures;
      e2 = rw (c.at-a.ensures, c.at-b.ensures) at c.entries-3.ensures;
    }
