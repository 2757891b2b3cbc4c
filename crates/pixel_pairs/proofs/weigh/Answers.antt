-- `weigh` meets its contract: no product or sum wraps, since no weight is above 8,193; the shift rounds down, and what it leaves is a byte.
-- Assumes nothing.
use mathlib.Core.Path.{◌≡◌, ap, ◌∙◌}
use Prim.Native.Nat.{◌<◌, ◌^◌}
use native.Mathlib.Omega.{arith}
use lib.Dec.{lit<}
use lib.IntN.{ℤ, pos, nat_abs}
use Rattle.definitions.specs.Pixel.{weigh}
use Rattle.pixel_pairs.specs.declared.Bytes.{Bytes}
use Rattle.pixel_pairs.specs.declared.tables.Weights.{Weights}
use Rattle.pixel_pairs.specs.Weights.{InByte, ByteWeights}
use Rattle.pixel_pairs.proofs.Signed.{Exact, product, sum, literal, fits, shifted}
use Rattle.pixel_pairs.proofs.weigh.Goals as goal

byte_size : {z : ℤ} → InByte z → pos (nat_abs z) ≡ z
byte_size b = rw b.is

-- the sum, a product after the other
module _ (b : Bytes) {w : Weights} (p : ByteWeights w) (b0 : b.b0 < 2 ^ 8) (b1 : b.b1 < 2 ^ 8) (b2 : b.b2 < 2 ^ 8) where
  abbrev two : Exact
  two = sum (product b.b0 w.first b0 p.first) (product b.b1 w.second b1 p.second) (lit< tt)

  abbrev three : Exact
  three = sum two (product b.b2 w.third b2 p.third) (lit< tt)

  abbrev all : Exact
  all = sum three (literal 1052671 (lit< tt)) (lit< tt)

  in_byte : InByte (weigh w.first w.second w.third 128 b.b0 b.b1 b.b2)
  in_byte = p.chroma b.b0 b.b1 b.b2 b0 b1 b2

pub overflow_add-result : goal.overflow_add-result
overflow_add-result c = fits (two c.args.b c.requires (omega arith) (omega arith) (omega arith))

pub overflow_add-result-2 : goal.overflow_add-result-2
overflow_add-result-2 c = fits (three c.args.b c.requires (omega arith) (omega arith) (omega arith))

pub overflow_add-result-3 : goal.overflow_add-result-3
overflow_add-result-3 c = fits (all c.args.b c.requires (omega arith) (omega arith) (omega arith))

pub overflow_cast-result-4 : goal.overflow_cast-result-4
unfolding weigh
overflow_cast-result-4 c =
    let b = in_byte c.args.b c.requires (omega arith) (omega arith) (omega arith) in
    rw (shifted (all c.args.b c.requires (omega arith) (omega arith) (omega arith)), b.is) (tt, record { fits = b.below })

pub returns : goal.returns
unfolding weigh
returns c =
    ap (λ (z : ℤ). pos (nat_abs z)) (shifted (all c.args.b c.requires (omega arith) (omega arith) (omega arith)))
    ∙ byte_size (in_byte c.args.b c.requires (omega arith) (omega arith) (omega arith))
