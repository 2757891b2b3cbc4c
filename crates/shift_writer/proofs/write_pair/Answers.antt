-- `write_pair` meets its contract: two numbers, one after the other.
-- Assumes nothing.
use Prim.Native.Nat.{ℕ, ◌+◌}
use mathlib.Core.Path.{ap, ◌∙◌}
use mathlib.Core.List.{List}
use lib.Seq.{sets}
use Rattle.little_endian.specs.Number.{low_bytes}
use Rattle.little_endian.proofs.Number.{length_low}
use Rattle.little_endian.proofs.Stores.{sets-append}
use Rattle.shift_writer.proofs.write_pair.Goals as goal

pub returns : goal.returns
returns c =
    rw (sets-append, length_low)
    (c.write_number-2.ensures ∙ ap (λ (l : List ℕ). sets l (c.args.pair + 8) (low_bytes 4 c.args.size)) c.write_number.ensures)
