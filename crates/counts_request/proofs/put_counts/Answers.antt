-- `put_counts` meets its contract: an accepted matrix is not refused, so what is put down are the counts. None is above the number of colours,
-- which has 8 digits. Assumes nothing.
use Prim.Native.Nat.{ℕ, ◌<◌}
use mathlib.Core.Path.{◌≡◌, ap, ◌∙◌}
use mathlib.Core.Bool.{true}
use mathlib.Core.List.{List}
use native.Mathlib.Omega.{arith}
use lib.ListN.{get_or}
use Rattle.yuv_support.specs.declared.YuvRange.{YuvRange}
use Rattle.yuv_support.specs.declared.YuvStandardMatrix.{YuvStandardMatrix}
use Rattle.yuv_support.specs.Matrix.{accepted}
use Rattle.std.specs.Prelude.{Result}
use Rattle.yuv_error.specs.declared.YuvError.{YuvError}
use Rattle.yuv_error.specs.Numbers.{Numbers}
use Rattle.yuv_error.proofs.Numbers.{is_finished}
use Rattle.definitions.specs.Painted.{Painted}
use Rattle.definitions.proofs.Painted.{Painted-at}
use Rattle.colour_counts.specs.Counts.{colours, luma_of_colour, count_of, CountsPost}
use Rattle.colour_counts.proofs.Counting.{count_le}
use Rattle.counts_request.proofs.Lines.{lines_like}
use Rattle.counts_request.proofs.Puts.{Begins-as}
use Rattle.counts_request.proofs.put_counts.Goals as goal

module _ {range : YuvRange} {matrix : YuvStandardMatrix} {before after : List ℕ} {a : Result Unit YuvError} (ok : accepted matrix ≡ true)
    (post : CountsPost range matrix before a after) where
  count : (y : ℕ) → y < 256 → get_or after y 0 ≡ count_of range matrix y
  count y l =
      let done = is_finished a (ap (λ (x : Numbers). x.number) post.answered ∙ rw ok) in
      let all : Painted 256 (count_of range matrix) before after = rw done at post.counts in
      Painted-at all y l

  few : (y : ℕ) → y < 256 → get_or after y 0 < 100000000
  few y l = omega (arith, count y l, count_le (luma_of_colour range matrix) colours y)

pub put_lines-requires-clause-by_index : goal.put_lines-requires-clause-by_index
put_lines-requires-clause-by_index c = few c.requires.matrix_value c.colour_counts.ensures

pub returns : goal.returns
returns c =
    Begins-as (lines_like _ _ 256 (count c.requires.matrix_value c.colour_counts.ensures)) c.put_lines.ensures
