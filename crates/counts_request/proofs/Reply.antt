-- What is written for an input that is malformed, and for one that is not.
-- Assumes nothing.
use Prim.Native.Nat.{ℕ, ◌≤◌}
use mathlib.Core.Path.{◌≡◌, sym, ap, ◌∙◌}
use mathlib.Core.Bool.{true}
use mathlib.Core.List.{List}
use native.Mathlib.Omega.{arith}
use borrow.Author.Tests.{ne_eqb}
use lib.ListN.{length, take}
use Rattle.std.proofs.Common.{Option, Some, None, cond}
use Rattle.yuv_support.specs.declared.YuvRange.{YuvRange}
use Rattle.yuv_support.specs.declared.YuvStandardMatrix.{YuvStandardMatrix}
use lib.Seq.{take_all, length-take-le}
use Rattle.definitions.proofs.Planes.{below?}
use Rattle.colour_counts.specs.Counts.{count_of}
use Rattle.frame_request.specs.Reply.{refusal_line}
use Rattle.counts_request.specs.Reply.{range_of, matrix_of, malformed, lines, reply}

pub malformed-reply : (input : List ℕ) → malformed input ≡ true → reply input ≡ refusal_line 1
unfolding reply
malformed-reply input e = rw e

-- what an input asks for, and what is written for it
abbrev asked : List ℕ → Option (YuvRange × YuvStandardMatrix)
asked input = cond (malformed input) None (Some (range_of input, matrix_of input))

pub asked-reply : (input : List ℕ) {range : YuvRange} {matrix : YuvStandardMatrix} → Some (range, matrix) ≡ asked input
    → reply input ≡ lines (count_of range matrix) 256
unfolding reply
asked-reply input e = grind arith

pub none-reply : (input : List ℕ) → None ≡ asked input → reply input ≡ refusal_line 1
unfolding reply
none-reply input e = grind arith

-- the bytes that the program reads, 3 at most, decide what it writes: all longer inputs are malformed, as 3 bytes are
long_malformed : (input : List ℕ) → 3 ≤ length input → malformed input ≡ true
unfolding malformed
long_malformed input l = rw (ne_eqb (length input) 2 (λ e. omega arith))

pub reply_enough : (input : List ℕ) → reply (take 3 input) ≡ reply input
reply_enough input = below? 3 (length input)
    (λ long. malformed-reply (take 3 input) (long_malformed (take 3 input) (omega (arith, length-take-le 3 input (omega arith))))
    ∙ sym (malformed-reply input (long_malformed input (omega arith))))
    (λ short. ap reply (take_all 3 input short))
