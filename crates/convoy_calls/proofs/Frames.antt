-- The frames of a convoy from numbers, one after the other.
-- Assumes nothing.
use Prim.Native.Nat.{ℕ, ◌+◌, ◌*◌, ◌≤◌, ◌<◌}
use mathlib.Core.Path.{◌≡◌, sym, ap, ◌∙◌}
use mathlib.Core.Bool.{Bool, true, cond}
use mathlib.Core.List.{List}
use native.Mathlib.Omega.{arith}
use borrow.Author.Tests.{le-ltb}
use lib.Ieee.{Float}
use lib.ListN.{length, get_or, take, drop}
use lib.Seq.{get_or-take, get_or-drop}
use Rattle.std.specs.Prelude.{None}
use Rattle.std.proofs.lemmas.List.FromFn.{length-map-range_with_len, get_or-map-range_with_len, take-map-range_with_len}
use Rattle.yuv_error.specs.declared.Lengths.{Lengths}
use Rattle.call_numbers.specs.Codes.{at}
use Rattle.convoy_parts.specs.Parts.{no_frame, frame_at, too_many, broken_parts}
use Rattle.convoy_parts.proofs.Broken.{broken_is_exact}
use Rattle.convoy_calls.specs.Numbers.{numbers_at, custom_at, described_by, frame_of, convoy_of}

module _ (numbers : List ℕ) (customs : List Float) (parts : List ℕ) where
  pub convoy_length : (count : ℕ) → length (convoy_of count numbers customs parts) ≡ count
  unfolding convoy_of
  convoy_length count = length-map-range_with_len (frame_of numbers customs parts) 0 count

  -- frame k of the convoy is the one that its numbers describe
  pub convoy_frame : (count k : ℕ) → k < count → frame_at (convoy_of count numbers customs parts) k ≡ frame_of numbers customs parts k
  unfolding convoy_of
  convoy_frame count k l =
      get_or-map-range_with_len (frame_of numbers customs parts) 0 count k k no_frame l (let e : 0 + k ≡ k = omega arith in e)

  -- the first frames of those that there is room for
  pub convoy_first : (count : ℕ) → count ≤ 64 → take count (convoy_of 64 numbers customs parts) ≡ convoy_of count numbers customs parts
  unfolding convoy_of
  convoy_first count l = take-map-range_with_len (frame_of numbers customs parts) 0 64 count l

  -- more than there is room for are refused
  pub convoy_many : (count : ℕ) → 64 < count → (n : Lengths) → broken_parts (convoy_of count numbers customs parts) n ≡ true
  convoy_many count l n = (broken_is_exact (convoy_of count numbers customs parts) n).1 (too_many (omega (arith, convoy_length count)))

-- what its sixteen numbers describe, and its source's stride
pub frame_described : (numbers : List ℕ) (customs : List Float) (parts : List ℕ) (k : ℕ) → 16 * k + 16 ≤ length numbers
    → (frame_of numbers customs parts k).described ≡ described_by (numbers_at numbers k) (custom_at customs k)
unfolding frame_of
frame_described numbers customs parts k l =
    ap (λ (b : Bool). cond b None (described_by (numbers_at numbers k) (custom_at customs k))) (le-ltb (length numbers) (16 * k + 16) l)

pub frame_stride : (numbers : List ℕ) (customs : List Float) (parts : List ℕ) (k : ℕ)
    → (frame_of numbers customs parts k).stride ≡ at (numbers_at numbers k) 0
unfolding frame_of
frame_stride numbers customs parts k =
    sym (get_or-take 16 (drop (16 * k) numbers) 0 0 (omega arith) ∙ get_or-drop (16 * k) numbers 0 0
    ∙ ap (λ (i : ℕ). get_or numbers i 0) (let e : 16 * k + 0 ≡ 16 * k = omega arith in e))
