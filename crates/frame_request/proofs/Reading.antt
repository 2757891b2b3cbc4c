-- The program reads one byte past the largest request, 9 + 4 × 16,384 bytes, and no further. It is enough: an input that is answered with
-- planes is no longer than that, and one that is longer is refused with the number that its first 65,546 bytes are refused with.
-- Assumes nothing.
use Prim.Native.Nat.{ℕ, ◌*◌, ◌≤◌, ◌<◌}
use mathlib.Core.Path.{◌≡◌, refl, sym, ap, ◌∙◌}
use mathlib.Core.Bool.{Bool, true, false, cond, ◌||◌}
use mathlib.Core.List.{List}
use native.Mathlib.Nat.{mul-le-mul, mul_assoc, mul_comm}
use native.Mathlib.Omega.{arith}
use borrow.Author.Tests.{lt-ltb, le-ltb, ltb-false}
use lib.Dec.{ltb, eqb, lit<}
use lib.ListN.{length, get_or, take, drop, length-take, length-drop}
use lib.Seq.{take_all, get_or-take}
use Rattle.yuv_support.specs.Channels.{channels_count}
use Rattle.yuv_error.specs.Numbers.{Numbers}
use Rattle.yuv_error.specs.Rules.{first_numbers, matrix_rules}
use Rattle.yuv_error.proofs.First.{append_finished}
use Rattle.yuv_error.proofs.Accepted.{buffers}
use Rattle.definitions.specs.declared.FrameDescription.{FrameDescription}
use Rattle.definitions.proofs.Planes.{below?}
use Rattle.definitions.proofs.Numbers.{three_or_four}
use Rattle.yuv_error.specs.Lent.{lent_rules}
use Rattle.frame_request.specs.Request.{settings_of, frame_of, source_stride, luma_size, packed_lengths, malformed, opening_rules, buffer_rules, request_rules}
use Rattle.frame_request.proofs.Checked.{checked}
use Rattle.frame_request.proofs.Answers.{rows_size, length_answer, request_answer, request_answer_lem}

-- rows of so few pixels are not long
rows_small : (d : FrameDescription) → luma_size d ≤ 16384 → rows_size d ≤ 65536
rows_small d small =
    let c = channels_count d.settings.channels in
    omega (
      arith,
      mul-le-mul {n₁ = d.width * d.height} {m₁ = c} {n₂ = 16384} {m₂ = 4} small (three_or_four d.settings.channels).1,
      mul_assoc
          d.width c d.height,
      mul_comm c d.height,
      mul_assoc d.width d.height c,
      ap (λ (n : ℕ). d.width * n) (mul_comm c d.height),
    )

pub short_enough : (input : List ℕ) → (first_numbers (request_rules input)).number ≡ 0 → length input ≤ 65545
short_enough input e =
    let d = frame_of input in
    let came = length (drop 9 input) in
    let n = append_finished (opening_rules input) (buffer_rules input) refl e in
    let b = (append_finished (matrix_rules d.settings.matrix) (lent_rules d d.height (source_stride d) (packed_lengths d came)) refl n.1).1 in
    let a = buffers d d.height (source_stride d) (packed_lengths d came) b in
    let k = checked input n.0 in
    omega (arith, a.source_size, rows_small d k.area, length-drop 9 input, k.header)

-- ---- an input cut

cut : List ℕ → List ℕ
cut input = take 65546 input

module _ (input : List ℕ) (long : 65546 < length input) where
  byte : (i : ℕ) → i < 65546 → get_or (cut input) i 0 ≡ get_or input i 0
  unfolding cut
  byte i l = get_or-take 65546 input i 0 l

  cut_size : length (cut input) ≡ 65546
  unfolding cut
  cut_size = length-take 65546 input ∙ omega arith

  cut_frame : frame_of (cut input) ≡ frame_of input
  unfolding frame_of settings_of
  cut_frame = rw (
    byte 0 (lit< tt),
    byte 1 (lit< tt),
    byte 2 (lit< tt),
    byte 3 (lit< tt),
    byte 4 (lit< tt),
    byte 5 (lit< tt),
    byte 6 (lit< tt),
    byte 7
        (lit< tt),
    byte 8 (lit< tt),
  )

  cut-malformed : malformed (cut input) ≡ malformed input
  unfolding malformed
  cut-malformed =
      rw (byte 4 (lit< tt), byte 5 (lit< tt), byte 6 (lit< tt), byte 7 (lit< tt), byte 8 (lit< tt), cut_size, le-ltb (length input) 9 (omega arith))

too_long : (need came : ℕ) → need < came → (length_answer need came).number ≡ 12
too_long need came l = rw (le-ltb came need (omega arith), lt-ltb need came l)

-- what is asked first is the same, and what is asked last has the same number
same_number : (m z a : Bool) (p q r s t : Numbers) → (a ≡ false → s.number ≡ t.number)
    → (cond m p (cond z q (cond a r s))).number ≡ (cond m p (cond z q (cond a r t))).number
same_number true z a p q r s t e = refl
same_number false true a p q r s t e = refl
same_number false false true p q r s t e = refl
same_number false false false p q r s t e = e refl

cut_answer : (input : List ℕ) → 65546 < length input → (request_answer (cut input)).number ≡ (request_answer input).number
unfolding request_answer
cut_answer input long =
    let d = frame_of input in
    rw (cut-malformed input long, cut_frame input long)
    (same_number (malformed input) (eqb d.width 0 || eqb d.height 0) (ltb 16384 (luma_size d)) _ _ _ _ _ (λ a.
    let few = rows_small d (ltb-false 16384 (luma_size d) a) in
    too_long (rows_size d) (length (drop 9 (cut input))) (omega (arith, length-drop 9 (cut input), cut_size input long))
    ∙ sym (too_long (rows_size d) (length (drop 9 input)) (omega (arith, length-drop 9 input)))))

pub read_enough : (input : List ℕ) → (first_numbers (request_rules (take 65546 input))).number ≡ (first_numbers (request_rules input)).number
unfolding cut
read_enough input =
    below? 65546 (length input)
    (λ long. ap (λ (n : Numbers). n.number) (request_answer_lem (cut input)) ∙ cut_answer input long
    ∙ sym (ap (λ (n : Numbers). n.number) (request_answer_lem input)))
    (λ short. rw (take_all 65546 input short))
