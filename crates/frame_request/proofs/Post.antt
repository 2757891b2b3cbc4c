-- The promise of a request, from what its checks and its frame call answered. Assumes nothing.
use Prim.Native.Nat.{ℕ, ◌≤◌, zero-le}
use mathlib.Core.Path.{◌≡◌, refl, sym, ap, ◌∙◌}
use mathlib.Core.Bool.{false}
use mathlib.Core.List.{List, ◌++◌}
use native.Mathlib.Omega.{arith}
use lib.ListN.{length, drop}
use Rattle.yuv_error.specs.declared.YuvError.{YuvError}
use Rattle.std.specs.Prelude.{Result, Ok, Err}
use Rattle.yuv_error.specs.Numbers.{Numbers, numbers_of}
use Rattle.yuv_error.specs.Rules.{first_numbers, size_rules}
use Rattle.yuv_error.proofs.First.{after_refused, append_finished, finished_number}
use Rattle.definitions.specs.Painted.{Painted}
use Rattle.definitions.proofs.Painted.{Painted-none}
use Rattle.definitions.specs.declared.FrameDescription.{FrameDescription}
use Rattle.definitions.specs.Image.{frame_image}
use Rattle.yuv_error.specs.Lent.{taken}
use Rattle.sharp_rgba_to_yuv.specs.FrameCall.{frame_rules}
use Rattle.frame_request.specs.Request.{frame_of, source_stride, packed_lengths, malformed, area_rules, opening_rules, buffer_rules, request_rules}
use Rattle.frame_request.specs.Request.{output_at, output_size, bytes_said, answer_at, RequestPost}
use Rattle.frame_request.proofs.Checked.{checked, chroma_small, frame_asks}

-- what is asked first of a request that is not malformed
opening : (input : List ℕ) (d : FrameDescription) → malformed input ≡ false → d ≡ frame_of input
    → first_numbers (size_rules d.width d.height ++ area_rules d.width d.height) ≡ first_numbers (opening_rules input)
opening input d m frame = rw (m, frame) refl

pub opened : (input : List ℕ) (d : FrameDescription) {a : Result Unit YuvError} → malformed input ≡ false → d ≡ frame_of input → a ≡ Ok tt
    → numbers_of a ≡ first_numbers (size_rules d.width d.height ++ area_rules d.width d.height) → (first_numbers (opening_rules input)).number ≡ 0
opened input d m frame is n = finished_number (opening_rules input) is (n ∙ opening input d m frame)

-- refused with 2 or 3
pub refused_size : (input output : List ℕ) (d : FrameDescription) {a : Result Unit YuvError} {e : YuvError} → malformed input ≡ false → d ≡ frame_of input
    → a ≡ Err e → numbers_of a ≡ first_numbers (size_rules d.width d.height ++ area_rules d.width d.height) → RequestPost input output (Err e) output
refused_size input output d m frame is n = record {
  answered = sym (ap numbers_of is) ∙ after_refused (opening_rules input) (buffer_rules input) refl is (n ∙ opening input d m frame);
  said = refl;
  written = Painted-none (answer_at input) output;
}

-- what the frame call of a request answered and left
pub record Called (input output : List ℕ) (a : Result Unit YuvError) (output' : List ℕ) : Type 0 where
  pub answered : numbers_of a ≡ first_numbers (request_rules input)
  pub written : Painted (taken a (output_size (frame_of input))) (answer_at input) output output'

pub called : (input output output' : List ℕ) (d : FrameDescription) (source : List ℕ) (a : Result Unit YuvError)
    → d ≡ frame_of input → source ≡ drop 9 input → (first_numbers (opening_rules input)).number ≡ 0
    → numbers_of a ≡ first_numbers (frame_rules d (source_stride d) (packed_lengths d (length source)))
    → Painted (taken a (output_size d)) (output_at d (frame_image d (source_stride d) source)) output output'
    → Called input output a output'
called input output output' d source a frame rows opened n w = record {
  answered = rw (frame, rows) at n ∙ frame_asks input opened;
  written = rw (frame, rows) at w;
}

-- finished, with the bytes of the planes
pub posted : {input output output' : List ℕ} {a : Result Unit YuvError} {n : ℕ} → a ≡ Ok tt → n ≡ output_size (frame_of input) → Called input output a output'
    → RequestPost input output (Ok n) output'
posted is size c =
    let written = rw is at c.written in
    record { answered = rw is at c.answered; said = size; written = rw (← size) at written }

-- refused by the frame call
pub refused_late : {input output output' : List ℕ} {a : Result Unit YuvError} {e : YuvError} → a ≡ Err e → Called input output a output'
    → RequestPost input output (Err e) output'
refused_late is c = record { answered = rw is at c.answered; said = refl; written = rw is at c.written }

-- ---- what a caller reads off the promise

-- 49,152 bytes hold the planes of every request that is not refused
pub bytes_most : (input output : List ℕ) (r : Result ℕ YuvError) (output' : List ℕ) → RequestPost input output r output' → bytes_said r ≤ 49152
bytes_most input output (Ok n) output' p =
    let zero = sym (ap (λ (x : Numbers). x.number) p.answered) in
    let k = checked input (append_finished (opening_rules input) (buffer_rules input) refl zero).0 in
    omega (arith, p.said, k.area, chroma_small input k)
bytes_most input output (Err e) output' p = zero-le
