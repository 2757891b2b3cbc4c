-- What a frame call that was not refused was lent, and the other way round: no rule of its list holds.
-- Assumes nothing.
use Prim.Native.Nat.{ℕ, ◌+◌, ◌*◌, ◌-◌, ◌≤◌}
use mathlib.Core.Path.{◌≡◌, refl}
use native.Mathlib.Nat.{mul_comm, mul-le-mul_left}
use native.Mathlib.Omega.{arith}
use Rattle.std.specs.Prelude.{Result, Ok}
use Rattle.yuv_error.specs.declared.YuvError.{YuvError}
use Rattle.yuv_error.specs.declared.Lengths.{Lengths}
use Rattle.yuv_error.specs.Numbers.{numbers, numbers_of}
use Rattle.yuv_error.specs.Rules.{first_numbers}
use Rattle.yuv_error.specs.Lent.{lengths_of, opening_rules, lent_rules}
use Rattle.yuv_error.specs.Known.{Sized, Lent}
use Rattle.yuv_error.proofs.First.{append_finished, finished_number}
use Rattle.yuv_error.proofs.Accepted.{opened, Buffers, buffers}
use Rattle.yuv_error.proofs.Accepts.{both_pass, opening_passes, lent_passes}
use Rattle.definitions.specs.declared.FrameDescription.{FrameDescription}
use Rattle.definitions.specs.declared.Band.{Band}
use Rattle.definitions.specs.Image.{pixel_size}
use Rattle.definitions.proofs.Numbers.{three_or_four, columns_inside}
use Rattle.sharp_rgba_to_yuv.specs.FrameCall.{FrameCall, frame_rules, FramePost}

-- a frame call is a band of all rows, in the source from row top on; the source stands for the carried row, and is long enough for one
abbrev pub all_rows : FrameDescription → (stride : ℕ) → Band
all_rows d stride = record { frame = d; done = 0; rows = d.height; stride = stride }

pub record Accepted (d : FrameDescription) (stride : ℕ) (n : Lengths) : Type 0 where
  pub whole : n.source ≡ stride * d.window.source_height
  pub inside : d.window.top * stride ≤ n.source
  pub lent : Lent (all_rows d stride) (n.source - d.window.top * stride) n.y n.u n.v
  pub carried : 3 * d.width ≤ n.source

pub accepted : (d : FrameDescription) (stride : ℕ) (n : Lengths) → (first_numbers (frame_rules d stride n)).number ≡ 0 → Accepted d stride n
accepted d stride n e =
    let w = d.window in
    let h = w.source_height in
    let parts = append_finished (opening_rules d) (lent_rules d h stride n) refl e in
    let o = opened d parts.0 in
    let l = buffers d h stride n parts.1 in
    let rows : w.top * stride + stride * d.height ≤ n.source =
    omega (arith, columns_inside w.top d.height h stride o.bottom, mul_comm stride h, mul_comm stride d.height, l.source_size) in
    record {
      whole = l.source_size;
      inside = omega (arith, rows);
      lent = record {
        sized = o;
        given = record { rows_least = o.height_least; rows_most = omega arith; source_row = l.source_row; source_size = omega (arith, rows) };
        planes = l.planes;
      };
      carried = long w.source_width (pixel_size d) stride h n.source (three_or_four d.settings.channels).0 l.source_row l.source_size
          (omega (arith, o)) (omega (arith, o.right));
    }
  where
    long : (w c stride h n : ℕ) {v : ℕ} → 3 ≤ c → w * c ≤ stride → n ≡ stride * h → 1 ≤ h → v ≤ w → 3 * v ≤ n
    long w c stride h n three row size some most =
        omega (arith, mul-le-mul_left {m = 3} {n = c} w three, mul_comm w 3, mul-le-mul_left {m = 1} {n = h} stride some)

-- of an answer that is no refusal
pub answered : (d : FrameDescription) (stride : ℕ) (n : Lengths) {a : Result Unit YuvError} → a ≡ Ok tt
    → numbers_of a ≡ first_numbers (frame_rules d stride n) → Accepted d stride n
answered d stride n is e = accepted d stride n (finished_number (frame_rules d stride n) is e)

pub call_Accepted : (k : FrameCall) → k.answer ≡ Ok tt → FramePost k → Accepted k.frame k.stride (lengths_of k.source k.y k.u k.v)
call_Accepted k is p = answered k.frame k.stride (lengths_of k.source k.y k.u k.v) is p.answered

pub frame_passes : {d : FrameDescription} {stride : ℕ} {n : Lengths} → Sized d → Buffers d d.window.source_height stride n
    → first_numbers (frame_rules d stride n) ≡ numbers 0 0 0
frame_passes {d} {stride} {n} s l =
    both_pass (opening_rules d) (lent_rules d d.window.source_height stride n) refl (opening_passes s)
    (lent_passes s (omega (arith, s)) l)
