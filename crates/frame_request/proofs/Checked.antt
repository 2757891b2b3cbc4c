-- What a request is known to be once it was not refused with 1, 2 or 3, and that what is asked of it then is asked of its frame call.
-- Assumes nothing.
use Prim.Native.Nat.{ℕ, ◌≤◌}
use mathlib.Core.Path.{◌≡◌, refl, sym, ◌∙◌}
use mathlib.Core.Bool.{true, false, ◌||◌}
use mathlib.Core.List.{List, [], ◌++◌}
use native.Mathlib.Nat.{mul-le-mul}
use native.Mathlib.Omega.{arith}
use borrow.Author.Tests.{ltb-false, eqb-false}
use lib.Dec.{ltb, eqb}
use lib.ListN.{length, drop}
use Rattle.yuv_error.specs.Rules.{Rule, first_numbers, size_rules}
use Rattle.yuv_error.proofs.First.{numbered, first_append, append_finished}
use Rattle.std.proofs.lemmas.Bool.{or_parts}
use Rattle.yuv_error.proofs.Accepted.{none_holds}
use Rattle.definitions.proofs.Numbers.{chroma_rows}
use Rattle.definitions.specs.Image.{whole_source}
use Rattle.sharp_rgba_to_yuv.specs.FrameCall.{frame_rules}
use Rattle.sharp_rgba_to_yuv.proofs.Whole.{whole_is_old}
use Rattle.frame_request.specs.Request.{frame_of, source_stride, luma_size, chroma_size, packed_lengths}
use Rattle.frame_request.specs.Request.{malformed, header_rules, area_rules, opening_rules, buffer_rules, request_rules}
use Rattle.frame_request.specs.Packed.{Packed}

pub record Checked (input : List ℕ) : Type 0 where
  pub header : 9 ≤ length input
  pub width_least : 1 ≤ (frame_of input).width
  pub width_most : (frame_of input).width ≤ 16384
  pub height_least : 1 ≤ (frame_of input).height
  pub height_most : (frame_of input).height ≤ 16384
  pub area : luma_size (frame_of input) ≤ 16384

pub header_long : (input : List ℕ) → (first_numbers (header_rules input)).number ≡ 0 → 9 ≤ length input
unfolding malformed
header_long input e = ltb-false _ _ (or_parts (ltb (length input) 9) _ (or_parts (malformed input) false (none_holds (header_rules input) refl e 1)).0).0

pub checked : (input : List ℕ) → (first_numbers (opening_rules input)).number ≡ 0 → Checked input
checked input e =
    let d = frame_of input in
    let none = none_holds (opening_rules input) refl e in
    let some = or_parts (eqb d.width 0) (eqb d.height 0) (or_parts (eqb d.width 0 || eqb d.height 0) false (none 2)).0 in
    let few = or_parts (ltb 16384 d.width || ltb 16384 d.height) (ltb 16384 (luma_size d) || false) (none 3) in
    let sides = or_parts (ltb 16384 d.width) (ltb 16384 d.height) few.0 in
    record {
      header = header_long input (append_finished (header_rules input) (size_rules d.width d.height ++ area_rules d.width d.height) refl e).0;
      width_least = omega (arith, eqb-false d.width 0 some.0);
      width_most = ltb-false _ _ sides.0;
      height_least = omega (arith, eqb-false d.height 0 some.1);
      height_most = ltb-false _ _ sides.1;
      area = ltb-false _ _ (or_parts (ltb 16384 (luma_size d)) false few.1).0;
    }

-- a chroma plane is not longer than the luma plane
pub chroma_small : (input : List ℕ) → Checked input → chroma_size (frame_of input) ≤ luma_size (frame_of input)
chroma_small input k =
    let d = frame_of input in
    mul-le-mul (omega (arith, k.width_least)) (chroma_rows d.settings.sampling d.height k.height_least).1

pub packed : (input : List ℕ) → Checked input → Packed (frame_of input)
unfolding frame_of
packed input k = record {
  width_least = k.width_least;
  width_most = k.width_most;
  height_least = k.height_least;
  height_most = k.height_most;
  y_stride = refl;
  u_stride = refl;
  v_stride = refl;
  luma_most = k.area;
  chroma_most = omega (arith, k.area, chroma_small input k);
}

-- rules of which none holds change no answer
after_none : (xs ys : List Rule) → numbered xs ≡ true → (first_numbers xs).number ≡ 0 → first_numbers (xs ++ ys) ≡ first_numbers ys
after_none xs ys n e = rw e at (first_append xs ys n)

-- a request's frame is its whole source
whole_window : (input : List ℕ) → let d = frame_of input in d.window ≡ whole_source d.width d.height
unfolding frame_of
whole_window input = refl

-- so the frame call asks what it would ask without a window, and 2 and 3, asked again, do not hold
pub frame_asks : (input : List ℕ) → (first_numbers (opening_rules input)).number ≡ 0
    → let d = frame_of input in first_numbers (frame_rules d (source_stride d) (packed_lengths d (length (drop 9 input)))) ≡ first_numbers (request_rules input)
unfolding frame_of
frame_asks input e =
    let d = frame_of input in
    let size = (append_finished (header_rules input) (size_rules d.width d.height ++ area_rules d.width d.height) refl e).1 in
    let side = (append_finished (size_rules d.width d.height) (area_rules d.width d.height) refl size).0 in
    (whole_is_old d (source_stride d) [] (packed_lengths d (length (drop 9 input))) (whole_window input)).rules
    ∙ after_none (size_rules d.width d.height) (buffer_rules input) refl side ∙ sym (after_none (opening_rules input) (buffer_rules input) refl e)
