-- The promise of a frame call, from what its two answers give: refused, no byte moved; finished, the band of all rows, in the source from row top on, is the frame.
-- Assumes nothing.
use Prim.Native.Nat.{ℕ, ◌+◌, ◌*◌}
use mathlib.Core.Path.{◌≡◌, refl, sym, subst, ◌∙◌}
use mathlib.Core.List.{List}
use native.Mathlib.Nat.{le_refl}
use native.Mathlib.Omega.{arith}
use lib.ListN.{drop}
use Rattle.yuv_error.specs.declared.YuvError.{YuvError}
use Rattle.std.specs.Prelude.{Result, Ok, Err}
use Rattle.yuv_error.specs.Numbers.{numbers_of}
use Rattle.yuv_error.specs.Rules.{first_numbers}
use Rattle.yuv_error.specs.Lent.{lengths_of, taken}
use Rattle.definitions.specs.declared.FrameDescription.{FrameDescription}
use Rattle.definitions.specs.Image.{Image, frame_image}
use Rattle.definitions.specs.Bands.{band_image, Sharpened}
use Rattle.definitions.proofs.Planes.{plane_same}
use Rattle.definitions.proofs.Bands.{Sharpened-none, all_rows_image}
use Rattle.definitions.proofs.Windows.{from_top}
use Rattle.sharp_rgba_to_yuv.proofs.Accepted.{all_rows}
use Rattle.sharp_rgba_to_yuv.specs.FrameCall.{FrameCall, frame_call, frame_rules, FramePost, Unwritten}

module _ (d : FrameDescription) (stride : ℕ) (source y u v : List ℕ) (answer : Result Unit YuvError)
    (numbers : numbers_of answer ≡ first_numbers (frame_rules d stride (lengths_of source y u v))) where
  pub refused : {e : YuvError} → answer ≡ Err e → FramePost (frame_call d stride source y u v answer y u v)
  refused is = record {
    answered = numbers;
    planes = subst (λ (a : Result Unit YuvError). Sharpened d 0 (taken a d.height) (frame_image d stride source) y u v y u v) (sym is) (Sharpened-none d 0 _ y u v);
  }

  pub finished : answer ≡ Ok tt → (y' u' v' : List ℕ) → Sharpened d 0 (0 + d.height) (band_image (all_rows d stride) (drop (d.window.top * stride) source) source) y u v y' u' v'
      → FramePost (frame_call d stride source y u v answer y' u' v')
  finished is y' u' v' h = record {
    answered = numbers;
    planes = subst (λ (a : Result Unit YuvError). Sharpened d 0 (taken a d.height) (frame_image d stride source) y u v y' u' v') (sym is)
        (subst (λ (n : ℕ). Sharpened d 0 n (frame_image d stride source) y u v y' u' v') (let e : 0 + d.height ≡ d.height = omega arith in e)
        (subst (λ (image : Image). Sharpened d 0 (0 + d.height) image y u v y' u' v')
        (all_rows_image (all_rows d stride) (drop (d.window.top * stride) source) source refl ∙ from_top d stride source) h));
  }

-- a refusal writes no byte (RULES 7.2)
pub refused_writes_nothing : (k : FrameCall) {e : YuvError} → k.answer ≡ Err e → FramePost k → Unwritten k
refused_writes_nothing k is p =
    let none = rw is at p.planes in
    (plane_same _ _ _ _ _ _ _ (le_refl _) none.luma, plane_same _ _ _ _ _ _ _ (le_refl _) none.cb, plane_same _ _ _ _ _ _ _ (le_refl _) none.cr)
