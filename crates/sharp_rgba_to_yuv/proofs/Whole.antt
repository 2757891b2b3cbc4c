-- With the whole source as window a call is the call without one: 3 is asked of the same sizes twice, 14 does not hold, and the rows start where they did.
-- Assumes nothing.
use Prim.Native.Nat.{ℕ, ◌+◌, ◌*◌}
use mathlib.Core.Path.{◌≡◌, refl, ap, subst⁻¹}
use mathlib.Core.Bool.{Bool, true, false, cond, ◌||◌}
use mathlib.Core.List.{List}
use native.Mathlib.Omega.{arith}
use borrow.Author.Tests.{le-ltb}
use lib.Dec.{ltb, eqb}
use lib.ListN.{take, drop}
use Rattle.yuv_error.specs.declared.Lengths.{Lengths}
use Rattle.yuv_error.specs.Numbers.{Numbers, numbers}
use Rattle.definitions.specs.declared.Window.{Window}
use Rattle.definitions.specs.declared.FrameDescription.{FrameDescription}
use Rattle.definitions.specs.Row.{pixels_of}
use Rattle.definitions.specs.Image.{whole_source, pixel_size, row_size, row_start, row_bytes, source_image}
use Rattle.sharp_rgba_to_yuv.specs.Same.{elsewhere, WithoutWindow, WholeIsOld}

twice : (b : Bool) (x y : Numbers) → cond b x (cond b x y) ≡ cond b x y
twice true x y = refl
twice false x y = refl

-- the frame with another window
abbrev in_window : FrameDescription → Window → FrameDescription
in_window d o = elsewhere d o d.y_stride d.u_stride d.v_stride

of_whole : (d : FrameDescription) (stride : ℕ) (source : List ℕ) (n : Lengths)
    → WithoutWindow (in_window d (whole_source d.width d.height)) stride source n
unfolding source_image row_bytes
of_whole d stride source n =
    let w = d.width in
    let h = d.height in
    record {
      rules = rw (le-ltb w (0 + w) (omega arith), le-ltb h (0 + h) (omega arith))
          (ap (λ (x : Numbers). cond (eqb w 0 || eqb h 0) (numbers 2 0 0) x) (twice (ltb 16384 w || ltb 16384 h) (numbers 3 0 0) _));
      image = λ r. ap (λ (p : ℕ). pixels_of (pixel_size d) (take (row_size d) (drop p source)))
          (let e : row_start (in_window d (whole_source w h)) stride (0 + r) ≡ r * stride = omega arith in e);
    }

pub whole_is_old : WholeIsOld
whole_is_old d stride source n e = subst⁻¹ (λ (o : Window). WithoutWindow (in_window d o) stride source n) e (of_whole d stride source n)
