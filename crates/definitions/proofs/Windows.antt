-- A window onto a source: where each byte of a frame's pixels stands, and that the rows from its first one on, cut off, are the frame.
-- Assumes nothing.
use Prim.Native.Nat.{ℕ, ◌+◌, ◌*◌, ◌-◌, ◌<◌}
use mathlib.Core.Path.{◌≡◌, ap, fun_ext, ◌∙◌}
use mathlib.Core.List.{List}
use native.Mathlib.Nat.{add-mul, mul-le-mul_right, one-mul}
use native.Mathlib.Omega.{arith}
use lib.ListN.{get_or, take, drop}
use lib.Seq.{get_or-take, get_or-drop, drop-drop}
use Rattle.definitions.specs.declared.FrameDescription.{FrameDescription}
use Rattle.definitions.specs.declared.Band.{Band}
use Rattle.definitions.specs.Row.{pixels_of}
use Rattle.definitions.specs.Image.{pixel_size, row_size, row_start, row_bytes, source_image, frame_image}
use Rattle.definitions.specs.Bands.{own_rows}

-- the part of a band's source that is lent for a row is that row's pixels
pub own_row : (b : Band) (source : List ℕ) (i at size : ℕ) → at ≡ row_start b.frame b.stride (i - b.done) → size ≡ row_size b.frame
    → pixels_of (pixel_size b.frame) (take (at + size - at) (drop at source)) ≡ own_rows b source i
unfolding own_rows source_image row_bytes
own_row b source i at size place long = let a : at + size - at ≡ row_size b.frame = omega arith in rw (a, place)

module _ (d : FrameDescription) (stride : ℕ) (source : List ℕ) where
  -- RULES 2.2: byte i of pixel x of row r
  pub byte_place : (r x i : ℕ) → x < d.width → i < pixel_size d
      → frame_image d stride source r x i ≡ get_or source ((d.window.top + r) * stride + (d.window.left + x) * pixel_size d + i) 0
  unfolding source_image row_bytes pixels_of
  byte_place r x i inside byte =
      let c = pixel_size d in
      let at = row_start d stride (d.window.top + r) in
      get_or-take (row_size d) (drop at source) (x * c + i) 0
      (omega (arith, mul-le-mul_right {m = x + 1} {n = d.width} c (omega arith), add-mul x 1 c, one-mul c))
      ∙ get_or-drop at source (x * c + i) 0
      ∙ ap (λ (p : ℕ). get_or source p 0) (omega (arith, add-mul d.window.left x c))

  -- the rows from row top on
  pub from_top : source_image d stride (drop (d.window.top * stride) source) ≡ frame_image d stride source
  unfolding source_image row_bytes
  from_top = fun_ext (λ r. ap (λ (l : List ℕ). pixels_of (pixel_size d) (take (row_size d) l)) (
      drop-drop (row_start d stride r) (d.window.top * stride) source
      ∙ ap (λ (p : ℕ). drop p source) (let e : d.window.top * stride + row_start d stride r ≡ row_start d stride (d.window.top + r)
      = omega (arith, add-mul d.window.top r stride) in e)
      ))
