-- The check of planes that a call is lent, as a test. Assumes nothing.
use Prim.Native.Nat.{ℕ, ◌*◌, ◌≤◌}
use mathlib.Core.Path.{◌≡◌, sym, ap, ◌∙◌}
use mathlib.Core.Bool.{Bool, true, false, ◌&&◌}
use lib.Dec.{leb, eqb}
use borrow.Author.Tests.{le-leb, leb-true, eq-eqb, eqb-true, eqb-false}
use Rattle.std.specs.Prelude.{Result, Ok, Err}
use Rattle.std.specs.Result.{is_ok}
use Rattle.std.proofs.lemmas.Bool.{and_from, and_parts, false_from_ne_true}
use Rattle.yuv_error.specs.declared.YuvError.{YuvError}
use Rattle.yuv_error.specs.declared.LentBuffer.{LentBuffer}
use Rattle.yuv_error.specs.Numbers.{Numbers, numbers_of, error_numbers}
use Rattle.yuv_error.specs.declared.PlaneShape.{PlaneShape}
use Rattle.yuv_error.specs.Rules.{first_numbers}
use Rattle.yuv_error.specs.Shape.{luma_lent, chroma_lent, shape_rules}
use Rattle.yuv_error.specs.Known.{WholeRows, PlanesWhole}
use Rattle.yuv_error.proofs.Accepted.{shape_accepted}
use Rattle.yuv_error.proofs.Accepts.{shape_passes}
use Rattle.yuv_error.proofs.Numbers.{refused_number}
use Rattle.y4m_picture.specs.declared.PictureFrame.{PictureFrame}
use Rattle.y4m_picture.specs.Picture.{picture_shape, is_plane, planes_allowed}
use Rattle.y4m_picture.specs.Known.{IsFrame}

abbrev test : LentBuffer → Bool
test b = is_plane b.row b.rows b.stride b.len

tested : (b : LentBuffer) → WholeRows b → test b ≡ true
tested b w = and_from (leb b.row b.stride) (eqb b.len (b.stride * b.rows)) (le-leb b.row b.stride w.wide) (eq-eqb b.len (b.stride * b.rows) w.exact)

rows_of : (b : LentBuffer) → test b ≡ true → WholeRows b
rows_of b e =
    let p = and_parts (leb b.row b.stride) (eqb b.len (b.stride * b.rows)) e in
    record { wide = leb-true b.row b.stride p.0; exact = eqb-true b.len (b.stride * b.rows) p.1 }

module _ (f : PictureFrame) (y u v : ℕ) where
  abbrev s : PlaneShape
  s = picture_shape f

  abbrev y_test : Bool
  y_test = test (luma_lent s y)

  abbrev u_test : Bool
  u_test = test (chroma_lent s s.u_stride u)

  abbrev v_test : Bool
  v_test = test (chroma_lent s s.v_stride v)

  pub allowed_whole : planes_allowed f y u v ≡ true → PlanesWhole s y u v
  unfolding planes_allowed
  allowed_whole e =
      let p = and_parts y_test (u_test && v_test) e in
      let q = and_parts u_test v_test p.1 in
      record { y_rows = rows_of _ p.0; u_rows = rows_of _ q.0; v_rows = rows_of _ q.1 }

  whole_allowed : PlanesWhole s y u v → planes_allowed f y u v ≡ true
  unfolding planes_allowed
  whole_allowed w =
      and_from y_test (u_test && v_test) (tested _ w.y_rows) (and_from u_test v_test (tested _ w.u_rows) (tested _ w.v_rows))

  refused : (e : YuvError) → 1 ≤ f.height → error_numbers e ≡ first_numbers (shape_rules s y u v) → planes_allowed f y u v ≡ false
  refused e some is = false_from_ne_true (planes_allowed f y u v) (λ q.
      let none = is ∙ shape_passes s y u v some (allowed_whole q) in
      eqb-false (error_numbers e).number 0 (refused_number e) (ap (λ (x : Numbers). x.number) none))

  -- refusals 8 to 12 are not due exactly where the three are planes
  pub planes_checked : (a : Result Unit YuvError) → IsFrame f → numbers_of a ≡ first_numbers (shape_rules s y u v)
      → is_ok a ≡ planes_allowed f y u v
  planes_checked (Ok done) i is = sym (whole_allowed (shape_accepted s y u v (sym (ap (λ (x : Numbers). x.number) is))))
  planes_checked (Err e) i is = sym (refused e i.height_least is)
