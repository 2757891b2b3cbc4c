-- Where the rows of an accepted band stand: in its source and in each plane there is room for them.
-- Assumes nothing.
use Prim.Native.Nat.{ℕ, ◌+◌, ◌*◌, ◌-◌, ◌%◌, ◌≤◌, ◌<◌}
use mathlib.Core.Path.{◌≡◌, refl, ap, subst⁻¹}
use native.Mathlib.Nat.{mul_comm}
use native.Mathlib.Omega.{arith}
use Rattle.yuv_support.specs.declared.YuvChromaSubsampling.{YuvChromaSubsampling}
use Rattle.yuv_support.specs.declared.YuvChromaSubsampling.TheVariants.{Yuv420, Yuv422}
use Rattle.yuv_support.specs.Sampling.{chroma_height}
use Rattle.definitions.specs.Image.{pixel_size, row_size, row_start, chroma_size, chroma_rows}
use Rattle.definitions.proofs.Numbers.{row_end, next_row, columns_inside}
use Rattle.definitions.specs.declared.Band.{Band}
use Rattle.band_steps.specs.declared.Step.{Step}
use Rattle.yuv_error.specs.Known.{Lent}
use Rattle.band_steps.specs.Steps.{chroma_row, step_of, SourceAt, PlaneAt, YAt, ChromaAt, PairAt}

-- row k of a plane of whole rows
plane_place : (stride n rows k at length : ℕ) → n ≤ stride → length ≡ stride * rows → k < rows → at ≡ k * stride → PlaneAt stride n k at n length
plane_place stride n rows k at length wide size inside place = record {
  place = place;
  size = refl;
  row = wide;
  room = omega (arith, row_end k rows stride inside, mul_comm stride rows);
}

chroma_row_inside : (s : YuvChromaSubsampling) (h row : ℕ) → row < h → chroma_row s row < chroma_height s h
chroma_row_inside Yuv420 h row l = omega arith
chroma_row_inside Yuv422 h row l = l

-- a step's row
pub row_is : (b : Band) {row : ℕ} {s : Step} → s ≡ step_of b row → s.row ≡ row
row_is b e = ap (λ (s : Step). s.row) e

-- the frame's columns lie in a source row
in_row : (b : Band) {source y u v : ℕ} → Lent b source y u v
    → b.frame.window.left * pixel_size b.frame + row_size b.frame ≤ b.stride
in_row b lent =
    let d = b.frame in
    omega (arith, columns_inside d.window.left d.width d.window.source_width (pixel_size d) lent.sized.right, lent.given.source_row)

module _ (b : Band) {source y u v : ℕ} (lent : Lent b source y u v) {row : ℕ} (least : b.done ≤ row) (most : row < b.done + b.rows) where
  pub inside : row < b.frame.height
  inside = omega (arith, lent.given.rows_most)

  source_end : (row - b.done) * b.stride + b.stride ≤ source
  source_end = omega (arith, row_end (row - b.done) b.rows b.stride (omega arith), mul_comm b.stride b.rows, lent.given.source_size)

  -- the frame's pixels in the row
  row_inside : row_start b.frame b.stride (row - b.done) + row_size b.frame ≤ (row - b.done) * b.stride + b.stride
  row_inside = omega (arith, in_row b lent)

  module _ {s : Step} (is : s ≡ step_of b row) where
    pub source_at : {count : ℕ} → count ≡ pixel_size b.frame → SourceAt count b s source
    source_at {count} pixel = subst⁻¹ (λ (s : Step). SourceAt count b s source) is
        (record { pixel = pixel; least = least; most = most; place = refl; size = refl; room = omega (arith, source_end, row_inside) })

    pub y_at : YAt b s y
    y_at = subst⁻¹ (λ (s : Step). YAt b s y) is
        (plane_place b.frame.y_stride b.frame.width b.frame.height row _ y lent.planes.y_row lent.planes.y_size inside refl)

    pub chroma_at : ChromaAt b s u v
    chroma_at =
        let k = chroma_row_inside b.frame.settings.sampling b.frame.height row inside in
        subst⁻¹ (λ (s : Step). ChromaAt b s u v) is (record {
          in_u = plane_place b.frame.u_stride (chroma_size b.frame) (chroma_rows b.frame) _ _ u lent.planes.u_row
              lent.planes.u_size k refl;
          in_v = plane_place b.frame.v_stride (chroma_size b.frame) (chroma_rows b.frame) _ _ v lent.planes.v_row
              lent.planes.v_size k refl;
        })

-- a row and the next, from an even row on
module _ (b : Band) {source y u v : ℕ} (lent : Lent b source y u v) {row : ℕ} (least : b.done ≤ row) (most : row + 2 ≤ b.done + b.rows)
    (even : row % 2 ≡ 0) {s : Step} (is : s ≡ step_of b row) where
  pub pair_at : PairAt b s source y
  pair_at =
      let d = b.frame in
      let h : row + 2 ≤ d.height = omega (arith, lent.given.rows_most) in
      let i = row - b.done in
      subst⁻¹ (λ (s : Step). PairAt b s source y) is (record {
        even = even;
        most = most;
        height = h;
        source_room = omega (
          arith,
          next_row i b.stride,
          row_end (i + 1) b.rows b.stride (omega arith),
          mul_comm b.stride b.rows,
          lent.given.source_size,
          in_row b lent,
        );
        y_room = omega (
          arith,
          next_row row d.y_stride,
          row_end (row + 1) d.height d.y_stride (omega (arith, h)),
          mul_comm d.y_stride
              d.height,
          lent.planes.y_size,
          lent.planes.y_row,
        );
      })
