-- The other way round: where each bound holds, no refusal is answered. Assumes nothing.
use Prim.Native.Nat.{ℕ, ◌+◌, ◌≤◌}
use Rattle.std.specs.Prelude.{Ok}
use mathlib.Core.Bool.{true, false}
use mathlib.Core.List.{List, ◌++◌}
use mathlib.Core.Path.{◌≡◌, refl, sym, ◌∙◌}
use native.Mathlib.Nat.{mul-sub, mul-le-mul_left}
use native.Mathlib.Omega.{arith}
use lib.Ieee.Bits.{is_true}
use borrow.Author.Tests.{le-ltb, eq-eqb, ne_eqb}
use Rattle.yuv_support.specs.Matrix.{accepted}
use Rattle.definitions.specs.declared.FrameDescription.{FrameDescription}
use Rattle.definitions.proofs.Numbers.{chroma_rows}
use Rattle.yuv_error.specs.Numbers.{numbers}
use Rattle.yuv_error.specs.Rules.{Rule, first_numbers, planes_rules, buffer_rules, least_of, whole_of, too_narrow, too_short, not_whole}
use Rattle.yuv_error.specs.Shape.{luma_lent, chroma_lent, shape_rules}
use Rattle.yuv_error.specs.Lent.{opening_rules, lent_rules}
use Rattle.yuv_error.specs.Known.{Sized, WholeRows, PlanesWhole}
use Rattle.yuv_error.specs.declared.LentBuffer.{LentBuffer}
use Rattle.yuv_error.specs.declared.Lengths.{Lengths}
use Rattle.yuv_error.specs.declared.PlaneShape.{PlaneShape}
use Rattle.yuv_error.proofs.First.{numbered, after_finished}
use Rattle.yuv_error.proofs.Accepted.{AcceptedBuffers, Buffers}

-- no rule of two lists holds, one after the other
pub both_pass : (xs ys : List Rule) → numbered xs ≡ true → first_numbers xs ≡ numbers 0 0 0 → first_numbers ys ≡ numbers 0 0 0 → first_numbers (xs ++ ys) ≡ numbers 0 0 0
both_pass xs ys n p q = after_finished {a = Ok tt} xs ys n refl (sym p) ∙ q

pub opening_passes : {d : FrameDescription} → Sized d → first_numbers (opening_rules d) ≡ numbers 0 0 0
opening_passes {d} s =
    let w = d.width in
    let h = d.height in
    rw (
      ne_eqb w 0 (λ e. omega (arith, s)),
      ne_eqb h 0 (λ e. omega (arith, s)),
      le-ltb 16384 w s.width_most,
      le-ltb 16384 h s.height_most,
      le-ltb 16384 d.window.source_width s.source_width_most,
      le-ltb 16384 d.window.source_height s.source_height_most,
      le-ltb d.window.source_width (d.window.left + w) s.right,
      le-ltb d.window.source_height (d.window.top + h) s.bottom,
      is_true (accepted d.settings.matrix) s.matrix,
    )

-- none of the three conditions of a buffer holds
passes : (b : LentBuffer) → 1 ≤ b.rows → WholeRows b → (too_short b ≡ false) × (too_narrow b ≡ false) × (not_whole b ≡ false)
passes b some w = (
  le-ltb b.len (least_of b) (omega (arith, mul-sub b.stride b.rows 1, mul-le-mul_left {m = 1} {n = b.rows} b.stride some)),
  le-ltb b.stride b.row w.wide,
  rw (eq-eqb b.len (whole_of b) w.exact),
)

accepts_buffers : {source y u v : LentBuffer} → 1 ≤ source.rows → 1 ≤ y.rows → 1 ≤ u.rows → 1 ≤ v.rows → AcceptedBuffers source y u v
    → first_numbers (buffer_rules source y u v) ≡ numbers 0 0 0
accepts_buffers {source} {y} {u} {v} s_some y_some u_some v_some a =
    let p = passes source s_some a.source_rows in
    let q = passes y y_some a.y_rows in
    let r = passes u u_some a.u_rows in
    let t = passes v v_some a.v_rows in
    rw (p.0, p.1, q.0, q.1, r.0, r.1, t.0, t.1, p.2, q.2, r.2, t.2)

-- planes alone
pub planes_pass : (y u v : LentBuffer) → 1 ≤ y.rows → 1 ≤ u.rows → 1 ≤ v.rows → WholeRows y → WholeRows u → WholeRows v
    → first_numbers (planes_rules y u v) ≡ numbers 0 0 0
planes_pass y u v y_some u_some v_some y_rows u_rows v_rows =
    let q = passes y y_some y_rows in
    let r = passes u u_some u_rows in
    let t = passes v v_some v_rows in
    rw (q.0, q.1, r.0, r.1, t.0, t.1, q.2, r.2, t.2)

-- planes of a shape
pub shape_passes : (s : PlaneShape) (y u v : ℕ) → 1 ≤ s.height → PlanesWhole s y u v → first_numbers (shape_rules s y u v) ≡ numbers 0 0 0
shape_passes s y u v some p =
    let c = (chroma_rows s.sampling s.height some).0 in
    planes_pass (luma_lent s y) (chroma_lent s s.u_stride u) (chroma_lent s s.v_stride v) some c c p.y_rows p.u_rows p.v_rows

pub lent_passes : {d : FrameDescription} {rows stride : ℕ} {n : Lengths} → Sized d → 1 ≤ rows → Buffers d rows stride n
    → first_numbers (lent_rules d rows stride n) ≡ numbers 0 0 0
lent_passes {d} s some l =
    let c = chroma_rows d.settings.sampling d.height s.height_least in
    accepts_buffers some s.height_least c.0 c.0 (record {
      source_rows = record { wide = l.source_row; exact = l.source_size };
      y_rows = record { wide = l.planes.y_row; exact = l.planes.y_size };
      u_rows = record { wide = l.planes.u_row; exact = l.planes.u_size };
      v_rows = record { wide = l.planes.v_row; exact = l.planes.v_size };
    })
