-- What a caller knows once no refusal was answered: no condition holds, so each bound does. Assumes nothing.
use Prim.Native.Nat.{ℕ, ◌+◌, ◌*◌, ◌≤◌}
use mathlib.Core.Bool.{Bool, true, false, not, ◌||◌}
use mathlib.Core.List.{List}
use mathlib.Core.Path.{◌≡◌, refl, sym, subst}
use native.Mathlib.Omega.{arith}
use lib.Dec.{T, ltb, eqb}
use Rattle.std.proofs.lemmas.Bool.{or_parts}
use borrow.Author.Tests.{ltb-false, eqb-true, eqb-false, not-false}
use Rattle.yuv_support.specs.declared.YuvStandardMatrix.{YuvStandardMatrix}
use Rattle.yuv_support.specs.Matrix.{accepted}
use Rattle.definitions.specs.declared.FrameDescription.{FrameDescription}
use Rattle.definitions.specs.Image.{source_row_size}
use Rattle.yuv_error.specs.Rules.{Rule, first_numbers, planes_rules, buffer_rules, too_narrow, not_whole}
use Rattle.yuv_error.specs.Lowest.{in_order, NoneHolds}
use Rattle.yuv_error.specs.Shape.{luma_lent, chroma_lent, shape_rules}
use Rattle.yuv_error.specs.Lent.{source_of, y_of, u_of, v_of, opening_rules, lent_rules}
use Rattle.yuv_error.specs.Known.{Sized, WholeRows, PlanesWhole, PlanesLent}
use Rattle.yuv_error.specs.declared.LentBuffer.{LentBuffer}
use Rattle.yuv_error.specs.declared.Lengths.{Lengths}
use Rattle.yuv_error.specs.declared.PlaneShape.{PlaneShape}
use Rattle.yuv_error.proofs.Lowest.{first_is_lowest}

-- number 0 is answered where no condition holds
pub none_holds : (rs : List Rule) → in_order 0 rs ≡ true → (first_numbers rs).number ≡ 0 → NoneHolds rs
none_holds rs up e = ((first_is_lowest rs (first_numbers rs) up).0 refl).finished.0 e

-- where 4 does not hold
pub is_accepted : (matrix : YuvStandardMatrix) (others : Bool) → not (accepted matrix) || others ≡ false → T (accepted matrix)
is_accepted matrix others none = subst T (sym (not-false (accepted matrix) (or_parts (not (accepted matrix)) others none).0)) tt

-- ---- 2, 3, 4, 14

pub opened : (d : FrameDescription) → (first_numbers (opening_rules d)).number ≡ 0 → Sized d
opened d e =
    let w = d.width in
    let h = d.height in
    let none = none_holds (opening_rules d) refl e in
    let some = or_parts (eqb w 0) (eqb h 0) (or_parts (eqb w 0 || eqb h 0) false (none 2)).0 in
    let o = d.window in
    let large = or_parts (ltb 16384 w || ltb 16384 h) _ (none 3) in
    let few = or_parts (ltb 16384 w) (ltb 16384 h) large.0 in
    let few_source = or_parts (ltb 16384 o.source_width) (ltb 16384 o.source_height) (or_parts _ false large.1).0 in
    let inside = or_parts (ltb o.source_width (o.left + w)) (ltb o.source_height (o.top + h)) (or_parts _ false (none 14)).0 in
    record {
      width_least = omega (arith, eqb-false w 0 some.0);
      width_most = ltb-false _ _ few.0;
      height_least = omega (arith, eqb-false h 0 some.1);
      height_most = ltb-false _ _ few.1;
      source_width_most = ltb-false _ _ few_source.0;
      source_height_most = ltb-false _ _ few_source.1;
      matrix = is_accepted d.settings.matrix _ (none 4);
      right = ltb-false _ _ inside.0;
      bottom = ltb-false _ _ inside.1;
    }

-- ---- 6 to 12

whole_rows : (b : LentBuffer) → too_narrow b ≡ false → not_whole b ≡ false → WholeRows b
whole_rows b n e = record { wide = ltb-false _ _ n; exact = eqb-true _ _ (not-false _ e) }

pub record AcceptedBuffers (source y u v : LentBuffer) : Type 0 where
  pub source_rows : WholeRows source
  pub y_rows : WholeRows y
  pub u_rows : WholeRows u
  pub v_rows : WholeRows v

accepted_buffers : (source y u v : LentBuffer) → (first_numbers (buffer_rules source y u v)).number ≡ 0 → AcceptedBuffers source y u v
accepted_buffers source y u v e =
    let none = none_holds (buffer_rules source y u v) refl e in
    let s12 = or_parts (not_whole source) _ (none 12) in
    let y12 = or_parts (not_whole y) _ s12.1 in
    let u12 = or_parts (not_whole u) _ y12.1 in
    let v12 = or_parts (not_whole v) _ u12.1 in
    record {
      source_rows = whole_rows source (or_parts (too_narrow source) _ (none 7)).0 s12.0;
      y_rows = whole_rows y (or_parts (too_narrow y) _ (none 8)).0 y12.0;
      u_rows = whole_rows u (or_parts (too_narrow u) _ (none 10)).0 u12.0;
      v_rows = whole_rows v (or_parts (too_narrow v) _ (none 11)).0 v12.0;
    }

-- planes alone
pub accepted_planes : (y u v : LentBuffer) → (first_numbers (planes_rules y u v)).number ≡ 0 → WholeRows y × WholeRows u × WholeRows v
accepted_planes y u v e =
    let none = none_holds (planes_rules y u v) refl e in
    let y12 = or_parts (not_whole y) _ (none 12) in
    let u12 = or_parts (not_whole u) _ y12.1 in
    let v12 = or_parts (not_whole v) _ u12.1 in (
      whole_rows y (or_parts (too_narrow y) _ (none 8)).0 y12.0,
      whole_rows u (or_parts (too_narrow u) _ (none 10)).0 u12.0,
      whole_rows v (or_parts (too_narrow v) _ (none 11)).0 v12.0,
    )

-- planes of a shape
pub shape_accepted : (s : PlaneShape) (y u v : ℕ) → (first_numbers (shape_rules s y u v)).number ≡ 0 → PlanesWhole s y u v
shape_accepted s y u v e =
    let a = accepted_planes (luma_lent s y) (chroma_lent s s.u_stride u) (chroma_lent s s.v_stride v) e in
    record { y_rows = a.0; u_rows = a.1; v_rows = a.2 }

-- the source of so many rows, and the planes
pub record Buffers (d : FrameDescription) (rows stride : ℕ) (n : Lengths) : Type 0 where
  pub source_row : source_row_size d ≤ stride
  pub source_size : n.source ≡ stride * rows
  pub planes : PlanesLent d n.y n.u n.v

pub buffers : (d : FrameDescription) (rows stride : ℕ) (n : Lengths) → (first_numbers (lent_rules d rows stride n)).number ≡ 0 → Buffers d rows stride n
buffers d rows stride n e =
    let b = accepted_buffers (source_of d rows stride n.source) (y_of d n.y) (u_of d n.u) (v_of d n.v) e in
    record {
      source_row = b.source_rows.wide;
      source_size = b.source_rows.exact;
      planes = record {
        y_row = b.y_rows.wide;
        y_size = b.y_rows.exact;
        u_row = b.u_rows.wide;
        u_size = b.u_rows.exact;
        v_row = b.v_rows.wide;
        v_size = b.v_rows.exact;
      };
    }
