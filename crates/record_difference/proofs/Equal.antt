-- Nothing differs exactly where all is equal: planes of one length that agree to their end are one plane. Assumes nothing.
use Prim.Native.Nat.{ℕ}
use mathlib.Core.Path.{◌≡◌, refl, sym, ◌∙◌, ap}
use mathlib.Core.Bool.{Bool, true, false, cond}
use mathlib.Core.List.{List}
use native.Mathlib.Omega.{arith}
use borrow.Author.Tests.{ltb-false}
use lib.Dec.{ltb}
use lib.ListN.{length}
use Rattle.std.proofs.lemmas.Bool.{true_from_ne_false}
use Rattle.shift_file.specs.declared.ShiftForm.{ShiftForm}
use Rattle.shift_file.specs.File.{ShiftRecord, Allowed}
use Rattle.std.proofs.Common.{Option, Some, None}
use Rattle.plane_difference.specs.Difference.{equal_front, place_of, plane_difference}
use Rattle.plane_difference.proofs.Front.{front_whole, front_same, nowhere}
use Rattle.record_difference.specs.declared.Plane.{Plane}
use Rattle.record_difference.specs.declared.Plane.TheVariants.{Y, U, «V»}
use Rattle.record_difference.specs.declared.Difference.{Difference}
use Rattle.record_difference.specs.Record.{size_of, same_size, plane_of, plane_width, in_plane, difference_in, record_difference}
use Rattle.record_difference.specs.Record.{EqualRecords, SameIsEqual}
use Rattle.record_difference.proofs.Compared.{size_same, size_itself, plane_size, by_sizes, by_planes}

-- ---- a plane

pub plane_equal : (w : ℕ) (a b : List ℕ) → length a ≡ length b → plane_difference w a b ≡ None → a ≡ b
unfolding plane_difference
plane_equal w a b l e = at (ltb (equal_front a b) (length a)) refl e
  where
    at : (t : Bool) → ltb (equal_front a b) (length a) ≡ t → cond t (Some (place_of w (equal_front a b))) None ≡ None → a ≡ b
    at true h q = absurd (cc q)
    at false h q = front_whole a b l (ltb-false (equal_front a b) (length a) h)

pub plane_itself : (w : ℕ) (a : List ℕ) → plane_difference w a a ≡ None
plane_itself w a = sym (nowhere w a a (omega (arith, front_same a)))

-- nothing in this plane, and nothing later
none_told : (plane : Plane) (d : Option (ℕ × ℕ)) (later : Option Difference) → in_plane plane d later ≡ None → (d ≡ None) × (later ≡ None)
none_told plane None later e = (refl, e)
none_told plane (Some place) later e = absurd (cc e)

-- ---- records

module _ (form_r : ShiftForm) (r : ShiftRecord) (form_s : ShiftForm) (s : ShiftRecord) where
  one_size : record_difference form_r r form_s s ≡ None → same_size (size_of form_r r) (size_of form_s s) ≡ true
  one_size e = true_from_ne_false (same_size (size_of form_r r) (size_of form_s s)) (λ h. cc (by_sizes form_r r form_s s h ∙ e))

  module _ (ours : Allowed form_r r) (theirs : Allowed form_s s) where
    same_equal : record_difference form_r r form_s s ≡ None → EqualRecords form_r r form_s s
    same_equal e =
        let sizes = one_size e in
        let size = size_same (size_of form_r r) (size_of form_s s) sizes in
        let y = none_told Y _ _ (by_planes form_r r form_s s sizes ∙ e) in
        let u = none_told U _ _ y.1 in
        let v = none_told «V» _ _ u.1 in
        let long : (plane : Plane) → length (plane_of plane r) ≡ length (plane_of plane s) =
        λ plane. plane_size plane form_r r (size_of form_r r) ours refl ∙ sym (plane_size plane form_s s (size_of form_r r) theirs size) in
        record {
          size = size;
          y = plane_equal _ r.y s.y (long Y) y.0;
          u = plane_equal _ r.u s.u (long U) u.0;
          v = plane_equal _ r.v s.v (long «V») v.0;
        }

  equal_same : EqualRecords form_r r form_s s → record_difference form_r r form_s s ≡ None
  equal_same q =
      let size = size_of form_r r in
      let none : (plane : Plane) → plane_of plane r ≡ plane_of plane s → difference_in plane size r s ≡ None =
      λ plane e. ap (plane_difference (plane_width plane size) (plane_of plane r)) (sym e) ∙ plane_itself (plane_width plane size) (plane_of plane r) in
      sym (by_planes form_r r form_s s (ap (same_size size) (sym q.size) ∙ size_itself size))
      ∙ rw (none Y q.y, none U q.u, none «V» q.v)

pub same_is_equal : SameIsEqual
same_is_equal form_r r form_s s a b = (same_equal form_r r form_s s a b, equal_same form_r r form_s s)
