-- The place that is told is that of the first byte that differs: the planes before its own tell nothing, so they are equal; and sizes are told
-- exactly where they differ. Assumes nothing.
use Prim.Native.Nat.{ℕ, ◌*◌}
use mathlib.Core.Path.{◌≡◌, refl, sym, ◌∙◌, ap, ap₂, subst}
use mathlib.Core.Bool.{Bool, true, false, true≢false}
use mathlib.Core.Logic.{◌↔◌}
use lib.ListN.{length}
use Rattle.shift_file.specs.declared.ShiftForm.{ShiftForm}
use Rattle.shift_file.specs.File.{ShiftRecord, Allowed}
use Rattle.std.proofs.Common.{Option, Some, None}
use Rattle.plane_difference.specs.Difference.{plane_difference, FirstByte}
use Rattle.plane_difference.proofs.First.{first_byte_told}
use Rattle.record_difference.specs.declared.Plane.{Plane}
use Rattle.record_difference.specs.declared.Plane.TheVariants.{Y, U, «V»}
use Rattle.record_difference.specs.declared.FrameSize.{FrameSize}
use Rattle.record_difference.specs.declared.PlanePlace.{PlanePlace}
use Rattle.record_difference.specs.declared.Difference.{Difference}
use Rattle.record_difference.specs.declared.Difference.TheVariants.{Sizes, At}
use Rattle.record_difference.specs.Record.{size_of, same_size, plane_of, plane_width, plane_height, in_plane, difference_in, planes_difference}
use Rattle.record_difference.specs.Record.{record_difference, EqualBefore, FirstDifference, PlaceIsFirst, SizesAreTold}
use Rattle.record_difference.proofs.Compared.{size_same, size_itself, plane_size, by_sizes, by_planes}
use Rattle.record_difference.proofs.Equal.{plane_equal, plane_itself}

-- the place that is told, or any other
abbrev place_told : PlanePlace → Option Difference → PlanePlace
place_told other None = other
place_told other (Some (Sizes a b)) = other
place_told other (Some (At p)) = p

-- the sizes that are told, or others
abbrev ours_told : FrameSize → Option Difference → FrameSize
ours_told other None = other
ours_told other (Some (Sizes a b)) = a
ours_told other (Some (At p)) = other

abbrev theirs_told : FrameSize → Option Difference → FrameSize
theirs_told other None = other
theirs_told other (Some (Sizes a b)) = b
theirs_told other (Some (At p)) = other

abbrev place : Plane → ℕ → ℕ → PlanePlace
place plane row column = record { plane = plane; row = row; column = column }

module _ (form_r : ShiftForm) (r : ShiftRecord) (form_s : ShiftForm) (s : ShiftRecord) where
  abbrev size : FrameSize
  size = size_of form_r r

  abbrev Here : Plane → ℕ → ℕ → Type 0
  Here plane row column = FirstByte (plane_width plane size) (plane_height plane size) (plane_of plane r) (plane_of plane s) row column

  module _ (ours : Allowed form_r r) (theirs : Allowed form_s s) where
    module _ (same : size_of form_r r ≡ size_of form_s s) where
      our_plane : (plane : Plane) → length (plane_of plane r) ≡ plane_width plane size * plane_height plane size
      our_plane plane = plane_size plane form_r r size ours refl

      their_plane : (plane : Plane) → length (plane_of plane s) ≡ plane_width plane size * plane_height plane size
      their_plane plane = plane_size plane form_s s size theirs same

      told_here : (plane : Plane) (row column : ℕ) → (difference_in plane size r s ≡ Some (row, column)) ↔ Here plane row column
      told_here plane = first_byte_told _ _ (plane_of plane r) (plane_of plane s) (our_plane plane) (their_plane plane)

      one_plane : (plane : Plane) → difference_in plane size r s ≡ None → plane_of plane r ≡ plane_of plane s
      one_plane plane e = plane_equal _ (plane_of plane r) (plane_of plane s) (our_plane plane ∙ sym (their_plane plane)) e

      found : (plane : Plane) (row column : ℕ) → EqualBefore plane r s → difference_in plane size r s ≡ Some (row, column)
          → FirstDifference form_r r form_s s (place plane row column)
      found plane row column before e = record { one_size = same; before = before; here = (told_here plane row column).0 e }

      -- the first plane that tells a place
      by_plane : (y u v : Option (ℕ × ℕ)) → difference_in Y size r s ≡ y → difference_in U size r s ≡ u → difference_in «V» size r s ≡ v
          → (p : PlanePlace) → in_plane Y y (in_plane U u (in_plane «V» v None)) ≡ Some (At p) → FirstDifference form_r r form_s s p
      by_plane (Some at) u v ey eu ev p e = subst (FirstDifference form_r r form_s s) (ap (place_told p) e) (found Y at.0 at.1 tt ey)
      by_plane None (Some at) v ey eu ev p e =
          subst (FirstDifference form_r r form_s s) (ap (place_told p) e) (found U at.0 at.1 (one_plane Y ey) eu)
      by_plane None None (Some at) ey eu ev p e =
          subst (FirstDifference form_r r form_s s) (ap (place_told p) e) (found «V» at.0 at.1 (one_plane Y ey, one_plane U eu) ev)
      by_plane None None None ey eu ev p e = absurd (cc e)

      none_in : (plane : Plane) → plane_of plane r ≡ plane_of plane s → difference_in plane size r s ≡ None
      none_in plane e =
          ap (plane_difference (plane_width plane size) (plane_of plane r)) (sym e) ∙ plane_itself (plane_width plane size) (plane_of plane r)

      first_planes : (plane : Plane) (row column : ℕ) → EqualBefore plane r s → Here plane row column
          → planes_difference size r s ≡ Some (At (place plane row column))
      first_planes Y row column before here = rw ((told_here Y row column).1 here)
      first_planes U row column before here = rw (none_in Y before, (told_here U row column).1 here)
      first_planes «V» row column before here = rw (none_in Y before.0, none_in U before.1, (told_here «V» row column).1 here)

    place_first : (p : PlanePlace) → record_difference form_r r form_s s ≡ Some (At p) → FirstDifference form_r r form_s s p
    place_first p e = at (same_size (size_of form_r r) (size_of form_s s)) refl
      where
        at : (t : Bool) → same_size (size_of form_r r) (size_of form_s s) ≡ t → FirstDifference form_r r form_s s p
        at true h = by_plane (size_same _ _ h) _ _ _ refl refl refl p (by_planes form_r r form_s s h ∙ e)
        at false h = absurd (cc (by_sizes form_r r form_s s h ∙ e))

  -- one size tests as one
  tests_same : size_of form_r r ≡ size_of form_s s → same_size (size_of form_r r) (size_of form_s s) ≡ true
  tests_same e = ap (same_size size) (sym e) ∙ size_itself size

  first_place : Allowed form_r r → Allowed form_s s → (p : PlanePlace) → FirstDifference form_r r form_s s p
      → record_difference form_r r form_s s ≡ Some (At p)
  first_place ours theirs p d =
      sym (by_planes form_r r form_s s (tests_same d.one_size))
      ∙ first_planes ours theirs d.one_size p.plane p.row p.column d.before d.here

  module _ (a b : FrameSize) where
    sizes_differ : record_difference form_r r form_s s ≡ Some (Sizes a b)
        → (a ≡ size_of form_r r) × (b ≡ size_of form_s s) × (size_of form_r r ≡ size_of form_s s → ⊥)
    sizes_differ e = at (same_size (size_of form_r r) (size_of form_s s)) refl
      where
        no_sizes : (y u v : Option (ℕ × ℕ)) → in_plane Y y (in_plane U u (in_plane «V» v None)) ≡ Some (Sizes a b) → ⊥
        no_sizes (Some place) u v q = cc q
        no_sizes None (Some place) v q = cc q
        no_sizes None None (Some place) q = cc q
        no_sizes None None None q = cc q

        at : (t : Bool) → same_size (size_of form_r r) (size_of form_s s) ≡ t
            → (a ≡ size_of form_r r) × (b ≡ size_of form_s s) × (size_of form_r r ≡ size_of form_s s → ⊥)
        at true h =
            absurd (no_sizes (difference_in Y size r s) (difference_in U size r s) (difference_in «V» size r s) (by_planes form_r r form_s s h ∙ e))
        at false h =
            let told : Some (Sizes (size_of form_r r) (size_of form_s s)) ≡ Some (Sizes a b) = by_sizes form_r r form_s s h ∙ e in
            (sym (ap (ours_told a) told), sym (ap (theirs_told b) told), λ one. true≢false (sym (tests_same one) ∙ h))

    differ_sizes : (a ≡ size_of form_r r) × (b ≡ size_of form_s s) × (size_of form_r r ≡ size_of form_s s → ⊥)
        → record_difference form_r r form_s s ≡ Some (Sizes a b)
    differ_sizes q = at (same_size (size_of form_r r) (size_of form_s s)) refl
      where
        at : (t : Bool) → same_size (size_of form_r r) (size_of form_s s) ≡ t → record_difference form_r r form_s s ≡ Some (Sizes a b)
        at true h = absurd (q.2 (size_same _ _ h))
        at false h = sym (by_sizes form_r r form_s s h) ∙ ap₂ (λ (x y : FrameSize). Some (Sizes x y)) (sym q.0) (sym q.1)

pub place_is_first : PlaceIsFirst
place_is_first form_r r form_s s ours theirs p = (place_first form_r r form_s s ours theirs p, first_place form_r r form_s s ours theirs p)

pub sizes_are_told : SizesAreTold
sizes_are_told form_r r form_s s a b = (sizes_differ form_r r form_s s a b, differ_sizes form_r r form_s s a b)
