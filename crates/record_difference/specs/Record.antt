-- When two records are equal, and how they differ: docs/RULES.md, 13.2 and 13.3.
-- Assumes nothing.
use Rattle.std.specs.Prelude.{ℕ, ◌≡◌, Bool, true, false, cond, ◌&&◌, List, ◌↔◌, eqb, Option, Some, None}
use Rattle.yuv_support.specs.declared.YuvChromaSubsampling.{YuvChromaSubsampling}
use Rattle.yuv_support.specs.declared.YuvChromaSubsampling.TheVariants.{Yuv420, Yuv422}
use Rattle.yuv_support.specs.Sampling.{chroma_width, chroma_height}
use Rattle.shift_file.specs.declared.ShiftForm.{ShiftForm}
use Rattle.shift_file.specs.File.{ShiftRecord, Allowed, sampling_of}
use Rattle.plane_difference.specs.Difference.{plane_difference, FirstByte}
use Rattle.record_difference.specs.declared.Plane.{Plane}
use Rattle.record_difference.specs.declared.Plane.TheVariants.{Y, U, «V»}
use Rattle.record_difference.specs.declared.FrameSize.{FrameSize}
use Rattle.record_difference.specs.declared.PlanePlace.{PlanePlace}
use Rattle.record_difference.specs.declared.Difference.{Difference}
use Rattle.record_difference.specs.declared.Difference.TheVariants.{Sizes, At}

-- ---- sizes

-- RULES 13.2: width, height and sampling
unfoldable pub size_of : ShiftForm → ShiftRecord → FrameSize
size_of form r = record { width = r.width; height = r.height; sampling = sampling_of form r.settings }

-- RULES 13.2, 11.7: which a record of a file with settings says
abbrev pub same_sampling : YuvChromaSubsampling → YuvChromaSubsampling → Bool
same_sampling Yuv420 Yuv420 = true
same_sampling Yuv420 Yuv422 = false
same_sampling Yuv422 Yuv420 = false
same_sampling Yuv422 Yuv422 = true

-- RULES 13.2
abbrev pub same_size : FrameSize → FrameSize → Bool
same_size a b = eqb a.width b.width && (eqb a.height b.height && same_sampling a.sampling b.sampling)

-- ---- planes

-- RULES 11.2
abbrev pub plane_of : Plane → ShiftRecord → List ℕ
plane_of Y r = r.y
plane_of U r = r.u
plane_of «V» r = r.v

-- a plane of the three of a frame
abbrev pub pick : Plane → (y u v : List ℕ) → List ℕ
pick Y y u v = y
pick U y u v = u
pick «V» y u v = v

-- RULES 10.7: as C is told it
abbrev pub plane_number : Plane → ℕ
plane_number Y = 0
plane_number U = 1
plane_number «V» = 2

-- RULES 1.5: w or cw
abbrev pub plane_width : Plane → FrameSize → ℕ
plane_width Y s = s.width
plane_width U s = chroma_width s.width
plane_width «V» s = chroma_width s.width

-- RULES 1.5: h or ch
abbrev pub plane_height : Plane → FrameSize → ℕ
plane_height Y s = s.height
plane_height U s = chroma_height s.sampling s.height
plane_height «V» s = chroma_height s.sampling s.height

-- ---- the difference

-- RULES 13.3: the place in this plane, or else what the later planes say
abbrev pub in_plane : Plane → Option (ℕ × ℕ) → (later : Option Difference) → Option Difference
in_plane plane None later = later
in_plane plane (Some place) later = Some (At (record { plane = plane; row = place.0; column = place.1 }))

-- RULES 13.3: the first unequal byte of a plane
abbrev pub difference_in : Plane → FrameSize → (r s : ShiftRecord) → Option (ℕ × ℕ)
difference_in plane size r s = plane_difference (plane_width plane size) (plane_of plane r) (plane_of plane s)

-- RULES 13.3: the first unequal byte in Y, U, V
abbrev pub planes_difference : FrameSize → (r s : ShiftRecord) → Option Difference
planes_difference size r s =
    in_plane Y (difference_in Y size r s) (in_plane U (difference_in U size r s) (in_plane «V» (difference_in «V» size r s) None))

-- RULES 13.3: the two sizes where they differ; else the first unequal byte
unfoldable pub record_difference : (form_r : ShiftForm) → (r : ShiftRecord) → (form_s : ShiftForm) → (s : ShiftRecord) → Option Difference
record_difference form_r r form_s s =
    let size = size_of form_r r in
    cond (same_size size (size_of form_s s)) (planes_difference size r s) (Some (Sizes size (size_of form_s s)))

-- ---- what it means

-- RULES 13.2
pub record EqualRecords (form_r : ShiftForm) (r : ShiftRecord) (form_s : ShiftForm) (s : ShiftRecord) : Type 0 where
  pub size : size_of form_r r ≡ size_of form_s s
  pub y : r.y ≡ s.y
  pub u : r.u ≡ s.u
  pub v : r.v ≡ s.v

-- RULES 13.2: no difference, exactly where sizes and all three planes are equal
abbrev pub SameIsEqual : Type 0
SameIsEqual = (form_r : ShiftForm) (r : ShiftRecord) (form_s : ShiftForm) (s : ShiftRecord) → Allowed form_r r → Allowed form_s s
    → (record_difference form_r r form_s s ≡ None) ↔ EqualRecords form_r r form_s s

-- RULES 13.3: the planes before this one are equal; Y comes before U, and U before V
abbrev pub EqualBefore : Plane → (r s : ShiftRecord) → Type 0
EqualBefore Y r s = Unit {0}
EqualBefore U r s = r.y ≡ s.y
EqualBefore «V» r s = (r.y ≡ s.y) × (r.u ≡ s.u)

-- RULES 13.3: the records have one size, and this is their first byte that differs
pub record FirstDifference (form_r : ShiftForm) (r : ShiftRecord) (form_s : ShiftForm) (s : ShiftRecord) (p : PlanePlace) : Type 0 where
  pub one_size : size_of form_r r ≡ size_of form_s s
  pub before : EqualBefore p.plane r s
  pub here :
      let size = size_of form_r r in
      FirstByte (plane_width p.plane size) (plane_height p.plane size) (plane_of p.plane r) (plane_of p.plane s) p.row p.column

-- RULES 13.3: a place is told exactly where it is that of the first byte that differs
abbrev pub PlaceIsFirst : Type 0
PlaceIsFirst = (form_r : ShiftForm) (r : ShiftRecord) (form_s : ShiftForm) (s : ShiftRecord) → Allowed form_r r → Allowed form_s s → (p : PlanePlace)
    → (record_difference form_r r form_s s ≡ Some (At p)) ↔ FirstDifference form_r r form_s s p

-- RULES 13.3: sizes are told exactly where they differ, both as they are
abbrev pub SizesAreTold : Type 0
SizesAreTold = (form_r : ShiftForm) (r : ShiftRecord) (form_s : ShiftForm) (s : ShiftRecord) (a b : FrameSize)
    → (record_difference form_r r form_s s ≡ Some (Sizes a b)) ↔ ((a ≡ size_of form_r r) × (b ≡ size_of form_s s) × (size_of form_r r ≡ size_of form_s s → ⊥))
