-- Two sizes that test as the same are one size; a plane has the bytes that its size says; the planes say what the first unequal one says.
-- Assumes nothing.
use Prim.Native.Nat.{ℕ, zero, suc, ◌*◌, ◌≤◌}
use mathlib.Core.Path.{◌≡◌, refl, sym, ◌∙◌, ap, ap₂}
use mathlib.Core.Bool.{Bool, true, false, not, ◌&&◌, true≢false}
use denote.Enum.Bare.{sameb}
use mathlib.Core.List.{List, [], ◌++◌, append-nil}
use borrow.Author.Tests.{eqb-true, eq-eqb}
use lib.Dec.{eqb}
use lib.ListN.{length}
use Rattle.std.proofs.lemmas.Bool.{and_parts, false_from_ne_true}
use Rattle.yuv_support.specs.contracts.YuvChromaSubsampling.{the_type}
use Rattle.yuv_support.specs.declared.YuvChromaSubsampling.{YuvChromaSubsampling}
use Rattle.yuv_support.specs.declared.YuvChromaSubsampling.TheVariants.{Yuv420, Yuv422}
use Rattle.shift_file.specs.declared.ShiftForm.{ShiftForm}
use Rattle.shift_file.specs.File.{ShiftRecord, Allowed, chroma_bytes, bytes_of, header_size, sampling_of}
use Rattle.shift_file.specs.Read.{settings_at}
use Rattle.shift_file.proofs.Record.{settings_is}
use Rattle.shift_reader.proofs.Places.{header_there}
use Rattle.std.proofs.Common.{Option, Some, None}
use Rattle.record_difference.specs.declared.Plane.{Plane}
use Rattle.record_difference.specs.declared.Plane.TheVariants.{Y, U, «V»}
use Rattle.record_difference.specs.declared.FrameSize.{FrameSize}
use Rattle.record_difference.specs.declared.Difference.{Difference}
use Rattle.record_difference.specs.declared.Difference.TheVariants.{Sizes}
use Rattle.record_difference.specs.Record.{size_of, same_sampling, same_size, plane_of, pick, plane_width, plane_height}
use Rattle.record_difference.specs.Record.{in_plane, difference_in, planes_difference, record_difference}

-- ---- sizes

sampling_same : (a b : YuvChromaSubsampling) → same_sampling a b ≡ true → a ≡ b
sampling_same Yuv420 Yuv420 e = refl
sampling_same Yuv422 Yuv422 e = refl
sampling_same Yuv420 Yuv422 e = let z : false ≡ true = e in cc
sampling_same Yuv422 Yuv420 e = let z : false ≡ true = e in cc

sampling_itself : (a : YuvChromaSubsampling) → same_sampling a a ≡ true
sampling_itself Yuv420 = refl
sampling_itself Yuv422 = refl

pub size_same : (a b : FrameSize) → same_size a b ≡ true → a ≡ b
size_same a b e =
    let p = and_parts (eqb a.width b.width) _ e in
    let q = and_parts (eqb a.height b.height) _ p.1 in
    let width = eqb-true a.width b.width p.0 in
    let height = eqb-true a.height b.height q.0 in
    let sampling = sampling_same a.sampling b.sampling q.1 in
    λ i. record { width = width i; height = height i; sampling = sampling i }

pub size_itself : (a : FrameSize) → same_size a a ≡ true
size_itself a = rw (eq-eqb a.width a.width refl, eq-eqb a.height a.height refl) (sampling_itself a.sampling)

-- the test of the code, on equal sizes
sampling_is : (a b : YuvChromaSubsampling) → sameb the_type a b ≡ same_sampling a b
sampling_is Yuv420 Yuv420 = refl
sampling_is Yuv420 Yuv422 = refl
sampling_is Yuv422 Yuv420 = refl
sampling_is Yuv422 Yuv422 = refl

pub sizes_differ : (a b : FrameSize) → true ≡ not (eqb a.width b.width && (eqb a.height b.height && sameb the_type a.sampling b.sampling)) → a ≡ b → ⊥
sizes_differ a b t e =
    let same = ap (λ (s : Bool). eqb a.width b.width && (eqb a.height b.height && s)) (sampling_is a.sampling b.sampling) in
    true≢false (t ∙ ap not (same ∙ ap (same_size a) (sym e) ∙ size_itself a))

-- ---- planes

pub picked : (plane : Plane) (r : ShiftRecord) (y u v : List ℕ) → y ≡ r.y → u ≡ r.u → v ≡ r.v → pick plane y u v ≡ plane_of plane r
picked Y r y u v ey eu ev = ey
picked U r y u v ey eu ev = eu
picked «V» r y u v ey eu ev = ev

pub plane_size : (plane : Plane) (form : ShiftForm) (r : ShiftRecord) (size : FrameSize) → Allowed form r → size ≡ size_of form r
    → length (plane_of plane r) ≡ plane_width plane size * plane_height plane size
unfolding size_of chroma_bytes
plane_size Y form r size a e = rw e a.y_size
plane_size U form r size a e = rw e a.u_size
plane_size «V» form r size a e = rw e a.v_size

-- ---- what the call tells

-- a size read from a record's own bytes
module _ (form : ShiftForm) (r : ShiftRecord) (a : Allowed form r) (part : List ℕ) (here : part ≡ bytes_of r) where
  whole : part ≡ bytes_of r ++ []
  whole = here ∙ sym (append-nil (bytes_of r))

  pub header_whole : header_size form ≤ length part
  header_whole = header_there form r a [] part whole

  pub size_told : (w h : ℕ) (s : YuvChromaSubsampling) → w ≡ r.width → h ≡ r.height → s ≡ sampling_of form (settings_at form part)
      → ◌≡◌ {A = FrameSize} (record { width = w; height = h; sampling = s }) (size_of form r)
  unfolding size_of
  size_told w h s ew eh es =
      let sampled : s ≡ sampling_of form r.settings = es ∙ ap (sampling_of form) (ap (settings_at form) whole ∙ settings_is form r a []) in
      λ i. record { width = ew i; height = eh i; sampling = sampled i }

-- what the planes from number k on say
abbrev pub from_plane : ℕ → FrameSize → (r s : ShiftRecord) → Option Difference
from_plane zero size r s = planes_difference size r s
from_plane (suc zero) size r s = in_plane U (difference_in U size r s) (in_plane «V» (difference_in «V» size r s) None)
from_plane (suc (suc zero)) size r s = in_plane «V» (difference_in «V» size r s) None
from_plane (suc (suc (suc k))) size r s = None

module _ (form_r : ShiftForm) (r : ShiftRecord) (form_s : ShiftForm) (s : ShiftRecord) where
  pub by_sizes : same_size (size_of form_r r) (size_of form_s s) ≡ false → Some (Sizes (size_of form_r r) (size_of form_s s)) ≡ record_difference form_r r form_s s
  unfolding record_difference
  by_sizes e = rw e

  pub by_planes : same_size (size_of form_r r) (size_of form_s s) ≡ true → planes_difference (size_of form_r r) r s ≡ record_difference form_r r form_s s
  unfolding record_difference
  by_planes e = rw e

  module _ (a b : FrameSize) (ours : a ≡ size_of form_r r) (theirs : b ≡ size_of form_s s) where
    pub told_sizes : (a ≡ b → ⊥) → Some (Sizes a b) ≡ record_difference form_r r form_s s
    told_sizes differ =
        ap₂ (λ (x y : FrameSize). Some (Sizes x y)) ours theirs
        ∙ by_sizes (false_from_ne_true (same_size (size_of form_r r) (size_of form_s s)) (λ e. differ (ours ∙ size_same _ _ e ∙ sym theirs)))

    pub planes_tell : a ≡ b → from_plane 0 a r s ≡ record_difference form_r r form_s s
    planes_tell one =
        ap (λ (size : FrameSize). planes_difference size r s) ours
        ∙ by_planes (ap (same_size (size_of form_r r)) (sym (sym ours ∙ one ∙ theirs)) ∙ size_itself (size_of form_r r))

    -- the first plane that has a difference is the one that is told
    module _ (one : a ≡ b) where
      pub told_y : (p : ℕ × ℕ) → difference_in Y a r s ≡ Some p → in_plane Y (Some p) None ≡ record_difference form_r r form_s s
      told_y p e =
          ap (λ (d : Option (ℕ × ℕ)). in_plane Y d (in_plane U (difference_in U a r s) (in_plane «V» (difference_in «V» a r s) None))) (sym e)
          ∙ planes_tell one

      pub told_u : difference_in Y a r s ≡ None → (p : ℕ × ℕ) → difference_in U a r s ≡ Some p → in_plane U (Some p) None ≡ record_difference form_r r form_s s
      told_u y_same p e =
          ap (λ (d : Option (ℕ × ℕ)). in_plane U d (in_plane «V» (difference_in «V» a r s) None)) (sym e)
          ∙ ap (λ (d : Option (ℕ × ℕ)). in_plane Y d (in_plane U (difference_in U a r s) (in_plane «V» (difference_in «V» a r s) None))) (sym y_same)
          ∙ planes_tell one

      pub told_v : difference_in Y a r s ≡ None → difference_in U a r s ≡ None → in_plane «V» (difference_in «V» a r s) None ≡ record_difference form_r r form_s s
      told_v y_same u_same =
          ap (λ (d : Option (ℕ × ℕ)). in_plane U d (in_plane «V» (difference_in «V» a r s) None)) (sym u_same)
          ∙ ap (λ (d : Option (ℕ × ℕ)). in_plane Y d (in_plane U (difference_in U a r s) (in_plane «V» (difference_in «V» a r s) None))) (sym y_same)
          ∙ planes_tell one
