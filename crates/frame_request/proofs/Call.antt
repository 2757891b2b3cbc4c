-- The frame call of a request, lent three parts of the output, one behind the other. Refused, the output is as it was; finished, it is painted.
-- Assumes nothing.
use Prim.Native.Nat.{ℕ, ◌+◌}
use mathlib.Core.Path.{◌≡◌, refl, sym, ap, subst, ◌∙◌}
use mathlib.Core.List.{List, ◌++◌, append_assoc}
use native.Mathlib.Nat.{le_refl}
use native.Mathlib.Omega.{arith}
use borrow.Rule.Slice.PartMut.{put_mid}
use lib.ListN.{length, take, drop, length-drop, length-append, take-append-drop}
use lib.Seq.{take_at, drop_at}
use Rattle.yuv_error.specs.declared.YuvError.{YuvError}
use Rattle.std.specs.Prelude.{Result, Ok, Err}
use Rattle.std.proofs.lemmas.List.{length-take-le}
use Rattle.definitions.specs.Painted.{Painted}
use Rattle.definitions.proofs.Painted.{Painted-none}
use Rattle.definitions.specs.declared.FrameDescription.{FrameDescription}
use Rattle.definitions.specs.Image.{Image, frame_image, finished_of}
use Rattle.definitions.specs.Bands.{Sharpened}
use Rattle.definitions.proofs.Planes.{plane_same}
use Rattle.yuv_error.specs.Lent.{taken}
use Rattle.sharp_rgba_to_yuv.specs.FrameCall.{frame_call, FramePost}
use Rattle.frame_request.specs.Request.{luma_size, chroma_size, output_at, output_size}
use Rattle.frame_request.specs.Packed.{Packed}
use Rattle.frame_request.proofs.Output.{output_Painted}

-- ---- the parts of the output

-- of so many bytes of luma, and of each chroma
module _ (luma chroma : ℕ) where
  abbrev pub y_in : List ℕ → List ℕ
  y_in o = take luma o

  abbrev pub u_in : List ℕ → List ℕ
  u_in o = take chroma (drop luma o)

  abbrev pub v_in : List ℕ → List ℕ
  v_in o = take chroma (drop chroma (drop luma o))

  abbrev pub past : List ℕ → List ℕ
  past o = drop chroma (drop chroma (drop luma o))

  -- the output with other bytes in the three parts
  abbrev pub with_planes : (o y u v : List ℕ) → List ℕ
  with_planes o y u v = y ++ (u ++ (v ++ past o))

  as_it_was : (o : List ℕ) → with_planes o (y_in o) (u_in o) (v_in o) ≡ o
  as_it_was o =
      ap (λ (xs : List ℕ). y_in o ++ (u_in o ++ xs)) (take-append-drop chroma (drop chroma (drop luma o)))
      ∙ ap (λ (xs : List ℕ). y_in o ++ xs) (take-append-drop chroma (drop luma o)) ∙ take-append-drop luma o

  -- they are put one behind the other
  put_planes : (o y u v : List ℕ) → length y ≡ luma → length u ≡ chroma → length v ≡ chroma
      → put_mid (luma + chroma) (length v) (put_mid luma (length u) (put_mid 0 (length y) o y) u) v ≡ with_planes o y u v
  put_planes o y u v ysize usize vsize =
      let d : List ℕ = drop luma o in
      let e : List ℕ = drop chroma d in
      let second : put_mid luma chroma (y ++ d) u ≡ (y ++ u) ++ e = rw (take_at y d luma ysize, drop_at y d luma ysize) (sym (append_assoc y u e)) in
      let front : length (y ++ u) ≡ luma + chroma = length-append y u ∙ omega (arith, ysize, usize) in
      let third : put_mid (luma + chroma) chroma ((y ++ u) ++ e) v ≡ with_planes o y u v =
      rw (take_at (y ++ u) e (luma + chroma) front, drop_at (y ++ u) e (luma + chroma) front) (append_assoc y u (v ++ drop chroma e)) in
      rw (ysize, usize, vsize) (ap (λ (xs : List ℕ). put_mid (luma + chroma) chroma xs v) second ∙ third)

module _ (d : FrameDescription) (stride : ℕ) (source output : List ℕ) (a : Result Unit YuvError) (y' u' v' : List ℕ)
    (packed : Packed d) (room : length output ≡ 49152)
    (post : FramePost (frame_call d stride source (y_in (luma_size d) (chroma_size d) output) (u_in (luma_size d) (chroma_size d) output)
    (v_in (luma_size d) (chroma_size d) output) a y' u' v')) where
  abbrev image : Image
  image = frame_image d stride source

  abbrev y : List ℕ
  y = y_in (luma_size d) (chroma_size d) output

  abbrev u : List ℕ
  u = u_in (luma_size d) (chroma_size d) output

  abbrev v : List ℕ
  v = v_in (luma_size d) (chroma_size d) output

  abbrev pub planes_in : (y u v : List ℕ) → List ℕ
  planes_in y u v = with_planes (luma_size d) (chroma_size d) output y u v

  ysize : length y ≡ luma_size d
  ysize = length-take-le (luma_size d) output (omega (arith, packed, room))

  usize : length u ≡ chroma_size d
  usize = length-take-le (chroma_size d) (drop (luma_size d) output) (omega (arith, packed, room, length-drop (luma_size d) output))

  vsize : length v ≡ chroma_size d
  vsize = length-take-le (chroma_size d) (drop (chroma_size d) (drop (luma_size d) output))
      (omega (arith, packed, room, length-drop (luma_size d) output, length-drop (chroma_size d) (drop (luma_size d) output)))

  call_refused : {e : YuvError} → a ≡ Err e → planes_in y' u' v' ≡ output
  call_refused is =
      let ysame = plane_same 0 0 _ _ _ y y' (le_refl 0) (rw is at post.planes.luma) in
      let usame = plane_same (finished_of d 0) (finished_of d 0) _ _ _ u u' (le_refl (finished_of d 0)) (rw is at post.planes.cb) in
      let vsame = plane_same (finished_of d 0) (finished_of d 0) _ _ _ v v' (le_refl (finished_of d 0)) (rw is at post.planes.cr) in
      rw (ysame, usame, vsame) (as_it_was (luma_size d) (chroma_size d) output)

  call_finished : a ≡ Ok tt → Painted (output_size d) (output_at d image) output (planes_in y' u' v')
  call_finished is =
      let planes = subst (λ (b : Result Unit YuvError). Sharpened d 0 (taken b d.height) image y u
      v y' u' v') is post.planes in
      let ylong : length y' ≡ luma_size d = planes.luma.size ∙ ysize in
      let ulong : length u' ≡ chroma_size d = planes.cb.size ∙ usize in
      let vlong : length v' ≡ chroma_size d = planes.cr.size ∙ vsize in
      subst (λ (xs : List ℕ). Painted (output_size d) (output_at d image) output xs) (put_planes (luma_size d) (chroma_size d) output y' u' v' ylong ulong vlong)
      (output_Painted d image output y u v y' u' v' packed (omega (arith, room)) ylong ulong vlong planes)

  pub call_painted : Painted (taken a (output_size d)) (output_at d (frame_image d stride source)) output (planes_in y' u' v')
  call_painted = go a refl
    where
      go : (b : Result Unit YuvError) → a ≡ b → Painted (taken a (output_size d)) (output_at d (frame_image d stride source)) output (planes_in y' u' v')
      go (Ok tt) is = rw is (call_finished is)
      go (Err e) is = rw (is, call_refused is) (Painted-none _ output)
