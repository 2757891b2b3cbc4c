-- A single call on a frame's parts of the buffers.
-- Assumes nothing.
use Prim.Native.Nat.{ℕ}
use mathlib.Core.Path.{◌≡◌, refl, sym, ap, subst, subst⁻¹, ◌∙◌}
use mathlib.Core.List.{List}
use mathlib.Core.Logic.{inl, inr}
use lib.ListN.{length, take, drop}
use borrow.Rule.Slice.PartMut.{put_mid}
use Rattle.yuv_error.specs.declared.YuvError.{YuvError}
use Rattle.yuv_error.specs.declared.YuvError.TheVariants.{MalformedRequest}
use Rattle.yuv_error.specs.declared.Lengths.{Lengths}
use Rattle.yuv_error.specs.Lent.{lengths_of}
use Rattle.definitions.specs.declared.FrameDescription.{FrameDescription}
use Rattle.buffer_parts.specs.Parts.{part_of}
use Rattle.buffer_parts.proofs.Parts.{part_length, put_is, with_same, with_length}
use Rattle.sharp_rgba_to_yuv.specs.FrameCall.{frame_call, FramePost}
use Rattle.sharp_rgba_to_yuv.proofs.Post.{refused_writes_nothing}
use Rattle.convoy_parts.specs.declared.ConvoyFrame.{ConvoyFrame}
use Rattle.convoy.specs.Run.{Planes, planes_of, parts_of, with_parts, SinglePost, CallPost}
use Rattle.convoy_parts.specs.Parts.{frame_at}
use Rattle.convoy_parts.proofs.Broken.{Unbroken, is_Inside}
use Rattle.convoy.specs.Called.{FrameInside, AllInside, Called}
use Rattle.std.specs.Prelude.{Option, None, Some, Result, Err}

-- planes of equal bytes are equal
pub planes_equal : {p q : Planes} → p.y ≡ q.y → p.u ≡ q.u → p.v ≡ q.v → p ≡ q
planes_equal {p} {q} y u v =
    ap (λ (l : List ℕ). planes_of l p.u p.v) y
    ∙ ap (λ (l : List ℕ). planes_of q.y l p.v) u
    ∙ ap (λ (l : List ℕ). planes_of q.y q.u l) v

-- planes of equal lengths
pub record SameSizes (p q : Planes) : Type 0 where
  pub y : length q.y ≡ length p.y
  pub u : length q.u ≡ length p.u
  pub v : length q.v ≡ length p.v

pub sizes_same : {p q : Planes} → q ≡ p → SameSizes p q
sizes_same e = record {
  y = ap (λ (p : Planes). length p.y) e;
  u = ap (λ (p : Planes). length p.u) e;
  v = ap (λ (p : Planes). length p.v) e;
}

pub sizes_then : {p q r : Planes} → SameSizes p q → SameSizes q r → SameSizes p r
sizes_then a b = record { y = b.y ∙ a.y; u = b.u ∙ a.u; v = b.v ∙ a.v }

-- ---- a call, whatever its planes

pub single_refused : (d : Option FrameDescription) (stride : ℕ) (source : List ℕ) (p : Planes) (e : YuvError) (q : Planes)
    → SinglePost d stride source p (Err e) q → q ≡ p
single_refused None stride source p e q post = post.1
single_refused (Some d) stride source p e q post =
    let w = refused_writes_nothing (frame_call d stride source p.y p.u p.v (Err e) q.y q.u q.v) refl post in
    planes_equal w.0 w.1 w.2

pub single_sizes : (d : Option FrameDescription) (stride : ℕ) (source : List ℕ) (p : Planes) (a : Result Unit YuvError) (q : Planes) → SinglePost d stride source p a q
    → SameSizes p q
single_sizes None stride source p a q post = sizes_same post.1
single_sizes (Some d) stride source p a q post =
    record { y = post.planes.luma.size; u = post.planes.cb.size; v = post.planes.cr.size }

-- ---- a call on a frame's parts

module _ (f : ConvoyFrame) (source : List ℕ) where
  pub parts_same : (p : Planes) → with_parts f p (parts_of f p) ≡ p
  parts_same p = planes_equal (with_same f.y p.y) (with_same f.u p.u) (with_same f.v p.v)

  pub call_refused : (p : Planes) (e : YuvError) (left : Planes) → CallPost f source p (Err e) left → left ≡ parts_of f p
  call_refused p e left post = single_refused f.described f.stride (part_of f.source source) (parts_of f p) e left post

  -- a refused call leaves the buffers as they were
  pub refused_same : (p : Planes) (e : YuvError) (q : Planes) → Called f source p (Err e) q → q ≡ p
  refused_same p e q c = c.placed ∙ ap (with_parts f p) (call_refused p e c.left c.call) ∙ parts_same p

  -- as many bytes as the parts have
  pub call_sizes : (p : Planes) (a : Result Unit YuvError) (left : Planes) → CallPost f source p a left → SameSizes (parts_of f p) left
  call_sizes p a left post = single_sizes f.described f.stride (part_of f.source source) (parts_of f p) a left post

-- bytes in the parts, so many as these have
pub record Fits (f : ConvoyFrame) (p left : Planes) : Type 0 where
  pub y : length left.y ≡ f.y.length
  pub u : length left.u ≡ f.u.length
  pub v : length left.v ≡ f.v.length

module _ (f : ConvoyFrame) (source : List ℕ) (p : Planes) (inside : FrameInside f (lengths_of source p.y p.u p.v)) where
  pub call_fits : (a : Result Unit YuvError) (left : Planes) → CallPost f source p a left → Fits f p left
  call_fits a left post =
      let s = call_sizes f source p a left post in
      record {
        y = s.y ∙ part_length f.y p.y inside.y;
        u = s.u ∙ part_length f.u p.u inside.u;
        v = s.v ∙ part_length f.v p.v inside.v;
      }

  pub placed_sizes : (a : Result Unit YuvError) (left : Planes) → CallPost f source p a left → SameSizes p (with_parts f p left)
  placed_sizes a left post =
      let s = call_fits a left post in
      record {
        y = with_length f.y p.y left.y inside.y s.y;
        u = with_length f.u p.u left.u inside.u s.u;
        v = with_length f.v p.v left.v inside.v s.v;
      }

  pub Called-sizes : (a : Result Unit YuvError) (q : Planes) → Called f source p a q → SameSizes p q
  Called-sizes a q c = subst (SameSizes p) (sym c.placed) (placed_sizes a c.left c.call)

-- where 18 does not hold
pub all_inside : (c : List ConvoyFrame) (n : Lengths) → Unbroken c n → AllInside c n
all_inside c n u k l =
    let f = frame_at c k in
    record {
      source = is_Inside f.source n.source (λ x. u.inside k l (inl x));
      y = is_Inside f.y n.y (λ x. u.inside k l (inr (inl x)));
      u = is_Inside f.u n.u (λ x. u.inside k l (inr (inr (inl x))));
      v = is_Inside f.v n.v (λ x. u.inside k l (inr (inr (inr x))));
    }

-- ---- the two arms

pub unmade : (f : ConvoyFrame) (source : List ℕ) (p : Planes) → f.described ≡ None → Called f source p (Err MalformedRequest) p
unmade f source p is = record {
  left = parts_of f p;
  call = subst⁻¹ (λ (d : Option FrameDescription). SinglePost d f.stride (part_of f.source source) (parts_of f p) (Err MalformedRequest) (parts_of f p)) is
      (refl, refl);
  placed = sym (parts_same f source p);
}

pub made : (f : ConvoyFrame) (source y u v : List ℕ) (d : FrameDescription) (a : Result Unit YuvError) (y' u' v' : List ℕ) (i j k l : ℕ)
    → i ≡ f.source.length → j ≡ f.y.length → k ≡ f.u.length → l ≡ f.v.length → f.described ≡ Some d
    → FramePost (frame_call d f.stride (take i (drop f.source.offset source)) (take j (drop f.y.offset y)) (take k (drop f.u.offset u))
    (take l (drop f.v.offset v)) a y' u' v')
    → Called f source (planes_of y u v) a
    (planes_of (put_mid f.y.offset j y y') (put_mid f.u.offset k u u') (put_mid f.v.offset l v v'))
made f source y u v d a y' u' v' i j k l ei ej ek el is post = record {
  left = planes_of y' u' v';
  call = subst⁻¹ (λ (d : Option FrameDescription). SinglePost d f.stride (part_of f.source source) (parts_of f (planes_of y u v)) a (planes_of y' u' v')) is
      (rw (ei, ej, ek, el) at post);
  placed = planes_equal (put_is f.y y y' ej) (put_is f.u u u' ek) (put_is f.v v v' el);
}
