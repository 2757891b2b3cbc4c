-- Each frame of a convoy as if alone: parts that do not overlap are at a frame's turn, and at the end, as no other frame left them.
-- Assumes nothing.
use Prim.Native.Nat.{ℕ, zero, suc, ◌≤◌, ◌<◌}
use mathlib.Core.Path.{◌≡◌, refl, sym, ap, subst, ◌∙◌}
use mathlib.Core.List.{List}
use native.Mathlib.Omega.{arith}
use lib.ListN.{length}
use Rattle.yuv_error.specs.declared.YuvError.{YuvError}
use Rattle.std.specs.Prelude.{Result, Ok, Err}
use Rattle.buffer_parts.specs.Parts.{part_of}
use Rattle.buffer_parts.proofs.Parts.{part_kept}
use Rattle.convoy_parts.specs.declared.ConvoyFrame.{ConvoyFrame}
use Rattle.convoy_parts.specs.Parts.{frame_at, FramesOverlap}
use Rattle.convoy_parts.proofs.Broken.{Unbroken, unbroken}
use Rattle.convoy.specs.Run.{Planes, parts_of, with_parts, SinglePost, CallPost, Run, ended, stopped, went_on}
use Rattle.convoy.specs.Alone.{OthersKept, EachAlone}
use Rattle.convoy.specs.Called.{FrameInside}
use Rattle.convoy.proofs.Calls.{SameSizes, planes_equal, placed_sizes, call_refused}
use Rattle.convoy.proofs.Lists.{sizes_of, AllIn, Clear, AllApart, clear_at, all_sizes, convoy_in, convoy_apart}
use Rattle.convoy.proofs.Kept.{Plane, luma_plane, cb_plane, cr_plane, Run-sizes, call_Elsewhere, call_part, byte_kept, part_unwritten}

module _ (source : List ℕ) where
  -- another frame's call leaves these parts as they were
  parts_kept : (f g : ConvoyFrame) (p left : Planes) → FrameInside f (sizes_of source p) → CallPost f source p (Ok tt) left → (FramesOverlap f g → ⊥)
      → parts_of g (with_parts f p left) ≡ parts_of g p
  parts_kept f g p left i post apart = planes_equal (one luma_plane) (one cb_plane) (one cr_plane)
    where
      one : (s : Plane) → part_of (s.part g) (s.bytes (with_parts f p left)) ≡ part_of (s.part g) (s.bytes p)
      one s = part_kept (s.part f) (s.part g) (s.bytes p) (s.bytes (with_parts f p left)) (call_Elsewhere s source f p left i post)
          (s.clear f g apart)

  -- what a call left in its parts is there after the others
  parts_stand : (f : ConvoyFrame) (fs : List ConvoyFrame) (p left : Planes) (a : Result Unit YuvError) (n : ℕ) (q : Planes) → FrameInside f (sizes_of source p)
      → AllIn (sizes_of source p) fs → CallPost f source p (Ok tt) left → Clear f fs → Run source fs (with_parts f p left) a n q → parts_of f q ≡ left
  parts_stand f fs p left a n q i all post clear run = planes_equal (one luma_plane) (one cb_plane) (one cr_plane)
    where
      t : Planes
      t = with_parts f p left

      one : (s : Plane) → part_of (s.part f) (s.bytes q) ≡ s.bytes left
      one s =
          part_unwritten s source f fs t a n q (all_sizes source p t fs (placed_sizes f source p i (Ok tt) left post) all) clear run
          ∙ call_part s source f p left i post

  -- a call over buffers with the same bytes in the frame's parts
  call_same : (f : ConvoyFrame) (p q : Planes) (a : Result Unit YuvError) (left : Planes) → parts_of f p ≡ parts_of f q → CallPost f source p a left
      → CallPost f source q a left
  call_same f p q a left e post = subst (λ (x : Planes). SinglePost f.described f.stride (part_of f.source source) x a left) e post

  finished_alone : (fs : List ConvoyFrame) (p : Planes) (a : Result Unit YuvError) (n : ℕ) (q : Planes) → AllIn (sizes_of source p) fs → AllApart fs
      → Run source fs p a n q → (j : ℕ) → j < n → (j < length fs) × CallPost (frame_at fs j) source p (Ok tt) (parts_of (frame_at fs j) q)
  finished_alone fs p a n q all apart ended j l = absurd (omega arith)
  finished_alone fs p a n q all apart (stopped left post) j l = absurd (omega arith)
  finished_alone fs p a n q all apart (went_on {f = f} {fs = gs} {n = m} left post run) zero l =
      (omega arith, subst (CallPost f source p (Ok tt)) (sym (parts_stand f gs p left a m q all.0 all.1 post apart.0 run)) post)
  finished_alone fs p a n q all apart (went_on {f = f} {fs = gs} {n = m} left post run) (suc j) l =
      let t = with_parts f p left in
      let later = finished_alone gs t a m q (all_sizes source p t gs (placed_sizes f source p all.0 (Ok tt) left post) all.1) apart.1 run j
      (omega arith) in (
        omega (arith, later.0),
        call_same (frame_at gs j) t p (Ok tt) (parts_of (frame_at gs j) q)
            (parts_kept f (frame_at gs j) p left all.0 post (clear_at f gs j later.0 apart.0)) later.1,
      )

  refused_alone : (fs : List ConvoyFrame) (p : Planes) (a : Result Unit YuvError) (n : ℕ) (q : Planes) → AllIn (sizes_of source p) fs → AllApart fs
      → Run source fs p a n q → (e : YuvError) → a ≡ Err e → (n < length fs) × CallPost (frame_at fs n) source p (Err e) (parts_of (frame_at fs n) p)
  refused_alone fs p a n q all apart ended e is = absurd (cc is)
  refused_alone fs p a n q all apart (stopped {f = f} {e = e'} left post) e is = (
    omega arith,
    subst (CallPost f source p (Err e)) (call_refused f source p e left (subst (λ (x : Result Unit YuvError). CallPost f source p x left) is post))
        (subst (λ (x : Result Unit YuvError). CallPost f source p x left) is post),
  )
  refused_alone fs p a n q all apart (went_on {f = f} {fs = gs} {n = m} left post run) e is =
      let t = with_parts f p left in
      let later = refused_alone gs t a m q (all_sizes source p t gs (placed_sizes f source p all.0 (Ok tt) left post) all.1) apart.1
      run e is in
      let same = parts_kept f (frame_at gs m) p left all.0 post (clear_at f gs m later.0 apart.0) in (
        omega (arith, later.0),
        subst (CallPost (frame_at gs m) source p (Err e)) same (call_same (frame_at gs m) t p (Err e) (parts_of (frame_at gs m) t) same later.1),
      )

  all_finished : (fs : List ConvoyFrame) (p : Planes) (a : Result Unit YuvError) (n : ℕ) (q : Planes) → Run source fs p a n q → a ≡ Ok tt → n ≡ length fs
  all_finished fs p a n q ended is = refl
  all_finished fs p a n q (stopped left post) is = absurd (cc is)
  all_finished fs p a n q (went_on {f = f} {fs = gs} {n = m} left post run) is = ap suc (all_finished gs (with_parts f p left) a m q run is)

  unbegun_kept : (fs : List ConvoyFrame) (p : Planes) (a : Result Unit YuvError) (n : ℕ) (q : Planes) → AllIn (sizes_of source p) fs → AllApart fs
      → Run source fs p a n q → (j : ℕ) → n ≤ j → j < length fs → parts_of (frame_at fs j) q ≡ parts_of (frame_at fs j) p
  unbegun_kept fs p a n q all apart ended j l m = refl
  unbegun_kept fs p a n q all apart (stopped left post) j l m = refl
  unbegun_kept fs p a n q all apart (went_on {f = f} {fs = gs} {n = k} left post run) zero l m = absurd (omega arith)
  unbegun_kept fs p a n q all apart (went_on {f = f} {fs = gs} {n = k} left post run) (suc j) l m =
      let t = with_parts f p left in
      unbegun_kept gs t a k q (all_sizes source p t gs (placed_sizes f source p all.0 (Ok tt) left post) all.1) apart.1 run j (omega arith)
      (omega arith)
      ∙ parts_kept f (frame_at gs j) p left all.0 post (clear_at f gs j (omega arith) apart.0)

-- ---- of a call

pub each_alone : EachAlone
each_alone k post none = record {
  finished = λ j l. (alone j l).1;
  all = λ is. all_finished k.source c k.before k.result.answer k.result.done k.after run is;
  refused = λ e is. refused_alone k.source c k.before k.result.answer k.result.done k.after all apart run e is;
  unwritten = record {
    unbegun = λ j l m. unbegun_kept k.source c k.before k.result.answer k.result.done k.after all apart run j l m;
    y_others = others luma_plane sizes.y;
    u_others = others cb_plane sizes.u;
    v_others = others cr_plane sizes.v;
  };
}
  where
    c : List ConvoyFrame
    c = k.convoy

    known : Unbroken c (sizes_of k.source k.before)
    known = unbroken c (sizes_of k.source k.before) none

    all : AllIn (sizes_of k.source k.before) c
    all = convoy_in c (sizes_of k.source k.before) known

    apart : AllApart c
    apart = convoy_apart c (sizes_of k.source k.before) known

    run : Run k.source c k.before k.result.answer k.result.done k.after
    run = post.run none

    alone : (j : ℕ) → j < k.result.done → (j < length c) × CallPost (frame_at c j) k.source k.before (Ok tt) (parts_of (frame_at c j) k.after)
    alone = finished_alone k.source c k.before k.result.answer k.result.done k.after all apart run

    sizes : SameSizes k.before k.after
    sizes = Run-sizes k.source c k.before k.result.answer k.result.done k.after all run

    others : (s : Plane) → length (s.bytes k.after) ≡ length (s.bytes k.before)
        → OthersKept s.part c k.result.done (s.bytes k.before) (s.bytes k.after)
    others s same = record { size = same; byte = byte_kept s k.source c k.before k.result.answer k.result.done k.after all run }
