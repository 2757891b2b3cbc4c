-- Frame calls that are given the same colours: the second call's image may be put for the first's, and a plane with its rows written from one
-- image is one plane.
-- Assumes nothing.
use Prim.Native.Nat.{ℕ, ◌<◌}
use mathlib.Core.Path.{◌≡◌, refl, sym, ap, subst, ◌∙◌}
use native.Mathlib.Nat.{le_refl}
use native.Mathlib.Omega.{arith}
use lib.ListN.{length}
use Rattle.std.specs.Prelude.{Result, Ok, Err}
use Rattle.yuv_error.specs.declared.YuvError.{YuvError}
use Rattle.yuv_error.specs.Rules.{first_numbers}
use Rattle.yuv_error.proofs.Numbers.{same_answer}
use Rattle.definitions.specs.declared.FrameDescription.{FrameDescription}
use Rattle.definitions.specs.Image.{Image, source_image, frame_image}
use Rattle.definitions.proofs.Planes.{plane_unique, plane_to, rows_equal}
use Rattle.definitions.proofs.Finished.{finished_none, finished_last}
use Rattle.definitions.proofs.SameImages.{SameSeen, Sharpened-like}
use Rattle.sharp_rgba_to_yuv.specs.FrameCall.{FrameCall, frame_call, frame_rules, image_of, FramePost}
use Rattle.sharp_rgba_to_yuv.specs.Same.{SameColourBytes, AlphaAndPadding, elsewhere, WindowsAndBuffers}
use Rattle.sharp_rgba_to_yuv.proofs.Accepted.{call_Accepted}
use Rattle.sharp_rgba_to_yuv.proofs.Strides.{luma_strides, cb_strides, cr_strides}
use Rattle.sharp_rgba_to_yuv.proofs.Post.{refused_writes_nothing}

-- a frame call sees the frame's own rows and no other
seen : (d : FrameDescription) {a b : Image} → ((r x i : ℕ) → r < d.height → x < d.width → i < 3 → a r x i ≡ b r x i) → SameSeen d 0 d.height b a
seen d same = record { own = λ r _ l x i m n. sym (same r x i l m n); above = λ k _ l. absurd (omega arith) }

module _ (k j : FrameCall) (p : FramePost k) (same : SameColourBytes k j) where
  -- calls of one answer and one frame, whose planes were alike
  planes : (b : Result Unit YuvError) → k.answer ≡ b → (q : FramePost (frame_call k.frame k.stride j.source k.y k.u k.v k.answer j.y' j.u'
      j.v'))
      → image_of j ≡ frame_image k.frame k.stride j.source → (k.y' ≡ j.y') × (k.u' ≡ j.u') × (k.v' ≡ j.v')
  planes (Ok done) is q image =
      let o = (call_Accepted k is p).lent.sized.height_least in
      let x = rw is at p.planes in
      let z = Sharpened-like o (le_refl k.frame.height) (rw image at (seen k.frame same)) (rw is at q.planes) in
      (plane_unique x.luma z.luma, plane_unique x.cb z.cb, plane_unique x.cr z.cr)
  planes (Err e) is q image =
      let x = refused_writes_nothing k is p in
      let z = refused_writes_nothing _ is q in
      (x.0 ∙ sym z.0, x.1 ∙ sym z.1, x.2 ∙ sym z.2)

pub alpha_and_padding : AlphaAndPadding
alpha_and_padding k j p q s same =
    let given : Result Unit YuvError → FrameCall = λ (a : Result Unit YuvError). frame_call k.frame k.stride j.source k.y k.u k.v a j.y' j.u' j.v' in
    let r : FramePost (given j.answer) = subst FramePost s.others q in
    let answers : k.answer ≡ j.answer = same_answer k.answer j.answer
    (p.answered ∙ ap (λ (n : ℕ). first_numbers (frame_rules k.frame k.stride
    (record { source = n; y = length k.y; u = length k.u; v = length k.v }))) (sym s.size) ∙ sym r.answered) in
    let equal = planes k j p same k.answer refl (subst (λ (a : Result Unit YuvError). FramePost (given a)) (sym answers) r) (ap image_of s.others) in
    (answers, equal.0, equal.1, equal.2)

pub windows_and_buffers : WindowsAndBuffers
unfolding source_image
windows_and_buffers k j p q is is' e same =
    let d : FrameDescription = k.frame in
    let o = j.frame.window in
    let ys = j.frame.y_stride in
    let us = j.frame.u_stride in
    let vs = j.frame.v_stride in
    let f : FrameCall = frame_call (elsewhere d o ys us vs) j.stride j.source j.y j.u j.v j.answer j.y' j.u' j.v' in
    let r : FramePost f = subst (λ (e : FrameDescription). FramePost (frame_call e j.stride j.source j.y j.u j.v j.answer j.y' j.u'
    j.v')) e q in
    let l = (call_Accepted k is p).lent in
    let l' = (call_Accepted f is' r).lent in
    let x = rw is at p.planes in
    let like : SameColourBytes k f = subst (λ (e : FrameDescription). SameColourBytes k
    (frame_call e j.stride j.source j.y j.u j.v j.answer j.y' j.u' j.v')) e same in
    let z = Sharpened-like {d = elsewhere d o ys us vs} l.sized.height_least (le_refl d.height) (seen (elsewhere d o ys us vs) like)
    (rw is' at r.planes) in
    let start = finished_none d l.sized.height_least in
    let end = finished_last d in (
      rows_equal refl (le_refl _) l.planes.y_row l'.planes.y_row x.luma (luma_strides d o ys us vs _ z.luma),
      rows_equal start (le_refl _) l.planes.u_row l'.planes.u_row (plane_to end x.cb) (cb_strides d o ys us vs _ (plane_to end z.cb)),
      rows_equal start (le_refl _) l.planes.v_row l'.planes.v_row (plane_to end x.cr) (cr_strides d o ys us vs _ (plane_to end z.cr)),
    )
