-- Grey stays grey. A finished frame is all rows of its source's image; a list of band calls leaves the planes of the tally's image (band_lists' Run);
-- the answer to a request is such a frame's planes, one behind the other.
-- Assumes nothing.
use Prim.Native.Nat.{ℕ, ◌+◌, ◌*◌, ◌-◌, ◌/◌, ◌%◌, ◌≤◌, ◌<◌}
use mathlib.Core.Path.{◌≡◌, refl, sym, ap, subst, ◌∙◌}
use mathlib.Core.List.{List}
use native.Mathlib.Nat.{le_refl, mod-lt, mul_comm, mul-le-mul_right, div-lt_iff_lt-mul}
use native.Mathlib.Omega.{arith}
use lib.ListN.{length, get_or, drop}
use Rattle.yuv_support.specs.declared.YuvRange.{YuvRange}
use Rattle.yuv_support.specs.declared.YuvStandardMatrix.{YuvStandardMatrix}
use Rattle.sharp_gamma.specs.declared.SharpYuvGammaTransfer.{SharpYuvGammaTransfer}
use Rattle.sharp_gamma.specs.declared.TableRounding.{TableRounding}
use Rattle.std.specs.Prelude.{Ok}
use Rattle.yuv_error.specs.Numbers.{Numbers, numbers}
use Rattle.yuv_error.specs.Rules.{first_numbers}
use Rattle.yuv_error.specs.Known.{Sized}
use Rattle.yuv_error.specs.Lowest.{Lowest}
use Rattle.yuv_error.proofs.First.{append_finished}
use Rattle.yuv_error.proofs.Lowest.{first_is_lowest}
use Rattle.definitions.specs.declared.FrameDescription.{FrameDescription}
use Rattle.definitions.specs.Row.{pixels_of}
use Rattle.definitions.specs.Image.{Image, row_bytes, source_image, chroma_rows, frame_image, luma_at, cb_at, cr_at}
use Rattle.definitions.specs.Image as image
use Rattle.definitions.proofs.Planes.{below?, row_of}
use Rattle.definitions.proofs.Finished.{finished_last}
use Rattle.sharp_rgba_to_yuv.specs.FrameCall.{FrameCall, frame_call, image_of, FramePost}
use Rattle.sharp_rgba_to_yuv.proofs.Accepted.{accepted, call_Accepted}
use Rattle.band_calls.specs.declared.FrameAnswer.{FrameAnswer}
use Rattle.band_calls.specs.BandCall.{OpenPost, BandCall}
use Rattle.band_lists.specs.BandLists.{Fresh, AllMet, none, Chained}
use Rattle.band_lists.proofs.Demand3.{opening_Sized}
use Rattle.band_lists.proofs.Run.{of_calls}
use Rattle.frame_request.specs.Request.{frame_of, source_stride, opening_rules, buffer_rules, request_rules, packed_lengths, byte_in, luma_size, chroma_size}
use Rattle.frame_request.specs.Request.{output_at, output_size}
use Rattle.frame_request.proofs.Checked.{frame_asks}
use Rattle.frame_request.proofs.Output.{luma_byte, cb_byte, cr_byte}
use Rattle.frame_calls.specs.Calls.{frame_of_opening, handed}
use Rattle.frame_calls.specs.Lists.{done_told, as_frame, as_bands}
use Rattle.frame_calls.proofs.Lists.{frame_accepted, open_done, open_accepted, all_met}
use Rattle.exact_weights.proofs.Near.{matrix_near}
use Rattle.grey.specs.Grey.{grey_of, GreyRows, LumaOfGrey, GreyPlanes}
use Rattle.grey.proofs.Planes.{luma_at_lem, cb_at_lem, cr_at_lem, planes_grey}
use Rattle.grey.proofs.Worked.{source, right, rectangle}
use Rattle.demands.specs.Demands.{tally_image, GreyAfter, GreyBands, GreyFrame, GreyAnswer, Grey}

-- of a finished frame
planes_of : (k : FrameCall) → FramePost k → k.answer ≡ Ok tt → GreyRows k.frame k.frame.height (image_of k)
    → GreyPlanes k.frame k.frame.height (image_of k) k.y' k.u' k.v'
planes_of k p is grey =
    let o = (call_Accepted k is p).lent in
    planes_grey k.frame k.frame.height _ o.sized (le_refl _) grey o.planes (rw is at p.planes)

frames : (k : FrameCall) → FramePost k → k.answer ≡ Ok tt → GreyFrame k
frames k p is grey = planes_of k p is grey

bands : (d : FrameDescription) (opening : FrameAnswer) (calls : List BandCall) → Fresh d opening → AllMet calls → Chained opening.state none calls
    → GreyBands d calls
bands d opening calls fresh met chain =
    let sized = opening_Sized d opening fresh in
    of_calls d opening.state fresh.met.state (λ t first last. GreyRows d t.n (tally_image d t) → GreyAfter d t last)
    (λ grey. tt)
    (λ t i j run grey. planes_grey d t.n (tally_image d t) sized run.fits.most grey run.lent (run.kept (tally_image d t) (λ r l. refl)).planes)
    calls met chain

-- byte p of a plane of rows of n bytes, all of them c
byte_in_lem : (f : ℕ → ℕ → ℕ) (rows n c : ℕ) → 1 ≤ n → ((k j : ℕ) → k < rows → j < n → f k j ≡ c) → (p : ℕ) → p < n * rows → byte_in f n p ≡ c
byte_in_lem f rows n c some same p l = same (p / n) (p % n) ((div-lt_iff_lt-mul {k = n} {x = p} {y = rows} some).1 (omega (arith, mul_comm n rows))) (mod-lt p some)

module _ (d : FrameDescription) (picture : Image) (sized : Sized d) (grey : GreyRows d d.height picture) where
  all_cb : (k j : ℕ) → k < chroma_rows d → j < image.chroma_size d → cb_at d picture k j ≡ 128
  all_cb k j l m = cb_at_lem d d.height picture sized (le_refl _) grey k j (rw (finished_last d) l) m

  all_cr : (k j : ℕ) → k < chroma_rows d → j < image.chroma_size d → cr_at d picture k j ≡ 128
  all_cr k j l m = cr_at_lem d d.height picture sized (le_refl _) grey k j (rw (finished_last d) l) m

  chroma : (p : ℕ) → luma_size d ≤ p → p < output_size d → output_at d picture p ≡ 128
  chroma p l m = below? p (luma_size d + chroma_size d)
      (λ u. let q = p - luma_size d in let at : luma_size d + q ≡ p = omega arith in
      subst (λ (p : ℕ). output_at d picture p ≡ 128) at (cb_byte d picture q (omega arith) ∙ byte_in_lem _ _ _ 128 wide all_cb q (omega arith)))
      (λ v. let q = p - (luma_size d + chroma_size d) in let at : luma_size d + chroma_size d + q ≡ p = omega arith in
      subst (λ (p : ℕ). output_at d picture p ≡ 128) at (cr_byte d picture q (omega arith) ∙ byte_in_lem _ _ _ 128 wide all_cr q (omega arith)))
    where
      wide : 1 ≤ image.chroma_size d
      wide = omega (arith, sized.width_least)

  inside : (r x : ℕ) → r < d.height → x < d.width → r * d.width + x < luma_size d
  inside r x l m = omega (arith, mul-le-mul_right {m = r + 1} {n = d.height} d.width (omega arith), mul_comm d.height d.width)

  answer : GreyAnswer d picture (output_at d picture)
  answer = (
    (λ r x l m. let at = row_of r d.width x (r * d.width + x) m refl in
        subst (LumaOfGrey d.settings.range (grey_of d.settings (picture r x)))
        (sym (luma_byte d picture (r * d.width + x) (inside r x l m) ∙ ap (λ (k : ℕ). luma_at d picture k ((r * d.width + x) % d.width)) at.0
        ∙ ap (luma_at d picture r) at.1))
        (luma_at_lem d d.height picture sized (le_refl _) grey r x l m)),
    chroma,
  )

requests : (input : List ℕ) → Lowest (request_rules input) (numbers 0 0 0) → let d = frame_of input in
    let picture = frame_image d (source_stride d) (drop 9 input) in GreyRows d d.height picture → GreyAnswer d picture (output_at d picture)
requests input right grey =
    let d = frame_of input in
    let is : numbers 0 0 0 ≡ first_numbers (request_rules input) = (first_is_lowest (request_rules input) (numbers 0 0 0) refl).1 right in
    let none = sym (ap (λ (x : Numbers). x.number) is) in
    let asked = frame_asks input (append_finished (opening_rules input) (buffer_rules input) refl none).0 in
    let a = accepted d (source_stride d) (packed_lengths d (length (drop 9 input))) (ap (λ (x : Numbers). x.number) asked ∙ none) in
    answer d _ a.lent.sized grey

pub grey : Grey
grey = record {
  frames = frames;
  bands = bands;
  linked_frames = λ k p z. let f = frame_accepted p z in frames (as_frame k) f.1 f.0;
  linked_bands = λ o bs p z kept chained.
      let d = frame_of_opening o in
      let opened : OpenPost d (handed d (Ok tt) (done_told o.told)) = rw (open_done p) (open_accepted p z) in
      bands d (handed d (Ok tt) (done_told o.told)) (as_bands bs) (record { met = opened; accepted = refl }) (all_met bs kept) chained;
  black_and_white = λ k p is limited grey r x l m.
      let s = k.frame.settings in
      subst (λ (range : YuvRange). LumaOfGrey range (grey_of s (image_of k r x)) (get_or k.y' (r * k.frame.y_stride + x) 0)) limited
      ((planes_of k p is grey).luma r x l m);
  requests = requests;
  weights = matrix_near;
}

-- a grey pixel beside a red one, which is no part of the frame: its planes are the grey, and no tint
pub beside_red : (matrix : YuvStandardMatrix) (transfer : SharpYuvGammaTransfer) (rounding : TableRounding) (y u v y' u' v' : List ℕ)
    → FramePost (frame_call (right matrix transfer rounding) 6 source y u v (Ok tt) y' u' v') → (get_or y' 0 0 ≡ 77) × (get_or u' 0 0 ≡ 128) × (get_or v' 0 0 ≡ 128)
unfolding source_image pixels_of row_bytes
beside_red matrix transfer rounding y u v y' u' v' p =
    let planes = grey.frames _ p refl (rectangle matrix transfer rounding) in
    (planes.luma 0 0 (omega arith) (omega arith), planes.cb 0 0 (omega arith) (omega arith), planes.cr 0 0 (omega arith) (omega arith))
