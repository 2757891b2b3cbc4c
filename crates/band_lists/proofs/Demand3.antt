-- Demand 3. A frame call with the tally's rows is one of an image that begins with them, and the accepted calls kept the planes of the first
-- n rows of every such image (Run). So the finished rows are equal, and the other bytes were kept. Assumes nothing.
use mathlib.Core.Path.{refl}
use mathlib.Core.List.{[]}
use native.Mathlib.Nat.{le_refl}
use lib.ListN.{get_or}
use Rattle.yuv_error.proofs.First.{finished_number}
use Rattle.definitions.specs.Row.{pixels_of}
use Rattle.definitions.specs.Image.{pixel_size}
use Rattle.definitions.specs.declared.FrameDescription.{FrameDescription}
use Rattle.yuv_error.specs.Known.{Sized}
use Rattle.definitions.proofs.Planes.{rows_equal}
use Rattle.definitions.proofs.Finished.{finished_rise, finished_none}
use Rattle.yuv_error.specs.Lent.{opening_rules}
use Rattle.yuv_error.proofs.Accepted.{opened}
use Rattle.sharp_rgba_to_yuv.proofs.Strides.{luma_strides, cb_strides, cr_strides}
use Rattle.band_calls.specs.declared.FrameAnswer.{FrameAnswer}
use Rattle.band_calls.specs.BandCall.{BandCall}
use Rattle.band_lists.specs.BandLists.{Fresh, Tally, Left, After, Demand3}
use Rattle.band_lists.proofs.Untouched.{refused_untouched}
use Rattle.band_lists.proofs.SameImage.{image_in, frame_planes, frame_lent, frame_Begins, others_equal}
use Rattle.band_lists.proofs.Run.{Run, of_calls}

pub opening_Sized : (d : FrameDescription) (opening : FrameAnswer) → Fresh d opening → Sized d
opening_Sized d opening fresh = opened d (finished_number (opening_rules d) fresh.accepted fresh.met.answered)

left : (d : FrameDescription) → Sized d → (t : Tally) (i j : BandCall) → Run d t i j → Left d t i j
left d sized t i j run =
    let start = finished_none d sized.height_least in
    let fewer = finished_rise d run.fits.most (le_refl _) in
    let own = (run.kept (λ r. pixels_of (pixel_size d) (get_or t.rows r [])) (λ r l. refl)).planes in
    record {
      state = run.state;
      planes = λ f same.
          let p = (run.kept (image_in d f) (frame_Begins same)).planes in
          let q = frame_planes same in
          let image = image_in d f in
          let o = f.frame.window in
          let ys = f.frame.y_stride in
          let us = f.frame.u_stride in
          let vs = f.frame.v_stride in
          record {
            y_rows = rows_equal refl run.fits.most run.lent.y_row (frame_lent same).y_row p.luma (luma_strides d o ys us vs image q.luma);
            u_rows = rows_equal start fewer run.lent.u_row (frame_lent same).u_row p.cb (cb_strides d o ys us vs image q.cb);
            v_rows = rows_equal start fewer run.lent.v_row (frame_lent same).v_row p.cr (cr_strides d o ys us vs image q.cr);
          };
      y_others = others_equal refl own.luma;
      u_others = others_equal start own.cb;
      v_others = others_equal start own.cr;
    }

pub demand_3 : Demand3
demand_3 d opening calls fresh met chain = (
  of_calls d opening.state fresh.met.state (After d opening.state) (refl, fresh.met.state) (left d (opening_Sized d opening fresh)) calls met chain,
  refused_untouched calls met,
)
