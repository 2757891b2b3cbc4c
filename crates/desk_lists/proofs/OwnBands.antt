-- The planes of a camera, by isolation and demand 3: its calls are those of one frame, so its finished rows are those of a frame call with its rows.
-- Assumes nothing.
use Prim.Native.Nat.{ℕ, ◌+◌, ◌*◌, ◌<◌}
use mathlib.Core.Path.{◌≡◌, sym, ap, subst, ◌∙◌}
use mathlib.Core.List.{List, []}
use native.Mathlib.Omega.{arith}
use lib.ListN.{get_or}
use Rattle.definitions.specs.declared.FrameDescription.{FrameDescription}
use Rattle.definitions.specs.Image.{chroma_size, finished_of}
use Rattle.definitions.proofs.Finished.{finished_none}
use Rattle.yuv_error.specs.Known.{Sized}
use Rattle.band_calls.specs.declared.FrameState.{FrameState}
use Rattle.band_calls.specs.BandCall.{state_of}
use Rattle.band_lists.specs.BandLists.{Tally, no_rows, tally_of, Accepted, none, call, first_call, last_call, OthersEqual, After}
use Rattle.band_lists.proofs.Demand3.{opening_Sized, demand_3}
use Rattle.desk_places.specs.declared.FrameParts.{FrameParts}
use Rattle.desk_places.specs.declared.Slot.{Slot}
use Rattle.desk_bands.specs.Buffers.{FramePlanes}
use Rattle.desk.specs.DeskCall.{fresh, slot_at}
use Rattle.desk_lists.specs.DeskLists.{desk_after}
use Rattle.desk_lists.specs.Isolation.{LastStep, no_step, last_step, last_of, source_after, calls_of, History, no_frame, since, history_of, PlanesLeft}
use Rattle.desk_lists.specs.Isolation.{Isolated, AgreesWith, OthersKept, OwnRows, PlanesOfOwnBands}
use Rattle.desk_lists.proofs.Kept.{opening_of}
use Rattle.desk_lists.proofs.Isolation.{isolation}

-- no row is finished
no_row : (m r : ℕ) → m ≡ 0 → r < m → ⊥
no_row m r is l = omega arith

-- a byte of equal lists
byte_of : (p : ℕ) {x y : List ℕ} → x ≡ y → get_or x p 0 ≡ get_or y p 0
byte_of p e = ap (λ (z : List ℕ). get_or z p 0) e

agrees : (d : FrameDescription) (w : FrameParts) (o : FrameState) (t : Tally) (l : LastStep) (first last : Accepted) → Sized d
    → After d o t first last → PlanesLeft l w last → AgreesWith d w t l
agrees d w o t no_step none none sized a left = a.0
agrees d w o t (last_step k) none none sized a left = λ f same.
    let none_finished = ap (finished_of d) a.0 ∙ finished_none d sized.height_least in
    record {
      y_rows = λ r x l m. absurd (no_row t.n r a.0 l);
      u_rows = λ r x l m. absurd (no_row (finished_of d t.n) r none_finished l);
      v_rows = λ r x l m. absurd (no_row (finished_of d t.n) r none_finished l);
    }
agrees d w o t l none (call j) sized a left = absurd a
agrees d w o t l (call i) none sized a left = absurd a
agrees d w o t no_step (call i) (call j) sized a left = absurd left
agrees d w o t (last_step k) (call i) (call j) sized a left = λ f same.
    let p = a.planes f same in
    record {
      y_rows = λ r x l m. byte_of (r * d.y_stride + x) (ap (λ (z : FramePlanes). z.y) left) ∙ p.y_rows r x l m;
      u_rows = λ r x l m. byte_of (r * d.u_stride + x) (ap (λ (z : FramePlanes). z.u) left) ∙ p.u_rows r x l m;
      v_rows = λ r x l m. byte_of (r * d.v_stride + x) (ap (λ (z : FramePlanes). z.v) left) ∙ p.v_rows r x l m;
    }

others : (d : FrameDescription) (w : FrameParts) (o : FrameState) (t : Tally) (l : LastStep) (first last : Accepted)
    → After d o t first last → PlanesLeft l w last → OthersKept d w t.n first l
others d w o t l none last a left = tt
others d w o t l (call i) none a left = absurd a
others d w o t no_step (call i) (call j) a left = absurd left
others d w o t (last_step k) (call i) (call j) a left =
    let back = sym left in
    record {
      y_others = subst (λ (z : FramePlanes). OthersEqual t.n d.width d.y_stride z.y i.y) back a.y_others;
      u_others = subst (λ (z : FramePlanes). OthersEqual (finished_of d t.n) (chroma_size d) d.u_stride z.u i.u) back a.u_others;
      v_others = subst (λ (z : FramePlanes). OthersEqual (finished_of d t.n) (chroma_size d) d.v_stride z.v i.v) back a.v_others;
    }

own_rows : (c : ℕ) (h : History) (s : Slot) (source : List ℕ) (l : LastStep) → Isolated c h s source l → OwnRows c h s l
own_rows c no_frame s source l a = tt
own_rows c (since d w ts os) s source l a = λ view.
    let ks = calls_of ts in
    let t = tally_of d no_rows ks in
    let after = (demand_3 d (opening_of d) ks a.opened a.met a.chained).0 in
    record {
      rows = agrees d w (state_of d 0) t l (first_call ks) (last_call none ks) (opening_Sized d (opening_of d) a.opened) after (a.planes view);
      others = others d w (state_of d 0) t l (first_call ks) (last_call none ks) after (a.planes view);
    }

pub planes_of_own_bands : PlanesOfOwnBands
planes_of_own_bands c calls met hand back =
    own_rows c (history_of c no_frame calls) (slot_at (desk_after fresh calls) c) (source_after [] calls) (last_of no_step calls)
    (isolation c calls met hand back)
