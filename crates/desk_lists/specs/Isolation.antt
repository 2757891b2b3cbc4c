-- The claim that a camera's planes are those of its own bands alone, whatever the others do. docs/RULES.md, 16.6.
-- Assumes nothing.
use Rattle.std.specs.Prelude.{ℕ, ◌+◌, ◌<◌, ◌≡◌, Bool, true, false, cond, ◌&&◌, ◌||◌, List, [], ◌∷◌, ◌++◌, eqb, Result, Ok, Err, Option, None, Some}
use Rattle.yuv_error.specs.declared.YuvError.{YuvError}
use Rattle.yuv_error.specs.Lent.{taken}
use Rattle.definitions.specs.declared.FrameDescription.{FrameDescription}
use Rattle.definitions.specs.Image.{chroma_size, finished_of}
use Rattle.definitions.specs.Plane.{RowsEqual}
use Rattle.sharp_rgba_to_yuv.specs.FrameCall.{FrameCall}
use Rattle.band_calls.specs.BandCall.{state_of, BandCall}
use Rattle.band_lists.specs.BandLists.{Fresh, Tally, no_rows, tally_of, Accepted, none, call, first_call, last_call, Chained, SameRows, OthersEqual}
use Rattle.band_lists.specs.BandLists as bands
use Rattle.buffer_parts.specs.Parts.{part_of}
use Rattle.desk_places.specs.declared.FrameParts.{FrameParts}
use Rattle.desk_places.specs.declared.OpenFrame.{OpenFrame}
use Rattle.desk_places.specs.declared.WaitingBand.{WaitingBand}
use Rattle.desk_places.specs.declared.Slot.{Slot}
use Rattle.desk_places.specs.declared.Slot.TheVariants.{Free, Idle, Waiting}
use Rattle.desk_places.specs.Places.{is_open}
use Rattle.desk.specs.declared.Desk.{Desk}
use Rattle.desk.specs.declared.Served.{Served}
use Rattle.desk_bands.specs.Buffers.{Buffers, are_lent, FramePlanes, planes_in, band_call_in}
use Rattle.desk.specs.DeskCall.{fresh, slot_at, StepCall}
use Rattle.desk_lists.specs.DeskLists.{DeskCall, opening, offering, step, AllMet, HandedOn, desk_after, tells}

-- ---- planes, carried rows and waiting bands come back as left

-- RULES 16.6: the last step, once there was one
pub data LastStep : Type 0 where
  no_step : LastStep
  last_step : StepCall → LastStep

-- RULES 16.6
abbrev pub last_of : LastStep → List DeskCall → LastStep
last_of l [] = l
last_of l (opening k ∷ ks) = last_of l ks
last_of l (offering k source ∷ ks) = last_of l ks
last_of l (step k ∷ ks) = last_of (last_step k) ks

-- RULES 16.6: the planes and the carried row of the frame in a slot are the same in two sets of buffers
abbrev pub SamePlanes : Slot → (p q : Buffers) → Type 0
SamePlanes Free p q = Unit {0}
SamePlanes (Idle f) p q = planes_in f.parts p ≡ planes_in f.parts q
SamePlanes (Waiting f b) p q = planes_in f.parts p ≡ planes_in f.parts q

-- RULES 16.6: so for every frame that the last step left open; every other byte may be anything, and the buffers of any length
abbrev pub PlanesBack : LastStep → Buffers → Type 0
PlanesBack no_step p = Unit {0}
PlanesBack (last_step k) p = (c : ℕ) → SamePlanes (slot_at k.result.desk c) p k.left

-- RULES 16.6: the waiting band of a slot is the same in two source buffers
abbrev pub SameBand : Slot → (p q : List ℕ) → Type 0
SameBand Free p q = Unit {0}
SameBand (Idle f) p q = Unit {0}
SameBand (Waiting f b) p q = part_of b.source p ≡ part_of b.source q

-- RULES 16.6: so for every band that waits at the desk
abbrev pub BandsBack : Desk → (now before : List ℕ) → Type 0
BandsBack d now before = (c : ℕ) → SameBand (slot_at d c) now before

-- RULES 16.6: the source buffer as the last offer or step found it
abbrev pub source_after : List ℕ → List DeskCall → List ℕ
source_after s [] = s
source_after s (opening k ∷ ks) = source_after s ks
source_after s (offering k source ∷ ks) = source_after source ks
source_after s (step k ∷ ks) = source_after k.lent.source ks

-- RULES 16.6: for a list of calls, after the last step l and with the source buffer last seen as s
abbrev pub AsLeft : LastStep → (s : List ℕ) → List DeskCall → Type 0
AsLeft l s [] = Unit {0}
AsLeft l s (opening k ∷ ks) = AsLeft l s ks
AsLeft l s (offering k source ∷ ks) = BandsBack k.desk source s × AsLeft l source ks
AsLeft l s (step k ∷ ks) = PlanesBack l k.lent × (BandsBack k.desk k.lent.source s × AsLeft (last_step k) k.lent.source ks)

-- ---- a camera's own calls

-- RULES 16.6: a band, by the number and stride of its rows and by its bytes
pub record OwnBand : Type 0 where
  pub rows : ℕ
  pub stride : ℕ
  pub bytes : List ℕ

-- RULES 16.6: a waiting band in a source buffer
abbrev pub own_band : WaitingBand → (source : List ℕ) → OwnBand
own_band b source = record { rows = b.rows; stride = b.stride; bytes = part_of b.source source }

-- RULES 16.6: what became of a band at its step: 18, or a band call
pub data Turned : Type 0 where
  dropped : OwnBand → Turned
  called : BandCall → Turned

-- RULES 16.6
abbrev pub calls_of : List Turned → List BandCall
calls_of [] = []
calls_of (dropped b ∷ ts) = calls_of ts
calls_of (called k ∷ ts) = k ∷ calls_of ts

-- RULES 16.6
abbrev pub band_of : Turned → OwnBand
band_of (dropped b) = b
band_of (called k) = record { rows = k.rows; stride = k.stride; bytes = k.source }

-- RULES 16.6
abbrev pub bands_of : List Turned → List OwnBand
bands_of [] = []
bands_of (t ∷ ts) = band_of t ∷ bands_of ts

-- RULES 16.6: a camera's own calls since its last accepted opening: the frame and its parts, what became of its bands at its steps, and the bands
-- that it offered and that were accepted
pub data History : Type 0 where
  no_frame : History
  since : FrameDescription → FrameParts → List Turned → List OwnBand → History

-- RULES 16.6: a call finished its work
abbrev pub is_finished : Result Unit YuvError → Bool
is_finished (Ok done) = true
is_finished (Err e) = false

-- RULES 16.6: the band call of a step that told the answer a
abbrev pub call_in : OpenFrame → WaitingBand → StepCall → Result Unit YuvError → BandCall
call_in f b k a = band_call_in f b k.lent (record { state = state_of f.state.frame (f.state.done + taken a b.rows); answer = a }) k.left

-- RULES 16.6: what became of the band that waited
abbrev pub turned_in : Slot → StepCall → Result Unit YuvError → List Turned
turned_in Free k a = []
turned_in (Idle f) k a = []
turned_in (Waiting f b) k a = cond (are_lent f b k.lent) (called (call_in f b k a)) (dropped (own_band b k.lent.source)) ∷ []

-- RULES 16.6
abbrev pub and_turned : History → List Turned → History
and_turned no_frame t = no_frame
and_turned (since d w ts os) t = since d w (ts ++ t) os

-- RULES 16.6
abbrev pub and_offered : History → OwnBand → History
and_offered no_frame b = no_frame
and_offered (since d w ts os) b = since d w ts (os ++ (b ∷ []))

-- RULES 16.6: a step counts for the camera that it told
abbrev pub and_served : ℕ → StepCall → Option Served → History → History
and_served c k None h = h
and_served c k (Some s) h = cond (eqb s.camera c) (and_turned h (turned_in (slot_at k.desk c) k s.answer)) h

-- RULES 16.6: an opening and an offer count where they name the camera and were accepted
abbrev pub noted : ℕ → DeskCall → History → History
noted c (opening k) h = cond (is_finished k.result.answer && eqb k.camera c) (since k.frame k.parts [] []) h
noted c (offering k source) h = cond (is_finished k.result.answer && eqb k.camera c) (and_offered h (own_band k.band source)) h
noted c (step k) h = and_served c k k.result.served h

-- RULES 16.6
abbrev pub history_of : ℕ → History → List DeskCall → History
history_of c h [] = h
history_of c h (k ∷ ks) = history_of c (noted c k h) ks

-- ---- the claim

-- RULES 16.6: the band that waits, in the source buffer as last seen
abbrev pub waiting_in : Slot → (source : List ℕ) → List OwnBand
waiting_in Free source = []
waiting_in (Idle f) source = []
waiting_in (Waiting f b) source = own_band b source ∷ []

-- RULES 16.6: the frame with n rows done, of which some remain; the number is free once its last row is done
abbrev pub HasRows : FrameDescription → FrameParts → (n : ℕ) → Slot → Type 0
HasRows d w n Free = n ≡ d.height
HasRows d w n (Idle f) = (f ≡ record { state = state_of d n; parts = w }) × (n < d.height)
HasRows d w n (Waiting f b) = (f ≡ record { state = state_of d n; parts = w }) × (n < d.height)

-- RULES 16.6: a frame's planes and carried row as its band call left them
abbrev pub planes_after : BandCall → FramePlanes
planes_after k = record { y = k.y'; u = k.u'; v = k.v'; carried = k.carried' }

-- RULES 16.6: in the buffers as the last step left them stand the frame's planes as its own last accepted call left them
abbrev pub PlanesLeft : LastStep → FrameParts → Accepted → Type 0
PlanesLeft l w none = Unit {0}
PlanesLeft no_step w (call j) = ⊥
PlanesLeft (last_step k) w (call j) = planes_in w k.left ≡ planes_after j

-- RULES 16.6: the last step told that it served camera c
abbrev pub last_tells : ℕ → LastStep → Bool
last_tells c no_step = false
last_tells c (last_step k) = tells c k.result.served

-- RULES 16.6: up to its last row's step: the frame is open, or the last step was that one
abbrev pub in_view : ℕ → Slot → LastStep → Bool
in_view c s l = is_open s || last_tells c l

-- RULES 16.6: a camera's calls, as if there were no other camera
pub record Alone (c : ℕ) (d : FrameDescription) (w : FrameParts) (ts : List Turned) (os : List OwnBand) (s : Slot) (source : List ℕ)
    (l : LastStep) : Type 0 where
  pub opened : Fresh d (record { state = state_of d 0; answer = Ok tt })
  pub met : bands.AllMet (calls_of ts)
  pub chained : Chained (state_of d 0) none (calls_of ts)
  pub own : os ≡ bands_of ts ++ waiting_in s source
  pub rows : HasRows d w (tally_of d no_rows (calls_of ts)).n s
  pub planes : in_view c s l ≡ true → PlanesLeft l w (last_call none (calls_of ts))

-- RULES 16.6
abbrev pub Isolated : ℕ → History → Slot → (source : List ℕ) → LastStep → Type 0
Isolated c no_frame s source l = s ≡ Free
Isolated c (since d w ts os) s source l = Alone c d w ts os s source l

-- RULES 16.6: after every list of calls, for every camera, the calls of the converter that were made for it are calls of demand 3 on its own accepted
-- bands, and its planes stand in its parts of the buffers as those calls left them
abbrev pub Isolation : Type 0
Isolation =
    (c : ℕ) (calls : List DeskCall) → AllMet calls → HandedOn fresh calls → AsLeft no_step [] calls
    → Isolated c (history_of c no_frame calls) (slot_at (desk_after fresh calls) c) (source_after [] calls) (last_of no_step calls)

-- ---- what follows from it by demand 3

-- RULES 16.6: the finished rows in the frame's parts of the buffers are those that such a frame call leaves
pub record PartsAgree (d : FrameDescription) (w : FrameParts) (n : ℕ) (p : Buffers) (f : FrameCall) : Type 0 where
  pub y_rows : RowsEqual n d.width d.y_stride f.frame.y_stride (part_of w.y p.y) f.y'
  pub u_rows : RowsEqual (finished_of d n) (chroma_size d) d.u_stride f.frame.u_stride (part_of w.u p.u) f.u'
  pub v_rows : RowsEqual (finished_of d n) (chroma_size d) d.v_stride f.frame.v_stride (part_of w.v p.v) f.v'

-- RULES 16.6
abbrev pub AgreesWith : FrameDescription → FrameParts → Tally → LastStep → Type 0
AgreesWith d w t no_step = t.n ≡ 0
AgreesWith d w t (last_step k) = (f : FrameCall) → SameRows d t f → PartsAgree d w t.n k.left f

-- RULES 16.6: every other byte of the parts is as the frame's first accepted band call found it
pub record OthersAsFound (d : FrameDescription) (w : FrameParts) (n : ℕ) (p : Buffers) (i : BandCall) : Type 0 where
  pub y_others : OthersEqual n d.width d.y_stride (part_of w.y p.y) i.y
  pub u_others : OthersEqual (finished_of d n) (chroma_size d) d.u_stride (part_of w.u p.u) i.u
  pub v_others : OthersEqual (finished_of d n) (chroma_size d) d.v_stride (part_of w.v p.v) i.v

-- RULES 16.6
abbrev pub OthersKept : FrameDescription → FrameParts → (n : ℕ) → (first : Accepted) → LastStep → Type 0
OthersKept d w n none l = Unit {0}
OthersKept d w n (call i) no_step = ⊥
OthersKept d w n (call i) (last_step k) = OthersAsFound d w n k.left i

-- RULES 16.6
pub record OwnPlanes (d : FrameDescription) (w : FrameParts) (ks : List BandCall) (l : LastStep) : Type 0 where
  pub rows : AgreesWith d w (tally_of d no_rows ks) l
  pub others : OthersKept d w (tally_of d no_rows ks).n (first_call ks) l

-- RULES 16.6
abbrev pub OwnRows : ℕ → History → Slot → LastStep → Type 0
OwnRows c no_frame s l = Unit {0}
OwnRows c (since d w ts os) s l = in_view c s l ≡ true → OwnPlanes d w (calls_of ts) l

-- RULES 16.6: up to its last row's step a camera's planes are those of its own accepted bands converted alone: the finished rows byte for byte those of
-- every frame call with these rows, and every other byte as the first of these bands found it
abbrev pub PlanesOfOwnBands : Type 0
PlanesOfOwnBands =
    (c : ℕ) (calls : List DeskCall) → AllMet calls → HandedOn fresh calls → AsLeft no_step [] calls
    → OwnRows c (history_of c no_frame calls) (slot_at (desk_after fresh calls) c) (last_of no_step calls)
