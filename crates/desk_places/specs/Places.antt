-- What stands at each camera's number, which parts of the shared buffers are taken, and whose turn it is: docs/RULES.md, 16.1 to 16.4.
-- Assumes nothing.
use Rattle.std.specs.Prelude.{ℕ, zero, suc, ◌+◌, ◌%◌, Bool, true, false, cond, ◌&&◌, ◌||◌, List, leb, get_or, set, replicate, Option, None, Some}
use Rattle.band_calls.specs.declared.FrameState.{FrameState}
use Rattle.buffer_parts.specs.Parts.{is_inside, are_overlapping}
use Rattle.desk_places.specs.declared.FrameParts.{FrameParts}
use Rattle.desk_places.specs.declared.BufferLengths.{BufferLengths}
use Rattle.desk_places.specs.declared.OpenFrame.{OpenFrame}
use Rattle.desk_places.specs.declared.WaitingBand.{WaitingBand}
use Rattle.desk_places.specs.declared.Slot.{Slot}
use Rattle.desk_places.specs.declared.Slot.TheVariants.{Free, Idle, Waiting}
use Rattle.desk_places.specs.declared.Turn.{Turn}

-- RULES 16.1: what stands at camera c's number; past the last number nothing does
abbrev pub slot_in : List Slot → ℕ → Slot
slot_in ps c = get_or ps c Free

-- RULES 16.1: the same places with another slot for camera c
abbrev pub with_slot : List Slot → ℕ → Slot → List Slot
with_slot ps c s = set ps c s

-- RULES 16.1: 32 numbers and no frame
abbrev pub no_frames : List Slot
no_frames = replicate 32 Free

-- RULES 16.1
abbrev pub is_open : Slot → Bool
is_open Free = false
is_open (Idle f) = true
is_open (Waiting f b) = true

-- RULES 16.1
abbrev pub is_waiting : Slot → Bool
is_waiting Free = false
is_waiting (Idle f) = false
is_waiting (Waiting f b) = true

-- RULES 16.2: each part lies in its buffer
abbrev pub are_inside : FrameParts → BufferLengths → Bool
are_inside w n = is_inside w.y n.y && (is_inside w.u n.u && (is_inside w.v n.v && is_inside w.carried n.carried))

-- RULES 16.2: parts of one buffer overlap: of Y, of U, of V, or of the carried rows
abbrev pub overlap_parts : FrameParts → FrameParts → Bool
overlap_parts v w =
    are_overlapping v.y w.y || (are_overlapping v.u w.u || (are_overlapping v.v w.v || are_overlapping v.carried w.carried))

-- RULES 16.2
abbrev pub overlaps_slot : FrameParts → Slot → Bool
overlaps_slot w Free = false
overlaps_slot w (Idle f) = overlap_parts w f.parts
overlaps_slot w (Waiting f b) = overlap_parts w f.parts

-- RULES 16.2: the parts overlap those of an open frame, of one of the first n cameras
unfoldable pub overlaps_open : List Slot → FrameParts → ℕ → Bool
overlaps_open ps w zero = false
overlaps_open ps w (suc n) = overlaps_slot w (slot_in ps n) || overlaps_open ps w n

-- RULES 16.3: the band waits where the frame has none waiting
abbrev pub offered : Slot → WaitingBand → Slot
offered Free b = Free
offered (Idle f) b = Waiting f b
offered (Waiting f w) b = Waiting f w

-- RULES 16.4: the camera that is asked after i others, when `from` is asked first
abbrev pub asked : (from i : ℕ) → ℕ
asked from i = (from + i) % 32

-- RULES 16.4: camera c's turn, with its frame and its band
abbrev pub its_turn : (c : ℕ) → OpenFrame → WaitingBand → Option Turn
its_turn c f b = Some (record { camera = c; frame = f; band = b })

-- RULES 16.4: it is camera c's turn where a band of it waits, else the turn is as it is
abbrev pub turn_of : ℕ → Slot → Option Turn → Option Turn
turn_of c Free n = n
turn_of c (Idle f) n = n
turn_of c (Waiting f b) n = its_turn c f b

-- RULES 16.4: the first with a band waiting, of the `left` cameras that come after i were asked
unfoldable pub first_waiting : List Slot → (from i left : ℕ) → Option Turn
first_waiting ps from i zero = None
first_waiting ps from i (suc n) = turn_of (asked from i) (slot_in ps (asked from i)) (first_waiting ps from (i + 1) n)

-- RULES 16.4: of all 32, going round
unfoldable pub next_waiting : List Slot → (from : ℕ) → Option Turn
next_waiting ps from = first_waiting ps from 0 32

-- RULES 16.1: the frame in a state that a band call handed back
abbrev pub with_state : OpenFrame → FrameState → OpenFrame
with_state f s = record { state = s; parts = f.parts }

-- RULES 16.4: a number is free again once its frame's last row is done
abbrev pub after_band : OpenFrame → FrameState → Slot
after_band f s = cond (leb s.frame.height s.done) Free (Idle (with_state f s))
