-- The places' test of parts, camera by camera.
-- Assumes nothing.
use Prim.Native.Nat.{ℕ, ◌+◌}
use mathlib.Core.Path.{◌≡◌, refl}
use mathlib.Core.Bool.{false}
use mathlib.Core.List.{List}
use native.Mathlib.Numerals.{add-one}
use Rattle.desk_places.specs.declared.FrameParts.{FrameParts}
use Rattle.desk_places.specs.declared.Slot.{Slot}
use Rattle.desk_places.specs.Places.{slot_in, overlaps_slot, overlaps_open}

-- parts that overlap none of the first n cameras' frames, and not that of the next
pub overlaps_start : (ps : List Slot) (w : FrameParts) → overlaps_open ps w 0 ≡ false
unfolding overlaps_open
overlaps_start ps w = refl

pub overlaps_next : (ps : List Slot) (w : FrameParts) (n : ℕ) → overlaps_slot w (slot_in ps n) ≡ false → overlaps_open ps w n ≡ false
    → overlaps_open ps w (n + 1) ≡ false
unfolding overlaps_open
overlaps_next ps w n e f = rw (add-one n, e, f)
