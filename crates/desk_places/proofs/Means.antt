-- The tests of parts are exact: of one pair of frames by the four buffers, of the desk by its cameras.
-- Assumes nothing.
use Prim.Native.Nat.{ℕ, zero, suc, ◌<◌}
use mathlib.Core.Path.{◌≡◌, refl, sym}
use mathlib.Core.Bool.{Bool, true, false, ◌||◌, true≢false, and-eq-true_iff}
use mathlib.Core.List.{List}
use mathlib.Core.Logic.{◌↔◌}
use native.Mathlib.Omega.{arith}
use Rattle.std.proofs.lemmas.Bool.{true_from_ne_false, both_ways}
use Rattle.std.proofs.lemmas.Bool.Decides.{Decides-or}
use Rattle.buffer_parts.specs.Parts.{is_inside}
use Rattle.buffer_parts.proofs.Tests.{tests_are_exact as parts_are_exact}
use Rattle.desk_places.specs.declared.FrameParts.{FrameParts}
use Rattle.desk_places.specs.declared.BufferLengths.{BufferLengths}
use Rattle.desk_places.specs.declared.OpenFrame.{OpenFrame}
use Rattle.desk_places.specs.declared.Slot.{Slot}
use Rattle.desk_places.specs.declared.Slot.TheVariants.{Free, Idle, Waiting}
use Rattle.desk_places.specs.Places.{slot_in, are_inside, overlap_parts, overlaps_slot, overlaps_open}
use Rattle.desk_places.specs.Means.{AllInside, ShareByte, HasFrame, Taken, TestsAreExact}
use Rattle.desk_places.proofs.Taken.{overlaps_none}

-- ---- each part in its buffer

pub all_inside : (w : FrameParts) (n : BufferLengths) → are_inside w n ≡ true → AllInside w n
all_inside w n e =
    let y = (and-eq-true_iff (is_inside w.y n.y) _).0 e in
    let u = (and-eq-true_iff (is_inside w.u n.u) _).0 y.1 in
    let v = (and-eq-true_iff (is_inside w.v n.v) _).0 u.1 in
    let exact = parts_are_exact.inside in
    record {
      y = (exact w.y n.y).0 y.0;
      u = (exact w.u n.u).0 u.0;
      v = (exact w.v n.v).0 v.0;
      carried = (exact w.carried n.carried).0 v.1;
    }

all_found : (w : FrameParts) (n : BufferLengths) → AllInside w n → are_inside w n ≡ true
all_found w n a =
    let exact = parts_are_exact.inside in
    rw ((exact w.y n.y).1 a.y, (exact w.u n.u).1 a.u, (exact w.v n.v).1 a.v, (exact w.carried n.carried).1 a.carried)

-- ---- two frames

pub share_exact : (v w : FrameParts) → (overlap_parts v w ≡ true) ↔ ShareByte v w
share_exact v w =
    let exact = parts_are_exact.overlap in
    Decides-or _ _ (exact v.y w.y)
    (Decides-or _ _ (exact v.u w.u) (Decides-or _ _ (exact v.v w.v) (exact v.carried w.carried)))

-- ---- the desk

slot_yes : (w : FrameParts) (s : Slot) → overlaps_slot w s ≡ true → (f : OpenFrame) × (HasFrame s f × ShareByte w f.parts)
slot_yes w Free e = absurd (true≢false (sym e))
slot_yes w (Idle f) e = (f, (refl, (share_exact w f.parts).0 e))
slot_yes w (Waiting f b) e = (f, (refl, (share_exact w f.parts).0 e))

slot_found : (w : FrameParts) (s : Slot) (f : OpenFrame) → HasFrame s f → ShareByte w f.parts → overlaps_slot w s ≡ true
slot_found w Free f h o = absurd h
slot_found w (Idle g) f h o = rw h ((share_exact w f.parts).1 o)
slot_found w (Waiting g b) f h o = rw h ((share_exact w f.parts).1 o)

-- one of the first n cameras
some_camera : (ps : List Slot) (w : FrameParts) (n : ℕ) → overlaps_open ps w n ≡ true → (c : ℕ) × ((c < n) × (overlaps_slot w (slot_in ps c) ≡ true))
unfolding overlaps_open
some_camera ps w zero e = absurd (true≢false (sym e))
some_camera ps w (suc n) e = by_test (overlaps_slot w (slot_in ps n)) refl e (some_camera ps w n)
  where
    by_test : (a : Bool) → overlaps_slot w (slot_in ps n) ≡ a → (a || overlaps_open ps w n) ≡ true
        → (overlaps_open ps w n ≡ true → (c : ℕ) × ((c < n) × (overlaps_slot w (slot_in ps c) ≡ true)))
        → (c : ℕ) × ((c < suc n) × (overlaps_slot w (slot_in ps c) ≡ true))
    by_test true is e before = (n, (omega arith, is))
    by_test false is e before = let b = before e in (b.0, (omega (arith, b.1.0), b.1.1))

taken_yes : (ps : List Slot) (w : FrameParts) → overlaps_open ps w 32 ≡ true → Taken ps w
taken_yes ps w e =
    let c = some_camera ps w 32 e in
    let f = slot_yes w (slot_in ps c.0) c.1.1 in
    record { camera = c.0; below = c.1.0; frame = f.0; stands = f.1.0; shared = f.1.1 }

Taken-found : (ps : List Slot) (w : FrameParts) → Taken ps w → overlaps_open ps w 32 ≡ true
Taken-found ps w t = true_from_ne_false (overlaps_open ps w 32) (λ e.
    both_ways _ (overlaps_none ps w 32 e t.camera t.below) (slot_found w (slot_in ps t.camera) t.frame t.stands t.shared))

pub tests_are_exact : TestsAreExact
tests_are_exact = record { inside = λ w n. (all_inside w n, all_found w n); taken = λ ps w. (taken_yes ps w, Taken-found ps w) }
