-- What an opening and an offer that were not refused were given.
-- Assumes nothing.
use Prim.Native.Nat.{◌<◌}
use mathlib.Core.Path.{◌≡◌, refl}
use mathlib.Core.Bool.{true, false, not, true≢false}
use mathlib.Core.List.{◌++◌}
use native.Mathlib.Omega.{arith}
use borrow.Author.Tests.{ltb-false, not-false}
use lib.Dec.{ltb}
use Rattle.yuv_error.specs.Rules.{first_numbers}
use Rattle.yuv_error.specs.Lent.{opening_rules}
use Rattle.yuv_error.proofs.First.{append_finished}
use Rattle.std.proofs.lemmas.Bool.{or_parts}
use Rattle.yuv_error.proofs.Accepted.{none_holds}
use Rattle.buffer_parts.specs.Parts.{is_inside}
use Rattle.desk_places.specs.declared.OpenFrame.{OpenFrame}
use Rattle.desk_places.specs.declared.Slot.{Slot}
use Rattle.desk_places.specs.declared.Slot.TheVariants.{Free, Idle, Waiting}
use Rattle.desk_places.specs.Places.{is_open, is_waiting, are_inside, overlaps_open}
use Rattle.desk.specs.DeskCall.{slot_at, number_rules, part_rules, OpenCall, open_rules, OfferCall, offer_rules}

pub record OpenGiven (k : OpenCall) : Type 0 where
  pub below : k.camera < 32
  pub free : slot_at k.desk k.camera ≡ Free
  pub inside : are_inside k.parts k.lens ≡ true
  pub clear : overlaps_open k.desk.places k.parts 32 ≡ false
  pub opening : (first_numbers (opening_rules k.frame)).number ≡ 0

is_free : (s : Slot) → is_open s ≡ false → s ≡ Free
is_free Free e = refl
is_free (Idle f) e = absurd (true≢false e)
is_free (Waiting f b) e = absurd (true≢false e)

pub open_given : (k : OpenCall) → (first_numbers (open_rules k)).number ≡ 0 → OpenGiven k
open_given k e =
    let ps = k.desk.places in
    let a = append_finished (number_rules ps k.camera ++ part_rules ps k.parts k.lens) (opening_rules k.frame) refl e in
    let none = none_holds (number_rules ps k.camera ++ part_rules ps k.parts k.lens) refl a.0 in
    let parts = or_parts (not (are_inside k.parts k.lens)) _ (none 18) in
    record {
      below = omega (arith, ltb-false 31 k.camera (or_parts (ltb 31 k.camera) _ (none 21)).0);
      free = is_free (slot_at k.desk k.camera) (or_parts (is_open (slot_at k.desk k.camera)) _ (none 23)).0;
      inside = not-false _ parts.0;
      clear = (or_parts (overlaps_open ps k.parts 32) _ parts.1).0;
      opening = a.1;
    }

pub record OfferGiven (k : OfferCall) : Type 0 where
  pub below : k.camera < 32
  pub frame : OpenFrame
  pub idle : slot_at k.desk k.camera ≡ Idle frame
  pub inside : is_inside k.band.source k.len ≡ true

is_idle : (s : Slot) → not (is_open s) ≡ false → is_waiting s ≡ false → (f : OpenFrame) × (s ≡ Idle f)
is_idle Free e w = absurd (true≢false e)
is_idle (Idle f) e w = (f, refl)
is_idle (Waiting f b) e w = absurd (true≢false w)

pub offer_given : (k : OfferCall) → (first_numbers (offer_rules k)).number ≡ 0 → OfferGiven k
offer_given k e =
    let none = none_holds (offer_rules k) refl e in
    let s = slot_at k.desk k.camera in
    let number = or_parts (ltb 31 k.camera) _ (none 21) in
    let i = is_idle s (or_parts (not (is_open s)) _ number.1).0 (or_parts (is_waiting s) _ (none 22)).0 in
    record {
      below = omega (arith, ltb-false 31 k.camera number.0);
      frame = i.0;
      idle = i.1;
      inside = not-false _ (or_parts (not (is_inside k.band.source k.len)) _ (none 18)).0;
    }
