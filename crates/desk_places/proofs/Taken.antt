-- Parts that overlap an open frame's: the test over the first n cameras says yes exactly where one of these has such a frame.
-- Assumes nothing.
use Prim.Native.Nat.{ℕ, zero, suc, ◌+◌, ◌≤◌, ◌<◌}
use mathlib.Core.Path.{◌≡◌, refl, sym, ap, ◌∙◌}
use mathlib.Core.Bool.{Bool, true, false, ◌||◌}
use mathlib.Core.List.{List}
use native.Mathlib.Omega.{arith}
use borrow.Author.Tests.{eqb-true, eqb-false}
use lib.Dec.{eqb}
use lib.ListN.{length, take}
use lib.Seq.{take-length}
use Rattle.std.specs.List.{list_any}
use Rattle.std.proofs.Math.Bool.{or_comm}
use Rattle.std.proofs.lemmas.Bool.{or_parts}
use Rattle.std.proofs.lemmas.List.Folds.{list_any_more}
use Rattle.desk_places.specs.declared.FrameParts.{FrameParts}
use Rattle.desk_places.specs.declared.Slot.{Slot}
use Rattle.desk_places.specs.declared.Slot.TheVariants.{Free}
use Rattle.desk_places.specs.Places.{slot_in, overlaps_slot, overlaps_open}

pub overlaps_none : (ps : List Slot) (w : FrameParts) (n : ℕ) → overlaps_open ps w n ≡ false → (c : ℕ) → c < n → overlaps_slot w (slot_in ps c) ≡ false
unfolding overlaps_open
overlaps_none ps w zero e c l = absurd (omega arith)
overlaps_none ps w (suc n) e c l =
    let o = or_parts (overlaps_slot w (slot_in ps n)) (overlaps_open ps w n) e in
    (elim (eqb c n) as (λ a. eqb c n ≡ a → overlaps_slot w (slot_in ps c) ≡ false) [
      | true ↦ λ is. ap (λ (j : ℕ). overlaps_slot w (slot_in ps j)) (eqb-true c n is) ∙ o.0
      | false ↦ λ other. overlaps_none ps w n o.1 c (omega (arith, eqb-false c n other))
    ]) refl

-- ---- the same by a test of each

overlaps_first : (ps : List Slot) (w : FrameParts) (n : ℕ) → n ≤ length ps → overlaps_open ps w n ≡ list_any (overlaps_slot w) (take n ps)
unfolding overlaps_open
overlaps_first ps w zero l = refl
overlaps_first ps w (suc n) l =
    let more : n + 1 ≡ suc n = omega arith in
    ap (λ (b : Bool). overlaps_slot w (slot_in ps n) || b) (overlaps_first ps w n (omega arith))
    ∙ or_comm (overlaps_slot w (slot_in ps n)) (list_any (overlaps_slot w) (take n ps))
    ∙ sym (list_any_more (overlaps_slot w) ps n Free (omega arith))
    ∙ ap (λ (m : ℕ). list_any (overlaps_slot w) (take m ps)) more

pub overlaps_any : (ps : List Slot) (w : FrameParts) → length ps ≡ 32 → overlaps_open ps w 32 ≡ list_any (overlaps_slot w) ps
overlaps_any ps w e =
    overlaps_first ps w 32 (omega (arith, e)) ∙ ap (λ (m : ℕ). list_any (overlaps_slot w) (take m ps)) (sym e)
    ∙ ap (list_any (overlaps_slot w)) (take-length ps)
