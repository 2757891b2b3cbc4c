-- The numbers that a call leaves are the desk that it handed back.
-- Assumes nothing.
use Prim.Native.Nat.{ℕ, ◌+◌, ◌%◌, ◌<◌}
use mathlib.Core.Path.{◌≡◌, refl, sym, ap, subst, ◌∙◌}
use native.Mathlib.Omega.{arith}
use lib.ListN.{length}
use lib.Seq.{get_or-set_same}
use Rattle.yuv_error.specs.declared.YuvError.{YuvError}
use Rattle.std.specs.Prelude.{Result, Ok, Err, Option, None, Some}
use Rattle.desk_places.specs.declared.Slot.{Slot}
use Rattle.desk_places.specs.declared.Slot.TheVariants.{Free}
use Rattle.desk_places.specs.declared.Turn.{Turn}
use Rattle.desk_places.specs.Places.{next_waiting, after_band}
use Rattle.desk_places.proofs.NextTurn.{turn_Waits}
use Rattle.desk_bands.specs.Buffers.{Buffers}
use Rattle.desk.specs.declared.Desk.{Desk}
use Rattle.desk.specs.DeskCall.{slot_at, put_slot, left_by, step_call, Stepped, StepPost, DeskAnswer, StepAnswer}
use Rattle.std.proofs.lemmas.List.FromFn.{length-map-range_with_len}
use Rattle.desk_numbers.specs.Numbers.{DeskNumbers, place_of, desk_of, put_place, ask_first}
use Rattle.desk_numbers.proofs.Decoded.{Sized, put_Sized, desk_put, ask_Sized, desk_ask}
use Rattle.desk_calls.specs.Calls.{place_left, step_left}

-- numbers as long as the arrays are, which are a desk
pub record Are (n : DeskNumbers) (d : Desk) : Type 0 where
  pub sized : Sized n
  pub desk : desk_of n ≡ d

pub Are-itself : (n : DeskNumbers) → Sized n → Are n (desk_of n)
Are-itself n sized = record { sized = sized; desk = refl }

places_length : (n : DeskNumbers) → length (desk_of n).places ≡ 32
unfolding desk_of
places_length n = length-map-range_with_len (place_of n) 0 32

put_there : (n : DeskNumbers) (c : ℕ) (s : Slot) → c < 32 → slot_at (put_slot (desk_of n) c s) c ≡ s
put_there n c s below =
    get_or-set_same (desk_of n).places c s Free (omega (arith, places_length n))

-- ---- an opening or an offer

module _ (n : DeskNumbers) (c : ℕ) (s : Slot) (r : DeskAnswer) (sized : Sized n) (below : r.answer ≡ Ok tt → c < 32)
    (left : r.desk ≡ left_by r.answer (put_slot (desk_of n) c s) (desk_of n)) where
  pub answer_handed : Are (place_left n c r) r.desk
  answer_handed = go r.answer refl
    where
      go : (a : Result Unit YuvError) → r.answer ≡ a → Are (place_left n c r) r.desk
      go (Ok done) is =
          let l = below is in
          let there : r.desk ≡ put_slot (desk_of n) c s = left ∙ ap (λ (a : Result Unit YuvError). left_by a (put_slot (desk_of n) c s) (desk_of n)) is in
          let same : slot_at r.desk c ≡ s = ap (λ (d : Desk). slot_at d c) there ∙ put_there n c s l in
          let written : place_left n c r ≡ put_place n c s = rw (is, same) in
          subst (λ (m : DeskNumbers). Are m r.desk) (sym written)
          (record { sized = put_Sized n c s sized l; desk = desk_put n c s sized l ∙ sym there })
      go (Err e) is =
          let there : r.desk ≡ desk_of n = left ∙ ap (λ (a : Result Unit YuvError). left_by a (put_slot (desk_of n) c s) (desk_of n)) is in
          let written : place_left n c r ≡ n = rw is in
          subst (λ (m : DeskNumbers). Are m r.desk) (sym written) (record { sized = sized; desk = sym there })

-- ---- a step

module _ (n : DeskNumbers) (lent : Buffers) (r : StepAnswer) (after : Buffers) (sized : Sized n) (post : StepPost (step_call (desk_of n) lent r after)) where
  pub step_handed : Are (step_left n r.served r.desk) r.desk
  step_handed = go (next_waiting (desk_of n).places (desk_of n).from) refl post
    where
      go : (t : Option Turn) → next_waiting (desk_of n).places (desk_of n).from ≡ t → Stepped t (step_call (desk_of n) lent r after)
          → Are (step_left n r.served r.desk) r.desk
      go None e p = rw (p.served, p.desk) (Are-itself n sized)
      go (Some t) e p =
          let l = (turn_Waits (desk_of n).places (desk_of n).from (sym e)).below in
          let s = after_band t.frame p.call.state in
          let same : slot_at r.desk t.camera ≡ s = ap (λ (d : Desk). slot_at d t.camera) p.desk ∙ put_there n t.camera s l in
          let written : step_left n r.served r.desk ≡ ask_first (put_place n t.camera s) ((t.camera + 1) % 32) = rw (p.served, same, p.desk) in
          let put = put_Sized n t.camera s sized l in
          let asked = desk_ask (put_place n t.camera s) ((t.camera + 1) % 32) put
          ∙ ap (λ (d : Desk). let e : Desk = record { places = d.places; from = (t.camera + 1) % 32 } in e) (desk_put n t.camera s sized l) in
          subst (λ (m : DeskNumbers). Are m r.desk) (sym written)
          (record { sized = ask_Sized (put_place n t.camera s) ((t.camera + 1) % 32) put; desk = asked ∙ sym p.desk })
