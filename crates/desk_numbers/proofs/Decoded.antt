-- The desk that the numbers are, after a place was written, and after another camera is to be asked first.
-- Assumes nothing.
use Prim.Native.Nat.{ℕ, ◌+◌, ◌*◌, ◌≤◌, ◌<◌}
use mathlib.Core.Path.{◌≡◌, refl, sym, ap, ◌∙◌}
use mathlib.Core.Bool.{Bool, true, false}
use mathlib.Core.List.{List, map}
use native.Mathlib.Omega.{arith}
use borrow.Author.Tests.{eqb-true, eqb-false}
use lib.Dec.{eqb}
use lib.Ieee.{nan}
use lib.ListN.{length, get_or, set, length-set}
use lib.Seq.{ext_get_or, get_or-set_same, get_or-set_other}
use Rattle.buffer_parts.specs.declared.BufferPart.{BufferPart}
use Rattle.buffer_parts.specs.Parts.{InPart, Overlap, with_part}
use Rattle.buffer_parts.proofs.Parts.{with_part_lem, with_length, outside, part_same}
use Rattle.desk_places.specs.declared.Slot.{Slot}
use Rattle.desk_places.specs.declared.Slot.TheVariants.{Free}
use Rattle.desk.specs.declared.Desk.{Desk}
use Rattle.desk.specs.DeskCall.{fresh, put_slot}
use Rattle.std.specs.List.{range_with_len}
use Rattle.std.proofs.lemmas.List.FromFn.{length-map-range_with_len, get_or-map-range_with_len}
use Rattle.desk_numbers.specs.Numbers.{DeskNumbers, of_camera, with_camera, slot_of, place_of, desk_of, fresh_numbers}
use Rattle.desk_numbers.specs.Numbers.{slot_numbers, slot_customs, slot_parts, put_place, ask_first}
use Rattle.desk_numbers.proofs.Again.{slot_again, numbers_size, customs_size, parts_size}

-- the arrays' own lengths
pub record Sized (n : DeskNumbers) : Type 0 where
  pub numbers : length n.numbers ≡ 609
  pub customs : length n.customs ≡ 64
  pub parts : length n.parts ≡ 320

-- ---- one array

abbrev camera_part : (many k : ℕ) → BufferPart
camera_part many k = record { offset = many * k; length = many }

module _ {A : Type 0} (many : ℕ) (d : A) (xs : List A) (c : ℕ) (ys : List A) (inside : many * c + many ≤ length xs) (size : length ys ≡ many) where
  written : of_camera many (with_camera many xs c ys) c ≡ ys
  unfolding with_part
  written = with_part_lem (camera_part many c) xs ys inside size

  long : length (with_camera many xs c ys) ≡ length xs
  unfolding with_part
  long = with_length (camera_part many c) xs ys inside size

  elsewhere : (i : ℕ) → (InPart (camera_part many c) i → ⊥) → get_or (with_camera many xs c ys) i d ≡ get_or xs i d
  unfolding with_part
  elsewhere i out = outside (camera_part many c) xs ys inside size d i out

  kept : (k : ℕ) → (Overlap (camera_part many c) (camera_part many k) → ⊥) → of_camera many (with_camera many xs c ys) k ≡ of_camera many xs k
  kept k apart = part_same (camera_part many c) (camera_part many k) d xs (with_camera many xs c ys) long elsewhere apart

-- ---- the places, in order

abbrev places_of : DeskNumbers → List Slot
places_of n = map (place_of n) (range_with_len 0 32)

all_places : (n : DeskNumbers) → length (places_of n) ≡ 32
all_places n = length-map-range_with_len (place_of n) 0 32

nth_place : (n : DeskNumbers) (k : ℕ) → k < 32 → get_or (places_of n) k Free ≡ place_of n k
nth_place n k l = get_or-map-range_with_len (place_of n) 0 32 k k Free l (let e : 0 + k ≡ k = omega arith in e)

-- ---- a place written

module _ (n : DeskNumbers) (c : ℕ) (s : Slot) (sized : Sized n) (below : c < 32) where
  numbers_inside : 19 * c + 19 ≤ length n.numbers
  numbers_inside = omega (arith, sized.numbers)

  customs_inside : 2 * c + 2 ≤ length n.customs
  customs_inside = omega (arith, sized.customs)

  parts_inside : 10 * c + 10 ≤ length n.parts
  parts_inside = omega (arith, sized.parts)

  here : place_of (put_place n c s) c ≡ s
  unfolding place_of put_place
  here =
      let numbers = written 19 0 n.numbers c (slot_numbers s) numbers_inside (numbers_size s) in
      let customs = written 2 nan n.customs c (slot_customs s) customs_inside (customs_size s) in
      let parts = written 10 0 n.parts c (slot_parts s) parts_inside (parts_size s) in
      (λ i. slot_of (numbers i) (customs i) (parts i)) ∙ slot_again s

  there : (k : ℕ) → (k ≡ c → ⊥) → place_of (put_place n c s) k ≡ place_of n k
  unfolding place_of put_place
  there k other =
      let numbers = kept 19 0 n.numbers c (slot_numbers s) numbers_inside (numbers_size s) k
      (λ o. other (omega (arith, o.1.0.0, o.1.0.1, o.1.1.0, o.1.1.1))) in
      let customs = kept 2 nan n.customs c (slot_customs s) customs_inside (customs_size s) k
      (λ o. other (omega (arith, o.1.0.0, o.1.0.1, o.1.1.0, o.1.1.1))) in
      let parts = kept 10 0 n.parts c (slot_parts s) parts_inside (parts_size s) k
      (λ o. other (omega (arith, o.1.0.0, o.1.0.1, o.1.1.0, o.1.1.1))) in
      λ i. slot_of (numbers i) (customs i) (parts i)

  pub put_Sized : Sized (put_place n c s)
  unfolding put_place
  put_Sized = record {
    numbers = long 19 0 n.numbers c (slot_numbers s) numbers_inside (numbers_size s) ∙ sized.numbers;
    customs = long 2 nan n.customs c (slot_customs s) customs_inside (customs_size s) ∙ sized.customs;
    parts = long 10 0 n.parts c (slot_parts s) parts_inside (parts_size s) ∙ sized.parts;
  }

  same_from : get_or (put_place n c s).numbers 608 0 ≡ get_or n.numbers 608 0
  unfolding put_place
  same_from = elsewhere 19 0 n.numbers c (slot_numbers s) numbers_inside (numbers_size s) 608 (λ x. absurd (omega (arith, x.0, x.1)))

  place_at : (k : ℕ) → k < 32 → get_or (places_of (put_place n c s)) k Free ≡ get_or (set (places_of n) c s) k Free
  place_at k l = nth_place (put_place n c s) k l ∙ go (eqb k c) refl
    where
      go : (b : Bool) → eqb k c ≡ b → place_of (put_place n c s) k ≡ get_or (set (places_of n) c s) k Free
      go true e =
          let is = eqb-true k c e in
          ap (place_of (put_place n c s)) is ∙ here
          ∙ sym (ap (λ (j : ℕ). get_or (set (places_of n) c s) j Free) is
          ∙ get_or-set_same (places_of n) c s Free (omega (arith, all_places n)))
      go false e =
          let other = eqb-false k c e in
          there k other ∙ sym (get_or-set_other (places_of n) c k s Free other ∙ nth_place n k l)

  pub desk_put : desk_of (put_place n c s) ≡ put_slot (desk_of n) c s
  unfolding desk_of
  desk_put =
      let size = all_places (put_place n c s) in
      let places = ext_get_or Free (places_of (put_place n c s)) (set (places_of n) c s)
      (size ∙ sym (length-set (places_of n) c s ∙ all_places n))
      (λ k l. place_at k (omega (arith, size))) in
      λ i. let r : Desk = record { places = places i; from = same_from i } in r

-- ---- another camera to be asked first

module _ (n : DeskNumbers) (from : ℕ) (sized : Sized n) where
  pub ask_Sized : Sized (ask_first n from)
  ask_Sized = record { numbers = length-set n.numbers 608 from ∙ sized.numbers; customs = sized.customs; parts = sized.parts }

  same_place : (k : ℕ) → k < 32 → place_of (ask_first n from) k ≡ place_of n k
  unfolding place_of
  same_place k l =
      let numbers = part_same (record { offset = 608; length = 1 }) (camera_part 19 k) 0 n.numbers (set n.numbers 608 from)
      (length-set n.numbers 608 from)
      (λ i out. get_or-set_other n.numbers 608 i from 0 (λ e. out (omega (arith, e), omega (arith, e))))
      (λ o. absurd (omega (arith, o.1.0.0, o.1.0.1, o.1.1.0, o.1.1.1))) in
      λ i. slot_of (numbers i) (of_camera 2 n.customs k) (of_camera 10 n.parts k)

  pub desk_ask : desk_of (ask_first n from) ≡ record { places = (desk_of n).places; from = from }
  unfolding desk_of
  desk_ask =
      let size = all_places (ask_first n from) in
      let places = ext_get_or Free (places_of (ask_first n from)) (places_of n)
      (size ∙ sym (all_places n))
      (λ k l. let less : k < 32 = omega (arith, size) in
      nth_place (ask_first n from) k less ∙ same_place k less ∙ sym (nth_place n k less)) in
      let first = get_or-set_same n.numbers 608 from 0 (omega (arith, sized.numbers)) in
      λ i. let r : Desk = record { places = places i; from = first i } in r

-- ---- no frame is open

pub fresh_Sized : Sized fresh_numbers
unfolding fresh_numbers
fresh_Sized = record { numbers = refl; customs = refl; parts = refl }

pub fresh_desk : desk_of fresh_numbers ≡ fresh
unfolding fresh_numbers desk_of place_of
fresh_desk = refl
