-- The place that is told is that of the first byte that differs: the front ends there, and every byte before it is in it. Assumes nothing.
use Prim.Native.Nat.{ℕ, zero, suc, ◌+◌, ◌*◌, ◌-◌, ◌/◌, ◌%◌, ◌≤◌, ◌<◌}
use mathlib.Core.Path.{◌≡◌, refl, sym, ap, subst}
use mathlib.Core.Bool.{Bool, true, false}
use mathlib.Core.List.{List}
use native.Mathlib.Nat.{mod-add-div, mod-lt, div-lt_iff_lt-mul, mul_comm, zero-mul}
use native.Mathlib.Omega.{arith}
use borrow.Author.Tests.{ltb-true, ltb-false}
use lib.Dec.{ltb}
use lib.ListN.{length, get_or}
use Rattle.std.proofs.Common.{Some}
use Rattle.std.proofs.lemmas.Option.{cond_some}
use Rattle.plane_difference.specs.Difference.{equal_front, place_of, plane_difference, FirstByte, FirstByteTold}
use Rattle.plane_difference.proofs.Front.{front_more, front_ends, front_byte, row_end, differs_at}

-- the front reaches as far as all bytes are equal
front_reaches : (a b : List ℕ) (i : ℕ) → i ≤ length a → i ≤ length b → ((k : ℕ) → k < i → get_or a k 0 ≡ get_or b k 0) → i ≤ equal_front a b
front_reaches a b zero ha hb same = omega arith
front_reaches a b (suc i) ha hb same =
    let before = front_reaches a b i (omega arith) (omega arith) (λ k l. same k (omega arith)) in
    let more = front_more a b i (omega arith) (omega arith) (same i (omega arith)) before in
    omega arith

-- rows with a byte have a column
some_column : (w h i : ℕ) → i < w * h → 0 < w
some_column zero h i l = absurd (omega (arith, zero-mul h))
some_column (suc w) h i l = omega arith

module _ (w h : ℕ) (a b : List ℕ) (ha : length a ≡ w * h) (hb : length b ≡ w * h) where
  module _ (row column : ℕ) where
    -- the front ends at this place
    ends_here : row < h → column < w → equal_front a b ≡ w * row + column → FirstByte w h a b row column
    ends_here hr hc e =
        let inside : w * row + column < w * h = omega (arith, row_end w row h hr) in
        record {
          row_inside = hr;
          column_inside = hc;
          differs = λ same. omega (arith, front_more a b (w * row + column) (omega arith) (omega arith) same (omega arith));
          above = λ r c lr lc. front_byte a b (w * r + c) (omega (arith, row_end w r row lr));
          left = λ c l. front_byte a b (w * row + c) (omega arith);
        }

    told_first : plane_difference w a b ≡ Some (row, column) → FirstByte w h a b row column
    unfolding plane_difference
    told_first e =
        let told = cond_some (ltb (equal_front a b) (length a)) (place_of w (equal_front a b)) (row, column) e in
        let below : equal_front a b < w * h = omega (arith, ltb-true (equal_front a b) (length a) told.0) in
        let some = some_column w h (equal_front a b) below in
        let is_row : equal_front a b / w ≡ row = ap (λ (p : ℕ × ℕ). p.0) told.1 in
        let is_column : equal_front a b % w ≡ column = ap (λ (p : ℕ × ℕ). p.1) told.1 in
        let row_in : equal_front a b / w < h = (div-lt_iff_lt-mul {k = w} {x = equal_front a b} {y = h} some).1 (omega (arith, mul_comm w h)) in
        let column_in = mod-lt (equal_front a b) some in
        let whole : equal_front a b % w + w * (equal_front a b / w) ≡ equal_front a b = mod-add-div (equal_front a b) w in
        let same : w * (equal_front a b / w) ≡ w * row = ap (λ (x : ℕ). w * x) is_row in
        ends_here (omega arith) (omega arith) (omega arith)

    module _ (f : FirstByte w h a b row column) where
      -- each byte before it stands above it or left of it
      equal_before : (k : ℕ) → k < w * row + column → get_or a k 0 ≡ get_or b k 0
      equal_before k l = at (ltb k (w * row)) refl
        where
          at : (t : Bool) → ltb k (w * row) ≡ t → get_or a k 0 ≡ get_or b k 0
          at true e =
              let some : 0 < w = omega (arith, f.column_inside) in
              let above = ltb-true k (w * row) e in
              let row_in : k / w < row = (div-lt_iff_lt-mul {k = w} {x = k} {y = row} some).1 (omega (arith, mul_comm w row)) in
              let whole : w * (k / w) + k % w ≡ k = omega (arith, mod-add-div k w) in
              subst (λ (i : ℕ). get_or a i 0 ≡ get_or b i 0) whole (f.above (k / w) (k % w) row_in (mod-lt k some))
          at false e =
              let past = ltb-false k (w * row) e in
              let whole : w * row + (k - w * row) ≡ k = omega arith in
              subst (λ (i : ℕ). get_or a i 0 ≡ get_or b i 0) whole (f.left (k - w * row) (omega arith))

      first_told : plane_difference w a b ≡ Some (row, column)
      first_told =
          let inside : w * row + column < w * h = omega (arith, row_end w row h f.row_inside, f.column_inside) in
          let reaches = front_reaches a b (w * row + column) (omega arith) (omega arith) equal_before in
          let ends = front_ends a b (w * row + column) f.differs reaches in
          sym (differs_at w a b row column f.column_inside (omega arith) ends)

pub first_byte_told : FirstByteTold
first_byte_told w h a b ha hb row column = (told_first w h a b ha hb row column, first_told w h a b ha hb row column)
