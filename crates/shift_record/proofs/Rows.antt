-- Rows without their padding: how many bytes they are, which byte is which, and one more of them copied. Assumes nothing.
use Prim.Native.Nat.{ℕ, zero, suc, ◌+◌, ◌*◌, ◌-◌, ◌≤◌, ◌<◌}
use mathlib.Core.Path.{◌≡◌, sym, ap, ◌∙◌}
use mathlib.Core.List.{List, [], ◌∷◌, ◌++◌}
use native.Mathlib.Nat.{mul-suc, mul-zero, suc-mul, zero-mul, zero-add, mul-add, mul-le-mul_left}
use native.Mathlib.Numerals.{add-one}
use native.Mathlib.Omega.{arith}
use lib.ListN.{length, get_or, take, drop, length-append, length-drop, get_or-append}
use lib.Seq.{sets, drop-drop, length-take-le, get_or-take, get_or-drop, get_or-append-add}
use Rattle.little_endian.specs.Number.{Bytes}
use Rattle.little_endian.proofs.Number.{bytes_drop, bytes_take}
use Rattle.little_endian.proofs.Stores.{sets-append}
use Rattle.shift_record.specs.Record.{unpadded}

-- up to a row, and with it
pub one_more : (n row : ℕ) → n * (row + 1) ≡ n * row + n
one_more n row = rw add-one (mul-suc n row)

pub with_row : (n row rows : ℕ) → row < rows → n * row + n ≤ n * rows
with_row n row rows h = omega (arith, one_more n row, mul-le-mul_left {m = row + 1} {n = rows} n (omega arith))

module _ (n stride : ℕ) (wide : n ≤ stride) where
  first_row : (rows : ℕ) (p : List ℕ) → stride * suc rows ≤ length p → length (take n p) ≡ n
  first_row rows p h = length-take-le n p (omega (arith, mul-suc stride rows))

  later_rows : (rows : ℕ) (p : List ℕ) → stride * suc rows ≤ length p → stride * rows ≤ length (drop stride p)
  later_rows rows p h = rw length-drop (omega (arith, mul-suc stride rows))

  pub length-unpadded : (rows : ℕ) (p : List ℕ) → stride * rows ≤ length p → length (unpadded n stride rows p) ≡ n * rows
  unfolding unpadded
  length-unpadded zero p h = sym (mul-zero n)
  length-unpadded (suc rows) p h =
      rw length-append (omega (arith, first_row rows p h, length-unpadded rows (drop stride p) (later_rows rows p h), mul-suc n rows))

  -- byte x of row r
  pub unpadded_at : (rows : ℕ) (p : List ℕ) → stride * rows ≤ length p → (r x : ℕ) → r < rows → x < n
      → get_or (unpadded n stride rows p) (r * n + x) 0 ≡ get_or p (r * stride + x) 0
  unfolding unpadded
  unpadded_at zero p h r x k l = absurd (omega arith)
  unpadded_at (suc rows) p h zero x k l =
      rw (zero-mul, zero-mul, zero-add) (get_or-append (take n p) _ 0 x (rw (first_row rows p h) l) ∙ get_or-take n p x 0 l)
  unpadded_at (suc rows) p h (suc r) x k l =
      let at : suc r * n + x ≡ length (take n p) + (r * n + x) = omega (arith, suc-mul r n, first_row rows p h) in
      let there : stride + (r * stride + x) ≡ suc r * stride + x = omega (arith, suc-mul r stride) in
      rw at
      (get_or-append-add (take n p) _ (r * n + x) 0
      ∙ unpadded_at rows (drop stride p) (later_rows rows p h) r x (omega arith) l
      ∙ get_or-drop stride p (r * stride + x) 0
      ∙ rw there)

  -- one row copied, and the rest still to copy
  row_more : (d p : List ℕ) (from to left : ℕ) → from + stride * suc left ≤ length p
      → sets (sets d to (take n (drop from p))) (to + n) (unpadded n stride left (drop (from + stride) p)) ≡ sets d to (unpadded n stride (suc left) (drop from p))
  unfolding unpadded
  row_more d p from to left k =
      let row = take n (drop from p) in
      let long : length row ≡ n = first_row left (drop from p) (rw length-drop (omega arith)) in
      rw (sets-append row (unpadded n stride left (drop stride (drop from p))) d to, long, drop-drop)

  pub rows_more : (d p : List ℕ) (at row rows : ℕ) → row < rows → stride * rows ≤ length p
      → sets (sets d (at + n * row) (take n (drop (stride * row) p))) (at + n * (row + 1)) (unpadded n stride (rows - (row + 1)) (drop (stride * (row + 1)) p))
      ≡ sets d (at + n * row) (unpadded n stride (rows - row) (drop (stride * row) p))
  rows_more d p at row rows h k =
      let to : at + n * (row + 1) ≡ at + n * row + n = omega (arith, one_more n row) in
      let from : stride * (row + 1) ≡ stride * row + stride = one_more stride row in
      let left : rows - row ≡ suc (rows - (row + 1)) = omega arith in
      let all : stride * row + stride * suc (rows - (row + 1)) ≡ stride * rows =
      sym (mul-add stride row (suc (rows - (row + 1)))) ∙ ap (λ (k : ℕ). stride * k) (omega arith) in
      rw (to, from, left) (row_more d p (stride * row) (at + n * row) (rows - (row + 1)) (omega (arith, all)))

  pub rows_done : (d p : List ℕ) (to left : ℕ) → left ≡ 0 → sets d to (unpadded n stride left p) ≡ d
  unfolding unpadded
  rows_done d p to left e = rw e

Bytes-append : (s t : List ℕ) → Bytes s → Bytes t → Bytes (s ++ t)
Bytes-append [] t a b i = b i
Bytes-append (x ∷ s) t a b zero = a 0
Bytes-append (x ∷ s) t a b (suc i) = Bytes-append s t (λ j. a (suc j)) b i

pub Bytes-unpadded : (n stride rows : ℕ) (p : List ℕ) → Bytes p → Bytes (unpadded n stride rows p)
unfolding unpadded
Bytes-unpadded n stride zero p b = b_none
  where
    b_none : Bytes []
    b_none i = omega arith
Bytes-unpadded n stride (suc rows) p b =
    Bytes-append (take n p) (unpadded n stride rows (drop stride p)) (bytes_take n p b) (Bytes-unpadded n stride rows (drop stride p) (bytes_drop stride p b))
