-- A list whose part was lent and came back: `put_mid a k xs ys` is xs with ys in the place of its k elements from a on.
-- The idea: it is three lists end to end, so a byte before the part, in it and after it each have one law.
-- Assumes nothing.
use mathlib.Core.Path.{◌≡◌, sym, ap, ◌∙◌}
use mathlib.Core.List.{List, ◌++◌}
use Prim.Native.Nat.{ℕ, ◌+◌, ◌≤◌, ◌<◌}
use native.Mathlib.Omega.{arith}
use lib.ListN.{length, get_or, take, drop, get_or-append}
use lib.Seq.{get_or-append-add, get_or-take, get_or-drop, length-take-le}
use borrow.Rule.Slice.PartMut.{put_mid}

module _ (a k : ℕ) (xs ys : List ℕ) (inside : a + k ≤ length xs) (size : length ys ≡ k) where
  front : length (take a xs) ≡ a
  front = length-take-le a xs (omega arith)

  pub part_before : (p : ℕ) → p < a → get_or (put_mid a k xs ys) p 0 ≡ get_or xs p 0
  part_before p h = get_or-append (take a xs) _ 0 p (omega (arith, front)) ∙ get_or-take a xs p 0 h

  -- from the part's start on
  rest : (q : ℕ) → get_or (put_mid a k xs ys) (a + q) 0 ≡ get_or (ys ++ drop k (drop a xs)) q 0
  rest q = ap (λ (m : ℕ). get_or (put_mid a k xs ys) (m + q) 0) (sym front) ∙ get_or-append-add (take a xs) _ q 0

  pub part_in : (q : ℕ) → q < k → get_or (put_mid a k xs ys) (a + q) 0 ≡ get_or ys q 0
  part_in q h = rest q ∙ get_or-append ys _ 0 q (omega arith)

  pub part_after : (q : ℕ) → get_or (put_mid a k xs ys) (a + (k + q)) 0 ≡ get_or xs (a + (k + q)) 0
  part_after q =
      rest (k + q)
      ∙ ap (λ (m : ℕ). get_or (ys ++ drop k (drop a xs)) (m + q) 0) (sym size)
      ∙ get_or-append-add ys _ q 0
      ∙ get_or-drop k (drop a xs) q 0
      ∙ get_or-drop a xs (k + q) 0

-- a byte of the part, as it was lent
pub part_was : (a k : ℕ) (xs : List ℕ) (q : ℕ) → q < k → get_or (take k (drop a xs)) q 0 ≡ get_or xs (a + q) 0
part_was a k xs q h = get_or-take k (drop a xs) q 0 h ∙ get_or-drop a xs q 0
