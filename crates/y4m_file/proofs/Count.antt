-- How many pictures bytes have: the count of the walk is the one number of pictures that they are. Assumes nothing.
use Prim.Native.Nat.{ℕ, zero, suc, ◌+◌, ◌-◌, ◌≤◌, ◌<◌}
use mathlib.Core.Path.{◌≡◌, refl, ap, sym, ◌∙◌}
use mathlib.Core.Bool.{Bool, true, false}
use mathlib.Core.List.{List, [], ◌∷◌}
use native.Mathlib.Nat.{add-zero}
use native.Mathlib.Omega.{arith}
use lib.Dec.{leb, ltb}
use lib.ListN.{length, drop, length-drop}
use borrow.Author.Tests.{lt-ltb, ne_eqb, leb-true, leb-false, ltb-true, eqb-true}
use Rattle.std.proofs.lemmas.Bool.{and_parts}
use Rattle.y4m_file.specs.Check.{picture_stands, picture_size, pictures, count_in, count_of}
use Rattle.y4m_line.specs.Words.{upto}
use Rattle.y4m_line.specs.Header.{line_end}
use Rattle.y4m_file.proofs.Sizes.{Stands-true}

-- what is left of l is r
module _ (n : ℕ) (l r : List ℕ) where
  some_left : 0 < length r → pictures n 0 r ≡ false
  unfolding pictures
  some_left h = ne_eqb (length r) 0 (λ e. omega arith)

  none_left : length r ≡ 0 → pictures n 0 r ≡ true
  unfolding pictures
  none_left h = rw h

  one_more : (j : ℕ) → 0 < picture_size n r → pictures n (suc j) r ≡ pictures n j (drop (picture_size n r) r)
  unfolding pictures
  one_more j h = rw (lt-ltb 0 (picture_size n r) h)

  none_here : (j : ℕ) → 0 < length r → picture_size n r ≡ 0 → pictures n j r ≡ false
  unfolding pictures
  none_here zero h e = some_left h
  none_here (suc j) h e = rw e

  -- k pictures stand before r
  module _ (k : ℕ) (f : (j : ℕ) → pictures n (k + j) l ≡ pictures n j r) where
    here : pictures n k l ≡ pictures n 0 r
    here = sym (ap (λ m. pictures n m l) (add-zero k)) ∙ f 0

    pub count_done : length r ≡ 0 → pictures n k l ≡ true
    count_done h = here ∙ none_left h

    pub count_more : (s : ℕ) → s ≡ picture_size n r → 0 < s → (j : ℕ) → pictures n (k + 1 + j) l ≡ pictures n j (drop s r)
    count_more s e h j = let m : k + 1 + j ≡ k + suc j = omega arith in rw (m, e) (f (suc j) ∙ one_more j (rw (← e) h))

    module _ (h : 0 < length r) (g : (j : ℕ) → j < k → pictures n j l ≡ false) where
      pub fewer_more : (j : ℕ) → j < k + 1 → pictures n j l ≡ false
      fewer_more j z = cases (leb k j) refl
        where
          cases : (t : Bool) → leb k j ≡ t → pictures n j l ≡ false
          cases true e = let m : j ≡ k = omega (arith, leb-true k j e) in rw m (here ∙ some_left h)
          cases false e = g j (leb-false k j e)

      pub count_none : picture_size n r ≡ 0 → (j : ℕ) → pictures n j l ≡ false
      count_none q j = cases (leb k j) refl
        where
          cases : (t : Bool) → leb k j ≡ t → pictures n j l ≡ false
          cases true e = let m : j ≡ k + (j - k) = omega (arith, leb-true k j e) in ap (λ i. pictures n i l) m ∙ f (j - k) ∙ none_here (j - k) h q
          cases false e = g j (leb-false k j e)

-- ---- the count

none_there : (n : ℕ) → picture_size n [] ≡ 0
unfolding picture_size picture_stands line_end upto
none_there n = refl

pub count_is : (n m k : ℕ) (l : List ℕ) → pictures n k l ≡ true → k ≤ m → count_in n m l ≡ k
unfolding pictures count_in
count_is n zero zero l e h = refl
count_is n (suc m) zero [] e h = rw (none_there n)
count_is n (suc m) zero (a ∷ l) e h = absurd (omega (arith, eqb-true (suc (length l)) 0 e))
count_is n zero (suc k) l e h = absurd (omega arith)
count_is n (suc m) (suc k) l e h =
    let p = and_parts (ltb 0 (picture_size n l)) _ e in
    rw p.0 (ap suc (count_is n m k (drop (picture_size n l) l) p.1 (omega arith)))

pub few : (n k : ℕ) (l : List ℕ) → pictures n k l ≡ true → k ≤ length l
unfolding pictures
few n zero l e = omega arith
few n (suc k) l e =
    let p = and_parts (ltb 0 (picture_size n l)) _ e in
    let s = Stands-true n l (ltb-true 0 (picture_size n l) p.0) in
    omega (arith, few n k (drop (picture_size n l) l) p.1, length-drop (picture_size n l) l, s.whole, s.size)

pub count_of_lem : (n k : ℕ) (l : List ℕ) → pictures n k l ≡ true → count_of n l ≡ k
count_of_lem n k l e = count_is n (length l) k l e (few n k l e)
