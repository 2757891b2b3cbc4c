-- Laws of words: those of the line are the parts that std's `split` gives. Assumes nothing.
use Prim.Native.Nat.{ℕ, suc, ◌+◌}
use mathlib.Core.Path.{◌≡◌, refl}
use mathlib.Core.Bool.{Bool, true, false, not}
use mathlib.Core.List.{List, [], ◌∷◌}
use native.Mathlib.Omega.{arith}
use lib.Dec.{eqb, leb-suc-suc, leb-zero}
use lib.ListN.{length, take}
use borrow.Author.Tests.{lt-ltb, ne_eqb}
use Rattle.std.specs.List.{slice_split, onto_first, position_or_len, list_all}
use Rattle.std.specs.Cmp.Lexicographic.{pointwise}
use Rattle.y4m_line.specs.Words.{upto, onto, words, words_from, filled, same}

-- ---- std's words

module _ (x a : ℕ) (l : List ℕ) (ih : position_or_len (λ b. eqb b x) l ≡ upto x l) where
  position_case : (t : Bool) → eqb a x ≡ t → position_or_len (λ b. eqb b x) (a ∷ l) ≡ upto x (a ∷ l)
  unfolding upto
  position_case true e = rw e
  position_case false e = let n : 1 + upto x l ≡ suc (upto x l) = omega arith in rw (e, ih) n

pub position_upto : (x : ℕ) (l : List ℕ) → position_or_len (λ b. eqb b x) l ≡ upto x l
unfolding upto
position_upto x [] = refl
position_upto x (a ∷ l) = position_case x a l (position_upto x l) (eqb a x) refl

onto_same : (a : ℕ) (ws : List (List ℕ)) → onto_first a ws ≡ onto a ws
onto_same a [] = refl
onto_same a (w ∷ ws) = refl

pub split_words : (l : List ℕ) → slice_split (λ b. eqb b 32) l ≡ words l
unfolding words
split_words [] = refl
split_words (a ∷ l) = rw (split_words l, onto_same a (words l))

pub all_filled : (ws : List (List ℕ)) → list_all (λ w. not (eqb (length w) 0)) ws ≡ filled ws
unfolding filled
all_filled [] = refl
all_filled ([] ∷ ws) = refl
all_filled ((b ∷ w) ∷ ws) =
    rw (lt-ltb 0 (length (b ∷ w)) (omega arith), ne_eqb (length (b ∷ w)) 0 (λ e. omega arith)) (all_filled ws)

pub same_bytes : (a b : List ℕ) → pointwise eqb a b ≡ same a b
unfolding same
same_bytes [] [] = refl
same_bytes [] (y ∷ b) = refl
same_bytes (x ∷ a) [] = refl
same_bytes (x ∷ a) (y ∷ b) = rw (same_bytes a b)

-- ---- words one after the other

words_from_suc : (a : ℕ) (l : List ℕ) (n : ℕ) → words_from (suc n) (a ∷ l) ≡ words_from n l
unfolding words_from
words_from_suc a l n = rw (leb-suc-suc n (length l))

words_from_zero : (l : List ℕ) → words_from 0 l ≡ words l
unfolding words_from
words_from_zero l = rw (leb-zero (length l))

module _ (a : ℕ) (l : List ℕ) (ih : words l ≡ take (upto 32 l) l ∷ words_from (suc (upto 32 l)) l) where
  words_case : (t : Bool) → eqb a 32 ≡ t → words (a ∷ l) ≡ take (upto 32 (a ∷ l)) (a ∷ l) ∷ words_from (suc (upto 32 (a ∷ l))) (a ∷ l)
  unfolding upto words
  words_case true e = rw (e, words_from_suc a l 0, words_from_zero l)
  words_case false e = rw (e, words_from_suc a l (suc (upto 32 l)), ih)

pub words-cons : (l : List ℕ) → words l ≡ take (upto 32 l) l ∷ words_from (suc (upto 32 l)) l
unfolding upto words words_from
words-cons [] = refl
words-cons (a ∷ l) = words_case a l (words-cons l) (eqb a 32) refl
