-- The words of a line, as they are computed: what stands between the spaces. `proofs/Text` says that these are the line's word and tags.
-- Assumes nothing.
use Rattle.std.specs.Prelude.{ℕ, suc, Bool, true, false, cond, ◌&&◌, List, [], ◌∷◌, leb, ltb, eqb, length, drop}

-- how many bytes stand before the first of this value; all of them where there is none
unfoldable pub upto : (byte : ℕ) → List ℕ → ℕ
upto byte [] = 0
upto byte (a ∷ rest) = cond (eqb a byte) 0 (suc (upto byte rest))

-- a byte before the first word
abbrev pub onto : (byte : ℕ) → List (List ℕ) → List (List ℕ)
onto byte [] = (byte ∷ []) ∷ []
onto byte (word ∷ others) = (byte ∷ word) ∷ others

-- what stands between the spaces, each space an end of a word
unfoldable pub words : (line : List ℕ) → List (List ℕ)
words [] = [] ∷ []
words (a ∷ rest) = cond (eqb a 32) ([] ∷ words rest) (onto a (words rest))

-- the words from a place on where a word starts; none past the end
unfoldable pub words_from : (start : ℕ) → (line : List ℕ) → List (List ℕ)
words_from start line = cond (leb start (length line)) (words (drop start line)) []

-- no word is empty
unfoldable pub filled : List (List ℕ) → Bool
filled [] = true
filled (word ∷ others) = ltb 0 (length word) && filled others

-- two texts are equal
unfoldable pub same : List ℕ → List ℕ → Bool
same [] [] = true
same [] (b ∷ t) = false
same (a ∷ s) [] = false
same (a ∷ s) (b ∷ t) = eqb a b && same s t
