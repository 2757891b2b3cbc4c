-- A line of a Y4M file: a word, then tags, then a newline; and what the tags of a letter say. docs/RULES.md, 14.1 and 14.2.
-- Assumes nothing.
use Rattle.std.specs.Prelude.{ℕ, ◌+◌, ◌*◌, ◌-◌, ◌≤◌, ◌<◌, ◌≡◌, Bool, true, cond, ◌&&◌, List, [], ◌∷◌, ◌++◌, leb, eqb, length, get_or, drop}

-- ---- tags and lines

-- RULES 14.1: no byte has this value
abbrev pub Without : (byte : ℕ) → List ℕ → Type 0
Without byte [] = Unit {0}
Without byte (a ∷ rest) = (a ≡ byte → ⊥) × Without byte rest

-- RULES 14.1: a tag is not empty and has no space and no newline
pub record IsTag (tag : List ℕ) : Type 0 where
  pub some : 0 < length tag
  pub no_space : Without 32 tag
  pub no_newline : Without 10 tag

-- RULES 14.1
abbrev pub EachTag : List (List ℕ) → Type 0
EachTag [] = Unit {0}
EachTag (tag ∷ tags) = IsTag tag × EachTag tags

-- RULES 14.1: each tag after one space
unfoldable pub tag_bytes : List (List ℕ) → List ℕ
tag_bytes [] = []
tag_bytes (tag ∷ tags) = 32 ∷ (tag ++ tag_bytes tags)

-- RULES 14.1: a line without its newline
unfoldable pub text_of : (word : List ℕ) → (tags : List (List ℕ)) → List ℕ
text_of word tags = word ++ tag_bytes tags

-- RULES 14.1
unfoldable pub line_of : (word : List ℕ) → (tags : List (List ℕ)) → List ℕ
line_of word tags = text_of word tags ++ (10 ∷ [])

-- RULES 14.1: YUV4MPEG2, the word of the header's line
abbrev pub magic : List ℕ
magic = 89 ∷ 85 ∷ 86 ∷ 52 ∷ 77 ∷ 80 ∷ 69 ∷ 71 ∷ 50 ∷ []

-- RULES 14.1: FRAME, the word of a picture's line
abbrev pub frame : List ℕ
frame = 70 ∷ 82 ∷ 65 ∷ 77 ∷ 69 ∷ []

-- RULES 14.1: a line has at most 256 bytes, its newline counted
pub record IsLineOf (word : List ℕ) (tags : List (List ℕ)) : Type 0 where
  pub each : EachTag tags
  pub short : length (line_of word tags) ≤ 256

-- ---- what tags say

-- RULES 14.2: what follows this letter in each tag that begins with it
unfoldable pub tagged : (letter : ℕ) → List (List ℕ) → List (List ℕ)
tagged letter [] = []
tagged letter (tag ∷ tags) = cond (eqb (get_or tag 0 0) letter) (drop 1 tag ∷ tagged letter tags) (tagged letter tags)

-- RULES 14.2: what a byte says as a digit; 10 where it is none
unfoldable pub digit : (byte : ℕ) → ℕ
digit byte = cond (leb 48 byte && leb byte 57) (byte - 48) 10

-- RULES 14.2: every byte is a digit
unfoldable pub digits : List ℕ → Bool
digits [] = true
digits (byte ∷ rest) = leb (digit byte) 9 && digits rest

-- RULES 14.2: the number of these digits written after those of v
unfoldable pub value : ℕ → List ℕ → ℕ
value v [] = v
value v (byte ∷ rest) = value (v * 10 + digit byte) rest

-- RULES 14.2: a decimal of v, not empty and without leading zero
pub record IsDecimal (v : ℕ) (text : List ℕ) : Type 0 where
  pub all : digits text ≡ true
  pub worth : value 0 text ≡ v
  pub lead : get_or text 0 48 ≡ 48 → ⊥

-- RULES 14.2: one tag begins with the letter and says this side, 1 to 16,384
pub record SaysSide (letter : ℕ) (tags : List (List ℕ)) (side : ℕ) : Type 0 where
  pub text : List ℕ
  pub one : tagged letter tags ≡ text ∷ []
  pub decimal : IsDecimal side text
  pub least : 1 ≤ side
  pub most : side ≤ 16384

-- RULES 14.2: what follows the C of a sampling's tag
abbrev pub text420 : List ℕ
text420 = 52 ∷ 50 ∷ 48 ∷ []

abbrev pub text420jpeg : List ℕ
text420jpeg = 52 ∷ 50 ∷ 48 ∷ 106 ∷ 112 ∷ 101 ∷ 103 ∷ []

abbrev pub text420mpeg2 : List ℕ
text420mpeg2 = 52 ∷ 50 ∷ 48 ∷ 109 ∷ 112 ∷ 101 ∷ 103 ∷ 50 ∷ []

abbrev pub text422 : List ℕ
text422 = 52 ∷ 50 ∷ 50 ∷ []
