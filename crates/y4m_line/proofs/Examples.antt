-- Header lines, taken and refused. Assumes nothing.
use Prim.Native.Nat.{ℕ}
use mathlib.Core.Path.{◌≡◌, refl}
use mathlib.Core.Bool.{Bool, true, false, ◌&&◌, ◌||◌}
use mathlib.Core.List.{List, [], ◌∷◌, ◌++◌}
use Rattle.y4m_line.specs.Words.{upto, words, filled, same}
use Rattle.y4m_line.specs.Line.{magic, tagged, digit, digits, value, text420, text420jpeg, text422}
use Rattle.y4m_line.specs.Header.{is_size, size, code, width_of, height_of, sampling_of, is_line, is_header}

-- W4 and H2, C before a text, each after a space
abbrev w4 : List ℕ
w4 = 32 ∷ 87 ∷ 52 ∷ []

abbrev h2 : List ℕ
h2 = 32 ∷ 72 ∷ 50 ∷ []

abbrev c : List ℕ → List ℕ
c text = 32 ∷ 67 ∷ text

-- after YUV4MPEG2 W4 H2
abbrev after : List ℕ → List ℕ
after rest = magic ++ (w4 ++ (h2 ++ rest))

-- YUV4MPEG2, a space, W and this, H2
abbrev wide : List ℕ → List ℕ
wide text = magic ++ (32 ∷ 87 ∷ (text ++ h2))

abbrev all : List (List ℕ) → Bool
all [] = true
all (line ∷ lines) = is_header line && all lines

abbrev any : List (List ℕ) → Bool
any [] = false
any (line ∷ lines) = is_header line || any lines

taken : all (
    -- without C
    after [] ∷
    -- the written one: F25:1 Ip C420jpeg
    after (32 ∷ 70 ∷ 50 ∷ 53 ∷ 58 ∷ 49 ∷ 32 ∷ 73 ∷ 112 ∷ c text420jpeg) ∷
    -- C422 H2 W4
    (magic ++ (c text422 ++ (h2 ++ w4))) ∷
    -- XYSCSS=420, and a tag X with a carriage return
    after (32 ∷ 88 ∷ 89 ∷ 83 ∷ 67 ∷ 83 ∷ 83 ∷ 61 ∷ text420) ∷
    after (32 ∷ 88 ∷ 13 ∷ []) ∷
    -- W16384
    wide (49 ∷ 54 ∷ 51 ∷ 56 ∷ 52 ∷ []) ∷ [])
    ≡ true
unfolding is_header is_line width_of height_of sampling_of size is_size code upto words filled tagged same digit digits value
taken = refl

refused : any (
    -- YUV4MPEG W4 H2
    (89 ∷ 85 ∷ 86 ∷ 52 ∷ 77 ∷ 80 ∷ 69 ∷ 71 ∷ (w4 ++ h2)) ∷
    -- two spaces before W4, one at the end
    (magic ++ (32 ∷ (w4 ++ h2))) ∷
    after (32 ∷ []) ∷
    -- no H; W twice; C twice
    (magic ++ w4) ∷
    after w4 ∷
    after (c text420 ++ c text420) ∷
    -- W, W0, W04, W+4, W4 and a carriage return
    wide [] ∷
    wide (48 ∷ []) ∷
    wide (48 ∷ 52 ∷ []) ∷
    wide (43 ∷ 52 ∷ []) ∷
    wide (52 ∷ 13 ∷ []) ∷
    -- W16385, and 4 more than 64 bits hold
    wide (49 ∷ 54 ∷ 51 ∷ 56 ∷ 53 ∷ []) ∷
    wide (49 ∷ 56 ∷ 52 ∷ 52 ∷ 54 ∷ 55 ∷ 52 ∷ 52 ∷ 48 ∷ 55 ∷ 51 ∷ 55 ∷ 48 ∷ 57 ∷ 53 ∷ 53 ∷ 49 ∷ 54 ∷ 50 ∷ 48 ∷ []) ∷
    -- C, C444, Cmono, C420paldv
    after (c []) ∷
    after (c (52 ∷ 52 ∷ 52 ∷ [])) ∷
    after (c (109 ∷ 111 ∷ 110 ∷ 111 ∷ [])) ∷
    after (c (text420 ++ (112 ∷ 97 ∷ 108 ∷ 100 ∷ 118 ∷ []))) ∷ [])
    ≡ false
unfolding is_header is_line width_of height_of sampling_of size is_size code upto words filled tagged same digit digits value
refused = refl
