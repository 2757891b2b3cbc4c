-- What the readers of a line promise. This serves the contracts between functions: no meaning stands here.
-- Assumes nothing.
use Rattle.std.specs.Prelude.{ℕ, zero, suc, ◌≡◌, true, false, List, [], ◌∷◌, Option, Some, None}
use Rattle.yuv_support.specs.declared.YuvChromaSubsampling.{YuvChromaSubsampling}
use Rattle.y4m_line.specs.declared.Tag.{Tag}
use Rattle.y4m_line.specs.declared.Tag.TheVariants.{Missing, Once, Repeated}
use Rattle.y4m_line.specs.declared.HeaderLine.{HeaderLine}
use Rattle.y4m_line.specs.Words.{words}
use Rattle.y4m_line.specs.Line.{tagged}
use Rattle.y4m_line.specs.Header.{width_of, height_of, sampling_of, sampling_said, is_header}

-- a side, or none where it is 0
abbrev pub side_told : ℕ → Option ℕ
side_told zero = None
side_told (suc n) = Some (suc n)

-- the sampling of a code, or none where it is 0
abbrev pub sampling_told : ℕ → Option YuvChromaSubsampling
sampling_told zero = None
sampling_told (suc n) = Some (sampling_said (suc n))

-- two tags begin with the letter, or more
pub record TwoTags (letter : ℕ) (line : List ℕ) : Type 0 where
  pub first : List ℕ
  pub second : List ℕ
  pub others : List (List ℕ)
  pub are : tagged letter (words line) ≡ first ∷ second ∷ others

-- the tags that begin with the letter: none, one, by its text, or more
abbrev pub TagPost : (letter : ℕ) → (line : List ℕ) → Tag → Type 0
TagPost letter line Missing = tagged letter (words line) ≡ []
TagPost letter line (Once text) = tagged letter (words line) ≡ text.now ∷ []
TagPost letter line Repeated = TwoTags letter line

-- what a header's line says
pub record SaysHeader (line : List ℕ) (header : HeaderLine) : Type 0 where
  pub is_header_lem : is_header line ≡ true
  pub width : header.width ≡ width_of line
  pub height : header.height ≡ height_of line
  pub sampling : header.sampling ≡ sampling_said (sampling_of line)

-- what is read of a line as a header's
abbrev pub HeaderPost : (line : List ℕ) → Option HeaderLine → Type 0
HeaderPost line (Some header) = SaysHeader line header
HeaderPost line None = is_header line ≡ false
