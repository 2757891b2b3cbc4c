-- The Y4M file: what its header's tags say, its pictures, and its bytes. docs/RULES.md, 14.2 and 14.3. Lines and tags: `y4m_line`, `Line`.
-- Assumes nothing.
use Rattle.std.specs.Prelude.{ℕ, ◌*◌, ◌<◌, ◌≡◌, List, [], ◌∷◌, ◌++◌, length, get_or}
use Rattle.yuv_support.specs.declared.YuvChromaSubsampling.{YuvChromaSubsampling}
use Rattle.yuv_support.specs.declared.YuvChromaSubsampling.TheVariants.{Yuv420, Yuv422}
use Rattle.yuv_support.specs.Sampling.{chroma_width, chroma_height}
use Rattle.y4m_line.specs.Line.{IsLineOf, line_of, magic, frame, tagged, SaysSide, text420, text420jpeg, text420mpeg2, text422}

-- RULES 14.2: what the tags that begin with C may be where this is the sampling, without that letter; none means 4:2:0
abbrev pub texts : YuvChromaSubsampling → List (List (List ℕ))
texts Yuv420 = [] ∷ (text420 ∷ []) ∷ (text420jpeg ∷ []) ∷ (text420mpeg2 ∷ []) ∷ []
texts Yuv422 = (text422 ∷ []) ∷ []

-- RULES 14.2
pub record SaysSampling (tags : List (List ℕ)) (sampling : YuvChromaSubsampling) : Type 0 where
  pub which : ℕ
  pub known : which < length (texts sampling)
  pub said : tagged 67 tags ≡ get_or (texts sampling) which []

-- RULES 14.3: a picture: the tags of its line, and its planes without padding
pub record Y4mPicture : Type 0 where
  pub tags : List (List ℕ)
  pub y : List ℕ
  pub u : List ℕ
  pub v : List ℕ

-- RULES 14.3: a line FRAME, then Y, U, V
unfoldable pub picture_bytes : Y4mPicture → List ℕ
picture_bytes p = line_of frame p.tags ++ (p.y ++ (p.u ++ p.v))

-- RULES 14.3: pictures back to back
unfoldable pub pictures_bytes : List Y4mPicture → List ℕ
pictures_bytes [] = []
pictures_bytes (p ∷ ps) = picture_bytes p ++ pictures_bytes ps

-- RULES 14.3: w × h, the bytes of Y
abbrev pub luma_bytes : (w h : ℕ) → ℕ
luma_bytes w h = w * h

-- RULES 14.3: cw × ch, the bytes of U and of V
abbrev pub chroma_bytes : YuvChromaSubsampling → (w h : ℕ) → ℕ
chroma_bytes sampling w h = chroma_width w * chroma_height sampling h

-- RULES 14.3: which pictures are allowed, by the bytes of their planes
pub record PictureAllowed (luma chroma : ℕ) (p : Y4mPicture) : Type 0 where
  pub line : IsLineOf frame p.tags
  pub y_size : length p.y ≡ luma
  pub u_size : length p.u ≡ chroma
  pub v_size : length p.v ≡ chroma

-- RULES 14.3
abbrev pub EachAllowed : (luma chroma : ℕ) → List Y4mPicture → Type 0
EachAllowed luma chroma [] = Unit {0}
EachAllowed luma chroma (p ∷ ps) = PictureAllowed luma chroma p × EachAllowed luma chroma ps

-- RULES 14.2, 14.3: a file: its sides and sampling, the tags that say them, its pictures
pub record Y4mFile : Type 0 where
  pub width : ℕ
  pub height : ℕ
  pub sampling : YuvChromaSubsampling
  pub tags : List (List ℕ)
  pub pictures : List Y4mPicture

-- RULES 14.2, 14.3: which files are allowed: W, H and C say the sides and the sampling
pub record Allowed (f : Y4mFile) : Type 0 where
  pub line : IsLineOf magic f.tags
  pub width : SaysSide 87 f.tags f.width
  pub height : SaysSide 72 f.tags f.height
  pub sampling : SaysSampling f.tags f.sampling
  pub pictures : EachAllowed (luma_bytes f.width f.height) (chroma_bytes f.sampling f.width f.height) f.pictures

-- RULES 14.3: a line YUV4MPEG2, then the pictures
unfoldable pub file_bytes : Y4mFile → List ℕ
file_bytes f = line_of magic f.tags ++ pictures_bytes f.pictures

-- RULES 14.3: these bytes are this file
pub record IsFileOf (file : List ℕ) (f : Y4mFile) : Type 0 where
  pub allowed : Allowed f
  pub same : file_bytes f ≡ file
