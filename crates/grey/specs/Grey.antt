-- Grey pixels, and planes without a tint: docs/RULES.md, 6.5.
-- Assumes nothing.
use Rattle.std.specs.Prelude.{ℕ, ◌+◌, ◌*◌, ◌<◌, ◌≡◌, List, get_or}
use Rattle.yuv_support.specs.declared.YuvRange.{YuvRange}
use Rattle.yuv_support.specs.declared.YuvRange.TheVariants.{Limited, Full}
use Rattle.yuv_support.specs.Channels.{r_offset, g_offset, b_offset}
use Rattle.definitions.specs.declared.YuvSettings.{YuvSettings}
use Rattle.definitions.specs.declared.FrameDescription.{FrameDescription}
use Rattle.definitions.specs.Image.{Image, chroma_size, finished_of}

-- RULES 6.5: the grey of a pixel whose three colour bytes are equal
abbrev pub grey_of : YuvSettings → (pixel : ℕ → ℕ) → ℕ
grey_of s pixel = pixel (g_offset s.channels)

-- RULES 6.5: r = g = b; a source is a list of numbers here, so that they are bytes is said too
pub record GreyPixel (s : YuvSettings) (pixel : ℕ → ℕ) : Type 0 where
  pub red : pixel (r_offset s.channels) ≡ grey_of s pixel
  pub blue : pixel (b_offset s.channels) ≡ grey_of s pixel
  pub byte : grey_of s pixel < 256

-- RULES 6.5: so is each pixel of the first n rows of a frame
abbrev pub GreyRows : FrameDescription → (n : ℕ) → Image → Type 0
GreyRows d n image = (r x : ℕ) → r < n → x < d.width → GreyPixel d.settings (image r x)

-- RULES 6.5: the luma of a grey: itself in full range; in limited range black is 16 and white 235
abbrev pub LumaOfGrey : YuvRange → (grey luma : ℕ) → Type 0
LumaOfGrey Full grey luma = luma ≡ grey
LumaOfGrey Limited grey luma = (grey ≡ 0 → luma ≡ 16) × (grey ≡ 255 → luma ≡ 235)

-- RULES 6.5: planes whose rows that are finished after n rows of an image have that luma, and no tint
pub record GreyPlanes (d : FrameDescription) (n : ℕ) (image : Image) (y u v : List ℕ) : Type 0 where
  pub luma : (r x : ℕ) → r < n → x < d.width → LumaOfGrey d.settings.range (grey_of d.settings (image r x)) (get_or y (r * d.y_stride + x) 0)
  pub cb : (k j : ℕ) → k < finished_of d n → j < chroma_size d → get_or u (k * d.u_stride + j) 0 ≡ 128
  pub cr : (k j : ℕ) → k < finished_of d n → j < chroma_size d → get_or v (k * d.v_stride + j) 0 ≡ 128
