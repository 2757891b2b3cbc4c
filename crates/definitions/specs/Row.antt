-- The bytes of a luma row and of a chroma row, from rows of pixels: docs/RULES.md, 2.5 and chapter 6.
-- Assumes nothing.
use Rattle.std.specs.Prelude.{ℕ, ◌+◌, ◌*◌, ◌/◌, cond, List, ltb, get_or}
use Rattle.yuv_support.specs.Channels.{r_offset, g_offset, b_offset}
use Rattle.sharp_gamma.specs.Entry.{linear_entry, gamma_entry}
use Rattle.definitions.specs.declared.YuvSettings.{YuvSettings}
use Rattle.definitions.specs.declared.FrameDescription.{FrameDescription}
use Rattle.definitions.specs.Pixel.{luma_of, cb_of, cr_of}

-- RULES 2.2: a row of pixels, by column and byte of the pixel
abbrev pub Pixels : Type 0
Pixels = ℕ → ℕ → ℕ

-- RULES 2.2: the pixels of a row of bytes, c bytes a pixel
unfoldable pub pixels_of : (c : ℕ) → List ℕ → Pixels
pixels_of c bytes x i = get_or bytes (x * c + i) 0

-- RULES 1.3: a function of R, G, B, applied to the bytes of a pixel in their channel order
abbrev pub of_colour : YuvSettings → (ℕ → ℕ → ℕ → ℕ) → (ℕ → ℕ) → ℕ
of_colour s f pixel = f (pixel (r_offset s.channels)) (pixel (g_offset s.channels)) (pixel (b_offset s.channels))

-- RULES 2.5, 5.1: luma byte x of a row
unfoldable pub luma_row : FrameDescription → Pixels → ℕ → ℕ
luma_row d row x = of_colour d.settings (luma_of d.settings) (row x)

-- RULES 6.2: from a sum to an index of the gamma table
abbrev pub interpolated : ℕ → ℕ
interpolated sum = (sum + 8) / 16

-- RULES 6.2: L, the linear table of the frame's transfer and rounding
abbrev pub linear : YuvSettings → ℕ → ℕ
linear s = linear_entry s.transfer s.rounding

-- RULES 6.2: the gamma table of both
abbrev pub gamma_of : YuvSettings → ℕ → ℕ
gamma_of s = gamma_entry s.transfer s.rounding

-- RULES 6.2: from a sum to a channel of the chroma colour
abbrev pub corrected : YuvSettings → ℕ → ℕ
corrected s sum = gamma_of s (interpolated sum)

-- RULES 6.3: byte i of the chroma colour at column j; this and right stand in `row`, below and below right in `below`
unfoldable pub input420 : FrameDescription → (row below : Pixels) → (j i : ℕ) → ℕ
input420 d row below j i =
    let s = d.settings in
    cond (ltb (2 * j + 1) d.width)
    (corrected s (9 * linear s (row (2 * j) i) + 3 * linear s (row (2 * j + 1) i) + 3 * linear s (below (2 * j) i) + 1 * linear s (below (2 * j + 1) i)))
    (corrected s (12 * linear s (row (2 * j) i) + 4 * linear s (below (2 * j) i)))

-- RULES 6.4: byte i of the chroma colour at column j; the last pixel of an odd width goes through no table
unfoldable pub input422 : FrameDescription → (row : Pixels) → (j i : ℕ) → ℕ
input422 d row j i =
    let s = d.settings in
    cond (ltb (2 * j + 1) d.width)
    (corrected s (12 * linear s (row (2 * j) i) + 4 * linear s (row (2 * j + 1) i)))
    (row (2 * j) i)

-- RULES 2.5, 5.2: chroma byte j of a row whose chroma colours are given
unfoldable pub cb_row : FrameDescription → (input : ℕ → ℕ → ℕ) → ℕ → ℕ
cb_row d input j = of_colour d.settings (cb_of d.settings) (input j)

-- RULES 2.5, 5.2
unfoldable pub cr_row : FrameDescription → (input : ℕ → ℕ → ℕ) → ℕ → ℕ
cr_row d input j = of_colour d.settings (cr_of d.settings) (input j)
