-- The three planes of an image: docs/RULES.md, 2.2, 2.5, 6.1 and 8.6.
-- Assumes nothing.
use Rattle.std.specs.Prelude.{ℕ, ◌+◌, ◌*◌, ◌-◌, ◌/◌, min, cond, List, eqb, take, drop}
use Rattle.yuv_support.specs.declared.YuvChromaSubsampling.{YuvChromaSubsampling}
use Rattle.yuv_support.specs.declared.YuvChromaSubsampling.TheVariants.{Yuv420, Yuv422}
use Rattle.yuv_support.specs.Channels.{channels_count}
use Rattle.yuv_support.specs.Sampling.{chroma_width, chroma_height}
use Rattle.definitions.specs.declared.Window.{Window}
use Rattle.definitions.specs.declared.FrameDescription.{FrameDescription}
use Rattle.definitions.specs.Row.{Pixels, pixels_of, luma_row, input420, input422, cb_row, cr_row}

-- RULES 2.2: rows of pixels
abbrev pub Image : Type 0
Image = ℕ → Pixels

-- RULES 1.3: c, the bytes of a pixel
abbrev pub pixel_size : FrameDescription → ℕ
pixel_size d = channels_count d.settings.channels

-- RULES 2.6: the whole source as window
abbrev pub whole_source : (w h : ℕ) → Window
whole_source w h = record { left = 0; top = 0; source_width = w; source_height = h }

-- RULES 2.1: w × c, the bytes of the w pixels of a row
abbrev pub row_size : FrameDescription → ℕ
row_size d = d.width * pixel_size d

-- RULES 2.1: W × c, the bytes of the pixels of a source row
abbrev pub source_row_size : FrameDescription → ℕ
source_row_size d = d.window.source_width * pixel_size d

-- RULES 2.2: where the frame's pixels start in row r of a source, from its first column on
abbrev pub row_start : FrameDescription → (stride r : ℕ) → ℕ
row_start d stride r = r * stride + d.window.left * pixel_size d

-- RULES 2.2: the bytes of the frame's pixels in row r of a source
unfoldable pub row_bytes : FrameDescription → (stride : ℕ) → List ℕ → ℕ → List ℕ
row_bytes d stride source r = take (row_size d) (drop (row_start d stride r) source)

-- RULES 2.2, 8.7: the image of source rows that begin with the frame's first row
unfoldable pub source_image : FrameDescription → (stride : ℕ) → List ℕ → Image
source_image d stride source r = pixels_of (pixel_size d) (row_bytes d stride source r)

-- RULES 2.2: the image of a whole source, in which the frame's first row is row top
abbrev pub frame_image : FrameDescription → (stride : ℕ) → List ℕ → Image
frame_image d stride source r = source_image d stride source (d.window.top + r)

-- RULES 2.5: luma row r, byte x
abbrev pub luma_at : FrameDescription → Image → (r x : ℕ) → ℕ
luma_at d image r x = luma_row d (image r) x

-- RULES 6.1: the chroma colours of chroma row k; below the last row of an odd height is that row itself
abbrev pub chroma_input : YuvChromaSubsampling → FrameDescription → Image → (k j i : ℕ) → ℕ
chroma_input Yuv420 d image k = input420 d (image (2 * k)) (image (min (2 * k + 1) (d.height - 1)))
chroma_input Yuv422 d image k = input422 d (image k)

-- RULES 2.5: chroma row k, byte j
unfoldable pub cb_at : FrameDescription → Image → (k j : ℕ) → ℕ
cb_at d image k j = cb_row d (chroma_input d.settings.sampling d image k) j

-- RULES 2.5
unfoldable pub cr_at : FrameDescription → Image → (k j : ℕ) → ℕ
cr_at d image k j = cr_row d (chroma_input d.settings.sampling d image k) j

-- RULES 1.5: cw
abbrev pub chroma_size : FrameDescription → ℕ
chroma_size d = chroma_width d.width

-- RULES 1.5: ch
abbrev pub chroma_rows : FrameDescription → ℕ
chroma_rows d = chroma_height d.settings.sampling d.height

-- RULES 8.6: the chroma rows that are finished after n rows
abbrev pub finished_by : YuvChromaSubsampling → (h n : ℕ) → ℕ
finished_by Yuv420 h n = cond (eqb n h) (chroma_height Yuv420 h) (n / 2)
finished_by Yuv422 h n = n

-- RULES 8.6
abbrev pub finished_of : FrameDescription → (n : ℕ) → ℕ
finished_of d n = finished_by d.settings.sampling d.height n
