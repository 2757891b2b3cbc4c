-- The steps of a band: where a row's bytes stand, and what a step leaves. This serves contracts: no meaning stands here.
-- Assumes nothing.
use Rattle.std.specs.Prelude.{ℕ, ◌+◌, ◌*◌, ◌-◌, ◌/◌, ◌%◌, ◌≤◌, ◌<◌, ◌≡◌, List}
use Rattle.yuv_support.specs.declared.YuvChromaSubsampling.{YuvChromaSubsampling}
use Rattle.yuv_support.specs.declared.YuvChromaSubsampling.TheVariants.{Yuv420, Yuv422}
use Rattle.definitions.specs.declared.FrameDescription.{FrameDescription}
use Rattle.definitions.specs.declared.Band.{Band}
use Rattle.definitions.specs.Image.{Image, luma_at, cb_at, cr_at, pixel_size, row_size, row_start, chroma_size}
use Rattle.definitions.specs.Plane.{PlaneIs}
use Rattle.definitions.specs.Bands.{own_rows}
use Rattle.band_steps.specs.declared.BandRows.{BandRows}
use Rattle.band_steps.specs.declared.Work.{Work}
use Rattle.band_steps.specs.declared.Step.{Step}

-- the band of a frame that rows are, and what a work is of
abbrev pub band_by : FrameDescription → BandRows → Band
band_by d rows = record { frame = d; done = rows.done; rows = rows.count; stride = rows.stride }

abbrev pub frame_of : Work → FrameDescription
frame_of w = w.tables.luma.rows.frame

abbrev pub band_of : Work → Band
band_of w = band_by (frame_of w) w.rows

-- a row's chroma row
abbrev pub chroma_row : YuvChromaSubsampling → (row : ℕ) → ℕ
chroma_row Yuv420 row = row / 2
chroma_row Yuv422 row = row

abbrev pub chroma_of : FrameDescription → (row : ℕ) → ℕ
chroma_of d row = chroma_row d.settings.sampling row

abbrev pub step_of : Band → (row : ℕ) → Step
step_of b row = let d = b.frame in record {
  row = row;
  source = row_start d b.stride (row - b.done);
  size = row_size d;
  y = row * d.y_stride;
  width = d.width;
  u = chroma_of d row * d.u_stride;
  v = chroma_of d row * d.v_stride;
  chroma = chroma_size d;
}

-- row `row` of the band, `count` bytes a pixel, in a source of so many bytes
pub record SourceAt (count : ℕ) (b : Band) (s : Step) (length : ℕ) : Type 0 where
  pub pixel : count ≡ pixel_size b.frame
  pub least : b.done ≤ s.row
  pub most : s.row < b.done + b.rows
  pub place : s.source ≡ row_start b.frame b.stride (s.row - b.done)
  pub size : s.size ≡ row_size b.frame
  pub room : s.source + s.size ≤ length

-- `lent` bytes from `at` on, the n of row k of a plane of so many bytes
pub record PlaneAt (stride n k at lent length : ℕ) : Type 0 where
  pub place : at ≡ k * stride
  pub size : lent ≡ n
  pub row : n ≤ stride
  pub room : at + lent ≤ length

abbrev pub YAt : Band → Step → (length : ℕ) → Type 0
YAt b s length = PlaneAt b.frame.y_stride b.frame.width s.row s.y s.width length

pub record ChromaAt (b : Band) (s : Step) (u v : ℕ) : Type 0 where
  pub in_u : PlaneAt b.frame.u_stride (chroma_size b.frame) (chroma_of b.frame s.row) s.u s.chroma u
  pub in_v : PlaneAt b.frame.v_stride (chroma_size b.frame) (chroma_of b.frame s.row) s.v s.chroma v

-- a row and the next one, which share a chroma row: both the band's, with room for both in the luma plane
pub record PairAt (b : Band) (s : Step) (source y : ℕ) : Type 0 where
  pub even : s.row % 2 ≡ 0
  pub most : s.row + 2 ≤ b.done + b.rows
  pub height : s.row + 2 ≤ b.frame.height
  pub source_room : s.source + b.stride + s.size ≤ source
  pub y_room : s.y + b.frame.y_stride + s.width ≤ y

-- what a step of a sampling needs for its chroma
pub record ForStep (m : YuvChromaSubsampling) (count : ℕ) (b : Band) (s : Step) (source u v : ℕ) : Type 0 where
  pub sampling : b.frame.settings.sampling ≡ m
  pub in_source : SourceAt count b s source
  pub in_chroma : ChromaAt b s u v

-- an image that has the band's own rows
abbrev pub Sees : Band → (source : List ℕ) → Image → Type 0
Sees b source image = (i : ℕ) → b.done ≤ i → own_rows b source i ≡ image i

-- luma rows `from` up to `to` of an image, and one chroma row
abbrev pub LumaIs : FrameDescription → (from to : ℕ) → Image → (y y' : List ℕ) → Type 0
LumaIs d from to image y y' = PlaneIs from to d.y_stride d.width (luma_at d image) y y'

pub record ChromaIs (d : FrameDescription) (k : ℕ) (image : Image) (u v u' v' : List ℕ) : Type 0 where
  pub cb : PlaneIs k (k + 1) d.u_stride (chroma_size d) (cb_at d image) u u'
  pub cr : PlaneIs k (k + 1) d.v_stride (chroma_size d) (cr_at d image) v v'
