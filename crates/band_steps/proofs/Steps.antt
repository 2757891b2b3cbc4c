-- What a step lends, and what it leaves, from the rows that came back painted: the parts of the source are the band's own rows, and the chroma input of
-- their pixels is the image's.
-- Assumes nothing.
use Prim.Native.Nat.{ℕ, ◌+◌, ◌*◌, ◌-◌, ◌/◌, ◌%◌, ◌≤◌, ◌<◌, min}
use mathlib.Core.Path.{◌≡◌, refl, ap, sym, subst, ◌∙◌}
use mathlib.Core.List.{List}
use native.Mathlib.Omega.{arith}
use borrow.Rule.Slice.PartMut.{put_mid}
use lib.ListN.{length, take, drop}
use Rattle.yuv_support.specs.declared.YuvChromaSubsampling.{YuvChromaSubsampling}
use Rattle.yuv_support.specs.declared.YuvChromaSubsampling.TheVariants.{Yuv420, Yuv422}
use Rattle.definitions.specs.declared.FrameDescription.{FrameDescription}
use Rattle.definitions.specs.Row.{Pixels, pixels_of, luma_row, cb_row, cr_row, input420, input422}
use Rattle.definitions.specs.Image.{Image, row_start, chroma_size, luma_at, cb_at, cr_at, chroma_input, finished_by, finished_of}
use Rattle.definitions.specs.Painted.{Painted}
use Rattle.definitions.specs.Bands.{band_image, Sharpened}
use Rattle.definitions.proofs.Planes.{plane_none, plane_between}
use Rattle.definitions.proofs.Finished.{finished_all, finished_some, finished?}
use Rattle.definitions.proofs.Bands.{band_own_rows}
use Rattle.definitions.proofs.Windows.{own_row}
use Rattle.definitions.proofs.Numbers.{next_row}
use Rattle.pixel_pairs.specs.Rows.{TwoPainted, ChromaWritten}
use Rattle.definitions.specs.declared.Band.{Band}
use Rattle.band_steps.specs.declared.Step.{Step}
use Rattle.band_steps.specs.Steps.{chroma_of, SourceAt, PlaneAt, YAt, ChromaAt, PairAt, Sees, LumaIs, ChromaIs}
use Rattle.band_steps.proofs.Written.{Painted-as, two_as, two_part, rows_written, part_written}

-- a part of a buffer that was lent, and the buffer with the part back in its place
abbrev pub part : (at n : ℕ) → List ℕ → List ℕ
part at n buffer = take (at + n - at) (drop at buffer)

abbrev pub back : (at n : ℕ) → List ℕ → List ℕ → List ℕ
back at n buffer p = put_mid at (at + n - at) buffer p

-- ---- rows of the source

pub row_seen : {count : ℕ} (b : Band) {s : Step} (source : List ℕ) (image : Image) → SourceAt count b s (length source) → Sees b source image
    → pixels_of count (part s.source s.size source) ≡ image s.row
row_seen b {s} source image p sees = rw p.pixel (own_row b source s.row s.source s.size p.place p.size ∙ sees s.row p.least)

-- and the row below it
pub next_seen : {count : ℕ} (b : Band) {s : Step} (source : List ℕ) (image : Image) → SourceAt count b s (length source) → Sees b source image
    → pixels_of count (part (s.source + b.stride) s.size source) ≡ image (s.row + 1)
next_seen b {s} source image p sees =
    let next : s.row - b.done + 1 ≡ s.row + 1 - b.done = omega (arith, p.least) in
    let place : s.source + b.stride ≡ row_start b.frame b.stride (s.row + 1 - b.done) = omega (
      arith,
      p.place,
      next_row (s.row - b.done) b.stride,
      ap (λ (i : ℕ). i * b.stride) next,
    ) in
    rw p.pixel (own_row b source (s.row + 1) (s.source + b.stride) s.size place p.size ∙ sees (s.row + 1) (omega (arith, p.least)))

-- the image that the band sees has its own rows
pub Sees-own : (b : Band) (source carried : List ℕ) → Sees b source (band_image b source carried)
Sees-own b source carried i l = band_own_rows b source carried i l

-- ---- chroma inputs

module _ (d : FrameDescription) (image : Image) where
  input_of_420 : (k : ℕ) {this below : Pixels} → d.settings.sampling ≡ Yuv420 → this ≡ image (2 * k) → below ≡ image (min (2 * k + 1) (d.height - 1))
      → input420 d this below ≡ chroma_input d.settings.sampling d image k
  input_of_420 k {this} {below} m a b =
      ap (λ (p : Pixels). input420 d p below) a ∙ ap (λ (p : Pixels). input420 d (image (2 * k)) p) b
      ∙ sym (ap (λ (m : YuvChromaSubsampling). chroma_input m d image k) m)

  input_of_422 : (k : ℕ) {this : Pixels} → d.settings.sampling ≡ Yuv422 → this ≡ image k → input422 d this ≡ chroma_input d.settings.sampling d image k
  input_of_422 k m a = ap (λ (p : Pixels). input422 d p) a ∙ sym (ap (λ (m : YuvChromaSubsampling). chroma_input m d image k) m)

-- ---- what came back

pub luma_is : (b : Band) (s : Step) {y p : List ℕ} (image : Image) {row : Pixels} → YAt b s (length y) → row ≡ image s.row
    → Painted b.frame.width (luma_row b.frame row) (part s.y s.width y) p
    → LumaIs b.frame s.row (s.row + 1) image y (back s.y s.width y p)
luma_is b s image at e q = part_written (luma_at b.frame image) at (Painted-as (ap (luma_row b.frame) e) q)

-- two luma rows, lent in one part
pub lumas_are : (b : Band) (s : Step) {source : ℕ} {y p : List ℕ} (image : Image) {this below : Pixels} → YAt b s (length y) → PairAt b s source (length y)
    → this ≡ image s.row → below ≡ image (s.row + 1) → let n = s.y + b.frame.y_stride + s.width - s.y in
    TwoPainted 0 b.frame.y_stride b.frame.width (luma_row b.frame this) (luma_row b.frame below) (take n (drop s.y y)) p
    → LumaIs b.frame s.row (s.row + 2) image y (put_mid s.y n y p)
lumas_are b s {y = y} image at pair this_is below_is written =
    let d = b.frame in
    let n = s.y + d.y_stride + s.width - s.y in
    let fits : d.y_stride + d.width ≤ n = omega (arith, at.size) in
    let rows = two_part s.y n d.y_stride d.width (omega (arith, pair.y_room)) fits at.row written in
    rows_written s.row d.y_stride d.width s.y (s.y + d.y_stride) (luma_at d image) y _ at.place refl at.row
    (two_as (ap (luma_row d) this_is) (ap (luma_row d) below_is) rows)

chroma_is : (b : Band) (s : Step) {k : ℕ} {u v p q : List ℕ} (image : Image) {input : ℕ → ℕ → ℕ} → ChromaAt b s (length u) (length v)
    → chroma_of b.frame s.row ≡ k
    → input ≡ chroma_input b.frame.settings.sampling b.frame image k
    → ChromaWritten b.frame input (part s.u s.chroma u) (part s.v s.chroma v) p q
    → ChromaIs b.frame k image u v (back s.u s.chroma u p) (back s.v s.chroma v q)
unfolding cb_at cr_at
chroma_is b s {k} {u} {v} image at row e written =
    let in_u = subst (λ (k : ℕ). PlaneAt b.frame.u_stride (chroma_size b.frame) k s.u s.chroma (length u)) row at.in_u in
    let in_v = subst (λ (k : ℕ). PlaneAt b.frame.v_stride (chroma_size b.frame) k s.v s.chroma (length v)) row at.in_v in
    record {
      cb = part_written (cb_at b.frame image) in_u (Painted-as (ap (cb_row b.frame) e) written.cb);
      cr = part_written (cr_at b.frame image) in_v (Painted-as (ap (cr_row b.frame) e) written.cr);
    }

-- in each sampling
pub chroma_420 : (b : Band) (s : Step) {u v p q : List ℕ} (image : Image) {this below : Pixels} → b.frame.settings.sampling ≡ Yuv420
    → ChromaAt b s (length u) (length v)
    → this ≡ image (2 * (s.row / 2)) → below ≡ image (min (2 * (s.row / 2) + 1) (b.frame.height - 1))
    → ChromaWritten b.frame (input420 b.frame this below) (part s.u s.chroma u) (part s.v s.chroma v) p q
    → ChromaIs b.frame (s.row / 2) image u v (back s.u s.chroma u p) (back s.v s.chroma v q)
chroma_420 b s image m at this_is below_is = chroma_is b s image at (rw m) (input_of_420 b.frame image (s.row / 2) m this_is below_is)

pub chroma_422 : (b : Band) (s : Step) {u v p q : List ℕ} (image : Image) {this : Pixels} → b.frame.settings.sampling ≡ Yuv422
    → ChromaAt b s (length u) (length v) → this ≡ image s.row
    → ChromaWritten b.frame (input422 b.frame this) (part s.u s.chroma u) (part s.v s.chroma v) p q
    → ChromaIs b.frame s.row image u v (back s.u s.chroma u p) (back s.v s.chroma v q)
chroma_422 b s image m at this_is = chroma_is b s image at (rw m) (input_of_422 b.frame image s.row m this_is)

-- ---- steps

finished_420 : (d : FrameDescription) (n : ℕ) → d.settings.sampling ≡ Yuv420 → finished_of d n ≡ finished_by Yuv420 d.height n
finished_420 d n m = rw m

finished_422 : (d : FrameDescription) (n : ℕ) → d.settings.sampling ≡ Yuv422 → finished_of d n ≡ n
finished_422 d n m = rw m

Sharpened-of : {d : FrameDescription} {from to k : ℕ} {image : Image} {y u v y' u' v' : List ℕ} → finished_of d from ≡ k → finished_of d to ≡ k + 1
    → LumaIs d from to image y y' → ChromaIs d k image u v u' v' → Sharpened d from to image y u v y' u' v'
Sharpened-of a b luma chroma = record { luma = luma; cb = plane_between (sym a) (sym b) chroma.cb; cr = plane_between (sym a) (sym b) chroma.cr }

module _ {d : FrameDescription} {row : ℕ} {image : Image} {y u v y' u' v' : List ℕ} where
  -- a pair of rows
  pub pair_stepped : d.settings.sampling ≡ Yuv420 → row % 2 ≡ 0 → row + 2 ≤ d.height → LumaIs d row (row + 2) image y y'
      → ChromaIs d (row / 2) image u v u' v'
      → Sharpened d row (row + 2) image y u v y' u' v'
  pair_stepped m even inside =
      Sharpened-of
      (finished_420 d row m ∙ finished_some d.height row (λ e. omega arith))
      (finished_420 d (row + 2) m ∙ finished? d.height (row + 2) inside (λ e f. f ∙ omega arith) (λ e f. f ∙ omega arith))

  -- an odd row, below the row that was carried
  pub first_stepped : d.settings.sampling ≡ Yuv420 → row % 2 ≡ 1 → row < d.height → LumaIs d row (row + 1) image y y' → ChromaIs d (row / 2) image u v u' v'
      → Sharpened d row (row + 1) image y u v y' u' v'
  first_stepped m odd inside =
      Sharpened-of
      (finished_420 d row m ∙ finished_some d.height row (λ e. omega arith))
      (finished_420 d (row + 1) m ∙ finished? d.height (row + 1) (omega arith) (λ e f. f ∙ omega arith) (λ e f. f ∙ omega arith))

  -- an even row that is the frame's last
  pub last_stepped : d.settings.sampling ≡ Yuv420 → row % 2 ≡ 0 → row + 1 ≡ d.height → LumaIs d row (row + 1) image y y'
      → ChromaIs d (row / 2) image u v u' v'
      → Sharpened d row (row + 1) image y u v y' u' v'
  last_stepped m even last =
      Sharpened-of
      (finished_420 d row m ∙ finished_some d.height row (λ e. omega arith))
      (finished_420 d (row + 1) m ∙ finished_all d.height (row + 1) last ∙ omega arith)

  pub row_stepped : d.settings.sampling ≡ Yuv422 → LumaIs d row (row + 1) image y y' → ChromaIs d row image u v u' v'
      → Sharpened d row (row + 1) image y u v y' u' v'
  row_stepped m = Sharpened-of (finished_422 d row m) (finished_422 d (row + 1) m)

-- an even row whose chroma row goes on
pub open_stepped : {d : FrameDescription} {row : ℕ} {image : Image} {y y' : List ℕ} (u v : List ℕ) → d.settings.sampling ≡ Yuv420 → row % 2 ≡ 0
    → row + 1 < d.height
    → LumaIs d row (row + 1) image y y' → Sharpened d row (row + 1) image y u v y' u v
open_stepped {d} {row} u v m even inside luma =
    let a : finished_of d row ≡ row / 2 = finished_420 d row m ∙ finished_some d.height row (λ e. omega arith) in
    let b : finished_of d (row + 1) ≡ row / 2 = finished_420 d (row + 1) m ∙ finished_some d.height (row + 1) (λ e. omega arith) ∙ omega arith in
    record { luma = luma; cb = plane_none _ _ _ _ _ _ (omega (arith, a, b)); cr = plane_none _ _ _ _ _ _ (omega (arith, a, b)) }
