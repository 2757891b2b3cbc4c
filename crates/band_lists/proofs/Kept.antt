-- What is kept from band to band of one image: the planes hold its rows so far, and the carried row has the colours of the row from which a
-- chroma row that is not finished starts. One band more keeps both.
-- Assumes nothing.
use Prim.Native.Nat.{ℕ, ◌+◌, ◌*◌, ◌-◌, ◌/◌, ◌%◌, ◌≤◌, ◌<◌, zero-le}
use mathlib.Core.Path.{◌≡◌, subst, ◌∙◌}
use mathlib.Core.Bool.{cond}
use mathlib.Core.List.{List}
use lib.ListN.{length}
use native.Mathlib.Omega.{arith}
use borrow.Author.Tests.{eq-eqb, ne_eqb}
use Rattle.yuv_support.specs.declared.YuvChromaSubsampling.{YuvChromaSubsampling}
use Rattle.yuv_support.specs.declared.YuvChromaSubsampling.TheVariants.{Yuv420, Yuv422}
use Rattle.definitions.specs.Painted.{Painted}
use Rattle.definitions.specs.Row.{Pixels, pixels_of}
use Rattle.definitions.proofs.Painted.{Painted-at}
use Rattle.definitions.proofs.SameRows.{SameColours}
use Rattle.definitions.specs.declared.FrameDescription.{FrameDescription}
use Rattle.definitions.specs.Image.{Image, finished_by, finished_of}
use Rattle.definitions.specs.Bands.{own_rows, band_image, Sharpened}
use Rattle.yuv_error.specs.Known.{Given}
use Rattle.definitions.proofs.Planes.{below?}
use Rattle.definitions.proofs.Finished.{first_row, finished_all, finished_some}
use Rattle.definitions.proofs.Bands.{band_own_rows, band_carried, Sharpened-none, Sharpened-then}
use Rattle.definitions.proofs.SameImages.{SameSeen, Sharpened-like}
use Rattle.band_calls.specs.BandCall.{state_of, band_of, is_carried, carried_bytes}

-- after n rows of the image, with the planes as the first band found them and as they are
pub record Kept (d : FrameDescription) (image : Image) (n : ℕ) (y₀ u₀ v₀ y u v carried : List ℕ) : Type 0 where
  pub planes : Sharpened d 0 n image y₀ u₀ v₀ y u v
  pub above : (k : ℕ) → finished_of d n ≤ k → first_row d.settings.sampling k < n
      → SameColours d.width (pixels_of 3 carried) (image (first_row d.settings.sampling k))

pub Kept-none : (d : FrameDescription) (image : Image) (y u v carried : List ℕ) → Kept d image 0 y u v y u v carried
Kept-none d image y u v carried = record { planes = Sharpened-none d 0 image y u v; above = λ k f l. absurd (omega arith) }

-- where a chroma row starts before the band's end and is not finished there, its first row is the band's last, and is carried
carried_row : (s : YuvChromaSubsampling) (w h end k : ℕ) → end ≤ h → finished_by s h end ≤ k → first_row s k < end
    → (cond (is_carried s h end) (3 * w) 0 ≡ 3 * w) × (first_row s k ≡ end - 1)
carried_row Yuv420 w h end k most f l =
    below? end h
    (λ less. let part = finished_some h end (λ e. omega arith) in (rw (eq-eqb ((end - 1) % 2) 0 (omega arith), ne_eqb end h (λ e. omega arith)), omega arith))
    (λ all. let whole = finished_all h end (omega arith) in absurd (omega arith))
carried_row Yuv422 w h end k most f l = absurd (omega arith)

-- a band whose own rows are the image's
module _ {d : FrameDescription} {image : Image} {n rows stride : ℕ} (source carried : List ℕ) (given : Given (band_of (state_of d n) rows stride) (length source))
    (own : (r : ℕ) → n ≤ r → r < n + rows → SameColours d.width (own_rows (band_of (state_of d n) rows stride) source r) (image r)) where
  seen : {y₀ u₀ v₀ y u v : List ℕ} → Kept d image n y₀ u₀ v₀ y u v carried
      → SameSeen d n (n + rows) (band_image (band_of (state_of d n) rows stride) source carried) image
  seen kept = record {
    own = λ r l m. subst (λ (row : Pixels). SameColours d.width row (image r)) (band_own_rows (band_of (state_of d n) rows stride) source carried r l)
        (own r l m);
    above = λ k f l. subst (λ (row : Pixels). SameColours d.width row (image (first_row d.settings.sampling k)))
        (band_carried (band_of (state_of d n) rows stride) source carried _ l) (kept.above k f l);
  }

  pub Kept-band : {y₀ u₀ v₀ y u v y' u' v' carried' : List ℕ} → Kept d image n y₀ u₀ v₀ y u v carried
      → Sharpened d n (n + rows) (band_image (band_of (state_of d n) rows stride) source carried) y u v y' u' v'
      → Painted (carried_bytes d (n + rows)) (λ q. own_rows (band_of (state_of d n) rows stride) source (n + rows - 1) (q / 3) (q % 3)) carried carried'
      → Kept d image (n + rows) y₀ u₀ v₀ y' u' v' carried'
  unfolding pixels_of
  Kept-band kept planes carry = record {
    planes = Sharpened-then zero-le (omega arith) given.rows_most kept.planes (Sharpened-like (omega arith) given.rows_most (seen kept) planes);
    above = λ k f l x i hx hi.
        let c = carried_row d.settings.sampling d.width d.height (n + rows) k given.rows_most f l in
        let column : (x * 3 + i) / 3 ≡ x = omega arith in
        let byte : (x * 3 + i) % 3 ≡ i = omega arith in
        Painted-at carry (x * 3 + i) (rw c.0 (omega arith)) ∙ rw (column, byte, c.1) (own (n + rows - 1) (omega arith) (omega arith) x i hx hi);
  }
