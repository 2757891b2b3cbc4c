-- The planes read the colours of an image's pixels and nothing else: two images with the same colours in the rows that are read have the same
-- planes. A band reads its own rows, and of those before them only the row above that one of its chroma rows starts from.
-- Assumes nothing.
use Prim.Native.Nat.{ℕ, ◌≤◌, ◌<◌}
use mathlib.Core.Path.{◌≡◌}
use mathlib.Core.List.{List}
use Rattle.yuv_support.specs.declared.YuvChromaSubsampling.{YuvChromaSubsampling}
use Rattle.yuv_support.specs.declared.YuvChromaSubsampling.TheVariants.{Yuv420, Yuv422}
use Rattle.definitions.specs.declared.FrameDescription.{FrameDescription}
use Rattle.definitions.specs.Pixel.{cb_of, cr_of}
use Rattle.definitions.specs.Row.{of_colour, cb_row, cr_row}
use Rattle.definitions.specs.Image.{Image, chroma_input, cb_at, cr_at, chroma_size, finished_of}
use Rattle.definitions.specs.Bands.{Sharpened}
use Rattle.definitions.proofs.SameRows.{SameColours, Alike, colour_same, luma_same, input420-Alike, input422-Alike}
use Rattle.definitions.proofs.Planes.{below?, plane_like}
use Rattle.definitions.proofs.Finished.{first_row, below_row, between}

module _ (d : FrameDescription) (a b : Image) where
  abbrev first : ℕ → ℕ
  first k = first_row d.settings.sampling k

  abbrev below : ℕ → ℕ
  below k = below_row d.settings.sampling d.height k

  pub input_Alike : (m : YuvChromaSubsampling) (k j i i' : ℕ) → j < chroma_size d → Alike d.width i i' (a (first_row m k)) (b (first_row m k))
      → Alike d.width i i' (a (below_row m d.height k)) (b (below_row m d.height k)) → chroma_input m d a k j i ≡ chroma_input m d b k j i'
  input_Alike Yuv420 k j i i' h e f = input420-Alike d _ _ _ _ j i i' e f h
  input_Alike Yuv422 k j i i' h e f = input422-Alike d _ _ j i i' e h

  -- chroma byte j of row k, by the cb or the cr of a colour
  chroma_same : (f : ℕ → ℕ → ℕ → ℕ) (k j : ℕ) → j < chroma_size d → SameColours d.width (a (first k)) (b (first k))
      → SameColours d.width (a (below k)) (b (below k))
      → of_colour d.settings f (chroma_input d.settings.sampling d a k j) ≡ of_colour d.settings f (chroma_input d.settings.sampling d b k j)
  chroma_same f k j l x y = colour_same d.settings f _ _ (λ i m. input_Alike d.settings.sampling k j i i l (λ p h. x p i h m) (λ p h. y p i h m))

-- what two images have in common for the rows from `done` up to `end`
pub record SameSeen (d : FrameDescription) (done end : ℕ) (a b : Image) : Type 0 where
  pub own : (r : ℕ) → done ≤ r → r < end → SameColours d.width (a r) (b r)
  pub above : (k : ℕ) → finished_of d done ≤ k → first_row d.settings.sampling k < done
      → SameColours d.width (a (first_row d.settings.sampling k)) (b (first_row d.settings.sampling k))

pub Sharpened-like : {d : FrameDescription} {done end : ℕ} {a b : Image} {y u v y' u' v' : List ℕ} → done < end → end ≤ d.height → SameSeen d done end a b
    → Sharpened d done end a y u v y' u' v' → Sharpened d done end b y u v y' u' v'
unfolding cb_at cb_row cr_at cr_row
Sharpened-like {d} {done} {end} {a} {b} l m same p = record {
  luma = plane_like _ _ _ _ _ _ _ _ (λ r x least most column. luma_same d (a r) (b r) (same.own r least most) x column) p.luma;
  cb = plane_like _ _ _ _ _ _ _ _ (chroma (cb_of d.settings)) p.cb;
  cr = plane_like _ _ _ _ _ _ _ _ (chroma (cr_of d.settings)) p.cr;
}
  where
    chroma : (f : ℕ → ℕ → ℕ → ℕ) (k j : ℕ) → finished_of d done ≤ k → k < finished_of d end → j < chroma_size d
        → of_colour d.settings f (chroma_input d.settings.sampling d a k j) ≡ of_colour d.settings f (chroma_input d.settings.sampling d b k j)
    chroma f k j least most column =
        let rows = between d.settings.sampling d.height done end k l m least most in
        chroma_same d a b f k j column
        (below? (first_row d.settings.sampling k) done (same.above k least) (λ own. same.own _ own rows.first))
        (same.own _ rows.below_least rows.below_most)
