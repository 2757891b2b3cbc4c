-- Luma and chroma read the colours of a row's pixels and nothing else: red, green and blue are among the first three bytes of a pixel, and
-- no column at or past w is read. So two rows with the same colours have the same bytes, whatever their alpha and their padding.
-- Assumes nothing.
use Prim.Native.Nat.{ℕ, ◌+◌, ◌*◌, ◌<◌}
use mathlib.Core.Path.{◌≡◌, refl}
use mathlib.Core.Bool.{Bool, true, false}
use native.Mathlib.Omega.{arith}
use borrow.Author.Tests.{ltb-true}
use lib.Dec.{ltb, lit<}
use Rattle.yuv_support.specs.declared.YuvSourceChannels.{YuvSourceChannels}
use Rattle.yuv_support.specs.declared.YuvSourceChannels.TheVariants.{Rgb, Rgba, Bgra, Bgr}
use Rattle.yuv_support.specs.Channels.{r_offset, g_offset, b_offset}
use Rattle.yuv_support.specs.Sampling.{chroma_width}
use Rattle.definitions.specs.declared.YuvSettings.{YuvSettings}
use Rattle.definitions.specs.declared.FrameDescription.{FrameDescription}
use Rattle.definitions.specs.Pixel.{luma_of}
use Rattle.definitions.specs.Row.{Pixels, of_colour, luma_row, input420, input422}

-- the first three bytes of each of w pixels are the same
abbrev pub SameColours : (w : ℕ) → (a b : Pixels) → Type 0
SameColours w a b = (x i : ℕ) → x < w → i < 3 → a x i ≡ b x i

-- byte i of a pixel of one row is byte i' of that of the other, in each of w pixels
abbrev pub Alike : (w i i' : ℕ) → (a b : Pixels) → Type 0
Alike w i i' a b = (x : ℕ) → x < w → a x i ≡ b x i'

pub offsets : (c : YuvSourceChannels) → (r_offset c < 3) × (g_offset c < 3) × (b_offset c < 3)
offsets Rgb = (lit< tt, lit< tt, lit< tt)
offsets Rgba = (lit< tt, lit< tt, lit< tt)
offsets Bgra = (lit< tt, lit< tt, lit< tt)
offsets Bgr = (lit< tt, lit< tt, lit< tt)

-- a function of r, g, b: luma, cb or cr
pub colour_same : (s : YuvSettings) (f : ℕ → ℕ → ℕ → ℕ) (p q : ℕ → ℕ) → ((i : ℕ) → i < 3 → p i ≡ q i) → of_colour s f p ≡ of_colour s f q
colour_same s f p q same =
    let o = offsets s.channels in
    rw (same (r_offset s.channels) o.0, same (g_offset s.channels) o.1, same (b_offset s.channels) o.2)

module _ (d : FrameDescription) where
  pub luma_same : (a b : Pixels) → SameColours d.width a b → (x : ℕ) → x < d.width → luma_row d a x ≡ luma_row d b x
  unfolding luma_row
  luma_same a b same x h = colour_same d.settings (luma_of d.settings) (a x) (b x) (λ i l. same x i h l)

  -- the chroma input j, by byte i of the pixels of one row, or by byte i' of those of another
  pub input420-Alike : (a b below below' : Pixels) (j i i' : ℕ) → Alike d.width i i' a b → Alike d.width i i' below below' → j < chroma_width d.width
      → input420 d a below j i ≡ input420 d b below' j i'
  unfolding input420
  input420-Alike a b below below' j i i' e f h = go (ltb (2 * j + 1) d.width) refl
    where
      go : (t : Bool) → ltb (2 * j + 1) d.width ≡ t → input420 d a below j i ≡ input420 d b below' j i'
      go true r = let k : 2 * j + 1 < d.width = ltb-true _ _ r in rw (e (2 * j) (omega arith), e (2 * j + 1) k, f (2 * j) (omega arith), f (2 * j + 1) k)
      go false r = rw (r, e (2 * j) (omega arith), f (2 * j) (omega arith))

  pub input422-Alike : (a b : Pixels) (j i i' : ℕ) → Alike d.width i i' a b → j < chroma_width d.width → input422 d a j i ≡ input422 d b j i'
  unfolding input422
  input422-Alike a b j i i' e h = go (ltb (2 * j + 1) d.width) refl
    where
      go : (t : Bool) → ltb (2 * j + 1) d.width ≡ t → input422 d a j i ≡ input422 d b j i'
      go true r = rw (e (2 * j) (omega arith), e (2 * j + 1) (ltb-true _ _ r))
      go false r = rw (r, e (2 * j) (omega arith))
