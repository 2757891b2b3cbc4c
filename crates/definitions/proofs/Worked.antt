-- Worked lines, as one set over the definitions; they are among the examples of docs/RULES.md that the comments name. Where a line names no channel
-- order, transfer, rounding, sampling, size or window, it is shown for all of them.
-- Assumes nothing.
use Prim.Native.Nat.{ℕ, ◌+◌, ◌*◌, ◌≤◌, ◌<◌}
use mathlib.Core.Path.{◌≡◌, refl, sym, ◌∙◌}
use mathlib.Core.Logic.{inl, inr}
use lib.IntN.{pos}
use Rattle.yuv_support.specs.declared.YuvSourceChannels.{YuvSourceChannels}
use Rattle.yuv_support.specs.declared.YuvChromaSubsampling.{YuvChromaSubsampling}
use Rattle.yuv_support.specs.declared.YuvRange.{YuvRange}
use Rattle.yuv_support.specs.declared.YuvRange.TheVariants.{Limited, Full}
use Rattle.yuv_support.specs.declared.YuvStandardMatrix.TheVariants.{Bt601, Fcc}
use Rattle.built_coefficients.specs.Built.{set, minus, forward_transform}
use Rattle.built_coefficients.proofs.Worked.{fcc_full}
use Rattle.sharp_gamma.specs.declared.SharpYuvGammaTransfer.{SharpYuvGammaTransfer}
use Rattle.sharp_gamma.specs.declared.TableRounding.{TableRounding}
use Rattle.sharp_gamma.proofs.Worked as curves
use Rattle.definitions.specs.declared.YuvSettings.{YuvSettings}
use Rattle.definitions.specs.declared.Window.{Window}
use Rattle.definitions.specs.declared.FrameDescription.{FrameDescription}
use Rattle.definitions.specs.Pixel.{weigh, luma_of, cb_of, cr_of}
use Rattle.definitions.specs.Row.{Pixels, linear, gamma_of, interpolated, input420, input422}
use Rattle.definitions.specs.Image.{Image}
use Rattle.definitions.proofs.Inputs.{input420_pair, input420_last, input422_pair}
use Rattle.definitions.proofs.Flat.{OneColour, FlatFrame, flat_frame}

-- ---- linear 65,535, all its neighbours 0, as in example 6.2: the numbers, and where they are looked up

-- the numbers themselves
pub record Sixteenths : Type 0 where
  pub weight_9 : interpolated (9 * 65535 + 3 * 0 + 3 * 0 + 1 * 0) ≡ 36863
  pub weight_12 : interpolated (12 * 65535 + 4 * 0) ≡ 49151

pub sixteenths : Sixteenths
sixteenths = record { weight_9 = refl; weight_12 = refl }

-- and where they are looked up, over any settings, pixels, place j and byte i
pub record Interpolated (d : FrameDescription) (row below : Pixels) (j i : ℕ) : Type 0 where
  pub weight_9 : 2 * j + 1 < d.width → linear d.settings (row (2 * j) i) ≡ 65535 → linear d.settings (row (2 * j + 1) i) ≡ 0
      → linear d.settings (below (2 * j) i) ≡ 0 → linear d.settings (below (2 * j + 1) i) ≡ 0
      → input420 d row below j i ≡ gamma_of d.settings 36863
  pub weight_12 : d.width ≤ 2 * j + 1 → linear d.settings (row (2 * j) i) ≡ 65535 → linear d.settings (below (2 * j) i) ≡ 0
      → input420 d row below j i ≡ gamma_of d.settings 49151
  pub weight_12_of_422 : 2 * j + 1 < d.width → linear d.settings (row (2 * j) i) ≡ 65535 → linear d.settings (row (2 * j + 1) i) ≡ 0
      → input422 d row j i ≡ gamma_of d.settings 49151

pub looked_up : (d : FrameDescription) (row below : Pixels) (j i : ℕ) → Interpolated d row below j i
looked_up d row below j i =
    record {
      weight_9 = λ h this right under across. sym (input420_pair d row below j i h) ∙ rw (this, right, under, across);
      weight_12 = λ h this under. sym (input420_last d row below j i h) ∙ rw (this, under);
      weight_12_of_422 = λ h this right. sym (input422_pair d row j i h) ∙ rw (this, right);
    }

-- ---- all starred lines

-- Bt601 in a range, and whatever else
abbrev bt601 : YuvRange → YuvSourceChannels → YuvChromaSubsampling → SharpYuvGammaTransfer → TableRounding → YuvSettings
bt601 range channels sampling transfer rounding =
    record { channels = channels; sampling = sampling; range = range; matrix = Bt601; transfer = transfer; rounding = rounding }

abbrev frame_with : YuvSettings → (w h y_stride u_stride v_stride : ℕ) → Window → FrameDescription
frame_with s w h y_stride u_stride v_stride window =
    record { width = w; height = h; window = window; settings = s; y_stride = y_stride; u_stride = u_stride; v_stride = v_stride }

-- a frame of the colour r, g, b has luma y and chroma u, v, in every byte
abbrev Paints : YuvSettings → (r g b y u v : ℕ) → Type 0
Paints s r g b y u v = (w h y_stride u_stride v_stride : ℕ) (window : Window) (image : Image)
    → let d = frame_with s w h y_stride u_stride v_stride window in OneColour d image r g b → FlatFrame d image y u v

pub record StarredLines : Type 0 where
  -- example 7.8: red, Bt601 Full, in either sampling
  pub red : (c : YuvSourceChannels) (m : YuvChromaSubsampling) (t : SharpYuvGammaTransfer) (q : TableRounding) → Paints (bt601 Full c m t q) 255 0 0 76 85 255
  -- example 7.8: green, Bt601 Limited
  pub green : (c : YuvSourceChannels) (m : YuvChromaSubsampling) (t : SharpYuvGammaTransfer) (q : TableRounding) → Paints (bt601 Limited c m t q) 0 255 0 145 54 34
  -- example 7.8: black and white, Bt601 Limited
  pub black : (c : YuvSourceChannels) (m : YuvChromaSubsampling) (t : SharpYuvGammaTransfer) (q : TableRounding) → Paints (bt601 Limited c m t q) 0 0 0 16 128 128
  pub white : (c : YuvSourceChannels) (m : YuvChromaSubsampling) (t : SharpYuvGammaTransfer) (q : TableRounding) → Paints (bt601 Limited c m t q) 255 255 255 235 128 128
  -- examples 3.4 and 3.5: entries of sRGB, Rec709 and Gamma2p2
  pub entries : curves.Worked
  -- example 4.3: Fcc Full
  pub fcc : forward_transform Full Fcc ≡ set (pos 2458) (pos 4833) (pos 901) (minus 1381) (minus 2715) (pos 4096) (pos 4096) (minus 3452) (minus 644)
  -- example 6.2: 36,863 with the factor 9, 49,151 with 12
  pub sixteenths : Sixteenths
  pub looked_up : (d : FrameDescription) (row below : Pixels) (j i : ℕ) → Interpolated d row below j i

pub starred_lines : StarredLines
unfolding forward_transform luma_of cb_of cr_of weigh
starred_lines = record {
  red = λ c m t q w h ys us vs window image. flat_frame (frame_with (bt601 Full c m t q) w h ys us vs window) image 255 0 0 (inr refl) (inl refl) (inl refl);
  green = λ c m t q w h ys us vs window image. flat_frame (frame_with (bt601 Limited c m t q) w h ys us vs window) image 0 255 0 (inl refl) (inr refl) (inl refl);
  black = λ c m t q w h ys us vs window image. flat_frame (frame_with (bt601 Limited c m t q) w h ys us vs window) image 0 0 0 (inl refl) (inl refl) (inl refl);
  white = λ c m t q w h ys us vs window image. flat_frame (frame_with (bt601 Limited c m t q) w h ys us vs window) image 255 255 255 (inr refl) (inr refl) (inr refl);
  entries = curves.worked;
  fcc = fcc_full;
  sixteenths = sixteenths;
  looked_up = looked_up;
}
