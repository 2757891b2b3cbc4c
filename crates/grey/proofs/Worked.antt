-- Example 6.5 of docs/RULES.md: a red pixel, and to its right a grey one, which alone is the frame's. The rectangle is grey, and the source is not.
-- (That the frame has no tint is `beside_red` of demands' proofs/Grey.antt.)
-- Assumes nothing.
use Prim.Native.Nat.{ℕ, zero, suc}
use mathlib.Core.Path.{◌≡◌, refl}
use mathlib.Core.List.{List, [], ◌∷◌}
use native.Mathlib.Omega.{arith}
use lib.Dec.{lit<}
use Rattle.yuv_support.specs.declared.YuvSourceChannels.TheVariants.{Rgb}
use Rattle.yuv_support.specs.declared.YuvChromaSubsampling.TheVariants.{Yuv422}
use Rattle.yuv_support.specs.declared.YuvRange.TheVariants.{Full}
use Rattle.yuv_support.specs.declared.YuvStandardMatrix.{YuvStandardMatrix}
use Rattle.sharp_gamma.specs.declared.SharpYuvGammaTransfer.{SharpYuvGammaTransfer}
use Rattle.sharp_gamma.specs.declared.TableRounding.{TableRounding}
use Rattle.definitions.specs.declared.FrameDescription.{FrameDescription}
use Rattle.definitions.specs.Row.{pixels_of}
use Rattle.definitions.specs.Image.{row_bytes, source_image, frame_image}
use Rattle.grey.specs.Grey.{GreyRows}

-- red, and a grey of 77
abbrev pub source : List ℕ
source = 255 ∷ 0 ∷ 0 ∷ 77 ∷ 77 ∷ 77 ∷ []

module _ (matrix : YuvStandardMatrix) (transfer : SharpYuvGammaTransfer) (rounding : TableRounding) where
  -- a frame of so many of the source's pixels, from column `left` on
  abbrev pub part : (left width : ℕ) → FrameDescription
  part left width = record {
    width = width;
    height = 1;
    window = record { left = left; top = 0; source_width = 2; source_height = 1 };
    settings = record { channels = Rgb; sampling = Yuv422; range = Full; matrix = matrix; transfer = transfer; rounding = rounding };
    y_stride = width;
    u_stride = 1;
    v_stride = 1;
  }

  abbrev pub right : FrameDescription
  right = part 1 1

  pub rectangle : GreyRows right 1 (frame_image right 6 source)
  unfolding source_image row_bytes pixels_of
  rectangle zero zero r x = record { red = refl; blue = refl; byte = lit< tt }
  rectangle zero (suc n) r x = absurd (omega arith)
  rectangle (suc n) m r x = absurd (omega arith)

  -- and with both pixels it is not grey
  pub source_is_not : GreyRows (part 0 2) 1 (frame_image (part 0 2) 6 source) → ⊥
  unfolding source_image row_bytes pixels_of
  source_is_not grey = let e : ◌≡◌ {A = ℕ} 255 0 = (grey 0 0 (omega arith) (omega arith)).red in omega arith
