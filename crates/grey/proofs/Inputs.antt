-- A chroma input is a byte, whatever the tables: an entry of the gamma table, or a byte of the pixel.
-- Assumes nothing.
use Prim.Native.Nat.{ℕ, ◌+◌, ◌*◌, ◌<◌}
use mathlib.Core.Path.{◌≡◌, subst}
use native.Mathlib.Omega.{arith}
use Rattle.yuv_support.specs.declared.YuvChromaSubsampling.{YuvChromaSubsampling}
use Rattle.yuv_support.specs.declared.YuvChromaSubsampling.TheVariants.{Yuv420, Yuv422}
use Rattle.sharp_gamma.proofs.Bounds.{gamma_entry-le}
use Rattle.definitions.specs.declared.FrameDescription.{FrameDescription}
use Rattle.definitions.specs.Row.{gamma_of}
use Rattle.definitions.specs.Image.{Image, chroma_input, chroma_size}
use Rattle.definitions.proofs.Inputs.{input420_pair, input420_last, input422_pair, input422_last}
use Rattle.definitions.proofs.Planes.{below?}
use Rattle.definitions.proofs.Finished.{first_row, below_row}

module _ (d : FrameDescription) (image : Image) (k j : ℕ) (wide : j < chroma_size d) where
  entry : {n : ℕ} (i : ℕ) → gamma_of d.settings i ≡ n → n < 256
  entry i e = subst (λ (n : ℕ). n < 256) e (omega (arith, gamma_entry-le d.settings.transfer d.settings.rounding i))

  pub input_byte : (m : YuvChromaSubsampling) (i : ℕ) → ((x : ℕ) → x < d.width → image (first_row m k) x i < 256) → chroma_input m d image k j i < 256
  input_byte Yuv420 i b = below? (2 * j + 1) d.width
      (λ l. entry _ (input420_pair d (image (2 * k)) (image (below_row Yuv420 d.height k)) j i l))
      (λ l. entry _ (input420_last d (image (2 * k)) (image (below_row Yuv420 d.height k)) j i l))
  input_byte Yuv422 i b = below? (2 * j + 1) d.width
      (λ l. entry _ (input422_pair d (image k) j i l))
      (λ l. subst (λ (n : ℕ). n < 256) (input422_last d (image k) j i l) (b (2 * j) (omega arith)))
