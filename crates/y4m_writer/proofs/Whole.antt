-- Planes that were checked, as a value: what is known of them, and of their file. Assumes nothing.
use Prim.Native.Nat.{ℕ, ◌+◌, ◌*◌, ◌/◌, ◌≤◌}
use mathlib.Core.Path.{◌≡◌, refl, sym, ap, ◌∙◌}
use mathlib.Core.Bool.{false}
use mathlib.Core.List.{◌++◌}
use lib.ListN.{length, length-append}
use borrow.Author.Tests.{le-ltb}
use Rattle.yuv_support.specs.declared.YuvChromaSubsampling.{YuvChromaSubsampling}
use Rattle.yuv_support.specs.declared.YuvChromaSubsampling.TheVariants.{Yuv420, Yuv422}
use Rattle.yuv_support.specs.Codes.{sampling_code}
use Rattle.y4m_file.specs.Check.{plane_bytes}
use Rattle.y4m_writer.specs.declared.planes.WholePictures.{WholePictures}
use Rattle.y4m_writer.specs.Pictures.{sampling_of, is_shape, can_write}
use Rattle.y4m_writer.specs.Known.{header_line, frames_in, file_in}
use Rattle.y4m_writer.proofs.Back.{Written, written, made, length_made}
use Rattle.y4m_writer.proofs.Sizes.{plane_least}

said_again : (s : YuvChromaSubsampling) → sampling_of (sampling_code s) ≡ s
said_again Yuv420 = refl
said_again Yuv422 = refl

-- a code past those of the samplings
pub no_sampling : (code w h size : ℕ) → 2 ≤ code → can_write code w h size ≡ false
unfolding is_shape can_write
no_sampling code w h size past = rw (le-ltb code 2 past) refl

module _ (p : WholePictures) where
  pub planes_known : Written (sampling_code p.header.sampling) p.header.width p.header.height p.bytes.now
  planes_known = written (sampling_code p.header.sampling) p.header.width p.header.height p.bytes.now p.whole

  pub planes_least : 3 ≤ plane_bytes p.header.sampling p.header.width p.header.height
  planes_least = plane_least p.header.sampling p.header.width p.header.height planes_known.wide.0 planes_known.high.0

  pub planes_file : header_line p.header ++ frames_in p.header p.bytes.now ≡ file_in p.header p.bytes.now
  planes_file = sym (rw (said_again p.header.sampling) at (made (sampling_code p.header.sampling) p.header.width p.header.height p.bytes.now))

  pub planes_size : length (file_in p.header p.bytes.now)
      ≡ length (header_line p.header) + 6 * (length p.bytes.now / plane_bytes p.header.sampling p.header.width p.header.height) + length p.bytes.now
  planes_size =
      rw (said_again p.header.sampling) at (length_made (sampling_code p.header.sampling) p.header.width p.header.height p.bytes.now planes_known)

  pub planes_parts : length (header_line p.header) + length (frames_in p.header p.bytes.now) ≡ length (file_in p.header p.bytes.now)
  planes_parts = sym (length-append (header_line p.header) (frames_in p.header p.bytes.now)) ∙ ap length planes_file
