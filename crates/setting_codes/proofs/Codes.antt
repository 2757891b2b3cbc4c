-- There and back: the code of a setting means that setting, and the setting of a code has that code. Assumes nothing.
use Prim.Native.Nat.{ℕ, zero, suc, ◌<◌}
use mathlib.Core.Path.{◌≡◌, refl}
use native.Mathlib.Omega.{arith}
use lib.ListN.{get_or}
use Rattle.yuv_support.specs.declared.YuvSourceChannels.{YuvSourceChannels}
use Rattle.yuv_support.specs.declared.YuvSourceChannels.TheVariants.{Rgb, Rgba, Bgra, Bgr}
use Rattle.yuv_support.specs.declared.YuvChromaSubsampling.{YuvChromaSubsampling}
use Rattle.yuv_support.specs.declared.YuvChromaSubsampling.TheVariants.{Yuv420, Yuv422}
use Rattle.yuv_support.specs.declared.YuvRange.{YuvRange}
use Rattle.yuv_support.specs.declared.YuvRange.TheVariants.{Limited, Full}
use Rattle.yuv_support.specs.declared.YuvStandardMatrix.{YuvStandardMatrix}
use Rattle.yuv_support.specs.declared.YuvStandardMatrix.TheVariants.{Bt601, Bt709, Bt2020, Smpte240, Bt470_6, Fcc, Custom}
use Rattle.sharp_gamma.specs.declared.SharpYuvGammaTransfer.{SharpYuvGammaTransfer}
use Rattle.sharp_gamma.specs.declared.SharpYuvGammaTransfer.TheVariants.{Srgb, Rec709, Gamma2p2, Gamma2p8}
use Rattle.sharp_gamma.specs.declared.TableRounding.{TableRounding}
use Rattle.sharp_gamma.specs.declared.TableRounding.TheVariants.{Truncated, Nearest}
use Rattle.setting_codes.specs.Codes.{channels_codes, sampling_codes, range_codes, matrix_codes, transfer_codes, rounding_codes}
use Rattle.setting_codes.specs.Codes.{custom_code, channels_code, sampling_code, range_code, matrix_code, transfer_code, rounding_code}

pub channels_there : (x : YuvSourceChannels) → get_or channels_codes (channels_code x) Rgb ≡ x
channels_there Rgb = refl
channels_there Rgba = refl
channels_there Bgra = refl
channels_there Bgr = refl

pub sampling_there : (x : YuvChromaSubsampling) → get_or sampling_codes (sampling_code x) Yuv420 ≡ x
sampling_there Yuv420 = refl
sampling_there Yuv422 = refl

pub sampling_back : (n : ℕ) → n < 2 → sampling_code (get_or sampling_codes n Yuv420) ≡ n
sampling_back zero l = refl
sampling_back (suc zero) l = refl
sampling_back (suc (suc n)) l = absurd (omega arith)

pub range_there : (x : YuvRange) → get_or range_codes (range_code x) Limited ≡ x
range_there Limited = refl
range_there Full = refl

pub range_back : (n : ℕ) → n < 2 → range_code (get_or range_codes n Limited) ≡ n
range_back zero l = refl
range_back (suc zero) l = refl
range_back (suc (suc n)) l = absurd (omega arith)

-- the named ones: a Custom matrix does not come back from its code
pub matrix_there : (x : YuvStandardMatrix) → matrix_code x < custom_code → get_or matrix_codes (matrix_code x) Bt601 ≡ x
matrix_there Bt601 l = refl
matrix_there Bt709 l = refl
matrix_there Bt2020 l = refl
matrix_there Smpte240 l = refl
matrix_there Bt470_6 l = refl
matrix_there Fcc l = refl
matrix_there (Custom kr kb) l = absurd (omega arith)

pub matrix_back : (n : ℕ) → n < 6 → matrix_code (get_or matrix_codes n Bt601) ≡ n
matrix_back zero l = refl
matrix_back (suc zero) l = refl
matrix_back (suc (suc zero)) l = refl
matrix_back (suc (suc (suc zero))) l = refl
matrix_back (suc (suc (suc (suc zero)))) l = refl
matrix_back (suc (suc (suc (suc (suc zero))))) l = refl
matrix_back (suc (suc (suc (suc (suc (suc n)))))) l = absurd (omega arith)

pub transfer_there : (x : SharpYuvGammaTransfer) → get_or transfer_codes (transfer_code x) Srgb ≡ x
transfer_there Srgb = refl
transfer_there Rec709 = refl
transfer_there Gamma2p2 = refl
transfer_there Gamma2p8 = refl

pub transfer_back : (n : ℕ) → n < 4 → transfer_code (get_or transfer_codes n Srgb) ≡ n
transfer_back zero l = refl
transfer_back (suc zero) l = refl
transfer_back (suc (suc zero)) l = refl
transfer_back (suc (suc (suc zero))) l = refl
transfer_back (suc (suc (suc (suc n)))) l = absurd (omega arith)

pub rounding_there : (x : TableRounding) → get_or rounding_codes (rounding_code x) Truncated ≡ x
rounding_there Truncated = refl
rounding_there Nearest = refl
