-- What each code means: docs/RULES.md, 1.2. The lists stand beside the types.
-- Assumes nothing.
pub use Rattle.yuv_support.specs.Codes.{channels_codes, sampling_codes, range_codes, matrix_codes, custom_code}
pub use Rattle.yuv_support.specs.Codes.{channels_code, sampling_code, range_code, matrix_code}
pub use Rattle.sharp_gamma.specs.Codes.{transfer_codes, rounding_codes, transfer_code, rounding_code}
