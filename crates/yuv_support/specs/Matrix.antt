-- Which matrices are accepted, and the pair kr, kb of each: docs/RULES.md, 4.3 and 7.4.
-- Assumes nothing.
use Rattle.std.specs.Prelude.{Bool, true, ◌&&◌, Float}
use Rattle.std.specs.Float.{binary32}
use Rattle.std.specs.Float.Ieee.{of_bits, le}
use Rattle.yuv_support.specs.declared.YuvBias.{YuvBias}
use Rattle.yuv_support.specs.declared.YuvStandardMatrix.{YuvStandardMatrix}
use Rattle.yuv_support.specs.declared.YuvStandardMatrix.TheVariants.{Bt601, Bt709, Bt2020, Smpte240, Bt470_6, Fcc, Custom}

-- RULES 7.4: from 0 to 0.5, as IEEE compares: nothing compares with a NaN, and -0 equals 0
abbrev pub in_half : Float → Bool
in_half k = le (of_bits binary32 0x0000_0000) k && le k (of_bits binary32 0x3f00_0000)

-- RULES 7.4
abbrev pub accepted : YuvStandardMatrix → Bool
accepted Bt601 = true
accepted Bt709 = true
accepted Bt2020 = true
accepted Smpte240 = true
accepted Bt470_6 = true
accepted Fcc = true
accepted (Custom kr kb) = in_half kr && in_half kb

-- RULES 4.3: Fcc's pair by its bits, and Custom's own. The five others have their weights stored: theirs is the Rust's `get_kr_kb`, the f32 nearest
-- to its decimals, and no weight comes from it.
abbrev pub kr_kb : YuvStandardMatrix → YuvBias
kr_kb Bt601 = record { kr = of_bits binary32 0x3e99_1687; kb = of_bits binary32 0x3de9_78d5 }
kr_kb Bt709 = record { kr = of_bits binary32 0x3e59_b3d0; kb = of_bits binary32 0x3d93_dd98 }
kr_kb Bt2020 = record { kr = of_bits binary32 0x3e86_809d; kb = of_bits binary32 0x3d72_e48f }
kr_kb Smpte240 = record { kr = of_bits binary32 0x3e59_1687; kb = of_bits binary32 0x3db2_2d0e }
kr_kb Bt470_6 = record { kr = of_bits binary32 0x3e63_53f8; kb = of_bits binary32 0x3d92_05bc }
kr_kb Fcc = record { kr = of_bits binary32 0x3e99_999a; kb = of_bits binary32 0x3de1_47ae }
kr_kb (Custom kr kb) = record { kr = kr; kb = kb }
